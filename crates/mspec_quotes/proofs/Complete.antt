-- What the grammar allows is read.
use Rattle.std.proofs.Common.{ℕ, suc, ◌≡◌, ◌≤◌, List, [], ◌∷◌, true, false, cond, Ok, refl, ap, ◌∙◌, arith}
use Rattle.std.proofs.lemmas.Bool.{le-leb, lt-leb}
use Rattle.std.proofs.lemmas.Slice.Eq.{bytes_eq-Decides}
use Rattle.std.specs.Str.{bytes_eq}
use Rattle.mspec_tree.specs.declared.words.Place.{Place}
use Rattle.mspec_tree.specs.declared.words.Op.{Op}
use Rattle.mspec_tree.specs.declared.words.Op.TheVariants as op
use Rattle.mspec_tree.specs.declared.words.Lit.TheVariants.{Num, Flag}
use Rattle.mspec_tree.specs.declared.exprs.Expr.{Expr}
use Rattle.mspec_tree.specs.declared.exprs.Shape.TheVariants as shape
use Rattle.mspec_tree.specs.Depth.{depth}
use Rattle.mspec_lexer.specs.Lexemes.{Lexeme}
use Rattle.mspec_lexer.specs.declared.tokens.Symbol.TheVariants as sign
use Rattle.mspec_grammar.specs.declared.words.Word.TheVariants as word
use Rattle.mspec_grammar.specs.Expressions.{strength, operator_sign, IsFree, CaseName, bare, quoted, Stands, tighter, condition, two, negation, minus, path, length_of, number, yes, no, null, name, cur_pos, length, last_item, sum_bytes, xor_bytes, count, cast, grouped}
use Rattle.mspec_grammar.specs.Meanings.{Meaning, meaning, Number, Sign, Taken, Name, static_call}
use Rattle.mspec_quotes.specs.declared.pending.Open.{Open}
use Rattle.mspec_quotes.specs.declared.pending.Open.TheVariants.{Parenthesis, Count, Cast, Not, Neg, Left, Condition, Otherwise}
use Rattle.mspec_quotes.specs.Machine.{Mode, Operand, Behind, Opening, Path, CaseName as CaseNameMode, CaseQuoted, CaseQuote, CaseEnd, Move, Go, Finish, Stop, made, closes, Closed, closed, closed_by, at_parenthesis, at_comma, at_colon, at_quote, unless_left_out, step, whole, read}
use Rattle.mspec_quotes.proofs.Depths.{depth-two, depth-if, depth-not, depth-neg, depth-count, depth-cast, depth-dot, depth-length_of, depth-lit, depth-name, depth-null, depth-cur_pos, depth-length, depth-last_item, depth-sum_bytes, depth-xor_bytes, depth-some, whole-grows}
use Rattle.mspec_quotes.proofs.Reading.{read-go, read-finish}

-- ---- closing

pub closed-at : (k : ℕ) (o : Open) (opens : List Open) (e : Expr) → closes k o ≡ true → closed k (o ∷ opens) e ≡ closed k opens (closed_by o e)
closed-at k o opens e h = ap (λ b. cond b (closed k opens (closed_by o e)) (record { opens = o ∷ opens; operand = e })) h

pub closed-not : (k : ℕ) (o : Open) (opens : List Open) (e : Expr) → closes k o ≡ false → closed k (o ∷ opens) e ≡ record { opens = o ∷ opens; operand = e }
closed-not k o opens e h = ap (λ b. cond b (closed k opens (closed_by o e)) (record { opens = o ∷ opens; operand = e })) h

-- nothing that is open is closed by an operator that binds this tightly or more tightly
abbrev Admits : ℕ → List Open → Type 0
Admits l opens = (k : ℕ) → 1 ≤ k → l ≤ k → k ≤ 9 → (e : Expr) → closed k opens e ≡ record { opens = opens; operand = e }

-- the operand's own strength is at least l, so reading has come to what the expression e gives
record Led (limit l : ℕ) (opens : List Open) (from rest : List Lexeme) (e : Expr) : Type 0 where
  pub stack : List Open
  pub operand : Expr
  pub goes : read limit opens Operand from ≡ read limit stack (Behind operand) rest
  pub alike : (k : ℕ) → k ≤ l → k ≤ 9 → closed k stack operand ≡ closed k opens e
  pub exact : l ≡ 11 → (stack ≡ opens) × (operand ≡ e)

led : {limit : ℕ} {opens : List Open} {from rest : List Lexeme} {e : Expr}
    → read limit opens Operand from ≡ read limit opens (Behind e) rest → Led limit 11 opens from rest e
led {opens} {e} goes = record { stack = opens; operand = e; goes = goes; alike = λ k h h'. refl; exact = λ h. (refl, refl) }

-- ---- operators

pub strength-low : (operator : Op) → 1 ≤ strength operator
strength-low op.Or = omega arith
strength-low op.And = omega arith
strength-low op.BitOr = omega arith
strength-low op.BitAnd = omega arith
strength-low op.Eq = omega arith
strength-low op.Ne = omega arith
strength-low op.Lt = omega arith
strength-low op.Le = omega arith
strength-low op.Gt = omega arith
strength-low op.Ge = omega arith
strength-low op.Shl = omega arith
strength-low op.Shr = omega arith
strength-low op.Add = omega arith
strength-low op.Sub = omega arith
strength-low op.Mul = omega arith
strength-low op.Div = omega arith
strength-low op.Rem = omega arith

pub strength-high : (operator : Op) → strength operator ≤ 9
strength-high op.Or = omega arith
strength-high op.And = omega arith
strength-high op.BitOr = omega arith
strength-high op.BitAnd = omega arith
strength-high op.Eq = omega arith
strength-high op.Ne = omega arith
strength-high op.Lt = omega arith
strength-high op.Le = omega arith
strength-high op.Gt = omega arith
strength-high op.Ge = omega arith
strength-high op.Shl = omega arith
strength-high op.Shr = omega arith
strength-high op.Add = omega arith
strength-high op.Sub = omega arith
strength-high op.Mul = omega arith
strength-high op.Div = omega arith
strength-high op.Rem = omega arith

abbrev with_left : Place → Op → Closed → Move
with_left place operator c = Go (Left place operator c.operand ∷ c.opens) Operand

step-operator : (operator : Op) (opens : List Open) (e : Expr) (place : Place)
    → step opens (Behind e) (Sign (operator_sign operator)) place ≡ with_left place operator (closed (strength operator) opens e)
unfolding step
step-operator op.Or opens e place = refl
step-operator op.And opens e place = refl
step-operator op.BitOr opens e place = refl
step-operator op.BitAnd opens e place = refl
step-operator op.Eq opens e place = refl
step-operator op.Ne opens e place = refl
step-operator op.Lt opens e place = refl
step-operator op.Le opens e place = refl
step-operator op.Gt opens e place = refl
step-operator op.Ge opens e place = refl
step-operator op.Shl opens e place = refl
step-operator op.Shr opens e place = refl
step-operator op.Add opens e place = refl
step-operator op.Sub opens e place = refl
step-operator op.Mul opens e place = refl
step-operator op.Div opens e place = refl
step-operator op.Rem opens e place = refl

-- ---- single lexemes

module _ (opens : List Open) (mode : Mode) (x : Lexeme) where
  step-means : {m : Meaning} → meaning x ≡ m → step opens mode (meaning x) x.place ≡ step opens mode m x.place
  step-means h = ap (λ m. step opens mode m x.place) h

free : (x : Lexeme) (spelt : List ℕ) → IsFree x spelt → (move : Move) → unless_left_out spelt move ≡ move
free x spelt h move =
    let other : bytes_eq spelt static_call ≡ false = grind (arith, h.1, bytes_eq-Decides spelt static_call) in
    ap (λ b. cond b Stop move) other

-- ---- what the grammar allows

abbrev Fits : ℕ → List Open → ℕ → Type 0
Fits limit opens d = whole opens d ≤ limit

deeper : {limit d d' : ℕ} (opens : List Open) → d ≤ d' → Fits limit opens d' → Fits limit opens d
deeper {d} {d'} opens h fits = let grows = whole-grows opens d d' h in omega arith

-- one lexeme that is an operand
alone : (limit : ℕ) (opens : List Open) (x : Lexeme) (rest : List Lexeme) (e : Expr) (m : Meaning) → meaning x ≡ m
    → step opens Operand m x.place ≡ Go opens (Behind e) → depth e ≡ 1 → Fits limit opens (depth e) → Led limit 11 opens (x ∷ rest) rest e
alone limit opens x rest e m h moves shallow fits =
    led (read-go limit opens Operand x rest opens (Behind e) (step-means opens Operand x h ∙ moves) fits)

-- what binds most tightly is read whole
exactly : {limit : ℕ} {opens : List Open} {from rest : List Lexeme} {e : Expr} → Led limit 11 opens from rest e
    → read limit opens Operand from ≡ read limit opens (Behind e) rest
exactly {limit} {opens} {rest} r =
    r.goes ∙ (ap (λ o. read limit o (Behind r.operand) rest) (r.exact refl).0 ∙ ap (λ e. read limit opens (Behind e) rest) (r.exact refl).1)

case-name : {behind rest : List Lexeme} {spelt : List ℕ} → CaseName behind spelt rest
    → (limit : ℕ) (opens : List Open) (place : Place) (e : Expr) → Fits limit opens (suc (depth e))
    → read limit opens (CaseNameMode place e) behind ≡ read limit opens (CaseEnd place e spelt) rest
unfolding step
case-name (bare {x} {rest} {name = spelt} h) limit opens place e fits =
    read-go limit opens (CaseNameMode place e) x rest opens (CaseEnd place e spelt)
    (step-means opens (CaseNameMode place e) x h.0 ∙ free x spelt h (Go opens (CaseEnd place e spelt))) fits
case-name (quoted {left} {x} {right} {rest} {name = spelt} hl h hr) limit opens place e fits =
    read-go limit opens (CaseNameMode place e) left (x ∷ right ∷ rest) opens (CaseQuoted place e) (step-means opens (CaseNameMode place e) left hl) fits
    ∙ (read-go limit opens (CaseQuoted place e) x (right ∷ rest) opens (CaseQuote place e spelt)
    (step-means opens (CaseQuoted place e) x h.0 ∙ free x spelt h (Go opens (CaseQuote place e spelt))) fits
    ∙ read-go limit opens (CaseQuote place e spelt) right rest opens (CaseEnd place e spelt) (step-means opens (CaseQuote place e spelt) right hr) fits)

reads : {l : ℕ} {from rest : List Lexeme} {e : Expr} → Stands l from e rest
    → (limit : ℕ) (opens : List Open) → Admits l opens → Fits limit opens (depth e) → Led limit l opens from rest e
unfolding step
reads (tighter {l} h d) limit opens admits fits =
    let r = reads d limit opens (λ k h1 h2 h3 e. admits k h1 (omega arith) h3 e) fits in
    record { stack = r.stack; operand = r.operand; goes = r.goes; alike = λ k h1 h2. r.alike k (omega arith) h2; exact = λ h1. absurd (omega arith) }
reads (condition {first} {second} {rest} {question} {colon} {c} {a} {b} dc hq da hc db) limit opens admits fits =
    let deep = depth-if question.place c a b in
    let some_a = depth-some a in
    let some_b = depth-some b in
    let fits_c : Fits limit opens (depth c) = deeper opens (omega arith) fits in
    let rc = reads dc limit opens (λ k h1 h2 h3 e. admits k h1 (omega arith) h3 e) fits_c in
    let closing_c : closed 1 rc.stack rc.operand ≡ record { opens = opens; operand = c }
    = rc.alike 1 (omega arith) (omega arith) ∙ admits 1 (omega arith) (omega arith) (omega arith) c in
    let moves_c : step rc.stack (Behind rc.operand) (meaning question) question.place ≡ Go (Condition question.place c ∷ opens) Operand
    = step-means rc.stack (Behind rc.operand) question hq ∙ ap (λ z. Go (Condition question.place z.operand ∷ z.opens) Operand) closing_c in
    let fits_condition : Fits limit (Condition question.place c ∷ opens) 1 = deeper opens (omega arith) fits in
    let fits_a : Fits limit (Condition question.place c ∷ opens) (depth a) = deeper opens (omega arith) fits in
    let ra = reads da limit (Condition question.place c ∷ opens) (λ k h1 h2 h3 e. refl) fits_a in
    let moves_a : step ra.stack (Behind ra.operand) (meaning colon) colon.place ≡ Go (Otherwise question.place c a ∷ opens) Operand
    = step-means ra.stack (Behind ra.operand) colon hc ∙ ap (λ z. at_colon z.opens z.operand) (ra.alike 0 (omega arith) (omega arith)) in
    let fits_otherwise : Fits limit (Otherwise question.place c a ∷ opens) 1 = deeper opens (omega arith) fits in
    let fits_b : Fits limit (Otherwise question.place c a ∷ opens) (depth b) = deeper opens (omega arith) fits in
    let rb = reads db limit (Otherwise question.place c a ∷ opens) (λ k h1 h2 h3 e. closed-not k (Otherwise question.place c a) opens e (lt-leb k 0 (omega arith))) fits_b in
    record {
      stack = rb.stack;
      operand = rb.operand;
      goes =
          rc.goes
          ∙ (read-go limit rc.stack (Behind rc.operand) question first _ _ moves_c fits_condition
          ∙ (ra.goes
          ∙ (read-go limit ra.stack (Behind ra.operand) colon second _ _ moves_a fits_otherwise
          ∙ rb.goes)));
      alike = λ k h1 h2. rb.alike k h1 h2 ∙ closed-at k (Otherwise question.place c a) opens b (le-leb k 0 (omega arith));
      exact = λ h1. absurd (omega arith);
    }
reads (two {l} {x} {operator} {a} {b} hl da hx db) limit opens admits fits =
    let low = strength-low operator in
    let high = strength-high operator in
    let deep = depth-two x.place operator a b in
    let fits_a : Fits limit opens (depth a) = deeper opens (omega arith) fits in
    let ra = reads da limit opens admits fits_a in
    let closing : closed (strength operator) ra.stack ra.operand ≡ record { opens = opens; operand = a }
    = ra.alike (strength operator) (omega arith) high ∙ admits (strength operator) low (omega arith) high a in
    let moves : step ra.stack (Behind ra.operand) (meaning x) x.place ≡ Go (Left x.place operator a ∷ opens) Operand
    = step-means ra.stack (Behind ra.operand) x hx ∙ (step-operator operator ra.stack ra.operand x.place ∙ ap (with_left x.place operator) closing) in
    let some_b = depth-some b in
    let fits_left : Fits limit (Left x.place operator a ∷ opens) 1 = deeper opens (omega arith) fits in
    let fits_b : Fits limit (Left x.place operator a ∷ opens) (depth b) = deeper opens (omega arith) fits in
    let rb = reads db limit (Left x.place operator a ∷ opens) (λ k h1 h2 h3 e. closed-not k (Left x.place operator a) opens e (lt-leb _ _ (omega arith))) fits_b in
    record {
      stack = rb.stack;
      operand = rb.operand;
      goes = ra.goes ∙ (read-go limit ra.stack (Behind ra.operand) x _ _ _ moves fits_left ∙ rb.goes);
      alike = λ k h1 h2. rb.alike k (omega arith) h2 ∙ closed-at k (Left x.place operator a) opens b (le-leb _ _ (omega arith));
      exact = λ h1. absurd (omega arith);
    }
reads (negation {x} {from} {rest} {e} hx d) limit opens admits fits =
    let deep = depth-not x.place e in
    let some_e = depth-some e in
    let fits_open : Fits limit (Not x.place ∷ opens) 1 = deeper opens (omega arith) fits in
    let fits_e : Fits limit (Not x.place ∷ opens) (depth e) = deeper opens (omega arith) fits in
    let r = reads d limit (Not x.place ∷ opens) (λ k h1 h2 h3 e. absurd (omega arith)) fits_e in
    record {
      stack = r.stack;
      operand = r.operand;
      goes = read-go limit opens Operand x from (Not x.place ∷ opens) Operand (step-means opens Operand x hx) fits_open ∙ r.goes;
      alike = λ k h1 h2. r.alike k h1 h2;
      exact = λ h1. absurd (omega arith);
    }
reads (minus {x} {from} {rest} {e} hx d) limit opens admits fits =
    let deep = depth-neg x.place e in
    let some_e = depth-some e in
    let fits_open : Fits limit (Neg x.place ∷ opens) 1 = deeper opens (omega arith) fits in
    let fits_e : Fits limit (Neg x.place ∷ opens) (depth e) = deeper opens (omega arith) fits in
    let r = reads d limit (Neg x.place ∷ opens) (λ k h1 h2 h3 e. absurd (omega arith)) fits_e in
    record {
      stack = r.stack;
      operand = r.operand;
      goes = read-go limit opens Operand x from (Neg x.place ∷ opens) Operand (step-means opens Operand x hx) fits_open ∙ r.goes;
      alike = λ k h1 h2. r.alike k h1 h2;
      exact = λ h1. absurd (omega arith);
    }
reads (path {rest} {x} {named} {name = spelt} {e} d hx hn) limit opens admits fits =
    let deep = depth-dot x.place e spelt in
    let fits_e : Fits limit opens (depth e) = deeper opens (omega arith) fits in
    let fits_dot : Fits limit opens (suc (depth e)) = deeper opens (omega arith) fits in
    led (exactly (reads d limit opens (λ k h1 h2 h3 e. absurd (omega arith)) fits_e)
    ∙ (read-go limit opens (Behind e) x (named ∷ rest) opens (Path x.place e) (step-means opens (Behind e) x hx) fits_dot
    ∙ read-go limit opens (Path x.place e) named rest opens (Behind (made x.place (shape.Dot e spelt)))
    (step-means opens (Path x.place e) named hn.0 ∙ free named spelt hn (Go opens (Behind (made x.place (shape.Dot e spelt))))) fits))
reads (length_of {rest} {x} {named} {e} d hx hn) limit opens admits fits =
    let deep = depth-length_of x.place e in
    let fits_e : Fits limit opens (depth e) = deeper opens (omega arith) fits in
    let fits_dot : Fits limit opens (suc (depth e)) = deeper opens (omega arith) fits in
    led (exactly (reads d limit opens (λ k h1 h2 h3 e. absurd (omega arith)) fits_e)
    ∙ (read-go limit opens (Behind e) x (named ∷ rest) opens (Path x.place e) (step-means opens (Behind e) x hx) fits_dot
    ∙ read-go limit opens (Path x.place e) named rest opens (Behind (made x.place (shape.LengthOf e))) (step-means opens (Path x.place e) named hn) fits))
reads (number {x} {rest} {n} h) limit opens admits fits =
    alone limit opens x rest _ (Number n) h refl (depth-lit x.place (Num false n)) fits
reads (yes {x} {rest} h) limit opens admits fits = alone limit opens x rest _ (Taken word.True) h refl (depth-lit x.place (Flag true)) fits
reads (no {x} {rest} h) limit opens admits fits = alone limit opens x rest _ (Taken word.False) h refl (depth-lit x.place (Flag false)) fits
reads (null {x} {rest} h) limit opens admits fits = alone limit opens x rest _ (Taken word.Null) h refl (depth-null x.place) fits
reads (name {x} {rest} {name = spelt} h) limit opens admits fits =
    alone limit opens x rest _ (Name spelt) h.0 (free x spelt h (Go opens (Behind (made x.place (shape.Name spelt))))) (depth-name x.place spelt) fits
reads (cur_pos {x} {rest} h) limit opens admits fits = alone limit opens x rest _ (Taken word.CurPos) h refl (depth-cur_pos x.place) fits
reads (length {x} {rest} h) limit opens admits fits = alone limit opens x rest _ (Taken word.LengthInBytes) h refl (depth-length x.place) fits
reads (last_item {x} {rest} h) limit opens admits fits = alone limit opens x rest _ (Taken word.LastItem) h refl (depth-last_item x.place) fits
reads (sum_bytes {x} {rest} h) limit opens admits fits = alone limit opens x rest _ (Taken word.SumBytes) h refl (depth-sum_bytes x.place) fits
reads (xor_bytes {x} {rest} h) limit opens admits fits = alone limit opens x rest _ (Taken word.XorBytes) h refl (depth-xor_bytes x.place) fits
reads (count {x} {left} {right} {from} {rest} {e} hx hl d hr) limit opens admits fits =
    let deep = depth-count x.place e in
    let some_e = depth-some e in
    let fits_open : Fits limit (Count x.place ∷ opens) 1 = deeper opens (omega arith) fits in
    let fits_e : Fits limit (Count x.place ∷ opens) (depth e) = deeper opens (omega arith) fits in
    let r = reads d limit (Count x.place ∷ opens) (λ k h1 h2 h3 e. refl) fits_e in
    let moves : step r.stack (Behind r.operand) (meaning right) right.place ≡ Go opens (Behind (made x.place (shape.Count e)))
    = step-means r.stack (Behind r.operand) right hr ∙ ap (λ z. at_parenthesis z.opens z.operand) (r.alike 0 (omega arith) (omega arith)) in
    led (read-go limit opens Operand x (left ∷ from) opens (Opening (Count x.place)) (step-means opens Operand x hx) fits_open
    ∙ (read-go limit opens (Opening (Count x.place)) left from (Count x.place ∷ opens) Operand (step-means opens (Opening (Count x.place)) left hl) fits_open
    ∙ (r.goes
    ∙ read-go limit r.stack (Behind r.operand) right rest _ _ moves fits)))
reads (cast {x} {left} {comma} {right} {from} {behind} {rest} {e} {name = spelt} hx hl d hc named hr) limit opens admits fits =
    let deep = depth-cast x.place e spelt in
    let some_e = depth-some e in
    let fits_open : Fits limit (Cast x.place ∷ opens) 1 = deeper opens (omega arith) fits in
    let fits_e : Fits limit (Cast x.place ∷ opens) (depth e) = deeper opens (omega arith) fits in
    let r = reads d limit (Cast x.place ∷ opens) (λ k h1 h2 h3 e. refl) fits_e in
    let moves : step r.stack (Behind r.operand) (meaning comma) comma.place ≡ Go opens (CaseNameMode x.place e)
    = step-means r.stack (Behind r.operand) comma hc ∙ ap (λ z. at_comma z.opens z.operand) (r.alike 0 (omega arith) (omega arith)) in
    led (read-go limit opens Operand x (left ∷ from) opens (Opening (Cast x.place)) (step-means opens Operand x hx) fits_open
    ∙ (read-go limit opens (Opening (Cast x.place)) left from (Cast x.place ∷ opens) Operand (step-means opens (Opening (Cast x.place)) left hl) fits_open
    ∙ (r.goes
    ∙ (read-go limit r.stack (Behind r.operand) comma behind _ _ moves fits_e
    ∙ (case-name named limit opens x.place e fits_e
    ∙ read-go limit opens (CaseEnd x.place e spelt) right rest opens (Behind (made x.place (shape.Cast e spelt)))
    (step-means opens (CaseEnd x.place e spelt) right hr) fits)))))
reads (grouped {left} {right} {from} {rest} {e} hl d hr) limit opens admits fits =
    let some_e = depth-some e in
    let fits_open : Fits limit opens 1 = deeper opens some_e fits in
    let r = reads d limit (Parenthesis ∷ opens) (λ k h1 h2 h3 e. refl) fits in
    let moves : step r.stack (Behind r.operand) (meaning right) right.place ≡ Go opens (Behind e)
    = step-means r.stack (Behind r.operand) right hr ∙ ap (λ z. at_parenthesis z.opens z.operand) (r.alike 0 (omega arith) (omega arith)) in
    led (read-go limit opens Operand left from (Parenthesis ∷ opens) Operand (step-means opens Operand left hl) fits_open
    ∙ (r.goes
    ∙ read-go limit r.stack (Behind r.operand) right rest _ _ moves fits))

-- An expression in quotes is read, and what follows it is left.
pub reads-quoted : (limit : ℕ) (from rest : List Lexeme) (e : Expr) (right : Lexeme)
    → Stands 0 from e (right ∷ rest) → meaning right ≡ Sign sign.Quote → depth e ≤ limit
    → read limit [] Operand from ≡ Ok (e, rest)
unfolding step
reads-quoted limit from rest e right d hr fits =
    let r = reads d limit [] (λ k h1 h2 h3 e. refl) fits in
    let moves : step r.stack (Behind r.operand) (meaning right) right.place ≡ Finish e
    = step-means r.stack (Behind r.operand) right hr ∙ ap (λ z. at_quote z.opens z.operand) (r.alike 0 (omega arith) (omega arith)) in
    r.goes ∙ read-finish limit r.stack (Behind r.operand) right rest e moves
