-- What is read is in the grammar.
use Rattle.std.proofs.Common.{ℕ, zero, suc, ◌≡◌, ◌≤◌, ◌<◌, Bool, List, [], ◌∷◌, true, false, cond, nat_le, Ok, Err, Result, refl, subst, ◌∙◌, arith}
use Rattle.std.proofs.lemmas.Bool.{leb-true, leb-false}
use Rattle.std.proofs.lemmas.Slice.Eq.{bytes_eq-Decides}
use Rattle.std.specs.Str.{bytes_eq}
use Rattle.mspec_tree.specs.declared.words.Op.{Op}
use Rattle.mspec_tree.specs.declared.words.Op.TheVariants as op
use Rattle.mspec_tree.specs.declared.exprs.Expr.{Expr}
use Rattle.mspec_tree.specs.Depth.{depth}
use Rattle.mspec_lexer.specs.Lexemes.{Lexeme}
use Rattle.mspec_lexer.specs.declared.tokens.Symbol.{Symbol}
use Rattle.mspec_lexer.specs.declared.tokens.Symbol.TheVariants as sign
use Rattle.mspec_grammar.specs.declared.faults.ParseWhy.TheVariants.{TooDeep}
use Rattle.mspec_grammar.specs.declared.words.Word.{Word}
use Rattle.mspec_grammar.specs.declared.words.Word.TheVariants as word
use Rattle.mspec_grammar.specs.Expressions.{strength, operator_sign, IsFree, CaseName, bare, quoted, Stands, tighter, condition, two, negation, minus, path, length_of, number, yes, no, null, name, cur_pos, length, last_item, sum_bytes, xor_bytes, count, cast, grouped}
use Rattle.mspec_grammar.specs.Meanings.{Meaning, meaning, Number, Sign, Taken, Name, static_call}
use Rattle.mspec_quotes.specs.declared.pending.Open.{Open}
use Rattle.mspec_quotes.specs.declared.pending.Open.TheVariants.{Parenthesis, Count, Cast, Not, Neg, Left, Condition, Otherwise}
use Rattle.mspec_quotes.specs.Machine.{Mode, Operand, Behind, Opening, Path, CaseName as CaseNameMode, CaseQuoted, CaseQuote, CaseEnd, Move, Go, Finish, Stop, closes, Closed, closed, closed_by, at_parenthesis, at_comma, at_colon, at_quote, behind, operand_sign, operand_word, unless_left_out, step, whole, least, then, read}
use Rattle.mspec_quotes.proofs.Depths.{whole-closed}
use Rattle.mspec_quotes.proofs.Complete.{strength-low, strength-high}

-- ---- strengths

pick : {A : Type 0} (P : A → Type 0) (b : Bool) (x y : A) → (b ≡ true → P x) → (b ≡ false → P y) → P (cond b x y)
pick P true x y h h' = h refl
pick P false x y h h' = h' refl

step-down : {l k : ℕ} {from rest : List Lexeme} {e : Expr} → (b : Bool) → nat_le k l ≡ b
    → (k ≤ l → Stands k from e rest) → Stands (suc l) from e rest → k ≤ suc l → Stands k from e rest
step-down true h lower d fits = lower (leb-true _ _ h)
step-down {l} {k} {from} {rest} {e} false h lower d fits =
    let past : l < k = leb-false k l h in
    let same : suc l ≡ k = omega arith in
    subst (λ (n : ℕ). Stands n from e rest) same d

-- what binds tightly stands where something weaker may
lower : (l k : ℕ) {from rest : List Lexeme} {e : Expr} → Stands l from e rest → k ≤ l → l ≤ 11 → Stands k from e rest
lower zero k {from} {rest} {e} d fits high =
    let same : zero ≡ k = omega arith in
    subst (λ (n : ℕ). Stands n from e rest) same d
lower (suc l) k d fits high =
    step-down (nat_le k l) refl (λ fits'. lower l k (tighter (omega arith) d) fits' (omega arith)) d fits

-- ---- what is open

-- how tightly the operand to come must bind
abbrev hole : List Open → ℕ
hole [] = 0
hole (Parenthesis ∷ opens) = 0
hole (Count place ∷ opens) = 0
hole (Cast place ∷ opens) = 0
hole (Not place ∷ opens) = 10
hole (Neg place ∷ opens) = 10
hole (Left place operator a ∷ opens) = suc (strength operator)
hole (Condition place c ∷ opens) = 0
hole (Otherwise place c a ∷ opens) = 0

-- what is open is what was read from the start up to here
pub data Pends (start : List Lexeme) : List Open → List Lexeme → Type 0 where
  nothing : Pends start [] start
  grouping : {opens : List Open} {x : Lexeme} {here : List Lexeme}
      → Pends start opens (x ∷ here) → meaning x ≡ Sign sign.LeftParenthesis → Pends start (Parenthesis ∷ opens) here
  counting : {opens : List Open} {x left : Lexeme} {here : List Lexeme}
      → Pends start opens (x ∷ left ∷ here) → meaning x ≡ Taken word.Count → meaning left ≡ Sign sign.LeftParenthesis
      → Pends start (Count x.place ∷ opens) here
  casting : {opens : List Open} {x left : Lexeme} {here : List Lexeme}
      → Pends start opens (x ∷ left ∷ here) → meaning x ≡ Taken word.Cast → meaning left ≡ Sign sign.LeftParenthesis
      → Pends start (Cast x.place ∷ opens) here
  negating : {opens : List Open} {x : Lexeme} {here : List Lexeme}
      → Pends start opens (x ∷ here) → meaning x ≡ Sign sign.Exclamation → Pends start (Not x.place ∷ opens) here
  minusing : {opens : List Open} {x : Lexeme} {here : List Lexeme}
      → Pends start opens (x ∷ here) → meaning x ≡ Sign sign.Minus → Pends start (Neg x.place ∷ opens) here
  lefting : {opens : List Open} {operator : Op} {a : Expr} {x : Lexeme} {from here : List Lexeme}
      → Pends start opens from → hole opens ≤ strength operator
      → Stands (strength operator) from a (x ∷ here) → meaning x ≡ Sign (operator_sign operator)
      → Pends start (Left x.place operator a ∷ opens) here
  asking : {opens : List Open} {c : Expr} {x : Lexeme} {from here : List Lexeme}
      → Pends start opens from → hole opens ≤ 0 → Stands 1 from c (x ∷ here) → meaning x ≡ Sign sign.Question
      → Pends start (Condition x.place c ∷ opens) here
  elsing : {opens : List Open} {c a : Expr} {x colon : Lexeme} {from first here : List Lexeme}
      → Pends start opens from → hole opens ≤ 0 → Stands 1 from c (x ∷ first) → meaning x ≡ Sign sign.Question
      → Stands 0 first a (colon ∷ here) → meaning colon ≡ Sign sign.Colon
      → Pends start (Otherwise x.place c a ∷ opens) here

hole-high : (opens : List Open) → hole opens ≤ 10
hole-high [] = omega arith
hole-high (Parenthesis ∷ opens) = omega arith
hole-high (Count place ∷ opens) = omega arith
hole-high (Cast place ∷ opens) = omega arith
hole-high (Not place ∷ opens) = omega arith
hole-high (Neg place ∷ opens) = omega arith
hole-high (Left place operator a ∷ opens) = let h = strength-high operator in omega arith
hole-high (Condition place c ∷ opens) = omega arith
hole-high (Otherwise place c a ∷ opens) = omega arith

-- ---- closing

record Closing (start : List Lexeme) (k : ℕ) (here : List Lexeme) (c : Closed) : Type 0 where
  pub from : List Lexeme
  pub pends : Pends start c.opens from
  pub stands : Stands k from c.operand here
  pub fits : hole c.opens ≤ k
  pub empty : k ≤ 1 → hole c.opens ≤ 0

stay : {start from here : List Lexeme} {opens : List Open} {e : Expr} (k l : ℕ) → Pends start opens from → Stands l from e here
    → k ≤ l → l ≤ 11 → hole opens ≤ 0 → Closing start k here (record { opens = opens; operand = e })
stay {from} k l p d low high empty = record { from = from; pends = p; stands = lower l k d low high; fits = omega arith; empty = λ h. empty }

closing : {start from here : List Lexeme} {opens : List Open} {e : Expr} (k l : ℕ) → k ≤ 9 → Pends start opens from → Stands l from e here
    → hole opens ≤ l → k ≤ l → l ≤ 11 → Closing start k here (closed k opens e)
closing k l small nothing d fits low high = stay k l nothing d low high (omega arith)
closing k l small (grouping p h) d fits low high = stay k l (grouping p h) d low high (omega arith)
closing k l small (counting p h h') d fits low high = stay k l (counting p h h') d low high (omega arith)
closing k l small (casting p h h') d fits low high = stay k l (casting p h h') d low high (omega arith)
closing {e} k l small (negating {opens} p h) d fits low high =
    closing k 10 small p (negation h (lower l 10 d fits high)) (hole-high opens) (omega arith) (omega arith)
closing {e} k l small (minusing {opens} p h) d fits low high =
    closing k 10 small p (minus h (lower l 10 d fits high)) (hole-high opens) (omega arith) (omega arith)
closing {start} {from} {here} {opens} {e} k l small (lefting {opens = below} {operator} {a} {x} p below_fits da h) d fits low high =
    let high_operator = strength-high operator in
    let low_operator = strength-low operator in
    pick (Closing start k here) (nat_le k (strength operator))
    (closed k below (closed_by (Left x.place operator a) e)) (record { opens = Left x.place operator a ∷ below; operand = e })
    (λ t. let k_low = leb-true k (strength operator) t in
    closing k (strength operator) small p (two refl da h (lower l (suc (strength operator)) d fits high)) below_fits k_low (omega arith))
    (λ t. let k_high = leb-false k (strength operator) t in
    record {
      from = from;
      pends = lefting p below_fits da h;
      stands = lower l k d low high;
      fits = omega arith;
      empty = λ h1. absurd (omega arith);
    })
closing k l small (asking p h dc h') d fits low high = stay k l (asking p h dc h') d low high (omega arith)
closing {start} {from} {here} {opens} {e} k l small (elsing {opens = below} {c} {a} {x} p below_fits dc h da h') d fits low high =
    pick (Closing start k here) (nat_le k 0)
    (closed k below (closed_by (Otherwise x.place c a) e)) (record { opens = Otherwise x.place c a ∷ below; operand = e })
    (λ t. let k_low = leb-true k 0 t in
    closing k 0 small p (condition dc h da h' (lower l 0 d (omega arith) high)) below_fits k_low (omega arith))
    (λ t. stay k l (elsing p below_fits dc h da h') d low high (omega arith))

-- all that is closed is as deep closed as open
whole-all-closed : (k : ℕ) (opens : List Open) (e : Expr) → whole (closed k opens e).opens (depth (closed k opens e).operand) ≡ whole opens (depth e)
whole-all-closed k [] e = refl
whole-all-closed k (o ∷ opens) e =
    pick (λ c. whole c.opens (depth c.operand) ≡ whole (o ∷ opens) (depth e)) (closes k o)
    (closed k opens (closed_by o e)) (record { opens = o ∷ opens; operand = e })
    (λ t. whole-all-closed k opens (closed_by o e) ∙ whole-closed k o opens e t)
    (λ t. refl)

-- ---- what was read

-- what was read from the start up to here is this
pub data Held (start : List Lexeme) : List Open → Mode → List Lexeme → Type 0 where
  operand : {opens : List Open} {here : List Lexeme} → Pends start opens here → Held start opens Operand here
  behind_operand : {opens : List Open} {e : Expr} {from here : List Lexeme}
      → Pends start opens from → Stands 11 from e here → Held start opens (Behind e) here
  counts : {opens : List Open} {x : Lexeme} {here : List Lexeme}
      → Pends start opens (x ∷ here) → meaning x ≡ Taken word.Count → Held start opens (Opening (Count x.place)) here
  casts : {opens : List Open} {x : Lexeme} {here : List Lexeme}
      → Pends start opens (x ∷ here) → meaning x ≡ Taken word.Cast → Held start opens (Opening (Cast x.place)) here
  dotted : {opens : List Open} {e : Expr} {x : Lexeme} {from here : List Lexeme}
      → Pends start opens from → Stands 11 from e (x ∷ here) → meaning x ≡ Sign sign.Dot → Held start opens (Path x.place e) here
  case_name : {opens : List Open} {e : Expr} {x left comma : Lexeme} {from here : List Lexeme}
      → Pends start opens (x ∷ left ∷ from) → meaning x ≡ Taken word.Cast → meaning left ≡ Sign sign.LeftParenthesis
      → Stands 0 from e (comma ∷ here) → meaning comma ≡ Sign sign.Comma
      → Held start opens (CaseNameMode x.place e) here
  case_quoted : {opens : List Open} {e : Expr} {x left comma quote : Lexeme} {from here : List Lexeme}
      → Pends start opens (x ∷ left ∷ from) → meaning x ≡ Taken word.Cast → meaning left ≡ Sign sign.LeftParenthesis
      → Stands 0 from e (comma ∷ quote ∷ here) → meaning comma ≡ Sign sign.Comma → meaning quote ≡ Sign sign.DoubleQuote
      → Held start opens (CaseQuoted x.place e) here
  case_quote : {opens : List Open} {e : Expr} {x left comma quote y : Lexeme} {from here : List Lexeme} {spelt : List ℕ}
      → Pends start opens (x ∷ left ∷ from) → meaning x ≡ Taken word.Cast → meaning left ≡ Sign sign.LeftParenthesis
      → Stands 0 from e (comma ∷ quote ∷ y ∷ here) → meaning comma ≡ Sign sign.Comma → meaning quote ≡ Sign sign.DoubleQuote
      → IsFree y spelt → Held start opens (CaseQuote x.place e spelt) here
  case_end : {opens : List Open} {e : Expr} {x left comma : Lexeme} {from behind here : List Lexeme} {spelt : List ℕ}
      → Pends start opens (x ∷ left ∷ from) → meaning x ≡ Taken word.Cast → meaning left ≡ Sign sign.LeftParenthesis
      → Stands 0 from e (comma ∷ behind) → meaning comma ≡ Sign sign.Comma → CaseName behind spelt here
      → Held start opens (CaseEnd x.place e spelt) here

-- what the move with the lexeme x comes to; d is how deep the whole was
HeldMove : (start : List Lexeme) (d : ℕ) (x : Lexeme) (here : List Lexeme) → Move → Type 0
HeldMove start d x here (Go opens mode) = Held start opens mode here
HeldMove start d x here (Finish e) = Stands 0 start e (x ∷ here) × (meaning x ≡ Sign sign.Quote) × (depth e ≡ d)
HeldMove start d x here Stop = Unit {0}

module _ (start : List Lexeme) (d : ℕ) (x : Lexeme) (here : List Lexeme) where
  left-out : (spelt : List ℕ) (move : Move) → ((spelt ≡ static_call → ⊥) → HeldMove start d x here move)
      → HeldMove start d x here (unless_left_out spelt move)
  unfolding HeldMove
  left-out spelt move h =
      pick (HeldMove start d x here) (bytes_eq spelt static_call) Stop move (λ t. tt)
      (λ t. h (λ same. let yes : bytes_eq spelt static_call ≡ true = (bytes_eq-Decides spelt static_call).1 same in cc))

  held-operator : (operator : Op) {opens : List Open} {e : Expr} {from : List Lexeme}
      → Pends start opens from → Stands 11 from e (x ∷ here) → meaning x ≡ Sign (operator_sign operator)
      → Held start (Left x.place operator (closed (strength operator) opens e).operand ∷ (closed (strength operator) opens e).opens) Operand here
  held-operator operator {opens} p s h =
      let high = strength-high operator in
      let high_hole = hole-high opens in
      let c = closing (strength operator) 11 high p s (omega arith) (omega arith) (omega arith) in
      operand (lefting c.pends c.fits c.stands h)

  held-question : {opens : List Open} {e : Expr} {from : List Lexeme}
      → Pends start opens from → Stands 11 from e (x ∷ here) → meaning x ≡ Sign sign.Question
      → Held start (Condition x.place (closed 1 opens e).operand ∷ (closed 1 opens e).opens) Operand here
  held-question {opens} p s h =
      let high_hole = hole-high opens in
      let c = closing 1 11 (omega arith) p s (omega arith) (omega arith) (omega arith) in
      operand (asking c.pends (c.empty (omega arith)) c.stands h)

  held-colon : {opens : List Open} {e : Expr} {from : List Lexeme} → Pends start opens from → Stands 0 from e (x ∷ here)
      → meaning x ≡ Sign sign.Colon → HeldMove start d x here (at_colon opens e)
  unfolding HeldMove
  held-colon (asking p fits dc hq) s h = operand (elsing p fits dc hq s h)
  held-colon nothing s h = tt
  held-colon (grouping p h1) s h = tt
  held-colon (counting p h1 h2) s h = tt
  held-colon (casting p h1 h2) s h = tt
  held-colon (negating p h1) s h = tt
  held-colon (minusing p h1) s h = tt
  held-colon (lefting p h1 h2 h3) s h = tt
  held-colon (elsing p h1 h2 h3 h4 h5) s h = tt

  held-parenthesis : {opens : List Open} {e : Expr} {from : List Lexeme} → Pends start opens from → Stands 0 from e (x ∷ here)
      → meaning x ≡ Sign sign.RightParenthesis → HeldMove start d x here (at_parenthesis opens e)
  unfolding HeldMove
  held-parenthesis (grouping p h1) s h = behind_operand p (grouped h1 s h)
  held-parenthesis (counting p h1 h2) s h = behind_operand p (count h1 h2 s h)
  held-parenthesis nothing s h = tt
  held-parenthesis (casting p h1 h2) s h = tt
  held-parenthesis (negating p h1) s h = tt
  held-parenthesis (minusing p h1) s h = tt
  held-parenthesis (lefting p h1 h2 h3) s h = tt
  held-parenthesis (asking p h1 h2 h3) s h = tt
  held-parenthesis (elsing p h1 h2 h3 h4 h5) s h = tt

  held-comma : {opens : List Open} {e : Expr} {from : List Lexeme} → Pends start opens from → Stands 0 from e (x ∷ here)
      → meaning x ≡ Sign sign.Comma → HeldMove start d x here (at_comma opens e)
  unfolding HeldMove
  held-comma (casting p h1 h2) s h = case_name p h1 h2 s h
  held-comma nothing s h = tt
  held-comma (grouping p h1) s h = tt
  held-comma (counting p h1 h2) s h = tt
  held-comma (negating p h1) s h = tt
  held-comma (minusing p h1) s h = tt
  held-comma (lefting p h1 h2 h3) s h = tt
  held-comma (asking p h1 h2 h3) s h = tt
  held-comma (elsing p h1 h2 h3 h4 h5) s h = tt

  held-quote : {opens : List Open} {e : Expr} {from : List Lexeme} → Pends start opens from → Stands 0 from e (x ∷ here)
      → meaning x ≡ Sign sign.Quote → whole opens (depth e) ≡ d → HeldMove start d x here (at_quote opens e)
  unfolding HeldMove
  held-quote nothing s h deep = (s, h, deep)
  held-quote (grouping p h1) s h deep = tt
  held-quote (counting p h1 h2) s h deep = tt
  held-quote (casting p h1 h2) s h deep = tt
  held-quote (negating p h1) s h deep = tt
  held-quote (minusing p h1) s h deep = tt
  held-quote (lefting p h1 h2 h3) s h deep = tt
  held-quote (asking p h1 h2 h3) s h deep = tt
  held-quote (elsing p h1 h2 h3 h4 h5) s h deep = tt

  all-closed : {opens : List Open} {e : Expr} {from : List Lexeme} → Pends start opens from → Stands 11 from e (x ∷ here)
      → Closing start 0 (x ∷ here) (closed 0 opens e)
  all-closed {opens} p s = let high_hole = hole-high opens in closing 0 11 (omega arith) p s (omega arith) (omega arith) (omega arith)

  held-behind : (symbol : Symbol) {opens : List Open} {e : Expr} {from : List Lexeme}
      → Pends start opens from → Stands 11 from e (x ∷ here) → meaning x ≡ Sign symbol → whole opens (depth e) ≡ d
      → HeldMove start d x here (behind symbol x.place opens e)
  unfolding HeldMove
  held-behind sign.Dot p s h deep = dotted p s h
  held-behind sign.Question p s h deep = held-question p s h
  held-behind sign.Colon p s h deep = let c = all-closed p s in held-colon c.pends c.stands h
  held-behind sign.RightParenthesis p s h deep = let c = all-closed p s in held-parenthesis c.pends c.stands h
  held-behind sign.Comma p s h deep = let c = all-closed p s in held-comma c.pends c.stands h
  held-behind sign.Quote {opens} {e} p s h deep = let c = all-closed p s in held-quote c.pends c.stands h (whole-all-closed 0 opens e ∙ deep)
  held-behind sign.DoubleBar p s h deep = held-operator op.Or p s h
  held-behind sign.DoubleAmpersand p s h deep = held-operator op.And p s h
  held-behind sign.Bar p s h deep = held-operator op.BitOr p s h
  held-behind sign.Ampersand p s h deep = held-operator op.BitAnd p s h
  held-behind sign.DoubleEqual p s h deep = held-operator op.Eq p s h
  held-behind sign.NotEqual p s h deep = held-operator op.Ne p s h
  held-behind sign.Less p s h deep = held-operator op.Lt p s h
  held-behind sign.LessEqual p s h deep = held-operator op.Le p s h
  held-behind sign.Greater p s h deep = held-operator op.Gt p s h
  held-behind sign.GreaterEqual p s h deep = held-operator op.Ge p s h
  held-behind sign.DoubleLess p s h deep = held-operator op.Shl p s h
  held-behind sign.DoubleGreater p s h deep = held-operator op.Shr p s h
  held-behind sign.Plus p s h deep = held-operator op.Add p s h
  held-behind sign.Minus p s h deep = held-operator op.Sub p s h
  held-behind sign.Star p s h deep = held-operator op.Mul p s h
  held-behind sign.Slash p s h deep = held-operator op.Div p s h
  held-behind sign.Percent p s h deep = held-operator op.Rem p s h
  held-behind sign.LeftBracket p s h deep = tt
  held-behind sign.RightBracket p s h deep = tt
  held-behind sign.LeftParenthesis p s h deep = tt
  held-behind sign.DoubleQuote p s h deep = tt
  held-behind sign.Equal p s h deep = tt
  held-behind sign.Exclamation p s h deep = tt

  held-operand-sign : (symbol : Symbol) {opens : List Open} → Pends start opens (x ∷ here) → meaning x ≡ Sign symbol
      → HeldMove start d x here (operand_sign symbol x.place opens)
  unfolding HeldMove
  held-operand-sign sign.LeftParenthesis p h = operand (grouping p h)
  held-operand-sign sign.Exclamation p h = operand (negating p h)
  held-operand-sign sign.Minus p h = operand (minusing p h)
  held-operand-sign _ p h = tt

  held-operand-word : (w : Word) {opens : List Open} → Pends start opens (x ∷ here) → meaning x ≡ Taken w
      → HeldMove start d x here (operand_word w x.place opens)
  unfolding HeldMove
  held-operand-word word.True p h = behind_operand p (yes h)
  held-operand-word word.False p h = behind_operand p (no h)
  held-operand-word word.Null p h = behind_operand p (null h)
  held-operand-word word.CurPos p h = behind_operand p (cur_pos h)
  held-operand-word word.LengthInBytes p h = behind_operand p (length h)
  held-operand-word word.LastItem p h = behind_operand p (last_item h)
  held-operand-word word.SumBytes p h = behind_operand p (sum_bytes h)
  held-operand-word word.XorBytes p h = behind_operand p (xor_bytes h)
  held-operand-word word.Count p h = counts p h
  held-operand-word word.Cast p h = casts p h
  held-operand-word _ p h = tt

  -- behind the dot, in a CAST and behind COUNT or CAST, by what the lexeme is
  held-path : {opens : List Open} {e : Expr} {y : Lexeme} {from : List Lexeme} (m : Meaning) → Pends start opens from
      → Stands 11 from e (y ∷ x ∷ here) → meaning y ≡ Sign sign.Dot → meaning x ≡ m
      → HeldMove start d x here (step opens (Path y.place e) m x.place)
  unfolding HeldMove step
  held-path (Name spelt) p s hd h = left-out spelt _ (λ other. behind_operand p (path s hd (h, other)))
  held-path (Taken word.LengthInBytes) p s hd h = behind_operand p (length_of s hd h)
  held-path (Taken _) p s hd h = tt
  held-path (Number n) p s hd h = tt
  held-path (Sign symbol) p s hd h = tt

  step-held-as : {opens : List Open} {mode : Mode} (m : Meaning) → Held start opens mode (x ∷ here) → least opens mode ≡ d → meaning x ≡ m
      → HeldMove start d x here (step opens mode m x.place)
  unfolding HeldMove step
  step-held-as (Number n) (operand p) deep h = behind_operand p (number h)
  step-held-as (Sign symbol) (operand p) deep h = held-operand-sign symbol p h
  step-held-as (Taken w) (operand p) deep h = held-operand-word w p h
  step-held-as (Name spelt) (operand p) deep h = left-out spelt _ (λ other. behind_operand p (name (h, other)))
  step-held-as (Sign symbol) (behind_operand p s) deep h = held-behind symbol p s h deep
  step-held-as (Number n) (behind_operand p s) deep h = tt
  step-held-as (Taken w) (behind_operand p s) deep h = tt
  step-held-as (Name spelt) (behind_operand p s) deep h = tt
  step-held-as (Sign sign.LeftParenthesis) (counts p h1) deep h = operand (counting p h1 h)
  step-held-as _ (counts p h1) deep h = tt
  step-held-as (Sign sign.LeftParenthesis) (casts p h1) deep h = operand (casting p h1 h)
  step-held-as _ (casts p h1) deep h = tt
  step-held-as m (dotted p s hd) deep h = held-path m p s hd h
  step-held-as (Name spelt) (case_name p h1 h2 s hc) deep h = left-out spelt _ (λ other. case_end p h1 h2 s hc (bare (h, other)))
  step-held-as (Sign sign.DoubleQuote) (case_name p h1 h2 s hc) deep h = case_quoted p h1 h2 s hc h
  step-held-as _ (case_name p h1 h2 s hc) deep h = tt
  step-held-as (Name spelt) (case_quoted p h1 h2 s hc hq) deep h = left-out spelt _ (λ other. case_quote p h1 h2 s hc hq (h, other))
  step-held-as _ (case_quoted p h1 h2 s hc hq) deep h = tt
  step-held-as (Sign sign.DoubleQuote) (case_quote p h1 h2 s hc hq hn) deep h = case_end p h1 h2 s hc (quoted hq hn h)
  step-held-as _ (case_quote p h1 h2 s hc hq hn) deep h = tt
  step-held-as (Sign sign.RightParenthesis) (case_end p h1 h2 s hc hn) deep h = behind_operand p (cast h1 h2 s hc hn h)
  step-held-as _ (case_end p h1 h2 s hc hn) deep h = tt

-- ---- all lexemes

pub record Sound (start : List Lexeme) (limit : ℕ) (e : Expr) (rest : List Lexeme) : Type 0 where
  pub right : Lexeme
  pub stands : Stands 0 start e (right ∷ rest)
  pub closes : meaning right ≡ Sign sign.Quote
  pub fits : depth e ≤ limit

sound-go : {A F : Type 0} (Goal : Type 0) (least_ limit : ℕ) (r : A) (stopped : F) (got : Result A F)
    → (least_ ≤ limit → got ≡ Ok r → Goal)
    → (b : Bool) → nat_le least_ limit ≡ b → cond b got (Err stopped) ≡ Ok r → Goal
sound-go Goal least_ limit r stopped got further true fits e = further (leb-true _ _ fits) e
sound-go Goal least_ limit r stopped got further false fits e = absurd (cc)

sound-move : (start : List Lexeme) (limit : ℕ) (x : Lexeme) (rest : List Lexeme) (r : Expr × List Lexeme) (d : ℕ) → d ≤ limit
    → ((o : List Open) (m : Mode) → Held start o m rest → least o m ≤ limit → read limit o m rest ≡ Ok r → Sound start limit r.0 r.1)
    → (move : Move) → HeldMove start d x rest move
    → then limit x rest (λ o m. read limit o m rest) move ≡ Ok r → Sound start limit r.0 r.1
unfolding HeldMove
sound-move start limit x rest r d fits further (Go opens mode) held e =
    sound-go (Sound start limit r.0 r.1) (least opens mode) limit r (record { why = TooDeep; at = x ∷ rest }) (read limit opens mode rest)
    (λ fits' e'. further opens mode held fits' e') (nat_le (least opens mode) limit) refl e
sound-move start limit x rest r d fits further (Finish found) held e =
    let same : (found, rest) ≡ r = cc in
    subst (λ (q : Expr × List Lexeme). Sound start limit q.0 q.1) same
    (record { right = x; stands = held.0; closes = held.1; fits = rw held.2 fits })
sound-move start limit x rest r d fits further Stop held e = absurd (cc)

pub sound : (start : List Lexeme) (limit : ℕ) (opens : List Open) (mode : Mode) (here : List Lexeme) (r : Expr × List Lexeme)
    → Held start opens mode here → least opens mode ≤ limit → read limit opens mode here ≡ Ok r → Sound start limit r.0 r.1
sound start limit opens mode [] r held fits e = absurd (cc)
sound start limit opens mode (x ∷ rest) r held fits e =
    sound-move start limit x rest r (least opens mode) fits (λ o m h f g. sound start limit o m rest r h f g)
    (step opens mode (meaning x) x.place) (step-held-as start (least opens mode) x rest (meaning x) held refl refl) e
