-- Expressions in quotes: what is read is in the grammar, and where reading stops no text of the grammar goes on.
use Rattle.std.proofs.Common.{ℕ, ◌≡◌, ◌≤◌, Bool, List, [], ◌∷◌, ◌++◌, true, false, cond, Ok, Err, Result, refl, sym, ap, subst, ◌∙◌, arith, append_assoc, append-nil, drop, IfOk, IfErr}
use Rattle.std.proofs.lemmas.Slice.Eq.{bytes_eq-Decides}
use Rattle.std.specs.Str.{bytes_eq}
use Rattle.mspec_tree.specs.declared.exprs.Expr.{Expr}
use Rattle.mspec_tree.specs.Depth.{depth_limit}
use Rattle.mspec_lexer.specs.Lexemes.{Lexeme, lexemes}
use Rattle.mspec_lexer.specs.declared.tokens.Token.{Token}
use Rattle.mspec_quotes.specs.declared.quotes.QuoteFault.{QuoteFault}
use Rattle.mspec_quotes.specs.declared.quotes.QuoteFault.TheVariants as fault
use Rattle.mspec_quotes.specs.Quotes.{Gives, OfFault, IsQuoteFault}
use Rattle.mspec_lexer.specs.declared.tokens.Symbol.TheVariants as sign
use Rattle.mspec_grammar.specs.declared.faults.ParseWhy.{ParseWhy}
use Rattle.mspec_grammar.specs.declared.faults.ParseWhy.TheVariants.{Unexpected, EndOfText, LeftOut, TooDeep}
use Rattle.mspec_grammar.specs.Expressions.{Quoted, quoted}
use Rattle.mspec_grammar.specs.Faults.{Begins, HasWhy, IsFault, Leaves, IsQuote, LeavesCall}
use Rattle.mspec_grammar.specs.Meanings.{Meaning, meaning, Number, Sign, Taken, Name, static_call}
use Rattle.mspec_quotes.specs.declared.pending.Open.{Open}
use Rattle.mspec_quotes.specs.Machine.{Mode, Operand, Stopped, why_of, read, behind_quote, read_quoted}
use Rattle.mspec_quotes.proofs.Reading.{Stuck, ended, stopped, deep, on, stops, stays, never}
use Rattle.mspec_quotes.proofs.Completing.{sign_lexeme, completes, begins, deeper}
use Rattle.mspec_quotes.proofs.Complete.{reads-quoted}
use Rattle.mspec_quotes.proofs.Sound.{nothing, operand, sound}

-- ---- what is read

pub read-quoted : {limit : ℕ} {from rest : List Lexeme} {e : Expr} → Quoted limit from e rest → read_quoted limit from ≡ Ok (e, rest)
read-quoted {limit} {rest} (quoted {left} {right} {from} {e} hl s hr fits) =
    ap (λ m. behind_quote limit m left from) hl ∙ reads-quoted limit from rest e right s hr fits

-- with one expression alone
pub one-quoted : (limit : ℕ) (from rest rest' : List Lexeme) (e e' : Expr) → Quoted limit from e rest → Quoted limit from e' rest' → (e ≡ e') × (rest ≡ rest')
one-quoted limit from rest rest' e e' q q' =
    let h = read-quoted q in
    let h' = read-quoted q' in
    let both : (e, rest) ≡ (e', rest') = cc in
    (ap (λ (p : Expr × List Lexeme). p.0) both, ap (λ (p : Expr × List Lexeme). p.1) both)

quoted-behind : (limit : ℕ) (x : Lexeme) (rest : List Lexeme) (r : Expr × List Lexeme) (m : Meaning) → meaning x ≡ m
    → behind_quote limit m x rest ≡ Ok r → 1 ≤ limit → Quoted limit (x ∷ rest) r.0 r.1
quoted-behind limit x rest r (Sign sign.Quote) h e some =
    let s = sound rest limit [] Operand rest r (operand nothing) some e in
    quoted h s.stands s.closes s.fits
quoted-behind limit x rest r (Sign _) h e some = absurd (cc)
quoted-behind limit x rest r (Number n) h e some = absurd (cc)
quoted-behind limit x rest r (Taken w) h e some = absurd (cc)
quoted-behind limit x rest r (Name n) h e some = absurd (cc)

pub quoted-read : (limit : ℕ) (from : List Lexeme) (r : Expr × List Lexeme) → read_quoted limit from ≡ Ok r → 1 ≤ limit → Quoted limit from r.0 r.1
quoted-read limit [] r e some = absurd (cc)
quoted-read limit (x ∷ rest) r e some = quoted-behind limit x rest r (meaning x) refl e some

-- ---- where reading stops

abbrev pub Parted : List Lexeme → Stopped → Type 0
Parted from f = Leaves IsQuote LeavesCall from f.at f.why

module _ (q : Lexeme) (is_quote : meaning q ≡ Sign sign.Quote) where
  opened : (limit : ℕ) (from : List Lexeme) → read_quoted limit (q ∷ from) ≡ read limit [] Operand from
  opened limit from = ap (λ m. behind_quote limit m q from) is_quote

  read-is-quoted : (limit : ℕ) (from : List Lexeme) (e : Expr) → 1 ≤ limit → read limit [] Operand from ≡ Ok (e, []) → IsQuote limit (q ∷ from)
  read-is-quoted limit from e some h = (e, quoted-read limit (q ∷ from) (e, []) (opened limit from ∙ h) some)

  quote-begins : {front at : List Lexeme} {why : ParseWhy} → Stuck depth_limit [] Operand front at why → Begins IsQuote depth_limit (q ∷ front)
  quote-begins {front} s =
      let b = begins s (omega arith) in
      (b.0, read-is-quoted depth_limit (front ++ b.0) b.1 (omega arith) b.2)

  -- with the lexeme at the stop no expression in quotes begins, at this limit
  none-begins : {front rest : List Lexeme} {x : Lexeme} {why : ParseWhy} → Stuck depth_limit [] Operand front (x ∷ rest) why
      → Begins IsQuote depth_limit (q ∷ (front ++ x ∷ [])) → ⊥
  none-begins {front} {x} s b =
      let more = b.0 in
      let h : read_quoted depth_limit (q ∷ ((front ++ x ∷ []) ++ more)) ≡ Ok (b.1.0, []) = read-quoted b.1.1 in
      let h' : read depth_limit [] Operand (front ++ x ∷ more) ≡ Ok (b.1.0, []) = rw (sym (append_assoc front (x ∷ []) more)) (sym (opened depth_limit ((front ++ x ∷ []) ++ more)) ∙ h) in
      let stay = stays s more in
      cc

  -- or at any, unless it is depth that stops it
  none-ever : {front rest : List Lexeme} {x : Lexeme} {why : ParseWhy} → Stuck depth_limit [] Operand front (x ∷ rest) why → (why ≡ TooDeep → ⊥)
      → (limit : ℕ) → Begins IsQuote limit (q ∷ (front ++ x ∷ [])) → ⊥
  none-ever {front} {x} s flat limit b =
      let more = b.0 in
      let h : read_quoted limit (q ∷ ((front ++ x ∷ []) ++ more)) ≡ Ok (b.1.0, []) = read-quoted b.1.1 in
      let h' : read limit [] Operand (front ++ x ∷ more) ≡ Ok (b.1.0, []) = rw (sym (append_assoc front (x ∷ []) more)) (sym (opened limit ((front ++ x ∷ []) ++ more)) ∙ h) in
      never s flat limit more (b.1.0, []) h'

-- ---- why reading stops

why-name : Bool → ParseWhy
why-name b = cond b LeftOut Unexpected

name-left-out : (b : Bool) → cond b LeftOut Unexpected ≡ LeftOut → b ≡ true
name-left-out true e = refl
name-left-out false e = cc

name-unexpected : (b : Bool) → cond b LeftOut Unexpected ≡ Unexpected → b ≡ false
name-unexpected true e = cc
name-unexpected false e = refl

-- the lexeme is the word that is left out, if that is why
means-left-out : (m : Meaning) → why_of m ≡ LeftOut → m ≡ Name static_call
means-left-out (Name spelt) e = ap Name ((bytes_eq-Decides spelt static_call).0 (name-left-out (bytes_eq spelt static_call) e))
means-left-out (Number n) e = cc
means-left-out (Sign symbol) e = cc
means-left-out (Taken w) e = cc

means-other : (m : Meaning) → why_of m ≡ Unexpected → m ≡ Name static_call → ⊥
means-other m e same =
    let left_out : why_of m ≡ LeftOut = ap why_of same ∙ call-left-out in
    cc
  where
    call-left-out : why_of (Name static_call) ≡ LeftOut
    call-left-out = refl

-- the lexeme at a stop that isn't for depth is why
pub stuck-why : {limit : ℕ} {opens : List Open} {mode : Mode} {front rest : List Lexeme} {x : Lexeme} {why : ParseWhy}
    → Stuck limit opens mode front (x ∷ rest) why → (why ≡ TooDeep → ⊥) → why ≡ why_of (meaning x)
stuck-why (stopped moves) flat = refl
stuck-why (deep moves past) flat = absurd (flat refl)
stuck-why (on moves fits later) flat = stuck-why later flat

pub stuck-end : {limit : ℕ} {opens : List Open} {mode : Mode} {front : List Lexeme} {why : ParseWhy}
    → Stuck limit opens mode front [] why → why ≡ EndOfText
stuck-end ended = refl
stuck-end (on moves fits later) = stuck-end later

never-ended : (m : Meaning) → why_of m ≡ EndOfText → ⊥
never-ended (Name spelt) e = never-ended-name (bytes_eq spelt static_call) e
  where
    never-ended-name : (b : Bool) → cond b LeftOut Unexpected ≡ EndOfText → ⊥
    never-ended-name true e = cc
    never-ended-name false e = cc
never-ended (Number n) e = cc
never-ended (Sign symbol) e = cc
never-ended (Taken w) e = cc

module _ (q : Lexeme) (is_quote : meaning q ≡ Sign sign.Quote) where
  has-why : {front rest : List Lexeme} {x : Lexeme} (why : ParseWhy) → Stuck depth_limit [] Operand front (x ∷ rest) why
      → HasWhy IsQuote LeavesCall (q ∷ front) x why
  has-why {front} {x} TooDeep s =
      let d = deeper s refl in
      let above : depth_limit ≤ d.other = d.above in
      let assoc : (front ++ x ∷ []) ++ d.more ≡ front ++ x ∷ d.more = append_assoc front (x ∷ []) d.more in
      (d.other, (d.more, read-is-quoted q is_quote d.other ((front ++ x ∷ []) ++ d.more) d.expr (omega arith) (rw assoc d.is)))
  has-why {x} LeftOut s =
      let flat : LeftOut ≡ TooDeep → ⊥ = λ e. cc in
      (none-ever q is_quote s flat, (means-left-out (meaning x) (sym (stuck-why s flat)), λ e. cc))
  has-why {x} Unexpected s =
      let flat : Unexpected ≡ TooDeep → ⊥ = λ e. cc in
      (none-ever q is_quote s flat, λ h. means-other (meaning x) (sym (stuck-why s flat)) h.0)
  has-why {x} EndOfText s =
      let flat : EndOfText ≡ TooDeep → ⊥ = λ e. cc in
      never-ended (meaning x) (sym (stuck-why s flat))

  fault-at : (front at : List Lexeme) (why : ParseWhy) → Stuck depth_limit [] Operand front at why → read depth_limit [] Operand (front ++ at) ≡ Err (record { why = why; at = at })
      → IsFault IsQuote LeavesCall (q ∷ front) at why
  fault-at front [] why s e = (
    quote-begins q is_quote s,
    λ h. let got = sym (opened q is_quote depth_limit front) ∙ read-quoted h.1 in
        let refused : read depth_limit [] Operand front ≡ Err (record { why = why; at = [] }) = rw (append-nil front) at e in
        cc,
    stuck-end s,
  )
  fault-at front (x ∷ rest) why s e = (quote-begins q is_quote s, none-begins q is_quote s, has-why why s)

-- ---- the first lexeme

begins-quote : Begins IsQuote depth_limit []
begins-quote =
    let c = completes depth_limit [] Operand (omega arith) in
    (sign_lexeme sign.Quote ∷ c.more, read-is-quoted (sign_lexeme sign.Quote) refl depth_limit c.more c.expr (omega arith) c.is)

none-empty : {limit : ℕ} {e : Expr} → Quoted limit [] e [] → ⊥
none-empty h = elim h [ ]

begins-by-quote : {limit : ℕ} {from rest : List Lexeme} {e : Expr} {x : Lexeme} → Quoted limit (x ∷ from) e rest → meaning x ≡ Sign sign.Quote
begins-by-quote (quoted hl s hr fits) = hl

no-quote : (x : Lexeme) (rest : List Lexeme) → (meaning x ≡ Sign sign.Quote → ⊥) → IsFault IsQuote LeavesCall [] (x ∷ rest) Unexpected
no-quote x rest other = (
  begins-quote,
  λ b. other (begins-by-quote b.1.1),
  (λ limit b. other (begins-by-quote b.1.1), λ h. h.1 refl),
)

Same : Lexeme → List Lexeme → Stopped → Type 0
Same x rest f = record { why = Unexpected; at = x ∷ rest } ≡ f

no-quote-parted : (x : Lexeme) (rest : List Lexeme) (f : Stopped) → (meaning x ≡ Sign sign.Quote → ⊥) → Same x rest f → Parted (x ∷ rest) f
unfolding Same
no-quote-parted x rest f other same =
    subst (λ (g : Stopped). Parted (x ∷ rest) g) same (record { front = []; whole = refl; fault = no-quote x rest other })

parted-behind : (x : Lexeme) (rest : List Lexeme) (f : Stopped) (m : Meaning) → meaning x ≡ m → behind_quote depth_limit m x rest ≡ Err f → Parted (x ∷ rest) f
unfolding Same
parted-behind x rest f (Sign sign.Quote) h e =
    let s = stops depth_limit [] Operand rest f e in
    record {
      front = x ∷ s.front;
      whole = ap (λ xs. x ∷ xs) s.whole;
      fault = fault-at x h s.front f.at f.why s.stuck (ap (read depth_limit [] Operand) (sym s.whole) ∙ e);
    }
parted-behind x rest f (Sign sign.DoubleQuote) h e = no-quote-parted x rest f (λ h'. cc) (cc)
parted-behind x rest f (Sign _) h e = no-quote-parted x rest f (λ h'. cc) (cc)
parted-behind x rest f (Number n) h e = no-quote-parted x rest f (λ h'. cc) (cc)
parted-behind x rest f (Taken w) h e = no-quote-parted x rest f (λ h'. cc) (cc)
parted-behind x rest f (Name n) h e = no-quote-parted x rest f (λ h'. cc) (cc)

-- Where an expression in quotes isn't read, its fault is where reading stops.
pub parted : (from : List Lexeme) (f : Stopped) → read_quoted depth_limit from ≡ Err f → Parted from f
parted [] f e =
    let same : record { why = EndOfText; at = [] } ≡ f = cc in
    subst (λ (g : Stopped). Parted [] g) same (record { front = []; whole = refl; fault = (begins-quote, λ h. none-empty h.1, refl) })
parted (x ∷ rest) f e = parted-behind x rest f (meaning x) refl e

-- ---- what a call answers

pub gives-read : (text : List ℕ) (tokens : List Token) (from : List Lexeme) (r : Result (Expr × ℕ) QuoteFault)
    → Gives text tokens r (read_quoted depth_limit from) → IfOk r (λ r. Quoted depth_limit from r.0 (lexemes text (drop r.1 tokens)))
gives-read text tokens from (Ok r) g = quoted-read depth_limit from (r.0, lexemes text (drop r.1 tokens)) g (omega arith)
gives-read text tokens from (Err f) g = tt

pub gives-refused : (text : List ℕ) (tokens from : List Token) (r : Result (Expr × ℕ) QuoteFault)
    → Gives text tokens r (read_quoted depth_limit (lexemes text from))
    → IfErr r (λ f. OfFault f (λ index why. IsQuoteFault text from (drop index tokens) why))
gives-refused text tokens from (Ok r) g = tt
gives-refused text tokens from (Err (fault.At index why)) g = parted (lexemes text from) (record { why = why; at = lexemes text (drop index tokens) }) g
gives-refused text tokens from (Err fault.NoMemory) g = tt

pub gives-only : (text : List ℕ) (tokens : List Token) (from : List Lexeme) (r : Result (Expr × ℕ) QuoteFault) (e : Expr) (rest : List Lexeme)
    → Quoted depth_limit from e rest → Gives text tokens r (read_quoted depth_limit from) → Gives text tokens r (Ok (e, rest))
gives-only text tokens from r e rest q g = subst (λ (read : Result (Expr × List Lexeme) Stopped). Gives text tokens r read) (read-quoted q) g
