-- What reading gives, move by move, and where it stops.
use Rattle.std.proofs.Common.{ℕ, ◌≡◌, ◌≤◌, ◌<◌, Bool, List, [], ◌∷◌, ◌++◌, true, false, cond, nat_le, Ok, Err, Result, refl, sym, ap, subst, ◌∙◌}
use Rattle.std.proofs.lemmas.Bool.{leb-true, leb-false, le-leb, lt-leb}
use Rattle.mspec_tree.specs.declared.exprs.Expr.{Expr}
use Rattle.mspec_lexer.specs.Lexemes.{Lexeme}
use Rattle.mspec_grammar.specs.declared.faults.ParseWhy.{ParseWhy}
use Rattle.mspec_grammar.specs.declared.faults.ParseWhy.TheVariants.{EndOfText, TooDeep}
use Rattle.mspec_grammar.specs.Meanings.{meaning}
use Rattle.mspec_quotes.specs.declared.pending.Open.{Open}
use Rattle.mspec_quotes.specs.Machine.{Mode, Move, Go, Finish, Stop, step, least, why_of, Stopped, then, read}

-- ---- one move

module _ (limit : ℕ) (opens : List Open) (mode : Mode) (x : Lexeme) (rest : List Lexeme) where
  read-moves : {move : Move} → step opens mode (meaning x) x.place ≡ move
      → read limit opens mode (x ∷ rest) ≡ then limit x rest (λ o m. read limit o m rest) move
  read-moves e = ap (then limit x rest (λ o m. read limit o m rest)) e

  pub read-go : (opens' : List Open) (mode' : Mode) → step opens mode (meaning x) x.place ≡ Go opens' mode' → least opens' mode' ≤ limit
      → read limit opens mode (x ∷ rest) ≡ read limit opens' mode' rest
  read-go opens' mode' e fits =
      read-moves e ∙ ap (λ b. cond b (read limit opens' mode' rest) (Err (record { why = TooDeep; at = x ∷ rest }))) (le-leb _ _ fits)

  pub read-deep : (opens' : List Open) (mode' : Mode) → step opens mode (meaning x) x.place ≡ Go opens' mode' → limit < least opens' mode'
      → read limit opens mode (x ∷ rest) ≡ Err (record { why = TooDeep; at = x ∷ rest })
  read-deep opens' mode' e deep =
      read-moves e ∙ ap (λ b. cond b (read limit opens' mode' rest) (Err (record { why = TooDeep; at = x ∷ rest }))) (lt-leb _ _ deep)

  pub read-stop : step opens mode (meaning x) x.place ≡ Stop
      → read limit opens mode (x ∷ rest) ≡ Err (record { why = why_of (meaning x); at = x ∷ rest })
  read-stop e = read-moves e

  pub read-finish : (expr : Expr) → step opens mode (meaning x) x.place ≡ Finish expr → read limit opens mode (x ∷ rest) ≡ Ok (expr, rest)
  read-finish expr e = read-moves e

-- ---- where reading stops

-- reading goes over the front and stops at the rest
pub data Stuck (limit : ℕ) : List Open → Mode → List Lexeme → List Lexeme → ParseWhy → Type 0 where
  ended : {opens : List Open} {mode : Mode} → Stuck limit opens mode [] [] EndOfText
  stopped : {opens : List Open} {mode : Mode} {x : Lexeme} {rest : List Lexeme}
      → step opens mode (meaning x) x.place ≡ Stop → Stuck limit opens mode [] (x ∷ rest) (why_of (meaning x))
  deep : {opens opens' : List Open} {mode mode' : Mode} {x : Lexeme} {rest : List Lexeme}
      → step opens mode (meaning x) x.place ≡ Go opens' mode' → limit < least opens' mode' → Stuck limit opens mode [] (x ∷ rest) TooDeep
  on : {opens opens' : List Open} {mode mode' : Mode} {x : Lexeme} {front at : List Lexeme} {why : ParseWhy}
      → step opens mode (meaning x) x.place ≡ Go opens' mode' → least opens' mode' ≤ limit
      → Stuck limit opens' mode' front at why → Stuck limit opens mode (x ∷ front) at why

pub record Stops (limit : ℕ) (opens : List Open) (mode : Mode) (from : List Lexeme) (f : Stopped) : Type 0 where
  pub front : List Lexeme
  pub whole : from ≡ front ++ f.at
  pub stuck : Stuck limit opens mode front f.at f.why

Given : Result (Expr × List Lexeme) Stopped → Stopped → Type 0
Given r f = r ≡ Err f

go-stops : (limit : ℕ) (opens : List Open) (mode : Mode) (x : Lexeme) (rest : List Lexeme) (f : Stopped) (opens' : List Open) (mode' : Mode)
    → step opens mode (meaning x) x.place ≡ Go opens' mode'
    → (read limit opens' mode' rest ≡ Err f → Stops limit opens' mode' rest f)
    → (b : Bool) → nat_le (least opens' mode') limit ≡ b
    → cond b (read limit opens' mode' rest) (Err (record { why = TooDeep; at = x ∷ rest })) ≡ Err f
    → Stops limit opens mode (x ∷ rest) f
go-stops limit opens mode x rest f opens' mode' moves further true fits e =
    let later : Stops limit opens' mode' rest f = further e in
    record {
      front = x ∷ later.front;
      whole = ap (λ xs. x ∷ xs) later.whole;
      stuck = on moves (leb-true _ _ fits) later.stuck;
    }
go-stops limit opens mode x rest f opens' mode' moves further false fits e =
    let same : record { why = TooDeep; at = x ∷ rest } ≡ f = cc in
    subst (λ (g : Stopped). Stops limit opens mode (x ∷ rest) g) same (record { front = []; whole = refl; stuck = deep moves (leb-false _ _ fits) })

move-stops : (limit : ℕ) (opens : List Open) (mode : Mode) (x : Lexeme) (rest : List Lexeme) (f : Stopped)
    → ((o : List Open) (m : Mode) → read limit o m rest ≡ Err f → Stops limit o m rest f)
    → (move : Move) → step opens mode (meaning x) x.place ≡ move
    → then limit x rest (λ o m. read limit o m rest) move ≡ Err f
    → Stops limit opens mode (x ∷ rest) f
move-stops limit opens mode x rest f further (Go opens' mode') moves e =
    go-stops limit opens mode x rest f opens' mode' moves (further opens' mode') _ refl e
move-stops limit opens mode x rest f further (Finish expr) moves e = absurd (cc)
move-stops limit opens mode x rest f further Stop moves e =
    let same : record { why = why_of (meaning x); at = x ∷ rest } ≡ f = cc in
    subst (λ (g : Stopped). Stops limit opens mode (x ∷ rest) g) same (record { front = []; whole = refl; stuck = stopped moves })

pub stops : (limit : ℕ) (opens : List Open) (mode : Mode) (from : List Lexeme) (f : Stopped) → read limit opens mode from ≡ Err f
    → Stops limit opens mode from f
stops limit opens mode [] f e =
    let same : record { why = EndOfText; at = [] } ≡ f = cc in
    subst (λ (g : Stopped). Stops limit opens mode [] g) same (record { front = []; whole = refl; stuck = ended })
stops limit opens mode (x ∷ rest) f e =
    move-stops limit opens mode x rest f (λ o m. stops limit o m rest f) _ refl e

-- ---- what the place of a stop depends on

-- whatever follows the lexeme at which reading stops, it stops there
pub stays : {limit : ℕ} {opens : List Open} {mode : Mode} {front rest : List Lexeme} {x : Lexeme} {why : ParseWhy}
    → Stuck limit opens mode front (x ∷ rest) why → (more : List Lexeme)
    → read limit opens mode (front ++ x ∷ more) ≡ Err (record { why = why; at = x ∷ more })
stays {limit} {opens} {mode} (stopped {x} moves) more = read-stop limit opens mode x more moves
stays {limit} {opens} {mode} (deep {opens'} {mode'} {x} moves fits) more = read-deep limit opens mode x more opens' mode' moves fits
stays {limit} {opens} {mode} (on {opens'} {mode'} {x} moves fits later) more =
    read-go limit opens mode x _ opens' mode' moves fits ∙ stays later more

never-on : {A F : Type 0} (b : Bool) (got later : Result A F) (f : F) (r : A) → got ≡ cond b later (Err f) → (later ≡ Ok r → ⊥) → got ≡ Ok r → ⊥
never-on true got later f r e refused h = refused (sym e ∙ h)
never-on false got later f r e refused h = cc

-- A stop that isn't for depth comes whatever the limit.
pub never : {limit : ℕ} {opens : List Open} {mode : Mode} {front rest : List Lexeme} {x : Lexeme} {why : ParseWhy}
    → Stuck limit opens mode front (x ∷ rest) why → (why ≡ TooDeep → ⊥)
    → (other : ℕ) (more : List Lexeme) (r : Expr × List Lexeme) → read other opens mode (front ++ x ∷ more) ≡ Ok r → ⊥
never {opens} {mode} (stopped {x} moves) shallow other more r e = let stop = read-stop other opens mode x more moves in cc
never (deep moves fits) shallow other more r e = shallow refl
never {opens} {mode} (on {opens'} {mode'} {x} {front} moves fits later) shallow other more r e =
    never-on (nat_le (least opens' mode') other) _ _ _ r (read-moves other opens mode x _ moves) (never later shallow other more r) e
