-- What single lexemes do to an expression that is being read.
use Rattle.std.proofs.Common.{ℕ, ◌≡◌, Bool, true, false, cond, List, [], ◌∷◌, ◌++◌, Option, Some, None, Err, refl, sym, ap, ◌∙◌}
use Rattle.std.proofs.lemmas.Slice.Eq.{bytes_eq-Decides}
use Rattle.std.specs.List.{AllByRecursion}
use Rattle.std.specs.Str.{bytes_eq}
use Rattle.mspec_tree.specs.declared.exprs.Expr.{Expr}
use Rattle.mspec_tree.specs.declared.words.Op.{Op}
use Rattle.mspec_tree.specs.declared.words.Place.{Place}
use Rattle.mspec_lexer.specs.Lexemes.{Lexeme}
use Rattle.mspec_lexer.specs.declared.tokens.Symbol.{Symbol}
use Rattle.mspec_lexer.specs.declared.tokens.Symbol.TheVariants as sign
use Rattle.mspec_grammar.specs.declared.faults.ParseWhy.{ParseWhy}
use Rattle.mspec_grammar.specs.declared.faults.ParseWhy.TheVariants.{Unexpected, EndOfText, LeftOut, TooDeep}
use Rattle.mspec_grammar.specs.declared.words.Word.{Word}
use Rattle.mspec_grammar.specs.declared.words.Word.TheVariants as word
use Rattle.mspec_grammar.specs.Meanings.{Meaning, meaning, Number, Sign, Taken, Name, static_call}
use Rattle.mspec_quotes.specs.declared.pending.Open.{Open}
use Rattle.mspec_quotes.specs.declared.pending.Open.TheVariants.{Parenthesis, Count, Cast, Condition}
use Rattle.mspec_quotes.specs.Machine.{Mode, Move, Go, Finish, Stop as Halt, Operand, Behind, Opening, Path, CaseName, CaseQuoted, CaseQuote, CaseEnd, step, why_of, read, at_quote, at_colon, at_parenthesis, at_comma, with_operator, operator_of, operand_sign, operand_word, behind_closed, closed, bound}
use Rattle.mspec_quotes.proofs.Reading.{read-go, read-stop, Stuck, ended, stopped, deep, on}
use Rattle.mspec_parser.proofs.LeftWords.{NoQuote}
use Rattle.mspec_parser.proofs.Stops.{stopped as halted}

-- ---- a quote ends the expression

at_quote-goes : (opens : List Open) (e : Expr) (o : List Open) (m : Mode) → at_quote opens e ≡ Go o m → ⊥
at_quote-goes [] e o m h = cc
at_quote-goes (p ∷ opens) e o m h = cc

pub quote-goes : (opens : List Open) (mode : Mode) (place : Place) (o : List Open) (m : Mode) → step opens mode (Sign sign.Quote) place ≡ Go o m → ⊥
unfolding step
quote-goes opens Operand place o m h = cc
quote-goes opens (Behind e) place o m h = at_quote-goes (closed (bound sign.Quote) opens e).opens (closed (bound sign.Quote) opens e).operand o m h
quote-goes opens (Opening p) place o m h = cc
quote-goes opens (Path dot e) place o m h = cc
quote-goes opens (CaseName cast e) place o m h = cc
quote-goes opens (CaseQuoted cast e) place o m h = cc
quote-goes opens (CaseQuote cast e name) place o m h = cc
quote-goes opens (CaseEnd cast e name) place o m h = cc

pub goes-unquoted : (opens : List Open) (mode : Mode) (x : Lexeme) (o : List Open) (m : Mode) → step opens mode (meaning x) x.place ≡ Go o m → NoQuote x
goes-unquoted opens mode x o m h quote = quote-goes opens mode x.place o m (sym (ap (λ (n : Meaning). step opens mode n x.place) quote) ∙ h)

-- what stands before a stop has no quote
pub stuck-unquoted : {limit : ℕ} {opens : List Open} {mode : Mode} {front at : List Lexeme} {why : ParseWhy} → Stuck limit opens mode front at why
    → AllByRecursion NoQuote front
stuck-unquoted ended = tt
stuck-unquoted (stopped moves) = tt
stuck-unquoted (deep moves past) = tt
stuck-unquoted {opens} {mode} (on {opens'} {mode'} {x} moves fits later) = (goes-unquoted opens mode x opens' mode' moves, stuck-unquoted later)

-- ---- only a quote ends it

operand_sign-finish : (symbol : Symbol) (place : Place) (opens : List Open) (f : Expr) → operand_sign symbol place opens ≡ Finish f → ⊥
operand_sign-finish sign.LeftParenthesis place opens f h = cc
operand_sign-finish sign.Exclamation place opens f h = cc
operand_sign-finish sign.Minus place opens f h = cc
operand_sign-finish other place opens f h = cc

operand_word-finish : (w : Word) (place : Place) (opens : List Open) (f : Expr) → operand_word w place opens ≡ Finish f → ⊥
operand_word-finish word.Bit place opens f h = cc
operand_word-finish word.Byte place opens f h = cc
operand_word-finish word.Uint place opens f h = cc
operand_word-finish word.Int place opens f h = cc
operand_word-finish word.Float place opens f h = cc
operand_word-finish word.True place opens f h = cc
operand_word-finish word.False place opens f h = cc
operand_word-finish word.Null place opens f h = cc
operand_word-finish word.Count place opens f h = cc
operand_word-finish word.Cast place opens f h = cc
operand_word-finish word.CurPos place opens f h = cc
operand_word-finish word.LengthInBytes place opens f h = cc
operand_word-finish word.LastItem place opens f h = cc
operand_word-finish word.SumBytes place opens f h = cc
operand_word-finish word.XorBytes place opens f h = cc

name-finish : (b : Bool) (o : List Open) (m : Mode) (f : Expr) → cond b Halt (Go o m) ≡ Finish f → ⊥
name-finish true o m f h = cc
name-finish false o m f h = cc

colon-finish : (opens : List Open) (e f : Expr) → at_colon opens e ≡ Finish f → ⊥
colon-finish [] e f h = cc
colon-finish (Condition place c ∷ opens) e f h = cc
colon-finish (other ∷ opens) e f h = cc

parenthesis-finish : (opens : List Open) (e f : Expr) → at_parenthesis opens e ≡ Finish f → ⊥
parenthesis-finish [] e f h = cc
parenthesis-finish (Parenthesis ∷ opens) e f h = cc
parenthesis-finish (Count place ∷ opens) e f h = cc
parenthesis-finish (other ∷ opens) e f h = cc

comma-finish : (opens : List Open) (e f : Expr) → at_comma opens e ≡ Finish f → ⊥
comma-finish [] e f h = cc
comma-finish (Cast place ∷ opens) e f h = cc
comma-finish (other ∷ opens) e f h = cc

operator-finish : (o : Option Op) (place : Place) (opens : List Open) (e f : Expr) → with_operator o place opens e ≡ Finish f → ⊥
operator-finish None place opens e f h = cc
operator-finish (Some operator) place opens e f h = cc

behind-finish : (symbol : Symbol) (place : Place) (opens : List Open) (e f : Expr) → behind_closed symbol place opens e ≡ Finish f → symbol ≡ sign.Quote
behind-finish sign.Question place opens e f h = absurd (cc)
behind-finish sign.Colon place opens e f h = absurd (colon-finish opens e f h)
behind-finish sign.RightParenthesis place opens e f h = absurd (parenthesis-finish opens e f h)
behind-finish sign.Comma place opens e f h = absurd (comma-finish opens e f h)
behind-finish sign.Quote place opens e f h = refl
behind-finish other place opens e f h = absurd (operator-finish (operator_of other) place opens e f h)

sign-finish : (symbol : Symbol) (place : Place) (opens : List Open) (e f : Expr) → step opens (Behind e) (Sign symbol) place ≡ Finish f → symbol ≡ sign.Quote
unfolding step
sign-finish sign.Dot place opens e f h = absurd (cc)
sign-finish other place opens e f h = behind-finish other place (closed (bound other) opens e).opens (closed (bound other) opens e).operand f h

behind-halts : (opens : List Open) (e : Expr) (m : Meaning) (place : Place) (f : Expr) → step opens (Behind e) m place ≡ Finish f → m ≡ Sign sign.Quote
unfolding step
behind-halts opens e (Sign symbol) place f h = ap Sign (sign-finish symbol place opens e f h)
behind-halts opens e (Number n) place f h = absurd (cc)
behind-halts opens e (Taken w) place f h = absurd (cc)
behind-halts opens e (Name n) place f h = absurd (cc)

operand-finish : (opens : List Open) (m : Meaning) (place : Place) (f : Expr) → step opens Operand m place ≡ Finish f → ⊥
unfolding step
operand-finish opens (Number n) place f h = cc
operand-finish opens (Sign symbol) place f h = operand_sign-finish symbol place opens f h
operand-finish opens (Taken w) place f h = operand_word-finish w place opens f h
operand-finish opens (Name n) place f h = name-finish (bytes_eq n static_call) _ _ f h

opening-finish : (opens : List Open) (o : Open) (m : Meaning) (place : Place) (f : Expr) → step opens (Opening o) m place ≡ Finish f → ⊥
unfolding step
opening-finish opens o (Number n) place f h = cc
opening-finish opens o (Sign sign.LeftParenthesis) place f h = cc
opening-finish opens o (Sign symbol) place f h = cc
opening-finish opens o (Taken w) place f h = cc
opening-finish opens o (Name n) place f h = cc

path-finish : (opens : List Open) (dot : Place) (e : Expr) (m : Meaning) (place : Place) (f : Expr) → step opens (Path dot e) m place ≡ Finish f → ⊥
unfolding step
path-finish opens dot e (Number n) place f h = cc
path-finish opens dot e (Sign symbol) place f h = cc
path-finish opens dot e (Taken word.LengthInBytes) place f h = cc
path-finish opens dot e (Taken w) place f h = cc
path-finish opens dot e (Name n) place f h = name-finish (bytes_eq n static_call) _ _ f h

case_name-finish : (opens : List Open) (cast : Place) (e : Expr) (m : Meaning) (place : Place) (f : Expr) → step opens (CaseName cast e) m place ≡ Finish f → ⊥
unfolding step
case_name-finish opens cast e (Number n) place f h = cc
case_name-finish opens cast e (Sign sign.DoubleQuote) place f h = cc
case_name-finish opens cast e (Sign symbol) place f h = cc
case_name-finish opens cast e (Taken w) place f h = cc
case_name-finish opens cast e (Name n) place f h = name-finish (bytes_eq n static_call) _ _ f h

case_quoted-finish : (opens : List Open) (cast : Place) (e : Expr) (m : Meaning) (place : Place) (f : Expr) → step opens (CaseQuoted cast e) m place ≡ Finish f → ⊥
unfolding step
case_quoted-finish opens cast e (Number n) place f h = cc
case_quoted-finish opens cast e (Sign symbol) place f h = cc
case_quoted-finish opens cast e (Taken w) place f h = cc
case_quoted-finish opens cast e (Name n) place f h = name-finish (bytes_eq n static_call) _ _ f h

case_quote-finish : (opens : List Open) (cast : Place) (e : Expr) (name : List ℕ) (m : Meaning) (place : Place) (f : Expr) → step opens (CaseQuote cast e name) m place ≡ Finish f → ⊥
unfolding step
case_quote-finish opens cast e name (Number n) place f h = cc
case_quote-finish opens cast e name (Sign sign.DoubleQuote) place f h = cc
case_quote-finish opens cast e name (Sign symbol) place f h = cc
case_quote-finish opens cast e name (Taken w) place f h = cc
case_quote-finish opens cast e name (Name n) place f h = cc

case_end-finish : (opens : List Open) (cast : Place) (e : Expr) (name : List ℕ) (m : Meaning) (place : Place) (f : Expr) → step opens (CaseEnd cast e name) m place ≡ Finish f → ⊥
unfolding step
case_end-finish opens cast e name (Number n) place f h = cc
case_end-finish opens cast e name (Sign sign.RightParenthesis) place f h = cc
case_end-finish opens cast e name (Sign symbol) place f h = cc
case_end-finish opens cast e name (Taken w) place f h = cc
case_end-finish opens cast e name (Name n) place f h = cc

pub finish-quote : (opens : List Open) (mode : Mode) (m : Meaning) (place : Place) (f : Expr) → step opens mode m place ≡ Finish f → m ≡ Sign sign.Quote
finish-quote opens Operand m place f h = absurd (operand-finish opens m place f h)
finish-quote opens (Behind e) m place f h = behind-halts opens e m place f h
finish-quote opens (Opening o) m place f h = absurd (opening-finish opens o m place f h)
finish-quote opens (Path dot e) m place f h = absurd (path-finish opens dot e m place f h)
finish-quote opens (CaseName cast e) m place f h = absurd (case_name-finish opens cast e m place f h)
finish-quote opens (CaseQuoted cast e) m place f h = absurd (case_quoted-finish opens cast e m place f h)
finish-quote opens (CaseQuote cast e name) m place f h = absurd (case_quote-finish opens cast e name m place f h)
finish-quote opens (CaseEnd cast e name) m place f h = absurd (case_end-finish opens cast e name m place f h)

-- ---- names stop it alike

let-through : (b : Bool) (o : List Open) (m : Mode) (other : Move) → b ≡ false → cond b Halt (Go o m) ≡ Halt → other ≡ Halt
let-through true o m other f h = absurd (cc)
let-through false o m other f h = absurd (cc)

-- where a name may not stand, none may
pub name-halts : (opens : List Open) (mode : Mode) (w : List ℕ) (place : Place) → step opens mode (Name w) place ≡ Halt → bytes_eq w static_call ≡ false
    → (other : List ℕ) (place' : Place) → step opens mode (Name other) place' ≡ Halt
unfolding step
name-halts opens Operand w place h f other place' = let-through (bytes_eq w static_call) _ _ _ f h
name-halts opens (Behind e) w place h f other place' = refl
name-halts opens (Opening o) w place h f other place' = refl
name-halts opens (Path dot e) w place h f other place' = let-through (bytes_eq w static_call) _ _ _ f h
name-halts opens (CaseName cast e) w place h f other place' = let-through (bytes_eq w static_call) _ _ _ f h
name-halts opens (CaseQuoted cast e) w place h f other place' = let-through (bytes_eq w static_call) _ _ _ f h
name-halts opens (CaseQuote cast e name) w place h f other place' = refl
name-halts opens (CaseEnd cast e name) w place h f other place' = refl

-- no type stands in an expression
pub bit-halts : (opens : List Open) (mode : Mode) (place : Place) → step opens mode (Taken word.Bit) place ≡ Halt
unfolding step
bit-halts opens Operand place = refl
bit-halts opens (Behind e) place = refl
bit-halts opens (Opening o) place = refl
bit-halts opens (Path dot e) place = refl
bit-halts opens (CaseName cast e) place = refl
bit-halts opens (CaseQuoted cast e) place = refl
bit-halts opens (CaseQuote cast e name) place = refl
bit-halts opens (CaseEnd cast e name) place = refl

-- ---- at a stop

-- a lexeme that stops it wherever the first one does stops it there
pub halts-alike : {limit : ℕ} {opens : List Open} {mode : Mode} {front rest : List Lexeme} {x : Lexeme} {why : ParseWhy}
    → Stuck limit opens mode front (x ∷ rest) why → (why ≡ TooDeep → ⊥) → (y : Lexeme)
    → ((o : List Open) (m : Mode) → step o m (meaning x) x.place ≡ Halt → step o m (meaning y) y.place ≡ Halt)
    → (more : List Lexeme) → read limit opens mode (front ++ y ∷ more) ≡ Err (halted (why_of (meaning y)) (y ∷ more))
halts-alike {limit} {opens} {mode} (stopped moves) flat y alike more = read-stop limit opens mode y more (alike opens mode moves)
halts-alike (deep moves past) flat y alike more = absurd (flat refl)
halts-alike {limit} {opens} {mode} (on {opens'} {mode'} {x = z} moves fits later) flat y alike more =
    read-go limit opens mode z _ opens' mode' moves fits ∙ halts-alike later flat y alike more

name-left-out : (b : Bool) → cond b LeftOut Unexpected ≡ LeftOut → b ≡ true
name-left-out true e = refl
name-left-out false e = cc

name-unexpected : (b : Bool) → cond b LeftOut Unexpected ≡ Unexpected → b ≡ false
name-unexpected true e = cc
name-unexpected false e = refl

pub why-call : (m : Meaning) → why_of m ≡ LeftOut → m ≡ Name static_call
why-call (Name spelt) e = ap Name ((bytes_eq-Decides spelt static_call).0 (name-left-out (bytes_eq spelt static_call) e))
why-call (Number n) e = cc
why-call (Sign symbol) e = cc
why-call (Taken w) e = cc

pub why-name : (w : List ℕ) → why_of (Name w) ≡ Unexpected → bytes_eq w static_call ≡ false
why-name w e = name-unexpected (bytes_eq w static_call) e

pub call-left-out : why_of (Name static_call) ≡ LeftOut
call-left-out = refl

never-name : (b : Bool) → cond b LeftOut Unexpected ≡ EndOfText → ⊥
never-name true e = cc
never-name false e = cc

pub never-end : (m : Meaning) → why_of m ≡ EndOfText → ⊥
never-end (Name n) e = never-name (bytes_eq n static_call) e
never-end (Number n) e = cc
never-end (Taken w) e = cc
never-end (Sign s) e = cc
