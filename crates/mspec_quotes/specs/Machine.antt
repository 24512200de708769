-- How an expression is read, lexeme by lexeme. The grammar says what it is; this says what is kept of the lexemes so far.
use Rattle.std.specs.Prelude.{ℕ, suc, max, Bool, true, false, cond, List, [], ◌∷◌, Option, Some, None, Result, Ok, Err, nat_le}
use Rattle.std.specs.Str.{bytes_eq}
use Rattle.mspec_tree.specs.declared.words.Place.{Place}
use Rattle.mspec_tree.specs.declared.words.Op.{Op}
use Rattle.mspec_tree.specs.declared.words.Op.TheVariants as op
use Rattle.mspec_tree.specs.declared.words.Lit.TheVariants.{Num, Flag}
use Rattle.mspec_tree.specs.declared.exprs.Expr.{Expr, roll-Expr}
use Rattle.mspec_tree.specs.declared.exprs.Shape.{Shape}
use Rattle.mspec_tree.specs.declared.exprs.Shape.TheVariants as shape
use Rattle.mspec_tree.specs.Depth.{depth}
use Rattle.mspec_lexer.specs.Lexemes.{Lexeme}
use Rattle.mspec_lexer.specs.declared.tokens.Symbol.{Symbol}
use Rattle.mspec_lexer.specs.declared.tokens.Symbol.TheVariants as sign
use Rattle.mspec_grammar.specs.declared.faults.ParseWhy.{ParseWhy}
use Rattle.mspec_grammar.specs.declared.faults.ParseWhy.TheVariants.{Unexpected, EndOfText, LeftOut, TooDeep}
use Rattle.mspec_grammar.specs.declared.words.Word.{Word}
use Rattle.mspec_grammar.specs.declared.words.Word.TheVariants as word
use Rattle.mspec_grammar.specs.Meanings.{Meaning, meaning, Number, Sign, Taken, Name, static_call}
use Rattle.mspec_grammar.specs.Expressions.{strength}
use Rattle.mspec_quotes.specs.declared.pending.Open.{Open}
use Rattle.mspec_quotes.specs.declared.pending.Open.TheVariants.{Parenthesis, Count, Cast, Not, Neg, Left, Condition, Otherwise}

-- ---- what is to come

pub data Mode : Type 0 where
  -- an operand
  Operand : Mode
  -- behind this expression: an operator, or what closes it
  Behind : Expr → Mode
  -- behind COUNT or CAST: its parenthesis
  Opening : Open → Mode
  -- behind the dot at this place: a name, or lengthInBytes
  Path : Place → Expr → Mode
  -- in the CAST at this place: behind the comma, the first double quote, the name, and the last double quote or bare name
  CaseName : Place → Expr → Mode
  CaseQuoted : Place → Expr → Mode
  CaseQuote : Place → Expr → List ℕ → Mode
  CaseEnd : Place → Expr → List ℕ → Mode

pub data Move : Type 0 where
  Go : List Open → Mode → Move
  Finish : Expr → Move
  Stop : Move

abbrev pub made : Place → Shape → Expr
made place form = roll-Expr (record { place = place; shape = form })

-- ---- closing

-- whether something that binds with strength k closes it
abbrev pub closes : ℕ → Open → Bool
closes k Parenthesis = false
closes k (Count place) = false
closes k (Cast place) = false
closes k (Not place) = true
closes k (Neg place) = true
closes k (Left place operator a) = nat_le k (strength operator)
closes k (Condition place c) = false
closes k (Otherwise place c a) = nat_le k 0

-- the expression that it becomes with its last operand
abbrev pub closed_by : Open → Expr → Expr
closed_by Parenthesis e = e
closed_by (Count place) e = made place (shape.Count e)
closed_by (Cast place) e = e
closed_by (Not place) e = made place (shape.Not e)
closed_by (Neg place) e = made place (shape.Neg e)
closed_by (Left place operator a) e = made place (shape.Two operator a e)
closed_by (Condition place c) e = e
closed_by (Otherwise place c a) e = made place (shape.If c a e)

pub record Closed : Type 0 where
  pub opens : List Open
  pub operand : Expr

-- all that something of this strength closes, from the innermost on
abbrev pub closed : ℕ → List Open → Expr → Closed
closed k [] e = record { opens = []; operand = e }
closed k (o ∷ opens) e = cond (closes k o) (closed k opens (closed_by o e)) (record { opens = o ∷ opens; operand = e })

-- ---- one lexeme

abbrev pub operator_of : Symbol → Option Op
operator_of sign.DoubleBar = Some op.Or
operator_of sign.DoubleAmpersand = Some op.And
operator_of sign.Bar = Some op.BitOr
operator_of sign.Ampersand = Some op.BitAnd
operator_of sign.DoubleEqual = Some op.Eq
operator_of sign.NotEqual = Some op.Ne
operator_of sign.Less = Some op.Lt
operator_of sign.LessEqual = Some op.Le
operator_of sign.Greater = Some op.Gt
operator_of sign.GreaterEqual = Some op.Ge
operator_of sign.DoubleLess = Some op.Shl
operator_of sign.DoubleGreater = Some op.Shr
operator_of sign.Plus = Some op.Add
operator_of sign.Minus = Some op.Sub
operator_of sign.Star = Some op.Mul
operator_of sign.Slash = Some op.Div
operator_of sign.Percent = Some op.Rem
operator_of other = None

abbrev pub strength_or_0 : Option Op → ℕ
strength_or_0 None = 0
strength_or_0 (Some operator) = strength operator

-- how tightly what begins with the symbol binds, behind an operand
abbrev pub bound : Symbol → ℕ
bound sign.Question = 1
bound other = strength_or_0 (operator_of other)

abbrev pub with_operator : Option Op → Place → List Open → Expr → Move
with_operator None place opens e = Stop
with_operator (Some operator) place opens e = Go (Left place operator e ∷ opens) Operand

abbrev pub at_colon : List Open → Expr → Move
at_colon (Condition place c ∷ opens) e = Go (Otherwise place c e ∷ opens) Operand
at_colon other e = Stop

abbrev pub at_parenthesis : List Open → Expr → Move
at_parenthesis (Parenthesis ∷ opens) e = Go opens (Behind e)
at_parenthesis (Count place ∷ opens) e = Go opens (Behind (made place (shape.Count e)))
at_parenthesis other e = Stop

abbrev pub at_comma : List Open → Expr → Move
at_comma (Cast place ∷ opens) e = Go opens (CaseName place e)
at_comma other e = Stop

abbrev pub at_quote : List Open → Expr → Move
at_quote [] e = Finish e
at_quote other e = Stop

-- behind an operand with which all is closed that the symbol closes
abbrev pub behind_closed : Symbol → Place → List Open → Expr → Move
behind_closed sign.Question place opens e = Go (Condition place e ∷ opens) Operand
behind_closed sign.Colon place opens e = at_colon opens e
behind_closed sign.RightParenthesis place opens e = at_parenthesis opens e
behind_closed sign.Comma place opens e = at_comma opens e
behind_closed sign.Quote place opens e = at_quote opens e
behind_closed other place opens e = with_operator (operator_of other) place opens e

abbrev pub behind : Symbol → Place → List Open → Expr → Move
behind sign.Dot place opens e = Go opens (Path place e)
behind other place opens e = behind_closed other place (closed (bound other) opens e).opens (closed (bound other) opens e).operand

abbrev pub operand_sign : Symbol → Place → List Open → Move
operand_sign sign.LeftParenthesis place opens = Go (Parenthesis ∷ opens) Operand
operand_sign sign.Exclamation place opens = Go (Not place ∷ opens) Operand
operand_sign sign.Minus place opens = Go (Neg place ∷ opens) Operand
operand_sign other place opens = Stop

abbrev pub operand_word : Word → Place → List Open → Move
operand_word word.True place opens = Go opens (Behind (made place (shape.Lit (Flag true))))
operand_word word.False place opens = Go opens (Behind (made place (shape.Lit (Flag false))))
operand_word word.Null place opens = Go opens (Behind (made place shape.Null))
operand_word word.CurPos place opens = Go opens (Behind (made place shape.CurPos))
operand_word word.LengthInBytes place opens = Go opens (Behind (made place shape.Length))
operand_word word.LastItem place opens = Go opens (Behind (made place shape.LastItem))
operand_word word.SumBytes place opens = Go opens (Behind (made place shape.SumBytes))
operand_word word.XorBytes place opens = Go opens (Behind (made place shape.XorBytes))
operand_word word.Count place opens = Go opens (Opening (Count place))
operand_word word.Cast place opens = Go opens (Opening (Cast place))
operand_word other place opens = Stop

-- the move that a name makes, unless it is the word that is left out
abbrev pub unless_left_out : List ℕ → Move → Move
unless_left_out name move = cond (bytes_eq name static_call) Stop move

unfoldable pub step : List Open → Mode → Meaning → Place → Move
step opens Operand (Number n) place = Go opens (Behind (made place (shape.Lit (Num false n))))
step opens Operand (Sign symbol) place = operand_sign symbol place opens
step opens Operand (Taken word) place = operand_word word place opens
step opens Operand (Name name) place = unless_left_out name (Go opens (Behind (made place (shape.Name name))))
step opens (Behind e) (Sign symbol) place = behind symbol place opens e
step opens (Opening open_) (Sign sign.LeftParenthesis) place = Go (open_ ∷ opens) Operand
step opens (Path dot e) (Name name) place = unless_left_out name (Go opens (Behind (made dot (shape.Dot e name))))
step opens (Path dot e) (Taken word.LengthInBytes) place = Go opens (Behind (made dot (shape.LengthOf e)))
step opens (CaseName cast e) (Name name) place = unless_left_out name (Go opens (CaseEnd cast e name))
step opens (CaseName cast e) (Sign sign.DoubleQuote) place = Go opens (CaseQuoted cast e)
step opens (CaseQuoted cast e) (Name name) place = unless_left_out name (Go opens (CaseQuote cast e name))
step opens (CaseQuote cast e name) (Sign sign.DoubleQuote) place = Go opens (CaseEnd cast e name)
step opens (CaseEnd cast e name) (Sign sign.RightParenthesis) place = Go opens (Behind (made cast (shape.Cast e name)))
step opens mode other place = Stop

-- ---- depth

-- how deep the whole is at least, with an operand of this depth to come
abbrev pub whole : List Open → ℕ → ℕ
whole [] d = d
whole (Parenthesis ∷ opens) d = whole opens d
whole (Count place ∷ opens) d = whole opens (suc d)
whole (Cast place ∷ opens) d = whole opens (suc d)
whole (Not place ∷ opens) d = whole opens (suc d)
whole (Neg place ∷ opens) d = whole opens (suc d)
whole (Left place operator a ∷ opens) d = whole opens (suc (max (depth a) d))
whole (Condition place c ∷ opens) d = whole opens (suc (max (depth c) (max d 1)))
whole (Otherwise place c a ∷ opens) d = whole opens (suc (max (depth c) (max (depth a) d)))

abbrev pub least : List Open → Mode → ℕ
least opens Operand = whole opens 1
least opens (Behind e) = whole opens (depth e)
least opens (Opening open_) = whole (open_ ∷ opens) 1
least opens (Path dot e) = whole opens (suc (depth e))
least opens (CaseName cast e) = whole opens (suc (depth e))
least opens (CaseQuoted cast e) = whole opens (suc (depth e))
least opens (CaseQuote cast e name) = whole opens (suc (depth e))
least opens (CaseEnd cast e name) = whole opens (suc (depth e))

-- ---- all lexemes

pub record Stopped : Type 0 where
  pub why : ParseWhy
  pub at : List Lexeme

-- why a lexeme with which nothing goes on does not
abbrev pub why_of : Meaning → ParseWhy
why_of (Name name) = cond (bytes_eq name static_call) LeftOut Unexpected
why_of other = Unexpected

-- what follows a move with the lexeme x, if what the rest gives goes on from there
abbrev pub then : ℕ → Lexeme → List Lexeme → (List Open → Mode → Result (Expr × List Lexeme) Stopped) → Move → Result (Expr × List Lexeme) Stopped
then limit x rest on (Go opens mode) =
    cond (nat_le (least opens mode) limit) (on opens mode) (Err (record { why = TooDeep; at = x ∷ rest }))
then limit x rest on (Finish e) = Ok (e, rest)
then limit x rest on Stop = Err (record { why = why_of (meaning x); at = x ∷ rest })

-- the expression behind its opening quote, and what follows its closing one; or where reading stops, and why
abbrev pub read : ℕ → List Open → Mode → List Lexeme → Result (Expr × List Lexeme) Stopped
read limit opens mode [] = Err (record { why = EndOfText; at = [] })
read limit opens mode (x ∷ rest) = then limit x rest (λ opens mode. read limit opens mode rest) (step opens mode (meaning x) x.place)

-- the opening quote, and what is read behind it
abbrev pub behind_quote : ℕ → Meaning → Lexeme → List Lexeme → Result (Expr × List Lexeme) Stopped
behind_quote limit (Sign sign.Quote) x rest = read limit [] Operand rest
behind_quote limit other x rest = Err (record { why = Unexpected; at = x ∷ rest })

-- An expression in quotes, and what follows it; or where it stops, and why.
abbrev pub read_quoted : ℕ → List Lexeme → Result (Expr × List Lexeme) Stopped
read_quoted limit [] = Err (record { why = EndOfText; at = [] })
read_quoted limit (x ∷ rest) = behind_quote limit (meaning x) x rest
