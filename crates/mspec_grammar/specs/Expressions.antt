-- Expressions in quotes.
use Rattle.std.specs.Prelude.{ℕ, suc, ◌≡◌, ◌≢◌, ◌<◌, ◌≤◌, List, ◌∷◌, true, false}
use Rattle.mspec_tree.specs.declared.words.Op.{Op}
use Rattle.mspec_tree.specs.declared.words.Op.TheVariants as op
use Rattle.mspec_tree.specs.declared.words.Lit.TheVariants.{Num, Flag}
use Rattle.mspec_tree.specs.declared.exprs.Expr.{Expr, roll-Expr}
use Rattle.mspec_tree.specs.declared.exprs.Shape.{Shape}
use Rattle.mspec_tree.specs.declared.exprs.Shape.TheVariants as shape
use Rattle.mspec_tree.specs.Depth.{depth}
use Rattle.mspec_lexer.specs.Lexemes.{Lexeme}
use Rattle.mspec_lexer.specs.declared.tokens.Symbol.{Symbol}
use Rattle.mspec_lexer.specs.declared.tokens.Symbol.TheVariants as sign
use Rattle.mspec_grammar.specs.declared.words.Word.TheVariants as word
use Rattle.mspec_grammar.specs.Meanings.{meaning, Number, Sign, Taken, Name, static_call}

-- ---- strength

-- how tightly an operator binds, from 1 on
abbrev pub strength : Op → ℕ
strength op.Or = 1
strength op.And = 2
strength op.BitOr = 3
strength op.BitAnd = 4
strength op.Eq = 5
strength op.Ne = 5
strength op.Lt = 6
strength op.Le = 6
strength op.Gt = 6
strength op.Ge = 6
strength op.Shl = 7
strength op.Shr = 7
strength op.Add = 8
strength op.Sub = 8
strength op.Mul = 9
strength op.Div = 9
strength op.Rem = 9

abbrev pub operator_sign : Op → Symbol
operator_sign op.Or = sign.DoubleBar
operator_sign op.And = sign.DoubleAmpersand
operator_sign op.BitOr = sign.Bar
operator_sign op.BitAnd = sign.Ampersand
operator_sign op.Eq = sign.DoubleEqual
operator_sign op.Ne = sign.NotEqual
operator_sign op.Lt = sign.Less
operator_sign op.Le = sign.LessEqual
operator_sign op.Gt = sign.Greater
operator_sign op.Ge = sign.GreaterEqual
operator_sign op.Shl = sign.DoubleLess
operator_sign op.Shr = sign.DoubleGreater
operator_sign op.Add = sign.Plus
operator_sign op.Sub = sign.Minus
operator_sign op.Mul = sign.Star
operator_sign op.Div = sign.Slash
operator_sign op.Rem = sign.Percent

-- ---- expressions

-- the expression of this shape, whose place is the lexeme's
abbrev pub at : Lexeme → Shape → Expr
at x form = roll-Expr (record { place = x.place; shape = form })

-- the lexeme is a name that an expression may have
abbrev pub IsFree : Lexeme → List ℕ → Type 0
IsFree x name = (meaning x ≡ Name name) × (name ≢ static_call)

-- a bare name, or one between double quotes
pub data CaseName : List Lexeme → List ℕ → List Lexeme → Type 0 where
  bare : {x : Lexeme} {rest : List Lexeme} {name : List ℕ} → IsFree x name → CaseName (x ∷ rest) name rest
  quoted : {left x right : Lexeme} {rest : List Lexeme} {name : List ℕ}
      → meaning left ≡ Sign sign.DoubleQuote → IsFree x name → meaning right ≡ Sign sign.DoubleQuote
      → CaseName (left ∷ x ∷ right ∷ rest) name rest

-- At the front of the lexemes stands an expression that binds at least this tightly, and the rest follows it. Conditions
-- have strength 0, two-sided operators 1 to 9, prefixes 10, paths and what has no operand beside it 11.
pub data Stands : ℕ → List Lexeme → Expr → List Lexeme → Type 0 where
  -- what binds more tightly may stand where something weaker may
  tighter : {l : ℕ} {from rest : List Lexeme} {e : Expr} → l < 11 → Stands (suc l) from e rest → Stands l from e rest
  condition : {from first second rest : List Lexeme} {question colon : Lexeme} {c a b : Expr}
      → Stands 1 from c (question ∷ first) → meaning question ≡ Sign sign.Question
      → Stands 0 first a (colon ∷ second) → meaning colon ≡ Sign sign.Colon
      → Stands 0 second b rest
      → Stands 0 from (at question (shape.If c a b)) rest
  -- to the left
  two : {l : ℕ} {from second rest : List Lexeme} {x : Lexeme} {operator : Op} {a b : Expr}
      → l ≡ strength operator
      → Stands l from a (x ∷ second) → meaning x ≡ Sign (operator_sign operator)
      → Stands (suc l) second b rest
      → Stands l from (at x (shape.Two operator a b)) rest
  negation : {x : Lexeme} {from rest : List Lexeme} {e : Expr}
      → meaning x ≡ Sign sign.Exclamation → Stands 10 from e rest → Stands 10 (x ∷ from) (at x (shape.Not e)) rest
  minus : {x : Lexeme} {from rest : List Lexeme} {e : Expr}
      → meaning x ≡ Sign sign.Minus → Stands 10 from e rest → Stands 10 (x ∷ from) (at x (shape.Neg e)) rest
  path : {from rest : List Lexeme} {x named : Lexeme} {name : List ℕ} {e : Expr}
      → Stands 11 from e (x ∷ named ∷ rest) → meaning x ≡ Sign sign.Dot → IsFree named name
      → Stands 11 from (at x (shape.Dot e name)) rest
  length_of : {from rest : List Lexeme} {x named : Lexeme} {e : Expr}
      → Stands 11 from e (x ∷ named ∷ rest) → meaning x ≡ Sign sign.Dot → meaning named ≡ Taken word.LengthInBytes
      → Stands 11 from (at x (shape.LengthOf e)) rest
  number : {x : Lexeme} {rest : List Lexeme} {n : ℕ} → meaning x ≡ Number n → Stands 11 (x ∷ rest) (at x (shape.Lit (Num false n))) rest
  yes : {x : Lexeme} {rest : List Lexeme} → meaning x ≡ Taken word.True → Stands 11 (x ∷ rest) (at x (shape.Lit (Flag true))) rest
  no : {x : Lexeme} {rest : List Lexeme} → meaning x ≡ Taken word.False → Stands 11 (x ∷ rest) (at x (shape.Lit (Flag false))) rest
  null : {x : Lexeme} {rest : List Lexeme} → meaning x ≡ Taken word.Null → Stands 11 (x ∷ rest) (at x shape.Null) rest
  name : {x : Lexeme} {rest : List Lexeme} {name : List ℕ} → IsFree x name → Stands 11 (x ∷ rest) (at x (shape.Name name)) rest
  cur_pos : {x : Lexeme} {rest : List Lexeme} → meaning x ≡ Taken word.CurPos → Stands 11 (x ∷ rest) (at x shape.CurPos) rest
  length : {x : Lexeme} {rest : List Lexeme} → meaning x ≡ Taken word.LengthInBytes → Stands 11 (x ∷ rest) (at x shape.Length) rest
  last_item : {x : Lexeme} {rest : List Lexeme} → meaning x ≡ Taken word.LastItem → Stands 11 (x ∷ rest) (at x shape.LastItem) rest
  sum_bytes : {x : Lexeme} {rest : List Lexeme} → meaning x ≡ Taken word.SumBytes → Stands 11 (x ∷ rest) (at x shape.SumBytes) rest
  xor_bytes : {x : Lexeme} {rest : List Lexeme} → meaning x ≡ Taken word.XorBytes → Stands 11 (x ∷ rest) (at x shape.XorBytes) rest
  count : {x left right : Lexeme} {from rest : List Lexeme} {e : Expr}
      → meaning x ≡ Taken word.Count → meaning left ≡ Sign sign.LeftParenthesis
      → Stands 0 from e (right ∷ rest) → meaning right ≡ Sign sign.RightParenthesis
      → Stands 11 (x ∷ left ∷ from) (at x (shape.Count e)) rest
  cast : {x left comma right : Lexeme} {from behind rest : List Lexeme} {e : Expr} {name : List ℕ}
      → meaning x ≡ Taken word.Cast → meaning left ≡ Sign sign.LeftParenthesis
      → Stands 0 from e (comma ∷ behind) → meaning comma ≡ Sign sign.Comma
      → CaseName behind name (right ∷ rest) → meaning right ≡ Sign sign.RightParenthesis
      → Stands 11 (x ∷ left ∷ from) (at x (shape.Cast e name)) rest
  -- parentheses leave no trace
  grouped : {left right : Lexeme} {from rest : List Lexeme} {e : Expr}
      → meaning left ≡ Sign sign.LeftParenthesis
      → Stands 0 from e (right ∷ rest) → meaning right ≡ Sign sign.RightParenthesis
      → Stands 11 (left ∷ from) e rest

-- an expression in single quotes, at most this deep, stands at the front of the lexemes, and the rest follows it
pub data Quoted (limit : ℕ) : List Lexeme → Expr → List Lexeme → Type 0 where
  quoted : {left right : Lexeme} {from rest : List Lexeme} {e : Expr}
      → meaning left ≡ Sign sign.Quote
      → Stands 0 from e (right ∷ rest) → meaning right ≡ Sign sign.Quote
      → depth e ≤ limit
      → Quoted limit (left ∷ from) e rest
