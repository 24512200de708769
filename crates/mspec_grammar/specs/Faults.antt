-- Where lexemes leave the grammar, and why.
use Rattle.std.specs.Prelude.{ℕ, ◌≡◌, ◌⊎◌, true, ◌++◌, List, [], ◌∷◌, codes}
use Rattle.std.specs.List.{AllByRecursion}
use Rattle.mspec_tree.specs.declared.defs.Description.{Description}
use Rattle.mspec_tree.specs.declared.exprs.Expr.{Expr}
use Rattle.mspec_tree.specs.Depth.{depth_limit}
use Rattle.mspec_tree.specs.Form.{left_out_types, is_one_of}
use Rattle.mspec_lexer.specs.Lexemes.{Lexeme}
use Rattle.mspec_lexer.specs.declared.tokens.Symbol.TheVariants as sign
use Rattle.mspec_grammar.specs.declared.faults.ParseWhy.{ParseWhy}
use Rattle.mspec_grammar.specs.declared.faults.ParseWhy.TheVariants.{Unexpected, EndOfText, LeftOut, TooDeep}
use Rattle.mspec_grammar.specs.declared.words.Word.TheVariants as word
use Rattle.mspec_grammar.specs.Meanings.{meaning, Sign, Taken, Name, static_call}
use Rattle.mspec_grammar.specs.Expressions.{Quoted}
use Rattle.mspec_grammar.specs.Trees.{Tree}

-- a language by how deep its expressions may be
abbrev pub Language : Type 1
Language = (limit : ℕ) → List Lexeme → Type 0

-- with some further lexemes it is a text of the language
abbrev pub Begins : Language → ℕ → List Lexeme → Type 0
Begins L limit front = (more : List Lexeme) × L limit (front ++ more)

-- Why a lexeme that goes on with no text of the language does not: its word is left out, or only for depth, or neither.
abbrev pub HasWhy : Language → (List Lexeme → Lexeme → Type 0) → List Lexeme → Lexeme → ParseWhy → Type 0
HasWhy L LeavesOut front x TooDeep = (limit : ℕ) × Begins L limit (front ++ x ∷ [])
HasWhy L LeavesOut front x LeftOut = ((limit : ℕ) → Begins L limit (front ++ x ∷ []) → ⊥) × LeavesOut front x
HasWhy L LeavesOut front x Unexpected = ((limit : ℕ) → Begins L limit (front ++ x ∷ []) → ⊥) × (LeavesOut front x → ⊥)
HasWhy L LeavesOut front x EndOfText = ⊥

-- What was read begins a text of the language. With the lexeme at the fault, whatever follows it, it begins none.
abbrev pub IsFault : Language → (List Lexeme → Lexeme → Type 0) → (front at : List Lexeme) → ParseWhy → Type 0
IsFault L LeavesOut front [] why = Begins L depth_limit front × (L depth_limit front → ⊥) × (why ≡ EndOfText)
IsFault L LeavesOut front (x ∷ rest) why =
    Begins L depth_limit front
    × (Begins L depth_limit (front ++ x ∷ []) → ⊥)
    × HasWhy L LeavesOut front x why

-- The lexemes leave the language with the first of these, and why.
pub record Leaves (L : Language) (LeavesOut : List Lexeme → Lexeme → Type 0) (from at : List Lexeme) (why : ParseWhy) : Type 0 where
  pub front : List Lexeme
  pub whole : from ≡ front ++ at
  pub fault : IsFault L LeavesOut front at why

-- ---- expressions in quotes

abbrev pub IsQuote : Language
IsQuote limit xs = (e : Expr) × Quoted limit xs e []

-- inside quotes this word is left out wherever it stands
abbrev pub LeavesCall : List Lexeme → Lexeme → Type 0
LeavesCall front x = (meaning x ≡ Name static_call) × ((front ≡ []) → ⊥)

-- ---- descriptions

abbrev pub IsText : Language
IsText limit xs = (d : Description) × Tree limit xs d

-- a lexeme with this meaning might stand there
abbrev pub MightStand : List Lexeme → (Lexeme → Type 0) → Type 0
MightStand front Is = (y : Lexeme) × Is y × Begins IsText depth_limit (front ++ y ∷ [])

abbrev pub left_out_fields : List (List ℕ)
left_out_fields =
    codes "manual" ∷ codes "manualArray" ∷ codes "abstract" ∷ codes "batchSet" ∷ codes "state" ∷ codes "unknown"
    ∷ codes "validation" ∷ codes "peek" ∷ codes "assert" ∷ []

-- the lexeme is one of these words
abbrev pub IsOneOf : List (List ℕ) → Lexeme → Type 0
IsOneOf words x = (w : List ℕ) × (meaning x ≡ Name w) × (is_one_of words w ≡ true)

-- the expression's opening quote stands in front of these lexemes, and no closing one among them
pub record IsInQuotes (front : List Lexeme) : Type 0 where
  pub before : List Lexeme
  pub inside : List Lexeme
  pub quote : Lexeme
  pub whole : front ≡ before ++ quote ∷ inside
  pub is_quote : meaning quote ≡ Sign sign.Quote
  pub unclosed : AllByRecursion (λ x. meaning x ≡ Sign sign.Quote → ⊥) inside
  -- a parenthesis might follow the quote, so it is an expression's
  pub of_expression : MightStand (before ++ quote ∷ []) (λ y. meaning y ≡ Sign sign.LeftParenthesis)

-- the words that are left out, each where a certain other word might stand
abbrev pub LeavesOut : List Lexeme → Lexeme → Type 0
LeavesOut front x =
    (IsOneOf left_out_fields x × MightStand front (λ y. meaning y ≡ Name (codes "simple")))
    ⊎ ((IsOneOf left_out_types x × MightStand front (λ y. meaning y ≡ Taken word.Bit))
    ⊎ ((IsOneOf (codes "terminated" ∷ []) x × MightStand front (λ y. meaning y ≡ Name (codes "count")))
    ⊎ ((meaning x ≡ Name static_call) × IsInQuotes front)))

-- the lexemes are no description: with the first of these they leave the grammar, and why
abbrev pub IsRefused : (from at : List Lexeme) → ParseWhy → Type 0
IsRefused from at why = Leaves IsText LeavesOut from at why
