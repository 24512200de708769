-- The smaller parts of a description: literals, types, parameters, byte orders.
use Rattle.std.specs.Prelude.{ℕ, ◌≡◌, true, false, List, [], ◌∷◌, codes, Option, Some, None, nat_lt, if◌then◌else◌}
use Rattle.mspec_tree.specs.declared.words.ByteOrder.{ByteOrder}
use Rattle.mspec_tree.specs.declared.words.ByteOrder.TheVariants.{Big, Little}
use Rattle.mspec_tree.specs.declared.words.Lit.{Lit}
use Rattle.mspec_tree.specs.declared.words.Lit.TheVariants.{Num, Flag}
use Rattle.mspec_tree.specs.declared.words.Key.{Key}
use Rattle.mspec_tree.specs.declared.words.Key.TheVariants as key
use Rattle.mspec_tree.specs.declared.words.Simple.{Simple}
use Rattle.mspec_tree.specs.declared.words.Simple.TheVariants.{Bit, Byte, Uint, Int, Float}
use Rattle.mspec_tree.specs.declared.exprs.Expr.{Expr}
use Rattle.mspec_tree.specs.declared.exprs.Ref.{Ref}
use Rattle.mspec_tree.specs.declared.exprs.Ref.TheVariants.{Plain, Named}
use Rattle.mspec_tree.specs.declared.defs.Param.{Param}
use Rattle.mspec_tree.specs.declared.defs.Constant.{Constant}
use Rattle.mspec_tree.specs.Form.{left_out_types, is_one_of}
use Rattle.mspec_lexer.specs.Lexemes.{Lexeme}
use Rattle.mspec_lexer.specs.declared.tokens.Symbol.TheVariants as sign
use Rattle.mspec_grammar.specs.declared.words.Word.TheVariants as word
use Rattle.mspec_grammar.specs.Meanings.{meaning, Number, Sign, Taken, Name}
use Rattle.mspec_grammar.specs.Expressions.{Quoted}

-- ---- lists

-- any number of parts, one behind another
pub data Many {A : Type 0} (Part : List Lexeme → A → List Lexeme → Type 0) : List Lexeme → List A → List Lexeme → Type 0 where
  none : {rest : List Lexeme} → Many Part rest [] rest
  more : {from mid rest : List Lexeme} {a : A} {parts : List A} → Part from a mid → Many Part mid parts rest → Many Part from (a ∷ parts) rest

-- parts with commas between them, one at least
pub data Listed {A : Type 0} (Part : List Lexeme → A → List Lexeme → Type 0) : List Lexeme → List A → List Lexeme → Type 0 where
  last : {from rest : List Lexeme} {a : A} → Part from a rest → Listed Part from (a ∷ []) rest
  more : {from mid rest : List Lexeme} {comma : Lexeme} {a : A} {parts : List A}
      → Part from a (comma ∷ mid) → meaning comma ≡ Sign sign.Comma → Listed Part mid parts rest → Listed Part from (a ∷ parts) rest

pub data IsNamed : List Lexeme → List ℕ → List Lexeme → Type 0 where
  named : {x : Lexeme} {rest : List Lexeme} {name : List ℕ} → meaning x ≡ Name name → IsNamed (x ∷ rest) name rest

-- ---- literals

pub data IsLit : List Lexeme → Lit → List Lexeme → Type 0 where
  number : {x : Lexeme} {rest : List Lexeme} {n : ℕ} → meaning x ≡ Number n → IsLit (x ∷ rest) (Num false n) rest
  negative : {minus x : Lexeme} {rest : List Lexeme} {n : ℕ}
      → meaning minus ≡ Sign sign.Minus → meaning x ≡ Number n → IsLit (minus ∷ x ∷ rest) (Num true n) rest
  yes : {x : Lexeme} {rest : List Lexeme} → meaning x ≡ Taken word.True → IsLit (x ∷ rest) (Flag true) rest
  no : {x : Lexeme} {rest : List Lexeme} → meaning x ≡ Taken word.False → IsLit (x ∷ rest) (Flag false) rest

pub data IsQuotedLit : List Lexeme → Lit → List Lexeme → Type 0 where
  quoted : {left right : Lexeme} {from rest : List Lexeme} {lit : Lit}
      → meaning left ≡ Sign sign.Quote → IsLit from lit (right ∷ rest) → meaning right ≡ Sign sign.Quote
      → IsQuotedLit (left ∷ from) lit rest

-- the literal of a const field, bare or in quotes
pub data IsConstLit : List Lexeme → Lit → List Lexeme → Type 0 where
  bare : {from rest : List Lexeme} {lit : Lit} → IsLit from lit rest → IsConstLit from lit rest
  quoted : {from rest : List Lexeme} {lit : Lit} → IsQuotedLit from lit rest → IsConstLit from lit rest

pub data IsKey : List Lexeme → Key → List Lexeme → Type 0 where
  any : {x : Lexeme} {rest : List Lexeme} → meaning x ≡ Sign sign.Star → IsKey (x ∷ rest) key.Any rest
  quoted_any : {left x right : Lexeme} {rest : List Lexeme}
      → meaning left ≡ Sign sign.Quote → meaning x ≡ Sign sign.Star → meaning right ≡ Sign sign.Quote
      → IsKey (left ∷ x ∷ right ∷ rest) key.Any rest
  literal : {from rest : List Lexeme} {lit : Lit} → IsQuotedLit from lit rest → IsKey from (key.Lit lit) rest
  constant : {left x right : Lexeme} {rest : List Lexeme} {name : List ℕ}
      → meaning left ≡ Sign sign.Quote → meaning x ≡ Name name → meaning right ≡ Sign sign.Quote
      → IsKey (left ∷ x ∷ right ∷ rest) (key.Constant name) rest

-- ---- types

-- a width above 255 stands as 255, which no field may have
abbrev pub width : ℕ → ℕ
width n = if nat_lt n 256 then n else 255

pub data IsSimple : List Lexeme → Simple → List Lexeme → Type 0 where
  bit : {x : Lexeme} {rest : List Lexeme} → meaning x ≡ Taken word.Bit → IsSimple (x ∷ rest) Bit rest
  byte : {x : Lexeme} {rest : List Lexeme} → meaning x ≡ Taken word.Byte → IsSimple (x ∷ rest) Byte rest
  uint : {x y : Lexeme} {rest : List Lexeme} {n : ℕ} → meaning x ≡ Taken word.Uint → meaning y ≡ Number n → IsSimple (x ∷ y ∷ rest) (Uint (width n)) rest
  int : {x y : Lexeme} {rest : List Lexeme} {n : ℕ} → meaning x ≡ Taken word.Int → meaning y ≡ Number n → IsSimple (x ∷ y ∷ rest) (Int (width n)) rest
  float : {x y : Lexeme} {rest : List Lexeme} {n : ℕ} → meaning x ≡ Taken word.Float → meaning y ≡ Number n → IsSimple (x ∷ y ∷ rest) (Float (width n)) rest

-- the types that are left out are no names where a type may stand
abbrev pub IsTypeName : Lexeme → List ℕ → Type 0
IsTypeName x name = (meaning x ≡ Name name) × (is_one_of left_out_types name ≡ false)

-- a type without arguments
pub data IsKind : List Lexeme → Ref → List Lexeme → Type 0 where
  plain : {from rest : List Lexeme} {simple : Simple} → IsSimple from simple rest → IsKind from (Plain simple) rest
  named : {x : Lexeme} {rest : List Lexeme} {name : List ℕ} → IsTypeName x name → IsKind (x ∷ rest) (Named x.place name []) rest

pub data IsRef (limit : ℕ) : List Lexeme → Ref → List Lexeme → Type 0 where
  kind : {from rest : List Lexeme} {ref : Ref} → IsKind from ref rest → IsRef limit from ref rest
  arguments : {x left right : Lexeme} {from rest : List Lexeme} {name : List ℕ} {args : List Expr}
      → IsTypeName x name
      → meaning left ≡ Sign sign.LeftParenthesis → Listed (Quoted limit) from args (right ∷ rest) → meaning right ≡ Sign sign.RightParenthesis
      → IsRef limit (x ∷ left ∷ from) (Named x.place name args) rest

-- ---- parameters and byte orders

pub data IsParam : List Lexeme → Param → List Lexeme → Type 0 where
  param : {x : Lexeme} {from rest : List Lexeme} {kind : Ref} {name : List ℕ}
      → IsKind from kind (x ∷ rest) → meaning x ≡ Name name
      → IsParam from (record { place = x.place; kind = kind; name = name }) rest

pub data IsParams : List Lexeme → List Param → List Lexeme → Type 0 where
  none : {rest : List Lexeme} → IsParams rest [] rest
  some : {left right : Lexeme} {from rest : List Lexeme} {params : List Param}
      → meaning left ≡ Sign sign.LeftParenthesis → Listed IsParam from params (right ∷ rest) → meaning right ≡ Sign sign.RightParenthesis
      → IsParams (left ∷ from) params rest

abbrev pub order_name : ByteOrder → List ℕ
order_name Big = codes "BIG_ENDIAN"
order_name Little = codes "LITTLE_ENDIAN"

pub data IsOrder : List Lexeme → Option ByteOrder → List Lexeme → Type 0 where
  none : {rest : List Lexeme} → IsOrder rest None rest
  given : {x equal left y right : Lexeme} {rest : List Lexeme} {order : ByteOrder}
      → meaning x ≡ Name (codes "byteOrder") → meaning equal ≡ Sign sign.Equal
      → meaning left ≡ Sign sign.Quote → meaning y ≡ Name (order_name order) → meaning right ≡ Sign sign.Quote
      → IsOrder (x ∷ equal ∷ left ∷ y ∷ right ∷ rest) (Some order) rest

-- ---- constants

pub data IsAttributes : List Lexeme → List Lit → List Lexeme → Type 0 where
  none : {rest : List Lexeme} → IsAttributes rest [] rest
  some : {left right : Lexeme} {from rest : List Lexeme} {lits : List Lit}
      → meaning left ≡ Sign sign.LeftBracket → Listed IsQuotedLit from lits (right ∷ rest) → meaning right ≡ Sign sign.RightBracket
      → IsAttributes (left ∷ from) lits rest

pub data IsConstant : List Lexeme → Constant → List Lexeme → Type 0 where
  constant : {left x right : Lexeme} {from behind rest : List Lexeme} {value : Lit} {name : List ℕ} {attrs : List Lit}
      → meaning left ≡ Sign sign.LeftBracket → IsQuotedLit from value (x ∷ behind) → meaning x ≡ Name name
      → IsAttributes behind attrs (right ∷ rest) → meaning right ≡ Sign sign.RightBracket
      → IsConstant (left ∷ from) (record { place = x.place; value = value; name = name; attrs = attrs }) rest
