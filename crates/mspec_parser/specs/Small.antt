-- Literals, keys, types, parameters, byte orders and constants as they are read.
use Rattle.std.specs.Prelude.{ℕ, Bool, true, false, cond, List, [], codes, Option, Some, None, Result, Ok, Err}
use Rattle.mspec_tree.specs.declared.words.Place.{Place}
use Rattle.mspec_tree.specs.declared.words.ByteOrder.{ByteOrder}
use Rattle.mspec_tree.specs.declared.words.Lit.{Lit}
use Rattle.mspec_tree.specs.declared.words.Lit.TheVariants.{Num, Flag}
use Rattle.mspec_tree.specs.declared.words.Key.{Key}
use Rattle.mspec_tree.specs.declared.words.Key.TheVariants as key
use Rattle.mspec_tree.specs.declared.words.Simple.{Simple}
use Rattle.mspec_tree.specs.declared.words.Simple.TheVariants as simple
use Rattle.mspec_tree.specs.declared.exprs.Expr.{Expr}
use Rattle.mspec_tree.specs.declared.exprs.Ref.{Ref}
use Rattle.mspec_tree.specs.declared.exprs.Ref.TheVariants.{Plain, Named}
use Rattle.mspec_tree.specs.declared.defs.Param.{Param}
use Rattle.mspec_tree.specs.declared.defs.Constant.{Constant}
use Rattle.mspec_tree.specs.Form.{left_out_types, is_one_of}
use Rattle.mspec_lexer.specs.Lexemes.{Lexeme}
use Rattle.mspec_lexer.specs.declared.tokens.Symbol.TheVariants as sign
use Rattle.mspec_grammar.specs.declared.faults.ParseWhy.{ParseWhy}
use Rattle.mspec_grammar.specs.declared.faults.ParseWhy.TheVariants.{Unexpected, LeftOut}
use Rattle.mspec_grammar.specs.declared.words.Word.{Word}
use Rattle.mspec_grammar.specs.declared.words.Word.TheVariants as word
use Rattle.mspec_grammar.specs.Meanings.{Meaning, Number, Sign, Taken, Name}
use Rattle.mspec_grammar.specs.Parts.{width}
use Rattle.mspec_quotes.specs.Machine.{read_quoted}
use Rattle.mspec_parser.specs.declared.words.Mark.TheVariants as mark
use Rattle.mspec_parser.specs.declared.words.LitStart.{LitStart}
use Rattle.mspec_parser.specs.declared.words.LitStart.TheVariants as start
use Rattle.mspec_parser.specs.Words.{order_word_of}
use Rattle.mspec_parser.specs.Readers.{Read, ◌>>=◌, one, begins_with, listed, is_mark, is_word, mark_at, word_at, name_at, number_at}

-- ---- literals and keys

abbrev pub or_unexpected : {A : Type 0} → Option A → Result A ParseWhy
or_unexpected (Some a) = Ok a
or_unexpected None = Err Unexpected

-- what a literal begins with
abbrev pub lit_start_of : Meaning → Option LitStart
lit_start_of (Number n) = Some (start.Whole (Num false n))
lit_start_of (Sign sign.Minus) = Some start.Minus
lit_start_of (Taken word.True) = Some (start.Whole (Flag true))
lit_start_of (Taken word.False) = Some (start.Whole (Flag false))
lit_start_of other = None

abbrev pub pick_lit : Meaning → Result LitStart ParseWhy
pick_lit m = or_unexpected (lit_start_of m)

abbrev pub lit_from : LitStart → List Lexeme → Read Lit
lit_from (start.Whole lit) xs = Ok (lit, xs)
lit_from start.Minus xs = number_at xs >>= λ n. Ok (Num true n.0, n.1)

unfoldable pub lit_at : List Lexeme → Read Lit
lit_at xs = one pick_lit xs >>= λ s. lit_from s.0.0 s.1

unfoldable pub quoted_lit_at : List Lexeme → Read Lit
quoted_lit_at xs = do
  left ← mark_at mark.Quote xs
  lit ← lit_at left.1
  right ← mark_at mark.Quote lit.1
  Ok (lit.0, right.1)

unfoldable pub const_lit_at : List Lexeme → Read Lit
const_lit_at xs = cond (begins_with (is_mark mark.Quote) xs) (quoted_lit_at xs) (lit_at xs)

-- what stands in a key's quotes
pub data KeyStart : Type 0 where
  any : KeyStart
  of_lit : LitStart → KeyStart
  of_name : List ℕ → KeyStart

abbrev pub or_literal : Option LitStart → Result KeyStart ParseWhy
or_literal (Some first) = Ok (of_lit first)
or_literal None = Err Unexpected

abbrev pub pick_key : Meaning → Result KeyStart ParseWhy
pick_key (Sign sign.Star) = Ok any
pick_key (Name bytes) = Ok (of_name bytes)
pick_key other = or_literal (lit_start_of other)

abbrev pub key_from : KeyStart → List Lexeme → Read Key
key_from any xs = Ok (key.Any, xs)
key_from (of_lit first) xs = lit_from first xs >>= λ l. Ok (key.Lit l.0, l.1)
key_from (of_name bytes) xs = Ok (key.Constant bytes, xs)

-- a star, or a quote
abbrev pub pick_star : Meaning → Result Bool ParseWhy
pick_star (Sign sign.Star) = Ok true
pick_star (Sign sign.Quote) = Ok false
pick_star other = Err Unexpected

unfoldable pub key_inside : List Lexeme → Read Key
key_inside xs = do
  first ← one pick_key xs
  inner ← key_from first.0.0 first.1
  right ← mark_at mark.Quote inner.1
  Ok (inner.0, right.1)

unfoldable pub key_at : List Lexeme → Read Key
key_at xs = one pick_star xs >>= λ s. cond s.0.0 (Ok (key.Any, s.1)) (key_inside s.1)

abbrev pub begins_key : Meaning → Bool
begins_key (Sign sign.Star) = true
begins_key (Sign sign.Quote) = true
begins_key other = false

unfoldable pub keys_at : List Lexeme → Read (List Key)
keys_at xs = cond (begins_with begins_key xs) (listed key_at xs) (Ok ([], xs))

-- ---- types

abbrev pub is_type_word : Word → Bool
is_type_word word.Bit = true
is_type_word word.Byte = true
is_type_word word.Uint = true
is_type_word word.Int = true
is_type_word word.Float = true
is_type_word other = false

-- a word that a type begins with; the types that are left out are words of the language
abbrev pub pick_simple : Meaning → Result Word ParseWhy
pick_simple (Taken w) = cond (is_type_word w) (Ok w) (Err Unexpected)
pick_simple (Name bytes) = cond (is_one_of left_out_types bytes) (Err LeftOut) (Err Unexpected)
pick_simple other = Err Unexpected

abbrev pub simple_from : Word → List Lexeme → Read Simple
simple_from word.Byte xs = Ok (simple.Byte, xs)
simple_from word.Uint xs = number_at xs >>= λ n. Ok (simple.Uint (width n.0), n.1)
simple_from word.Int xs = number_at xs >>= λ n. Ok (simple.Int (width n.0), n.1)
simple_from word.Float xs = number_at xs >>= λ n. Ok (simple.Float (width n.0), n.1)
simple_from other xs = Ok (simple.Bit, xs)

unfoldable pub simple_at : List Lexeme → Read Simple
simple_at xs = one pick_simple xs >>= λ w. simple_from w.0.0 w.1

pub data KindStart : Type 0 where
  by_word : Word → KindStart
  by_name : List ℕ → KindStart

abbrev pub pick_kind : Meaning → Result KindStart ParseWhy
pick_kind (Taken w) = cond (is_type_word w) (Ok (by_word w)) (Err Unexpected)
pick_kind (Name bytes) = cond (is_one_of left_out_types bytes) (Err LeftOut) (Ok (by_name bytes))
pick_kind other = Err Unexpected

abbrev pub kind_from : KindStart → Place → List Lexeme → Read Ref
kind_from (by_word w) place xs = simple_from w xs >>= λ s. Ok (Plain s.0, s.1)
kind_from (by_name bytes) place xs = Ok (Named place bytes [], xs)

unfoldable pub kind_at : List Lexeme → Read Ref
kind_at xs = one pick_kind xs >>= λ s. kind_from s.0.0 s.0.1 s.1

unfoldable pub args_inside : ℕ → List Lexeme → Read (List Expr)
args_inside limit xs = do
  left ← mark_at mark.LeftParenthesis xs
  args ← listed (read_quoted limit) left.1
  right ← mark_at mark.RightParenthesis args.1
  Ok (args.0, right.1)

unfoldable pub args_at : ℕ → List Lexeme → Read (List Expr)
args_at limit xs = cond (begins_with (is_mark mark.LeftParenthesis) xs) (args_inside limit xs) (Ok ([], xs))

abbrev pub ref_from : ℕ → KindStart → Place → List Lexeme → Read Ref
ref_from limit (by_word w) place xs = simple_from w xs >>= λ s. Ok (Plain s.0, s.1)
ref_from limit (by_name bytes) place xs = args_at limit xs >>= λ args. Ok (Named place bytes args.0, args.1)

unfoldable pub ref_at : ℕ → List Lexeme → Read Ref
ref_at limit xs = one pick_kind xs >>= λ s. ref_from limit s.0.0 s.0.1 s.1

-- ---- parameters and byte orders

unfoldable pub param_at : List Lexeme → Read Param
param_at xs = do
  kind ← kind_at xs
  named ← name_at kind.1
  Ok (record { place = named.0.1; kind = kind.0; name = named.0.0 }, named.1)

unfoldable pub params_inside : List Lexeme → Read (List Param)
params_inside xs = do
  left ← mark_at mark.LeftParenthesis xs
  params ← listed param_at left.1
  right ← mark_at mark.RightParenthesis params.1
  Ok (params.0, right.1)

unfoldable pub params_at : List Lexeme → Read (List Param)
params_at xs = cond (begins_with (is_mark mark.LeftParenthesis) xs) (params_inside xs) (Ok ([], xs))

abbrev pub pick_order : Meaning → Result ByteOrder ParseWhy
pick_order (Name bytes) = or_unexpected (order_word_of bytes)
pick_order other = Err Unexpected

unfoldable pub order_inside : List Lexeme → Read (Option ByteOrder)
order_inside xs = do
  word ← word_at (codes "byteOrder") xs
  equal ← mark_at mark.Equal word.1
  left ← mark_at mark.Quote equal.1
  order ← one pick_order left.1
  right ← mark_at mark.Quote order.1
  Ok (Some order.0.0, right.1)

unfoldable pub order_at : List Lexeme → Read (Option ByteOrder)
order_at xs = cond (begins_with (is_word (codes "byteOrder")) xs) (order_inside xs) (Ok (None, xs))

-- ---- constants

unfoldable pub attributes_inside : List Lexeme → Read (List Lit)
attributes_inside xs = do
  left ← mark_at mark.LeftBracket xs
  lits ← listed quoted_lit_at left.1
  right ← mark_at mark.RightBracket lits.1
  Ok (lits.0, right.1)

unfoldable pub attributes_at : List Lexeme → Read (List Lit)
attributes_at xs = cond (begins_with (is_mark mark.LeftBracket) xs) (attributes_inside xs) (Ok ([], xs))

unfoldable pub constant_at : List Lexeme → Read Constant
constant_at xs = do
  left ← mark_at mark.LeftBracket xs
  value ← quoted_lit_at left.1
  named ← name_at value.1
  attrs ← attributes_at named.1
  right ← mark_at mark.RightBracket attrs.1
  Ok (record { place = named.0.1; value = value.0; name = named.0.0; attrs = attrs.0 }, right.1)
