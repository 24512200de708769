-- Fields and switches as they are read.
use Rattle.std.specs.Prelude.{ℕ, cond, List, [], length, codes, Option, Some, None, Result, Ok, Err}
use Rattle.std.specs.Str.{bytes_eq}
use Rattle.mspec_tree.specs.declared.words.Place.{Place}
use Rattle.mspec_tree.specs.declared.words.ByteOrder.{ByteOrder}
use Rattle.mspec_tree.specs.declared.words.Simple.{Simple}
use Rattle.mspec_tree.specs.declared.exprs.Expr.{Expr}
use Rattle.mspec_tree.specs.declared.exprs.Ref.{Ref}
use Rattle.mspec_tree.specs.declared.fields.Field.{Field, roll-Field}
use Rattle.mspec_tree.specs.declared.fields.Body.{Body}
use Rattle.mspec_tree.specs.declared.fields.Body.TheVariants as body
use Rattle.mspec_tree.specs.declared.fields.Case.{Case, roll-Case}
use Rattle.mspec_tree.specs.Form.{is_one_of}
use Rattle.mspec_lexer.specs.Lexemes.{Lexeme}
use Rattle.mspec_grammar.specs.declared.faults.ParseWhy.{ParseWhy}
use Rattle.mspec_grammar.specs.declared.faults.ParseWhy.TheVariants.{Unexpected, LeftOut}
use Rattle.mspec_grammar.specs.Meanings.{Meaning, Name}
use Rattle.mspec_grammar.specs.Faults.{left_out_fields}
use Rattle.mspec_quotes.specs.Machine.{read_quoted}
use Rattle.mspec_parser.specs.declared.words.Mark.TheVariants as mark
use Rattle.mspec_parser.specs.declared.words.FieldWord.{FieldWord}
use Rattle.mspec_parser.specs.declared.words.FieldWord.TheVariants as field
use Rattle.mspec_parser.specs.declared.words.ArrayWord.{ArrayWord}
use Rattle.mspec_parser.specs.declared.words.ArrayWord.TheVariants as array
use Rattle.mspec_parser.specs.declared.fields.NamedBody.{NamedBody}
use Rattle.mspec_parser.specs.Words.{field_word_of, array_word_of}
use Rattle.mspec_parser.specs.Readers.{Read, ◌>>=◌, one, many, listed, is_mark, is_word, mark_at, word_at, name_at}
use Rattle.mspec_parser.specs.Small.{quoted_lit_at, const_lit_at, keys_at, simple_at, kind_at, ref_at, order_at}

-- ---- fields

-- the word that a field begins with; some are left out
abbrev pub field_or_left_out : Option FieldWord → List ℕ → Result FieldWord ParseWhy
field_or_left_out (Some word) bytes = Ok word
field_or_left_out None bytes = cond (is_one_of left_out_fields bytes) (Err LeftOut) (Err Unexpected)

abbrev pub pick_field : Meaning → Result FieldWord ParseWhy
pick_field (Name bytes) = field_or_left_out (field_word_of bytes) bytes
pick_field other = Err Unexpected

abbrev pub array_or_left_out : Option ArrayWord → List ℕ → Result ArrayWord ParseWhy
array_or_left_out (Some word) bytes = Ok word
array_or_left_out None bytes = cond (bytes_eq bytes (codes "terminated")) (Err LeftOut) (Err Unexpected)

abbrev pub pick_array : Meaning → Result ArrayWord ParseWhy
pick_array (Name bytes) = array_or_left_out (array_word_of bytes) bytes
pick_array other = Err Unexpected

abbrev pub named_body : List ℕ × Place → Body → NamedBody
named_body named form = record { named = named.1; name = named.0; body = form }

-- a type with arguments and a name
unfoldable pub ref_name_at : ℕ → List Lexeme → Read (Ref × (List ℕ × Place))
ref_name_at limit xs = do
  ref ← ref_at limit xs
  named ← name_at ref.1
  Ok ((ref.0, named.0), named.1)

unfoldable pub kind_name_at : List Lexeme → Read (Ref × (List ℕ × Place))
kind_name_at xs = do
  kind ← kind_at xs
  named ← name_at kind.1
  Ok ((kind.0, named.0), named.1)

unfoldable pub simple_name_at : List Lexeme → Read (Simple × (List ℕ × Place))
simple_name_at xs = do
  written ← simple_at xs
  named ← name_at written.1
  Ok ((written.0, named.0), named.1)

unfoldable pub simple_body : ℕ → List Lexeme → Read NamedBody
simple_body limit xs = do
  front ← ref_name_at limit xs
  Ok (named_body front.0.1 (body.Simple front.0.0), front.1)

unfoldable pub discriminator_body : List Lexeme → Read NamedBody
discriminator_body xs = do
  front ← kind_name_at xs
  Ok (named_body front.0.1 (body.Discriminator front.0.0), front.1)

unfoldable pub const_body : List Lexeme → Read NamedBody
const_body xs = do
  front ← simple_name_at xs
  lit ← const_lit_at front.1
  Ok (named_body front.0.1 (body.Const front.0.0 lit.0), lit.1)

unfoldable pub reserved_body : Place → List Lexeme → Read NamedBody
reserved_body bracket xs = do
  written ← simple_at xs
  lit ← quoted_lit_at written.1
  Ok (named_body ([], bracket) (body.Reserved written.0 lit.0), lit.1)

unfoldable pub implicit_body : ℕ → List Lexeme → Read NamedBody
implicit_body limit xs = do
  front ← kind_name_at xs
  e ← read_quoted limit front.1
  Ok (named_body front.0.1 (body.Implicit front.0.0 e.0), e.1)

unfoldable pub virtual_body : ℕ → List Lexeme → Read NamedBody
virtual_body limit xs = do
  front ← kind_name_at xs
  e ← read_quoted limit front.1
  Ok (named_body front.0.1 (body.Virtual front.0.0 e.0), e.1)

unfoldable pub optional_body : ℕ → List Lexeme → Read NamedBody
optional_body limit xs = do
  front ← ref_name_at limit xs
  e ← read_quoted limit front.1
  Ok (named_body front.0.1 (body.Optional front.0.0 e.0), e.1)

unfoldable pub checksum_body : ℕ → List Lexeme → Read NamedBody
checksum_body limit xs = do
  front ← simple_name_at xs
  e ← read_quoted limit front.1
  Ok (named_body front.0.1 (body.Checksum front.0.0 e.0), e.1)

unfoldable pub padding_body : ℕ → List Lexeme → Read NamedBody
padding_body limit xs = do
  front ← simple_name_at xs
  lit ← quoted_lit_at front.1
  e ← read_quoted limit lit.1
  Ok (named_body front.0.1 (body.Padding front.0.0 lit.0 e.0), e.1)

abbrev pub array_of : ArrayWord → Ref → Expr → Body
array_of array.Count ref e = body.CountArray ref e
array_of array.Length ref e = body.LengthArray ref e

unfoldable pub array_body : ℕ → List Lexeme → Read NamedBody
array_body limit xs = do
  front ← ref_name_at limit xs
  how ← one pick_array front.1
  e ← read_quoted limit how.1
  Ok (named_body front.0.1 (array_of how.0.0 front.0.0 e.0), e.1)

-- what stands behind the field's word, up to its byte order
abbrev pub body_from : ℕ → Place → FieldWord → List Lexeme → Read NamedBody
body_from limit bracket field.Simple xs = simple_body limit xs
body_from limit bracket field.Discriminator xs = discriminator_body xs
body_from limit bracket field.Const xs = const_body xs
body_from limit bracket field.Reserved xs = reserved_body bracket xs
body_from limit bracket field.Implicit xs = implicit_body limit xs
body_from limit bracket field.Virtual xs = virtual_body limit xs
body_from limit bracket field.Optional xs = optional_body limit xs
body_from limit bracket field.Checksum xs = checksum_body limit xs
body_from limit bracket field.Padding xs = padding_body limit xs
body_from limit bracket field.Array xs = array_body limit xs

abbrev pub field_of : Place → NamedBody → Option ByteOrder → Field
field_of bracket inner order = roll-Field (record { place = bracket; named = inner.named; name = inner.name; order = order; body = inner.body })

unfoldable pub field_from : ℕ → Place → FieldWord → List Lexeme → Read Field
field_from limit bracket word xs = do
  inner ← body_from limit bracket word xs
  order ← order_at inner.1
  right ← mark_at mark.RightBracket order.1
  Ok (roll-Field (record { place = bracket; named = inner.0.named; name = inner.0.name; order = order.0; body = inner.0.body }), right.1)

unfoldable pub field_at : ℕ → List Lexeme → Read Field
field_at limit xs = do
  left ← mark_at mark.LeftBracket xs
  word ← one pick_field left.1
  field_from limit left.0 word.0.0 word.1

unfoldable pub fields_at : ℕ → List Lexeme → Read (List Field)
fields_at limit xs = many (is_mark mark.LeftBracket) (field_at limit) (length xs) xs

-- ---- switches

unfoldable pub case_at : ℕ → List Lexeme → Read Case
case_at limit xs = do
  left ← mark_at mark.LeftBracket xs
  keys ← keys_at left.1
  named ← name_at keys.1
  fields ← fields_at limit named.1
  right ← mark_at mark.RightBracket fields.1
  Ok (roll-Case (record { place = left.0; named = named.0.1; keys = keys.0; name = named.0.0; fields = fields.0 }), right.1)

unfoldable pub cases_at : ℕ → List Lexeme → Read (List Case)
cases_at limit xs = many (is_mark mark.LeftBracket) (case_at limit) (length xs) xs

abbrev pub bare_name_at : List Lexeme → Read (List ℕ)
bare_name_at xs = name_at xs >>= λ p. Ok (p.0.0, p.1)

-- what stands behind the word of a switch
unfoldable pub switch_from : ℕ → Place → List Lexeme → Read Field
switch_from limit bracket xs = do
  names ← listed bare_name_at xs
  cases ← cases_at limit names.1
  right ← mark_at mark.RightBracket cases.1
  Ok (roll-Field (record { place = bracket; named = bracket; name = []; order = None; body = body.Switch names.0 cases.0 }), right.1)

unfoldable pub switch_at : ℕ → List Lexeme → Read Field
switch_at limit xs = do
  left ← mark_at mark.LeftBracket xs
  word ← word_at (codes "typeSwitch") left.1
  switch_from limit left.0 word.1

-- the word of a field, or of a switch
pub data MemberWord : Type 0 where
  of_field : FieldWord → MemberWord
  of_switch : MemberWord

abbrev pub or_member : Result FieldWord ParseWhy → Result MemberWord ParseWhy
or_member (Ok word) = Ok (of_field word)
or_member (Err why) = Err why

abbrev pub pick_member : Meaning → Result MemberWord ParseWhy
pick_member m = cond (is_word (codes "typeSwitch") m) (Ok of_switch) (or_member (pick_field m))

abbrev pub member_from : ℕ → Place → MemberWord → List Lexeme → Read Field
member_from limit bracket (of_field word) xs = field_from limit bracket word xs
member_from limit bracket of_switch xs = switch_from limit bracket xs

unfoldable pub member_at : ℕ → List Lexeme → Read Field
member_at limit xs = do
  left ← mark_at mark.LeftBracket xs
  word ← one pick_member left.1
  member_from limit left.0 word.0.0 word.1

unfoldable pub members_at : ℕ → List Lexeme → Read (List Field)
members_at limit xs = many (is_mark mark.LeftBracket) (member_at limit) (length xs) xs
