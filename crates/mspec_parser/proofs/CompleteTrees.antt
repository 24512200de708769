-- What the grammar allows of fields, switches, definitions and whole descriptions is read.
use Rattle.std.proofs.Common.{ℕ, ◌≡◌, true, false, List, [], ◌∷◌, codes, Option, None, Ok, length, refl, ap, ◌∙◌, arith}
use Rattle.mspec_tree.specs.declared.words.Place.{Place}
use Rattle.mspec_tree.specs.declared.words.ByteOrder.{ByteOrder}
use Rattle.mspec_tree.specs.declared.words.Simple.{Simple}
use Rattle.mspec_tree.specs.declared.exprs.Ref.{Ref}
use Rattle.mspec_tree.specs.declared.fields.Field.{Field, roll-Field}
use Rattle.mspec_tree.specs.declared.fields.Body.{Body}
use Rattle.mspec_tree.specs.declared.fields.Case.{Case}
use Rattle.mspec_tree.specs.declared.defs.Param.{Param}
use Rattle.mspec_tree.specs.declared.defs.Constant.{Constant}
use Rattle.mspec_tree.specs.declared.defs.Def.{Def}
use Rattle.mspec_lexer.specs.Lexemes.{Lexeme}
use Rattle.mspec_lexer.specs.declared.tokens.Symbol.TheVariants as sign
use Rattle.mspec_grammar.specs.Meanings.{meaning, Sign, Name}
use Rattle.mspec_grammar.specs.Parts.{Many, Listed, IsNamed, IsSimple, IsKind, IsRef, IsParams, IsOrder, IsConstant, none, more, named, constant, given}
use Rattle.mspec_grammar.specs.Trees.{IsBody, IsField, IsCase, IsSwitch, IsMember, IsHead, IsDef, Tree, simple, discriminator, const, reserved, implicit, virtual, optional, checksum, padding, by_count, by_length, field, case, switch, head, type_, discriminated, data_io, enum}
use Rattle.mspec_tree.specs.declared.fields.Body.TheVariants as tree_body
use Rattle.mspec_tree.specs.declared.defs.Description.{Description}
use Rattle.mspec_quotes.proofs.QuoteLaws.{read-quoted}
use Rattle.mspec_parser.specs.declared.words.Mark.TheVariants as mark
use Rattle.mspec_parser.specs.declared.words.FieldWord.{FieldWord}
use Rattle.mspec_parser.specs.declared.words.FieldWord.TheVariants as field_word
use Rattle.mspec_parser.specs.declared.words.ArrayWord.TheVariants as array_word
use Rattle.mspec_parser.specs.declared.words.DefWord.TheVariants as def_word
use Rattle.mspec_parser.specs.Words.{field_word_of, array_word_of, def_word_of}
use Rattle.mspec_parser.specs.Readers.{one, begins_with, is_mark, is_word}
use Rattle.mspec_parser.specs.Fields.{pick_field, pick_array, ref_name_at, kind_name_at, simple_name_at, simple_body, discriminator_body, const_body, reserved_body, implicit_body, virtual_body, optional_body, checksum_body, padding_body, array_body, body_from, field_from, field_at, fields_at, case_at, cases_at, bare_name_at, switch_from, switch_at, of_field, of_switch, pick_member, or_member, member_at, members_at}
use Rattle.mspec_parser.specs.Defs.{constants_at, pick_def, head_at, enum_head_at, type_from, discriminated_from, data_io_from, enum_from, def_at, defs_at, description_at}
use Rattle.mspec_parser.proofs.Shorter.{named-shorter, field-shorter, case-shorter, member-shorter, def-shorter}
use Rattle.mspec_parser.proofs.Complete.{one-reads, is-marked, mark-reads, is-worded, word-reads, name-reads, cond-true, cond-false, Closed, many-reads, listed-reads, quoted_lit-reads, const_lit-reads, keys-read, simple-reads, kind-reads, ref-reads, params-read, order-reads, constant-closed, constant-begins}

-- ---- fields

ref_name-reads : {limit : ℕ} {from rest : List Lexeme} {r : Ref} (x : Lexeme) (spelt : List ℕ) → IsRef limit from r (x ∷ rest) → meaning x ≡ Name spelt
    → ref_name_at limit from ≡ Ok ((r, (spelt, x.place)), rest)
unfolding ref_name_at
ref_name-reads {rest} x spelt r h = rw (ref-reads r (ap (is_mark mark.LeftParenthesis) h), name-reads x rest spelt h) refl

kind_name-reads : {from rest : List Lexeme} {r : Ref} (x : Lexeme) (spelt : List ℕ) → IsKind from r (x ∷ rest) → meaning x ≡ Name spelt
    → kind_name_at from ≡ Ok ((r, (spelt, x.place)), rest)
unfolding kind_name_at
kind_name-reads {rest} x spelt r h = rw (kind-reads r, name-reads x rest spelt h) refl

simple_name-reads : {from rest : List Lexeme} {s : Simple} (x : Lexeme) (spelt : List ℕ) → IsSimple from s (x ∷ rest) → meaning x ≡ Name spelt
    → simple_name_at from ≡ Ok ((s, (spelt, x.place)), rest)
unfolding simple_name_at
simple_name-reads {rest} x spelt s h = rw (simple-reads s, name-reads x rest spelt h) refl

pub picks-simple : pick_field (Name (codes "simple")) ≡ Ok field_word.Simple
unfolding field_word_of
picks-simple = refl

pub picks-discriminator : pick_field (Name (codes "discriminator")) ≡ Ok field_word.Discriminator
unfolding field_word_of
picks-discriminator = refl

pub picks-const : pick_field (Name (codes "const")) ≡ Ok field_word.Const
unfolding field_word_of
picks-const = refl

pub picks-reserved : pick_field (Name (codes "reserved")) ≡ Ok field_word.Reserved
unfolding field_word_of
picks-reserved = refl

pub picks-implicit : pick_field (Name (codes "implicit")) ≡ Ok field_word.Implicit
unfolding field_word_of
picks-implicit = refl

pub picks-virtual : pick_field (Name (codes "virtual")) ≡ Ok field_word.Virtual
unfolding field_word_of
picks-virtual = refl

pub picks-optional : pick_field (Name (codes "optional")) ≡ Ok field_word.Optional
unfolding field_word_of
picks-optional = refl

pub picks-checksum : pick_field (Name (codes "checksum")) ≡ Ok field_word.Checksum
unfolding field_word_of
picks-checksum = refl

pub picks-padding : pick_field (Name (codes "padding")) ≡ Ok field_word.Padding
unfolding field_word_of
picks-padding = refl

pub picks-array : pick_field (Name (codes "array")) ≡ Ok field_word.Array
unfolding field_word_of
picks-array = refl

picks-count : pick_array (Name (codes "count")) ≡ Ok array_word.Count
unfolding array_word_of
picks-count = refl

picks-length : pick_array (Name (codes "length")) ≡ Ok array_word.Length
unfolding array_word_of
picks-length = refl

record Starts (limit : ℕ) (bracket : Place) (from : List Lexeme) (named : Place) (spelt : List ℕ) (form : Body) (rest : List Lexeme) : Type 0 where
  pub w : Lexeme
  pub mid : List Lexeme
  pub first : FieldWord
  pub whole : from ≡ w ∷ mid
  pub picks : pick_field (meaning w) ≡ Ok first
  pub other : is_word (codes "typeSwitch") (meaning w) ≡ false
  pub goes : body_from limit bracket first mid ≡ Ok (record { named = named; name = spelt; body = form }, rest)

starts : {limit : ℕ} {bracket named : Place} {from rest : List Lexeme} {spelt : List ℕ} {form : Body} → IsBody limit bracket from named spelt form rest
    → Starts limit bracket from named spelt form rest
unfolding simple_body discriminator_body const_body reserved_body implicit_body virtual_body optional_body checksum_body padding_body array_body
starts (simple {w} {x} {from} {rest} {name = spelt} hw r hx) = record {
  w = w;
  mid = from;
  first = field_word.Simple;
  whole = refl;
  picks = ap pick_field hw ∙ picks-simple;
  other = ap (is_word (codes "typeSwitch")) hw;
  goes = rw (ref_name-reads x spelt r hx) refl;
}
starts (discriminator {w} {x} {from} {rest} {name = spelt} hw k hx) = record {
  w = w;
  mid = from;
  first = field_word.Discriminator;
  whole = refl;
  picks = ap pick_field hw ∙ picks-discriminator;
  other = ap (is_word (codes "typeSwitch")) hw;
  goes = rw (kind_name-reads x spelt k hx) refl;
}
starts (const {w} {x} {from} {behind} {rest} {name = spelt} hw s hx l) = record {
  w = w;
  mid = from;
  first = field_word.Const;
  whole = refl;
  picks = ap pick_field hw ∙ picks-const;
  other = ap (is_word (codes "typeSwitch")) hw;
  goes = rw (simple_name-reads x spelt s hx, const_lit-reads l) refl;
}
starts (reserved {w} {from} {behind} {rest} hw s l) = record {
  w = w;
  mid = from;
  first = field_word.Reserved;
  whole = refl;
  picks = ap pick_field hw ∙ picks-reserved;
  other = ap (is_word (codes "typeSwitch")) hw;
  goes = rw (simple-reads s, quoted_lit-reads l) refl;
}
starts (implicit {w} {x} {from} {behind} {rest} {name = spelt} hw k hx q) = record {
  w = w;
  mid = from;
  first = field_word.Implicit;
  whole = refl;
  picks = ap pick_field hw ∙ picks-implicit;
  other = ap (is_word (codes "typeSwitch")) hw;
  goes = rw (kind_name-reads x spelt k hx, read-quoted q) refl;
}
starts (virtual {w} {x} {from} {behind} {rest} {name = spelt} hw k hx q) = record {
  w = w;
  mid = from;
  first = field_word.Virtual;
  whole = refl;
  picks = ap pick_field hw ∙ picks-virtual;
  other = ap (is_word (codes "typeSwitch")) hw;
  goes = rw (kind_name-reads x spelt k hx, read-quoted q) refl;
}
starts (optional {w} {x} {from} {behind} {rest} {name = spelt} hw r hx q) = record {
  w = w;
  mid = from;
  first = field_word.Optional;
  whole = refl;
  picks = ap pick_field hw ∙ picks-optional;
  other = ap (is_word (codes "typeSwitch")) hw;
  goes = rw (ref_name-reads x spelt r hx, read-quoted q) refl;
}
starts (checksum {w} {x} {from} {behind} {rest} {name = spelt} hw s hx q) = record {
  w = w;
  mid = from;
  first = field_word.Checksum;
  whole = refl;
  picks = ap pick_field hw ∙ picks-checksum;
  other = ap (is_word (codes "typeSwitch")) hw;
  goes = rw (simple_name-reads x spelt s hx, read-quoted q) refl;
}
starts (padding {w} {x} {from} {behind} {count} {rest} {name = spelt} hw s hx l q) = record {
  w = w;
  mid = from;
  first = field_word.Padding;
  whole = refl;
  picks = ap pick_field hw ∙ picks-padding;
  other = ap (is_word (codes "typeSwitch")) hw;
  goes = rw (simple_name-reads x spelt s hx, quoted_lit-reads l, read-quoted q) refl;
}
starts (by_count {w} {x} {how} {from} {behind} {rest} {name = spelt} hw r hx hh q) = record {
  w = w;
  mid = from;
  first = field_word.Array;
  whole = refl;
  picks = ap pick_field hw ∙ picks-array;
  other = ap (is_word (codes "typeSwitch")) hw;
  goes = rw (ref_name-reads x spelt r hx, one-reads pick_array how behind array_word.Count (ap pick_array hh ∙ picks-count), read-quoted q) refl;
}
starts (by_length {w} {x} {how} {from} {behind} {rest} {name = spelt} hw r hx hh q) = record {
  w = w;
  mid = from;
  first = field_word.Array;
  whole = refl;
  picks = ap pick_field hw ∙ picks-array;
  other = ap (is_word (codes "typeSwitch")) hw;
  goes = rw (ref_name-reads x spelt r hx, one-reads pick_array how behind array_word.Length (ap pick_array hh ∙ picks-length), read-quoted q) refl;
}

field_from-reads : {limit : ℕ} {bracket named : Place} {from behind rest : List Lexeme} {spelt : List ℕ} {form : Body} {order : Option ByteOrder} (t : Starts limit bracket from named spelt form behind)
    (right : Lexeme) → IsOrder behind order (right ∷ rest) → meaning right ≡ Sign sign.RightBracket
    → field_from limit bracket t.first t.mid ≡ Ok (roll-Field (record { place = bracket; named = named; name = spelt; order = order; body = form }), rest)
unfolding field_from
field_from-reads {rest} t right o hr =
    rw (t.goes, order-reads o (ap (is_word (codes "byteOrder")) hr), mark-reads mark.RightBracket right rest hr) refl

field-reads : {limit : ℕ} {from rest : List Lexeme} {f : Field} → IsField limit from f rest → field_at limit from ≡ Ok (f, rest)
unfolding field_at
field-reads (field {left} {right} {from} hl b o hr) =
    let t = starts b in
    rw (mark-reads mark.LeftBracket left from hl, t.whole, one-reads pick_field t.w t.mid t.first t.picks) (field_from-reads t right o hr)

field-closed : {limit : ℕ} → Closed (IsField limit) (field_at limit)
field-closed = record { reads = λ p. field-reads p; shortens = λ p. field-shorter p }

pub field-begins : {limit : ℕ} {from rest : List Lexeme} {f : Field} → IsField limit from f rest → begins_with (is_mark mark.LeftBracket) from ≡ true
field-begins (field {left} hl b o hr) = is-marked mark.LeftBracket left hl

fields-read : {limit : ℕ} {from rest : List Lexeme} {fs : List Field} (right : Lexeme) → Many (IsField limit) from fs (right ∷ rest) → meaning right ≡ Sign sign.RightBracket
    → fields_at limit from ≡ Ok (fs, right ∷ rest)
unfolding fields_at
fields-read {from} right fs hr = many-reads field-closed (is_mark mark.LeftBracket) (λ f a r p. field-begins p) fs (ap (is_mark mark.LeftBracket) hr) (length from) (omega arith)

-- ---- switches

case-reads : {limit : ℕ} {from rest : List Lexeme} {c : Case} → IsCase limit from c rest → case_at limit from ≡ Ok (c, rest)
unfolding case_at
case-reads (case {left} {x} {right} {from} {behind} {rest} {name = spelt} hl ks hx fs hr) =
    rw (mark-reads mark.LeftBracket left from hl, keys-read x spelt hx ks, name-reads x behind spelt hx, fields-read right fs hr, mark-reads mark.RightBracket right rest hr) refl

case-closed : {limit : ℕ} → Closed (IsCase limit) (case_at limit)
case-closed = record { reads = λ p. case-reads p; shortens = λ p. case-shorter p }

pub case-begins : {limit : ℕ} {from rest : List Lexeme} {c : Case} → IsCase limit from c rest → begins_with (is_mark mark.LeftBracket) from ≡ true
case-begins (case {left} hl ks hx fs hr) = is-marked mark.LeftBracket left hl

cases-read : {limit : ℕ} {from rest : List Lexeme} {cs : List Case} (right : Lexeme) → Many (IsCase limit) from cs (right ∷ rest) → meaning right ≡ Sign sign.RightBracket
    → cases_at limit from ≡ Ok (cs, right ∷ rest)
unfolding cases_at
cases-read {from} right cs hr = many-reads case-closed (is_mark mark.LeftBracket) (λ f a r p. case-begins p) cs (ap (is_mark mark.LeftBracket) hr) (length from) (omega arith)

bare_name-reads : {from rest : List Lexeme} {spelt : List ℕ} → IsNamed from spelt rest → bare_name_at from ≡ Ok (spelt, rest)
bare_name-reads (named {x} {rest} {name = spelt} h) = rw (name-reads x rest spelt h) refl

bare_name-closed : Closed IsNamed bare_name_at
bare_name-closed = record { reads = λ p. bare_name-reads p; shortens = λ p. named-shorter p }

cases-no-comma : {limit : ℕ} {from rest : List Lexeme} {cs : List Case} (right : Lexeme) → Many (IsCase limit) from cs (right ∷ rest) → meaning right ≡ Sign sign.RightBracket
    → begins_with (is_mark mark.Comma) from ≡ false
cases-no-comma right none hr = ap (is_mark mark.Comma) hr
cases-no-comma right (more (case hl ks hx fs hr) cs) hr' = ap (is_mark mark.Comma) hl

switch_from-reads : {limit : ℕ} {from behind rest : List Lexeme} {names : List (List ℕ)} {cs : List Case} (bracket : Place) (right : Lexeme) → Listed IsNamed from names behind
    → Many (IsCase limit) behind cs (right ∷ rest) → meaning right ≡ Sign sign.RightBracket
    → switch_from limit bracket from ≡ Ok (roll-Field (record { place = bracket; named = bracket; name = []; order = None; body = tree_body.Switch names cs }), rest)
unfolding switch_from
switch_from-reads {rest} bracket right ns cs hr =
    rw (listed-reads bare_name-closed ns (cases-no-comma right cs hr), cases-read right cs hr, mark-reads mark.RightBracket right rest hr) refl

switch-reads : {limit : ℕ} {from rest : List Lexeme} {f : Field} → IsSwitch limit from f rest → switch_at limit from ≡ Ok (f, rest)
unfolding switch_at
switch-reads (switch {left} {w} {right} {from} hl hw ns cs hr) =
    rw (mark-reads mark.LeftBracket left (w ∷ from) hl, word-reads (codes "typeSwitch") w from hw) (switch_from-reads left.place right ns cs hr)

member-picks : (w : Lexeme) (first : FieldWord) → pick_field (meaning w) ≡ Ok first → is_word (codes "typeSwitch") (meaning w) ≡ false → pick_member (meaning w) ≡ Ok (of_field first)
member-picks w first h other = cond-false _ _ _ other ∙ ap or_member h

member-reads : {limit : ℕ} {from rest : List Lexeme} {f : Field} → IsMember limit from f rest → member_at limit from ≡ Ok (f, rest)
unfolding member_at
member-reads (field (field {left} {right} {from} hl b o hr)) =
    let t = starts b in
    rw (mark-reads mark.LeftBracket left from hl, t.whole, one-reads pick_member t.w t.mid (of_field t.first) (member-picks t.w t.first t.picks t.other)) (field_from-reads t right o hr)
member-reads (switch (switch {left} {w} {right} {from} hl hw ns cs hr)) =
    rw (mark-reads mark.LeftBracket left (w ∷ from) hl, one-reads pick_member w from of_switch (cond-true _ _ _ (is-worded (codes "typeSwitch") w hw)))
    (switch_from-reads left.place right ns cs hr)

member-closed : {limit : ℕ} → Closed (IsMember limit) (member_at limit)
member-closed = record { reads = λ p. member-reads p; shortens = λ p. member-shorter p }

pub member-begins : {limit : ℕ} {from rest : List Lexeme} {f : Field} → IsMember limit from f rest → begins_with (is_mark mark.LeftBracket) from ≡ true
member-begins (field f) = field-begins f
member-begins (switch (switch {left} hl hw ns cs hr)) = is-marked mark.LeftBracket left hl

members-read : {limit : ℕ} {from rest : List Lexeme} {fs : List Field} (right : Lexeme) → Many (IsMember limit) from fs (right ∷ rest) → meaning right ≡ Sign sign.RightBracket
    → members_at limit from ≡ Ok (fs, right ∷ rest)
unfolding members_at
members-read {from} right fs hr = many-reads member-closed (is_mark mark.LeftBracket) (λ f a r p. member-begins p) fs (ap (is_mark mark.LeftBracket) hr) (length from) (omega arith)

-- ---- definitions

-- no byte order and no parameters begin here
record Calm (xs : List Lexeme) : Type 0 where
  pub order : begins_with (is_word (codes "byteOrder")) xs ≡ false
  pub params : begins_with (is_mark mark.LeftParenthesis) xs ≡ false

calm-open : (x : Lexeme) (rest : List Lexeme) → meaning x ≡ Sign sign.LeftBracket → Calm (x ∷ rest)
calm-open x rest h = record { order = ap (is_word (codes "byteOrder")) h; params = ap (is_mark mark.LeftParenthesis) h }

calm-close : (x : Lexeme) (rest : List Lexeme) → meaning x ≡ Sign sign.RightBracket → Calm (x ∷ rest)
calm-close x rest h = record { order = ap (is_word (codes "byteOrder")) h; params = ap (is_mark mark.LeftParenthesis) h }

calm-many : {A : Type 0} {Part : List Lexeme → A → List Lexeme → Type 0} {from rest : List Lexeme} {parts : List A}
    → ((from : List Lexeme) (a : A) (rest : List Lexeme) → Part from a rest → Calm from) → Many Part from parts rest → Calm rest → Calm from
calm-many h none calm = calm
calm-many h (more {from} {mid} {a} p ps) calm = h from a mid p

calm-field : {limit : ℕ} {from rest : List Lexeme} {f : Field} → IsField limit from f rest → Calm from
calm-field (field {left} {from} hl b o hr) = calm-open left from hl

calm-switch : {limit : ℕ} {from rest : List Lexeme} {f : Field} → IsSwitch limit from f rest → Calm from
calm-switch (switch {left} {w} {from} hl hw ns cs hr) = calm-open left (w ∷ from) hl

calm-member : {limit : ℕ} {from rest : List Lexeme} {f : Field} → IsMember limit from f rest → Calm from
calm-member (field f) = calm-field f
calm-member (switch s) = calm-switch s

calm-constant : {from rest : List Lexeme} {c : Constant} → IsConstant from c rest → Calm from
calm-constant (constant {left} {from} hl v hx a hr) = calm-open left from hl

order-no-params : {from rest : List Lexeme} {o : Option ByteOrder} → IsOrder from o rest → Calm rest → begins_with (is_mark mark.LeftParenthesis) from ≡ false
order-no-params none calm = calm.params
order-no-params (given h he hl hy hr) calm = ap (is_mark mark.LeftParenthesis) h

head-reads : {from rest : List Lexeme} {named : Place} {spelt : List ℕ} {ps : List Param} {o : Option ByteOrder} → IsHead from named spelt ps o rest → Calm rest
    → head_at from ≡ Ok (record { named = named; name = spelt; params = ps; order = o }, rest)
unfolding head_at
head-reads (head {x} {from} {between} {rest} {name = spelt} h ps o) calm =
    rw (name-reads x from spelt h, params-read ps (order-no-params o calm), order-reads o calm.order) refl

enum_head-reads : {between behind : List Lexeme} {ps : List Param} (x : Lexeme) (spelt : List ℕ) → meaning x ≡ Name spelt → IsParams between ps behind → Calm behind
    → enum_head_at (x ∷ between) ≡ Ok (record { named = x.place; name = spelt; params = ps; order = None }, behind)
unfolding enum_head_at
enum_head-reads {between} x spelt h ps calm = rw (name-reads x between spelt h, params-read ps calm.params) refl

constants-read : {from rest : List Lexeme} {cs : List Constant} (right : Lexeme) → Many IsConstant from cs (right ∷ rest) → meaning right ≡ Sign sign.RightBracket
    → constants_at from ≡ Ok (cs, right ∷ rest)
unfolding constants_at
constants-read {from} right cs hr = many-reads constant-closed (is_mark mark.LeftBracket) (λ f a r p. constant-begins p) cs (ap (is_mark mark.LeftBracket) hr) (length from) (omega arith)

pub picks-type : pick_def (Name (codes "type")) ≡ Ok def_word.Type
unfolding def_word_of
picks-type = refl

pub picks-discriminatedType : pick_def (Name (codes "discriminatedType")) ≡ Ok def_word.DiscriminatedType
unfolding def_word_of
picks-discriminatedType = refl

pub picks-dataIo : pick_def (Name (codes "dataIo")) ≡ Ok def_word.DataIo
unfolding def_word_of
picks-dataIo = refl

pub picks-enum : pick_def (Name (codes "enum")) ≡ Ok def_word.Enum
unfolding def_word_of
picks-enum = refl

def-reads : {limit : ℕ} {from rest : List Lexeme} {d : Def} → IsDef limit from d rest → def_at limit from ≡ Ok (d, rest)
unfolding def_at type_from discriminated_from data_io_from enum_from
def-reads (type_ {left} {w} {right} {from} {rest} hl hw h fs hr) =
    rw (
      mark-reads mark.LeftBracket left (w ∷ from) hl,
      one-reads pick_def w from def_word.Type (ap pick_def hw ∙ picks-type),
      head-reads h (calm-many (λ f a r p. calm-field p) fs (calm-close right rest hr)),
      fields-read right fs hr,
      mark-reads mark.RightBracket right rest hr,
    ) refl
def-reads (discriminated {left} {w} {right} {from} {rest} hl hw h fs hr) =
    rw (
      mark-reads mark.LeftBracket left (w ∷ from) hl,
      one-reads pick_def w from def_word.DiscriminatedType (ap pick_def hw ∙ picks-discriminatedType),
      head-reads h (calm-many (λ f a r p. calm-member p) fs (calm-close right rest hr)),
      members-read right fs hr,
      mark-reads mark.RightBracket right rest hr,
    ) refl
def-reads (data_io {left} {w} {right} {from} {rest} hl hw h s hr) =
    rw (
      mark-reads mark.LeftBracket left (w ∷ from) hl,
      one-reads pick_def w from def_word.DataIo (ap pick_def hw ∙ picks-dataIo),
      head-reads h (calm-switch s),
      switch-reads s,
      mark-reads mark.RightBracket right rest hr,
    ) refl
def-reads (enum {left} {w} {x} {right} {from} {rest} {name = spelt} hl hw s hx ps cs hr) =
    rw (
      mark-reads mark.LeftBracket left (w ∷ from) hl,
      one-reads pick_def w from def_word.Enum (ap pick_def hw ∙ picks-enum),
      simple-reads s,
      enum_head-reads x spelt hx ps (calm-many (λ f a r p. calm-constant p) cs (calm-close right rest hr)),
      constants-read right cs hr,
      mark-reads mark.RightBracket right rest hr,
    ) refl

def-closed : {limit : ℕ} → Closed (IsDef limit) (def_at limit)
def-closed = record { reads = λ p. def-reads p; shortens = λ p. def-shorter p }

pub def-begins : {limit : ℕ} {from rest : List Lexeme} {d : Def} → IsDef limit from d rest → begins_with (is_mark mark.LeftBracket) from ≡ true
def-begins (type_ {left} hl hw h fs hr) = is-marked mark.LeftBracket left hl
def-begins (discriminated {left} hl hw h fs hr) = is-marked mark.LeftBracket left hl
def-begins (data_io {left} hl hw h s hr) = is-marked mark.LeftBracket left hl
def-begins (enum {left} hl hw s hx ps cs hr) = is-marked mark.LeftBracket left hl

-- a description is read
pub tree-reads : (limit : ℕ) (xs : List Lexeme) (d : Description) → Tree limit xs d → description_at limit xs ≡ Ok d
unfolding description_at defs_at
tree-reads limit xs d t = rw (many-reads def-closed (is_mark mark.LeftBracket) (λ f a r p. def-begins p) t refl (length xs) (omega arith)) refl

pub one-tree : (limit : ℕ) (xs : List Lexeme) (one other : Description) → Tree limit xs one → Tree limit xs other → one ≡ other
one-tree limit xs one other t t' =
    let h = tree-reads limit xs one t in
    let h' = tree-reads limit xs other t' in
    cc
