-- What is read of fields, switches, definitions and whole descriptions is in the grammar.
use Rattle.std.proofs.Common.{ℕ, ◌≡◌, ◌≤◌, Bool, true, false, cond, List, [], ◌∷◌, codes, Option, Some, None, Result, Ok, Err, refl, ◌⊎◌, inl, inr, ap, ◌∙◌}
use Rattle.mspec_tree.specs.declared.words.Place.{Place}
use Rattle.mspec_tree.specs.declared.exprs.Expr.{Expr}
use Rattle.mspec_tree.specs.declared.exprs.Ref.{Ref}
use Rattle.mspec_tree.specs.declared.fields.Field.{Field, roll-Field}
use Rattle.mspec_tree.specs.declared.fields.Case.{roll-Case}
use Rattle.mspec_tree.specs.declared.defs.Def.{Def}
use Rattle.mspec_lexer.specs.Lexemes.{Lexeme}
use Rattle.mspec_lexer.specs.declared.tokens.Symbol.TheVariants as sign
use Rattle.mspec_grammar.specs.Meanings.{Meaning, meaning, Number, Sign, Taken, Name}
use Rattle.mspec_grammar.specs.Expressions.{Quoted}
use Rattle.mspec_grammar.specs.Parts.{Many, IsNamed, IsSimple, IsKind, IsRef, IsParams, IsConstant, named}
use Rattle.mspec_grammar.specs.Trees.{IsBody, IsField, IsCase, IsSwitch, IsMember, IsHead, IsDef, Tree, simple, discriminator, const, reserved, implicit, virtual, optional, checksum, padding, by_count, by_length, field, case, switch, head, type_, discriminated, data_io, enum}
use Rattle.mspec_tree.specs.declared.defs.DefBody.TheVariants as tree_def
use Rattle.mspec_tree.specs.declared.fields.Body.TheVariants as tree_body
use Rattle.mspec_tree.specs.declared.defs.Description.{Description}
use Rattle.mspec_grammar.specs.declared.faults.ParseWhy.{ParseWhy}
use Rattle.mspec_quotes.specs.Machine.{Stopped}
use Rattle.mspec_parser.specs.declared.words.Mark.TheVariants as mark
use Rattle.mspec_parser.specs.declared.words.FieldWord.{FieldWord}
use Rattle.mspec_parser.specs.declared.words.FieldWord.TheVariants as field_word
use Rattle.mspec_parser.specs.declared.words.ArrayWord.{ArrayWord}
use Rattle.mspec_parser.specs.declared.words.ArrayWord.TheVariants as array_word
use Rattle.mspec_parser.specs.declared.words.DefWord.{DefWord}
use Rattle.mspec_parser.specs.declared.words.DefWord.TheVariants as def_word
use Rattle.mspec_parser.specs.declared.fields.NamedBody.{NamedBody}
use Rattle.mspec_parser.specs.declared.definitions.Head.{Head}
use Rattle.mspec_parser.specs.Words.{field_word_of, array_word_of, def_word_of}
use Rattle.mspec_parser.specs.Readers.{Read, ◌>>=◌, front_of, is_mark, is_word, name_at}
use Rattle.mspec_parser.specs.Fields.{pick_field, pick_array, ref_name_at, kind_name_at, simple_name_at, simple_body, discriminator_body, const_body, reserved_body, implicit_body, virtual_body, optional_body, checksum_body, padding_body, array_body, body_from, field_from, field_at, fields_at, case_at, cases_at, bare_name_at, switch_from, switch_at, of_field, of_switch, pick_member, or_member, member_from, member_at, members_at}
use Rattle.mspec_parser.specs.Defs.{constants_at, pick_def, head_at, enum_head_at, type_from, discriminated_from, data_io_from, enum_from, def_from, def_at, defs_at, description_at}
use Rattle.std.specs.Str.{bytes_eq}
use Rattle.std.proofs.lemmas.Slice.Eq.{bytes_eq-Decides}
use Rattle.mspec_grammar.specs.declared.faults.ParseWhy.TheVariants.{Unexpected, LeftOut}
use Rattle.mspec_grammar.specs.Faults.{left_out_fields}
use Rattle.mspec_tree.specs.Form.{is_one_of}
use Rattle.mspec_parser.specs.Words.{first_field_words, other_field_words, or_word}
use Rattle.mspec_parser.specs.Small.{or_unexpected}
use Rattle.mspec_parser.specs.Fields.{named_body, array_of, field_or_left_out, array_or_left_out, MemberWord}
use Rattle.mspec_parser.specs.Defs.{def_of, ended}
use Rattle.mspec_parser.proofs.Sounds.{Sound, through, gives, and_then, one-sound, mark-sound, word-sound, name-sound, many-sound, listed-sound}
use Rattle.mspec_parser.proofs.Sound.{quoted_lit-sound, const_lit-sound, keys-sound, simple-sound, kind-sound, quoted-sound, ref-sound, params-sound, order-sound, constant-sound}

-- ---- a type and a name

record WithName {A : Type 0} (P : List Lexeme → A → List Lexeme → Type 0) (xs : List Lexeme) (v : A × (List ℕ × Place)) (rest : List Lexeme) : Type 0 where
  pub x : Lexeme
  pub first : P xs v.0 (x ∷ rest)
  pub means : meaning x ≡ Name v.1.0
  pub at : v.1.1 ≡ x.place

abbrev named_pair : {A : Type 0} → A → List ℕ × Place → A × (List ℕ × Place)
named_pair a n = (a, n)

with-name : {A : Type 0} {read : List Lexeme → Read A} {P : List Lexeme → A → List Lexeme → Type 0} → Sound read P
    → Sound (λ xs. read xs >>= λ a. name_at a.1 >>= λ n. Ok ((a.0, n.0), n.1)) (WithName P)
with-name {A} {read} {P} s = through (and_then s (λ a. and_then name-sound (λ n. gives (named_pair a n)))) (λ xs v rest t.
    let named = t.next.first in
    let gave = t.next.next in
    let first = rw named.whole at t.first in
    rw (gave.value, gave.rest_is) (record { x = named.x; first = first; means = named.means; at = named.at }))

kind_name-sound : Sound kind_name_at (WithName IsKind)
unfolding kind_name_at
kind_name-sound = through (with-name kind-sound) (λ xs v rest t. t)

simple_name-sound : Sound simple_name_at (WithName IsSimple)
unfolding simple_name_at
simple_name-sound = through (with-name simple-sound) (λ xs v rest t. t)

-- ---- words

word-chosen : (b : Bool) (w : FieldWord) (rest : Option FieldWord) (word : FieldWord) → cond b (Some w) rest ≡ Some word → ((b ≡ true) × (w ≡ word)) ⊎ (rest ≡ Some word)
word-chosen true w rest word e = inl (refl, cc)
word-chosen false w rest word e = inr e

word-or : (a b : Option FieldWord) (word : FieldWord) → or_word a b ≡ Some word → (a ≡ Some word) ⊎ (b ≡ Some word)
word-or (Some w) b word e = inl e
word-or None b word e = inr e

-- the bytes that each word has
abbrev spelt_of : FieldWord → List ℕ
spelt_of field_word.Simple = codes "simple"
spelt_of field_word.Discriminator = codes "discriminator"
spelt_of field_word.Const = codes "const"
spelt_of field_word.Reserved = codes "reserved"
spelt_of field_word.Implicit = codes "implicit"
spelt_of field_word.Virtual = codes "virtual"
spelt_of field_word.Optional = codes "optional"
spelt_of field_word.Checksum = codes "checksum"
spelt_of field_word.Padding = codes "padding"
spelt_of field_word.Array = codes "array"

spells : (bytes w : List ℕ) → bytes_eq bytes w ≡ true → bytes ≡ w
spells bytes w h = (bytes_eq-Decides bytes w).0 h

spelt-by : (bytes w : List ℕ) (v word : FieldWord) → w ≡ spelt_of v → (bytes_eq bytes w ≡ true) × (v ≡ word) → bytes ≡ spelt_of word
spelt-by bytes w v word e h = spells bytes w h.0 ∙ e ∙ ap spelt_of h.1

no-word : (word : FieldWord) → None ≡ Some word → ⊥
no-word word e = cc

first-spelt : (bytes : List ℕ) (word : FieldWord) → first_field_words bytes ≡ Some word → bytes ≡ spelt_of word
first-spelt bytes word e =
    elim (word-chosen (bytes_eq bytes (codes "simple")) field_word.Simple (cond (bytes_eq bytes (codes "discriminator")) (Some field_word.Discriminator) (cond (bytes_eq bytes (codes "const")) (Some field_word.Const) (cond (bytes_eq bytes (codes "reserved")) (Some field_word.Reserved) (cond (bytes_eq bytes (codes "implicit")) (Some field_word.Implicit) None)))) word e) [
      | inl h ↦ spelt-by bytes (codes "simple") field_word.Simple word refl h
      | inr e1 ↦ elim (word-chosen (bytes_eq bytes (codes "discriminator")) field_word.Discriminator (cond (bytes_eq bytes (codes "const")) (Some field_word.Const) (cond (bytes_eq bytes (codes "reserved")) (Some field_word.Reserved) (cond (bytes_eq bytes (codes "implicit")) (Some field_word.Implicit) None))) word e1) [
        | inl h ↦ spelt-by bytes (codes "discriminator") field_word.Discriminator word refl h
        | inr e2 ↦ elim (word-chosen (bytes_eq bytes (codes "const")) field_word.Const (cond (bytes_eq bytes (codes "reserved")) (Some field_word.Reserved) (cond (bytes_eq bytes (codes "implicit")) (Some field_word.Implicit) None)) word e2) [
          | inl h ↦ spelt-by bytes (codes "const") field_word.Const word refl h
          | inr e3 ↦ elim (word-chosen (bytes_eq bytes (codes "reserved")) field_word.Reserved (cond (bytes_eq bytes (codes "implicit")) (Some field_word.Implicit) None) word e3) [
            | inl h ↦ spelt-by bytes (codes "reserved") field_word.Reserved word refl h
            | inr e4 ↦ elim (word-chosen (bytes_eq bytes (codes "implicit")) field_word.Implicit None word e4) [
              | inl h ↦ spelt-by bytes (codes "implicit") field_word.Implicit word refl h
              | inr e5 ↦ absurd (no-word word e5)
            ]
          ]
        ]
      ]
    ]

other-spelt : (bytes : List ℕ) (word : FieldWord) → other_field_words bytes ≡ Some word → bytes ≡ spelt_of word
other-spelt bytes word e =
    elim (word-chosen (bytes_eq bytes (codes "virtual")) field_word.Virtual (cond (bytes_eq bytes (codes "optional")) (Some field_word.Optional) (cond (bytes_eq bytes (codes "checksum")) (Some field_word.Checksum) (cond (bytes_eq bytes (codes "padding")) (Some field_word.Padding) (cond (bytes_eq bytes (codes "array")) (Some field_word.Array) None)))) word e) [
      | inl h ↦ spelt-by bytes (codes "virtual") field_word.Virtual word refl h
      | inr e1 ↦ elim (word-chosen (bytes_eq bytes (codes "optional")) field_word.Optional (cond (bytes_eq bytes (codes "checksum")) (Some field_word.Checksum) (cond (bytes_eq bytes (codes "padding")) (Some field_word.Padding) (cond (bytes_eq bytes (codes "array")) (Some field_word.Array) None))) word e1) [
        | inl h ↦ spelt-by bytes (codes "optional") field_word.Optional word refl h
        | inr e2 ↦ elim (word-chosen (bytes_eq bytes (codes "checksum")) field_word.Checksum (cond (bytes_eq bytes (codes "padding")) (Some field_word.Padding) (cond (bytes_eq bytes (codes "array")) (Some field_word.Array) None)) word e2) [
          | inl h ↦ spelt-by bytes (codes "checksum") field_word.Checksum word refl h
          | inr e3 ↦ elim (word-chosen (bytes_eq bytes (codes "padding")) field_word.Padding (cond (bytes_eq bytes (codes "array")) (Some field_word.Array) None) word e3) [
            | inl h ↦ spelt-by bytes (codes "padding") field_word.Padding word refl h
            | inr e4 ↦ elim (word-chosen (bytes_eq bytes (codes "array")) field_word.Array None word e4) [
              | inl h ↦ spelt-by bytes (codes "array") field_word.Array word refl h
              | inr e5 ↦ absurd (no-word word e5)
            ]
          ]
        ]
      ]
    ]

field-spelt : (bytes : List ℕ) (word : FieldWord) → field_word_of bytes ≡ Some word → bytes ≡ spelt_of word
unfolding field_word_of
field-spelt bytes word e =
    elim (word-or (first_field_words bytes) (other_field_words bytes) word e) [ inl h ↦ first-spelt bytes word h | inr h ↦ other-spelt bytes word h ]

left-out-not : (b : Bool) (word : FieldWord) → cond b (Err LeftOut) (Err Unexpected) ≡ Ok word → ⊥
left-out-not true word e = cc
left-out-not false word e = cc

found-field : (o : Option FieldWord) (bytes : List ℕ) (word : FieldWord) → field_or_left_out o bytes ≡ Ok word → o ≡ Some word
found-field (Some w) bytes word e = let e' : w ≡ word = cc in ap Some e'
found-field None bytes word e = absurd (left-out-not (is_one_of left_out_fields bytes) word e)

field-is : (m : Meaning) (word : FieldWord) → pick_field m ≡ Ok word → m ≡ Name (spelt_of word)
field-is (Name bytes) word e = ap Name (field-spelt bytes word (found-field (field_word_of bytes) bytes word e))
field-is (Number n) word e = absurd (cc)
field-is (Taken t) word e = absurd (cc)
field-is (Sign s) word e = absurd (cc)

abbrev how_spelt : ArrayWord → List ℕ
how_spelt array_word.Count = codes "count"
how_spelt array_word.Length = codes "length"

array-spelt : (bytes : List ℕ) (how : ArrayWord) → array_word_of bytes ≡ Some how → bytes ≡ how_spelt how
unfolding array_word_of
array-spelt bytes how e = by-count (bytes_eq bytes (codes "count")) refl e
  where
    by-length : (b : Bool) → bytes_eq bytes (codes "length") ≡ b → cond b (Some array_word.Length) None ≡ Some how → bytes ≡ how_spelt how
    by-length true h e = let e' : array_word.Length ≡ how = cc in spells bytes (codes "length") h ∙ ap how_spelt e'
    by-length false h e = absurd (cc)

    by-count : (b : Bool) → bytes_eq bytes (codes "count") ≡ b
        → cond b (Some array_word.Count) (cond (bytes_eq bytes (codes "length")) (Some array_word.Length) None) ≡ Some how → bytes ≡ how_spelt how
    by-count true h e = let e' : array_word.Count ≡ how = cc in spells bytes (codes "count") h ∙ ap how_spelt e'
    by-count false h e = by-length (bytes_eq bytes (codes "length")) refl e

terminated-not : (b : Bool) (how : ArrayWord) → cond b (Err LeftOut) (Err Unexpected) ≡ Ok how → ⊥
terminated-not true how e = cc
terminated-not false how e = cc

found-array : (o : Option ArrayWord) (bytes : List ℕ) (how : ArrayWord) → array_or_left_out o bytes ≡ Ok how → o ≡ Some how
found-array (Some w) bytes how e = let e' : w ≡ how = cc in ap Some e'
found-array None bytes how e = absurd (terminated-not (bytes_eq bytes (codes "terminated")) how e)

array-is : (m : Meaning) (how : ArrayWord) → pick_array m ≡ Ok how → m ≡ Name (how_spelt how)
array-is (Name bytes) how e = ap Name (array-spelt bytes how (found-array (array_word_of bytes) bytes how e))
array-is (Number n) how e = absurd (cc)
array-is (Taken t) how e = absurd (cc)
array-is (Sign s) how e = absurd (cc)

-- ---- fields

module _ (limit : ℕ) (low : 1 ≤ limit) where
  ref_name-sound : Sound (ref_name_at limit) (WithName (IsRef limit))
  unfolding ref_name_at
  ref_name-sound = through (with-name (ref-sound limit low)) (λ xs v rest t. t)

  -- what stands behind the word of a field
  record BodyRest (bracket : Place) (spelt : List ℕ) (xs : List Lexeme) (inner : NamedBody) (rest : List Lexeme) : Type 0 where
    pub is : (w : Lexeme) → meaning w ≡ Name spelt → IsBody limit bracket (w ∷ xs) inner.named inner.name inner.body rest

  simple_body-sound : (bracket : Place) → Sound (simple_body limit) (BodyRest bracket (codes "simple"))
  unfolding simple_body
  simple_body-sound bracket = through (and_then ref_name-sound (λ front. gives (named_body front.1 (tree_body.Simple front.0)))) (λ xs inner rest t. record {
    is = λ w hw.
        rw (t.next.value, t.next.rest_is, t.first.at) (simple hw t.first.first t.first.means);
  })

  discriminator_body-sound : (bracket : Place) → Sound (discriminator_body) (BodyRest bracket (codes "discriminator"))
  unfolding discriminator_body
  discriminator_body-sound bracket = through (and_then kind_name-sound (λ front. gives (named_body front.1 (tree_body.Discriminator front.0)))) (λ xs inner rest t. record {
    is = λ w hw.
        rw (t.next.value, t.next.rest_is, t.first.at) (discriminator hw t.first.first t.first.means);
  })

  const_body-sound : (bracket : Place) → Sound (const_body) (BodyRest bracket (codes "const"))
  unfolding const_body
  const_body-sound bracket = through (and_then simple_name-sound (λ front. and_then const_lit-sound (λ lit. gives (named_body front.1 (tree_body.Const front.0 lit))))) (λ xs inner rest t. record {
    is = λ w hw.
        rw (t.next.next.value, t.next.next.rest_is, t.first.at) (const hw t.first.first t.first.means t.next.first);
  })

  reserved_body-sound : (bracket : Place) → Sound (reserved_body bracket) (BodyRest bracket (codes "reserved"))
  unfolding reserved_body
  reserved_body-sound bracket = through (and_then simple-sound (λ written. and_then quoted_lit-sound (λ lit. gives (named_body ([], bracket) (tree_body.Reserved written lit)))))
      (λ xs inner rest t. record {
        is = λ w hw.
            rw (t.next.next.value, t.next.next.rest_is) (reserved hw t.first t.next.first);
      })

  implicit_body-sound : (bracket : Place) → Sound (implicit_body limit) (BodyRest bracket (codes "implicit"))
  unfolding implicit_body
  implicit_body-sound bracket = through (and_then kind_name-sound (λ front. and_then (quoted-sound limit low) (λ e. gives (named_body front.1 (tree_body.Implicit front.0 e))))) (λ xs inner rest t. record {
    is = λ w hw.
        rw (t.next.next.value, t.next.next.rest_is, t.first.at) (implicit hw t.first.first t.first.means t.next.first);
  })

  virtual_body-sound : (bracket : Place) → Sound (virtual_body limit) (BodyRest bracket (codes "virtual"))
  unfolding virtual_body
  virtual_body-sound bracket = through (and_then kind_name-sound (λ front. and_then (quoted-sound limit low) (λ e. gives (named_body front.1 (tree_body.Virtual front.0 e))))) (λ xs inner rest t. record {
    is = λ w hw.
        rw (t.next.next.value, t.next.next.rest_is, t.first.at) (virtual hw t.first.first t.first.means t.next.first);
  })

  optional_body-sound : (bracket : Place) → Sound (optional_body limit) (BodyRest bracket (codes "optional"))
  unfolding optional_body
  optional_body-sound bracket = through (and_then ref_name-sound (λ front. and_then (quoted-sound limit low) (λ e. gives (named_body front.1 (tree_body.Optional front.0 e))))) (λ xs inner rest t. record {
    is = λ w hw.
        rw (t.next.next.value, t.next.next.rest_is, t.first.at) (optional hw t.first.first t.first.means t.next.first);
  })

  checksum_body-sound : (bracket : Place) → Sound (checksum_body limit) (BodyRest bracket (codes "checksum"))
  unfolding checksum_body
  checksum_body-sound bracket = through (and_then simple_name-sound (λ front. and_then (quoted-sound limit low) (λ e. gives (named_body front.1 (tree_body.Checksum front.0 e))))) (λ xs inner rest t. record {
    is = λ w hw.
        rw (t.next.next.value, t.next.next.rest_is, t.first.at) (checksum hw t.first.first t.first.means t.next.first);
  })

  padding_body-sound : (bracket : Place) → Sound (padding_body limit) (BodyRest bracket (codes "padding"))
  unfolding padding_body
  padding_body-sound bracket = through (and_then simple_name-sound (λ front. and_then quoted_lit-sound (λ lit. and_then (quoted-sound limit low) (λ e. gives (named_body front.1 (tree_body.Padding front.0 lit e)))))) (λ xs inner rest t. record {
    is = λ w hw.
        rw (t.next.next.next.value, t.next.next.next.rest_is, t.first.at) (padding hw t.first.first t.first.means t.next.first t.next.next.first);
  })

  array-body : {xs behind rest : List Lexeme} {r : Ref} {e : Expr} {spelt : List ℕ} (bracket : Place) (how : ArrayWord) (w x y : Lexeme) → meaning w ≡ Name (codes "array")
      → IsRef limit xs r (x ∷ y ∷ behind) → meaning x ≡ Name spelt → meaning y ≡ Name (how_spelt how) → Quoted limit behind e rest
      → IsBody limit bracket (w ∷ xs) x.place spelt (array_of how r e) rest
  array-body bracket array_word.Count w x y hw r hx hy q = by_count hw r hx hy q
  array-body bracket array_word.Length w x y hw r hx hy q = by_length hw r hx hy q

  array_body-sound : (bracket : Place) → Sound (array_body limit) (BodyRest bracket (codes "array"))
  unfolding array_body
  array_body-sound bracket = through (and_then ref_name-sound (λ front. and_then (one-sound pick_array) (λ how. and_then (quoted-sound limit low) (λ e. gives (named_body front.1 (array_of how.0 front.0 e)))))) (λ xs inner rest t. record {
    is = λ w hw.
        let y = t.next.first in
        let first = rw y.whole at t.first.first in
        rw (t.next.next.next.value, t.next.next.next.rest_is, t.first.at)
        (array-body bracket t.next.value.0 w t.first.x y.x hw first t.first.means (array-is (meaning y.x) t.next.value.0 y.picks) t.next.next.first);
  })

  body-sound : (bracket : Place) (word : FieldWord) → Sound (body_from limit bracket word) (BodyRest bracket (spelt_of word))
  body-sound bracket field_word.Simple = through (simple_body-sound bracket) (λ xs inner rest t. t)
  body-sound bracket field_word.Discriminator = through (discriminator_body-sound bracket) (λ xs inner rest t. t)
  body-sound bracket field_word.Const = through (const_body-sound bracket) (λ xs inner rest t. t)
  body-sound bracket field_word.Reserved = through (reserved_body-sound bracket) (λ xs inner rest t. t)
  body-sound bracket field_word.Implicit = through (implicit_body-sound bracket) (λ xs inner rest t. t)
  body-sound bracket field_word.Virtual = through (virtual_body-sound bracket) (λ xs inner rest t. t)
  body-sound bracket field_word.Optional = through (optional_body-sound bracket) (λ xs inner rest t. t)
  body-sound bracket field_word.Checksum = through (checksum_body-sound bracket) (λ xs inner rest t. t)
  body-sound bracket field_word.Padding = through (padding_body-sound bracket) (λ xs inner rest t. t)
  body-sound bracket field_word.Array = through (array_body-sound bracket) (λ xs inner rest t. t)

  -- what stands behind a field's word
  record FieldRest (bracket : Place) (word : FieldWord) (xs : List Lexeme) (f : Field) (rest : List Lexeme) : Type 0 where
    pub is : (left w : Lexeme) → bracket ≡ left.place → meaning left ≡ Sign sign.LeftBracket → meaning w ≡ Name (spelt_of word) → IsField limit (left ∷ w ∷ xs) f rest

  field_from-sound : (bracket : Place) (word : FieldWord) → Sound (field_from limit bracket word) (FieldRest bracket word)
  unfolding field_from
  field_from-sound bracket word =
      through (and_then (body-sound bracket word) (λ inner. and_then order-sound (λ order. and_then (mark-sound mark.RightBracket) (λ right.
      gives (roll-Field (record { place = bracket; named = inner.named; name = inner.name; order = order; body = inner.body }))))))
      (λ xs f rest t. record {
        is = λ left w at hl hw.
            let right = t.next.next.first in
            let gave = t.next.next.next in
            let body = rw at at (t.first.is w hw) in
            rw (gave.value, gave.rest_is, at) (field hl body (rw right.whole at t.next.first) right.means);
      })

  field-sound : Sound (field_at limit) (IsField limit)
  unfolding field_at
  field-sound = through (and_then (mark-sound mark.LeftBracket) (λ left. and_then (one-sound pick_field) (λ word. field_from-sound left word.0)))
      (λ xs f rest t.
      let w = t.next.first in
      rw (t.first.whole, w.whole) (t.next.next.is t.first.x w.x t.first.at t.first.means (field-is (meaning w.x) t.next.value.0 w.picks)))

  fields-sound : Sound (fields_at limit) (Many (IsField limit))
  unfolding fields_at
  fields-sound = through (many-sound (is_mark mark.LeftBracket) field-sound) (λ xs fs rest t. t)

  -- ---- switches

  case-sound : Sound (case_at limit) (IsCase limit)
  unfolding case_at
  case-sound =
      through (and_then (mark-sound mark.LeftBracket) (λ left. and_then keys-sound (λ keys. and_then name-sound (λ named. and_then fields-sound (λ fields.
      and_then (mark-sound mark.RightBracket) (λ right.
      gives (roll-Case (record { place = left; named = named.1; keys = keys; name = named.0; fields = fields }))))))))
      (λ xs c rest t.
      let named = t.next.next.first in
      let fields = t.next.next.next.first in
      let right = t.next.next.next.next.first in
      let gave = t.next.next.next.next.next in
      rw (t.first.whole, gave.value, gave.rest_is, t.first.at, named.at)
      (case t.first.means (rw named.whole at t.next.first) named.means (rw right.whole at fields) right.means))

  cases-sound : Sound (cases_at limit) (Many (IsCase limit))
  unfolding cases_at
  cases-sound = through (many-sound (is_mark mark.LeftBracket) case-sound) (λ xs cs rest t. t)

  bare_name-sound : Sound bare_name_at IsNamed
  bare_name-sound = through (and_then name-sound (λ n. gives n.0)) (λ xs spelt rest t. rw (t.first.whole, t.next.value, t.next.rest_is) (named t.first.means))

  record SwitchRest (bracket : Place) (xs : List Lexeme) (f : Field) (rest : List Lexeme) : Type 0 where
    pub is : (left w : Lexeme) → bracket ≡ left.place → meaning left ≡ Sign sign.LeftBracket → meaning w ≡ Name (codes "typeSwitch") → IsSwitch limit (left ∷ w ∷ xs) f rest

  switch_from-sound : (bracket : Place) → Sound (switch_from limit bracket) (SwitchRest bracket)
  unfolding switch_from
  switch_from-sound bracket =
      through (and_then (listed-sound bare_name-sound) (λ names. and_then cases-sound (λ cases. and_then (mark-sound mark.RightBracket) (λ right.
      gives (roll-Field (record { place = bracket; named = bracket; name = []; order = None; body = tree_body.Switch names cases }))))))
      (λ xs f rest t. record {
        is = λ left w at hl hw.
            let right = t.next.next.first in
            let gave = t.next.next.next in
            rw (gave.value, gave.rest_is, at) (switch hl hw t.first (rw right.whole at t.next.first) right.means);
      })

  switch-sound : Sound (switch_at limit) (IsSwitch limit)
  unfolding switch_at
  switch-sound = through (and_then (mark-sound mark.LeftBracket) (λ left. and_then (word-sound (codes "typeSwitch")) (λ word. switch_from-sound left)))
      (λ xs f rest t.
      let w = t.next.first in
      rw (t.first.whole, w.whole) (t.next.next.is t.first.x w.x t.first.at t.first.means w.means))

  record MemberRest (bracket : Place) (word : MemberWord) (xs : List Lexeme) (f : Field) (rest : List Lexeme) : Type 0 where
    pub is : (left w : Lexeme) → bracket ≡ left.place → meaning left ≡ Sign sign.LeftBracket → pick_member (meaning w) ≡ Ok word → IsMember limit (left ∷ w ∷ xs) f rest

  member-field : (b : Bool) (r : Result FieldWord ParseWhy) (word : FieldWord) → cond b (Ok of_switch) (or_member r) ≡ Ok (of_field word) → r ≡ Ok word
  member-field true r word e = absurd (cc)
  member-field false (Ok w) word e = let e' : w ≡ word = cc in ap Ok e'
  member-field false (Err why) word e = absurd (cc)

  member-switch : (b : Bool) (r : Result FieldWord ParseWhy) → cond b (Ok of_switch) (or_member r) ≡ Ok of_switch → b ≡ true
  member-switch true r e = refl
  member-switch false (Ok w) e = absurd (cc)
  member-switch false (Err why) e = absurd (cc)

  switch-word : (m : Meaning) → is_word (codes "typeSwitch") m ≡ true → m ≡ Name (codes "typeSwitch")
  switch-word (Name bytes) h = ap Name (spells bytes (codes "typeSwitch") h)
  switch-word (Number n) h = absurd (cc)
  switch-word (Taken t) h = absurd (cc)
  switch-word (Sign s) h = absurd (cc)

  member_from-sound : (bracket : Place) (word : MemberWord) → Sound (member_from limit bracket word) (MemberRest bracket word)
  member_from-sound bracket (of_field word) = through (field_from-sound bracket word) (λ xs f rest t. record {
    is = λ left w at hl picks.
        field (t.is left w at hl (field-is (meaning w) word (member-field (is_word (codes "typeSwitch") (meaning w)) (pick_field (meaning w)) word picks)));
  })
  member_from-sound bracket of_switch = through (switch_from-sound bracket) (λ xs f rest t. record {
    is = λ left w at hl picks.
        switch (t.is left w at hl (switch-word (meaning w) (member-switch (is_word (codes "typeSwitch") (meaning w)) (pick_field (meaning w)) picks)));
  })

  member-sound : Sound (member_at limit) (IsMember limit)
  unfolding member_at
  member-sound = through (and_then (mark-sound mark.LeftBracket) (λ left. and_then (one-sound pick_member) (λ word. member_from-sound left word.0)))
      (λ xs f rest t.
      let w = t.next.first in
      rw (t.first.whole, w.whole) (t.next.next.is t.first.x w.x t.first.at t.first.means w.picks))

  members-sound : Sound (members_at limit) (Many (IsMember limit))
  unfolding members_at
  members-sound = through (many-sound (is_mark mark.LeftBracket) member-sound) (λ xs fs rest t. t)

  -- ---- definitions

  record HeadIs (xs : List Lexeme) (h : Head) (rest : List Lexeme) : Type 0 where
    pub is : IsHead xs h.named h.name h.params h.order rest

  head-sound : Sound head_at HeadIs
  unfolding head_at
  head-sound = through (and_then name-sound (λ named. and_then params-sound (λ params. and_then order-sound (λ order.
      gives (record { named = named.1; name = named.0; params = params; order = order })))))
      (λ xs h rest t. record {
        is =
            let gave = t.next.next.next in
            rw (t.first.whole, gave.value, gave.rest_is, t.first.at) (head t.first.means t.next.first t.next.next.first);
      })

  record EnumHead (xs : List Lexeme) (h : Head) (rest : List Lexeme) : Type 0 where
    pub x : Lexeme
    pub between : List Lexeme
    pub whole : xs ≡ x ∷ between
    pub means : meaning x ≡ Name h.name
    pub params : IsParams between h.params rest
    pub at : h.named ≡ x.place
    pub order : h.order ≡ None

  enum_head-sound : Sound enum_head_at EnumHead
  unfolding enum_head_at
  enum_head-sound = through (and_then name-sound (λ named. and_then params-sound (λ params.
      gives (record { named = named.1; name = named.0; params = params; order = None }))))
      (λ xs h rest t.
      let gave = t.next.next in
      rw (gave.value, gave.rest_is) (record {
        x = t.first.x;
        between = t.mid;
        whole = t.first.whole;
        means = t.first.means;
        params = t.next.first;
        at = t.first.at;
        order = refl;
      }))

  constants-sound : Sound constants_at (Many IsConstant)
  unfolding constants_at
  constants-sound = through (many-sound (is_mark mark.LeftBracket) constant-sound) (λ xs cs rest t. t)

  abbrev def_spelt : DefWord → List ℕ
  def_spelt def_word.Type = codes "type"
  def_spelt def_word.DiscriminatedType = codes "discriminatedType"
  def_spelt def_word.DataIo = codes "dataIo"
  def_spelt def_word.Enum = codes "enum"

  record DefRest (bracket : Place) (word : DefWord) (xs : List Lexeme) (d : Def) (rest : List Lexeme) : Type 0 where
    pub is : (left w : Lexeme) → bracket ≡ left.place → meaning left ≡ Sign sign.LeftBracket → meaning w ≡ Name (def_spelt word) → IsDef limit (left ∷ w ∷ xs) d rest

  type_from-sound : (bracket : Place) → Sound (type_from limit bracket) (DefRest bracket def_word.Type)
  unfolding type_from
  type_from-sound bracket =
      through (and_then head-sound (λ h. and_then fields-sound (λ inner. and_then (mark-sound mark.RightBracket) (λ right. gives (def_of bracket h (tree_def.Plain inner))))))
      (λ xs d rest t. record {
        is = λ left w at hl hw.
            let right = t.next.next.first in
            let gave = t.next.next.next in
            rw (gave.value, gave.rest_is, at) (type_ hl hw t.first.is (rw right.whole at t.next.first) right.means);
      })

  discriminated_from-sound : (bracket : Place) → Sound (discriminated_from limit bracket) (DefRest bracket def_word.DiscriminatedType)
  unfolding discriminated_from
  discriminated_from-sound bracket =
      through (and_then head-sound (λ h. and_then members-sound (λ inner. and_then (mark-sound mark.RightBracket) (λ right. gives (def_of bracket h (tree_def.Switched inner))))))
      (λ xs d rest t. record {
        is = λ left w at hl hw.
            let right = t.next.next.first in
            let gave = t.next.next.next in
            rw (gave.value, gave.rest_is, at) (discriminated hl hw t.first.is (rw right.whole at t.next.first) right.means);
      })

  data_io_from-sound : (bracket : Place) → Sound (data_io_from limit bracket) (DefRest bracket def_word.DataIo)
  unfolding data_io_from
  data_io_from-sound bracket =
      through (and_then head-sound (λ h. and_then switch-sound (λ inner. and_then (mark-sound mark.RightBracket) (λ right. gives (def_of bracket h (tree_def.DataIo inner))))))
      (λ xs d rest t. record {
        is = λ left w at hl hw.
            let right = t.next.next.first in
            let gave = t.next.next.next in
            rw (gave.value, gave.rest_is, at) (data_io hl hw t.first.is (rw right.whole at t.next.first) right.means);
      })

  enum_from-sound : (bracket : Place) → Sound (enum_from bracket) (DefRest bracket def_word.Enum)
  unfolding enum_from
  enum_from-sound bracket =
      through (and_then simple-sound (λ base. and_then enum_head-sound (λ h. and_then constants-sound (λ constants. and_then (mark-sound mark.RightBracket) (λ right.
      gives (def_of bracket h (tree_def.Enum base constants)))))))
      (λ xs d rest t. record {
        is = λ left w at hl hw.
            let h = t.next.first in
            let right = t.next.next.next.first in
            let gave = t.next.next.next.next in
            rw (gave.value, gave.rest_is, at, h.at, h.order)
            (enum hl hw (rw h.whole at t.first) h.means h.params (rw right.whole at t.next.next.first) right.means);
      })

  def-chosen : (b : Bool) (w : DefWord) (rest : Option DefWord) (word : DefWord) → cond b (Some w) rest ≡ Some word → ((b ≡ true) × (w ≡ word)) ⊎ (rest ≡ Some word)
  def-chosen true w rest word e = inl (refl, cc)
  def-chosen false w rest word e = inr e

  def-by : (bytes w : List ℕ) (v word : DefWord) → w ≡ def_spelt v → (bytes_eq bytes w ≡ true) × (v ≡ word) → bytes ≡ def_spelt word
  def-by bytes w v word e h = spells bytes w h.0 ∙ e ∙ ap def_spelt h.1

  no-def : (word : DefWord) → None ≡ Some word → ⊥
  no-def word e = cc

  def-spelt : (bytes : List ℕ) (word : DefWord) → def_word_of bytes ≡ Some word → bytes ≡ def_spelt word
  unfolding def_word_of
  def-spelt bytes word e =
      elim (def-chosen (bytes_eq bytes (codes "type")) def_word.Type (cond (bytes_eq bytes (codes "discriminatedType")) (Some def_word.DiscriminatedType) (cond (bytes_eq bytes (codes "dataIo")) (Some def_word.DataIo) (cond (bytes_eq bytes (codes "enum")) (Some def_word.Enum) None))) word e) [
        | inl h ↦ def-by bytes (codes "type") def_word.Type word refl h
        | inr e1 ↦ elim (def-chosen (bytes_eq bytes (codes "discriminatedType")) def_word.DiscriminatedType (cond (bytes_eq bytes (codes "dataIo")) (Some def_word.DataIo) (cond (bytes_eq bytes (codes "enum")) (Some def_word.Enum) None)) word e1) [
          | inl h ↦ def-by bytes (codes "discriminatedType") def_word.DiscriminatedType word refl h
          | inr e2 ↦ elim (def-chosen (bytes_eq bytes (codes "dataIo")) def_word.DataIo (cond (bytes_eq bytes (codes "enum")) (Some def_word.Enum) None) word e2) [
            | inl h ↦ def-by bytes (codes "dataIo") def_word.DataIo word refl h
            | inr e3 ↦ elim (def-chosen (bytes_eq bytes (codes "enum")) def_word.Enum None word e3) [
              | inl h ↦ def-by bytes (codes "enum") def_word.Enum word refl h
              | inr e4 ↦ absurd (no-def word e4)
            ]
          ]
        ]
      ]

  found-def : (o : Option DefWord) (word : DefWord) → or_unexpected o ≡ Ok word → o ≡ Some word
  found-def (Some w) word e = let e' : w ≡ word = cc in ap Some e'
  found-def None word e = absurd (cc)

  def-is : (m : Meaning) (word : DefWord) → pick_def m ≡ Ok word → m ≡ Name (def_spelt word)
  def-is (Name bytes) word e = ap Name (def-spelt bytes word (found-def (def_word_of bytes) word e))
  def-is (Number n) word e = absurd (cc)
  def-is (Taken t) word e = absurd (cc)
  def-is (Sign s) word e = absurd (cc)

  def_from-sound : (bracket : Place) (word : DefWord) → Sound (def_from limit bracket word) (DefRest bracket word)
  def_from-sound bracket def_word.Type = through (type_from-sound bracket) (λ xs d rest t. t)
  def_from-sound bracket def_word.DiscriminatedType = through (discriminated_from-sound bracket) (λ xs d rest t. t)
  def_from-sound bracket def_word.DataIo = through (data_io_from-sound bracket) (λ xs d rest t. t)
  def_from-sound bracket def_word.Enum = through (enum_from-sound bracket) (λ xs d rest t. t)

  def-sound : Sound (def_at limit) (IsDef limit)
  unfolding def_at
  def-sound = through (and_then (mark-sound mark.LeftBracket) (λ left. and_then (one-sound pick_def) (λ word. def_from-sound left word.0)))
      (λ xs d rest t.
      let w = t.next.first in
      rw (t.first.whole, w.whole) (t.next.next.is t.first.x w.x t.first.at t.first.means (def-is (meaning w.x) t.next.value.0 w.picks)))

  defs-sound : Sound (defs_at limit) (Many (IsDef limit))
  unfolding defs_at
  defs-sound = through (many-sound (is_mark mark.LeftBracket) def-sound) (λ xs ds rest t. t)

  whole-is : (xs rest : List Lexeme) (ds : List Def) (d : Description) → Many (IsDef limit) xs ds rest → ended ds (front_of rest) rest ≡ Ok d → Tree limit xs d
  whole-is xs [] ds d m e =
      let same : ds ≡ d.defs = ap defs-of e in
      rw (← same) m
    where
      defs-of : Result Description Stopped → List Def
      defs-of (Ok d) = d.defs
      defs-of (Err f) = ds
  whole-is xs (x ∷ rest) ds d m e = absurd (cc)

  pub read-tree : (xs : List Lexeme) (d : Description) → description_at limit xs ≡ Ok d → Tree limit xs d
  unfolding description_at
  read-tree xs d e = by-defs (defs_at limit xs) refl e
    where
      by-defs : (r : Read (List Def)) → defs_at limit xs ≡ r → (r >>= λ r. ended r.0 (front_of r.1) r.1) ≡ Ok d → Tree limit xs d
      by-defs (Ok p) h e = whole-is xs p.1 p.0 d (defs-sound.is xs p h) e
      by-defs (Err f) h e = absurd (cc)
