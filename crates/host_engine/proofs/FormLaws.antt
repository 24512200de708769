-- What the test for the first form says of a description.
use Rattle.std.proofs.Common.{◌≡◌, ℕ, zero, suc, ◌≤◌, ◌⊎◌, ◌==◌, ◌&&◌, Bool, true, false, List, [], ◌∷◌, length, slice_get, Some, refl, inl, inr, subst, arith}
use Rattle.std.specs.Prelude.{is_none, nat_le, not}
use Rattle.std.specs.List.{list_all}
use Rattle.std.proofs.lemmas.Bool.{and_parts, false≢true, cases_eq, leb-true}
use Rattle.std.proofs.lemmas.Bool.Decides.{nat_tests}
use Rattle.std.proofs.lemmas.Option.{slice_get_within}
use Rattle.mspec_tree.specs.declared.words.Simple.TheVariants.{Uint}
use Rattle.mspec_tree.specs.declared.exprs.Ref.TheVariants.{Plain as PlainRef, Named}
use Rattle.mspec_tree.specs.declared.fields.Field.{Field, out-Field}
use Rattle.mspec_tree.specs.declared.fields.Case.{Case}
use Rattle.mspec_tree.specs.declared.fields.Body.{Body, out-Body}
use Rattle.mspec_tree.specs.declared.fields.Body.TheOpen.{Body-F}
use Rattle.mspec_tree.specs.declared.fields.Body.TheOpen as body
use Rattle.mspec_tree.specs.declared.defs.Def.{Def}
use Rattle.mspec_tree.specs.declared.defs.DefBody.{DefBody}
use Rattle.mspec_tree.specs.declared.defs.DefBody.TheVariants.{Plain as PlainFields, Switched, DataIo, Enum}
use Rattle.mspec_tree.specs.declared.defs.Description.{Description}
use Rattle.mspec_meaning.specs.Plain.{IsWidth, HasWidth, IsPlainField, ArePlain}
use Rattle.host_engine.specs.FirstForm.{are_first_form, has_plain_fields, is_first_form, is_plain_body, is_plain_field, is_width, names_differ}

-- ---- fields

no_width : (w : ℕ) → (w ≡ 8 → ⊥) → (w ≡ 16 → ⊥) → (w ≡ 32 → ⊥) → (w ≡ 64 → ⊥) → is_width w ≡ true → ⊥
no_width w not_8 not_16 not_32 not_64 h = grind (arith, nat_tests)

pub width_of : (w : ℕ) → is_width w ≡ true → IsWidth w
width_of w h =
    elim (cases_eq w 8) [
      | inl e ↦ inl e
      | inr not_8 ↦ elim (cases_eq w 16) [
        | inl e ↦ inr (inl e)
        | inr not_16 ↦ elim (cases_eq w 32) [
          | inl e ↦ inr (inr (inl e))
          | inr not_32 ↦ elim (cases_eq w 64) [
            | inl e ↦ inr (inr (inr e))
            | inr not_64 ↦ absurd (no_width w not_8 not_16 not_32 not_64 h)
          ]
        ]
      ]
    ]

pub width_in : (b : Body-F Body Case Field) → is_plain_body b ≡ true → (width : ℕ) × HasWidth b width
width_in (body.Simple (PlainRef (Uint width))) h = (width, (refl, width_of width h))
width_in (body.Simple (PlainRef other)) h = absurd (false≢true h)
width_in (body.Simple (Named place name args)) h = absurd (false≢true h)
width_in other h = absurd (false≢true h)

pub is_plain : (f : Field) → is_plain_field f ≡ true → IsPlainField f
is_plain f h = width_in (out-Body (out-Field f).body) (and_parts (is_none (out-Field f).order) (is_plain_body (out-Body (out-Field f).body)) h).1

pub are_plain : (fields : List Field) → list_all is_plain_field fields ≡ true → ArePlain fields
are_plain [] h = tt
are_plain (f ∷ fields) h =
    let parts = and_parts (is_plain_field f) (list_all is_plain_field fields) h in (is_plain f parts.0, are_plain fields parts.1)

-- ---- descriptions

-- the one definition of a description in the first form
pub record OnePlain (defs : List Def) : Type 0 where
  pub def : Def
  pub fields : List Field
  pub one : defs ≡ def ∷ []
  pub no_params : def.params ≡ []
  pub form : def.body ≡ PlainFields fields
  pub some : 1 ≤ length fields
  pub few : length fields ≤ 256
  pub plain : ArePlain fields

some_length : (n : ℕ) → (suc n == 0) ≡ true → ⊥
some_length n h = grind (arith, nat_tests)

at_least_one : (n : ℕ) → not (n == 0) ≡ true → 1 ≤ n
at_least_one n h = grind (arith, nat_tests)

none_of : {A : Type 0} (xs : List A) → (length xs == 0) ≡ true → xs ≡ []
none_of [] h = refl
none_of (x ∷ xs) h = absurd (some_length (length xs) h)

one_of : (def : Def) (b : DefBody) → def.body ≡ b → def.params ≡ [] → has_plain_fields b ≡ true → OnePlain (def ∷ [])
one_of def (PlainFields fields) e params h =
    let all = and_parts (not (length fields == 0) && nat_le (length fields) 256 && list_all is_plain_field fields) (names_differ fields) h in
    let two = and_parts (not (length fields == 0) && nat_le (length fields) 256) (list_all is_plain_field fields) all.0 in
    let count = and_parts (not (length fields == 0)) (nat_le (length fields) 256) two.0 in
    record {
      def = def;
      fields = fields;
      one = refl;
      no_params = params;
      form = e;
      some = at_least_one (length fields) count.0;
      few = leb-true (length fields) 256 count.1;
      plain = are_plain fields two.1;
    }
one_of def (Switched fields) e params h = absurd (false≢true h)
one_of def (DataIo field) e params h = absurd (false≢true h)
one_of def (Enum simple constants) e params h = absurd (false≢true h)

only_of : (defs : List Def) → are_first_form defs ≡ true → OnePlain defs
only_of [] h = absurd (false≢true h)
only_of (def ∷ []) h =
    let all = and_parts ((length def.params == 0) && is_none def.order) (has_plain_fields def.body) h in
    let front = and_parts (length def.params == 0) (is_none def.order) all.0 in
    one_of def def.body refl (none_of def.params front.0) all.1
only_of (def ∷ next ∷ more) h = absurd (false≢true h)

pub one_plain : (d : Description) → is_first_form d ≡ true → OnePlain d.defs
one_plain d h = only_of d.defs h

-- a place in one definition is its place
pub only_place : (def : Def) (place : ℕ) (found : Def) → slice_get (def ∷ []) place ≡ Some found → place ≡ 0
only_place def zero found h = refl
only_place def (suc n) found h = absurd (omega (arith, slice_get_within (def ∷ []) (suc n) found h))

pub found_only : (def : Def) (place : ℕ) (found : Def) → slice_get (def ∷ []) place ≡ Some found → def ≡ found
found_only def zero found h = cc
found_only def (suc n) found h = absurd (omega (arith, slice_get_within (def ∷ []) (suc n) found h))

-- the same, of a description in the first form
pub found_def : (d : Description) (one : OnePlain d.defs) (place : ℕ) (found : Def) → slice_get d.defs place ≡ Some found → (place ≡ 0) × (one.def ≡ found)
found_def d one place found h =
    let at = subst (λ (defs : List Def). slice_get defs place ≡ Some found) one.one h in
    (only_place one.def place found at, found_only one.def place found at)

true_or_false : (b : Bool) → (b ≡ true) ⊎ (b ≡ false)
true_or_false true = inl refl
true_or_false false = inr refl

pub form_or_not : (d : Description) → (is_first_form d ≡ true) ⊎ (is_first_form d ≡ false)
form_or_not d = true_or_false (is_first_form d)
