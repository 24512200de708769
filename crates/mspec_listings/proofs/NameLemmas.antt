-- The names of a description that the grammar can give.
use Rattle.std.proofs.Common.{◌≡◌, ◌≢◌, ℕ, zero, suc, ◌||◌, ◌&&◌, ◌==◌, Bool, true, false, List, [], ◌∷◌, Option, Some, None, refl, subst, ◌⊎◌, inl, inr}
use Rattle.std.specs.Prelude.{is_none, not, slice_get, unwrap_or}
use Rattle.std.specs.Char.{is_ascii_alphabetic, is_ascii_digit}
use Rattle.std.specs.List.{AllByRecursion, list_all}
use Rattle.std.proofs.lemmas.Bool.{and_parts}
use Rattle.mspec_tree.specs.Form.{are_names, has_order, is_body, is_case, is_def, is_def_body, is_empty, is_field, is_key, is_name, is_one_of, is_param, is_simple, is_lit, is_ref, is_kind, is_expr, is_spelt, is_switch, is_switch_body, taken_words, IsWritten}
use Rattle.mspec_tree.specs.declared.fields.Body.TheOpen.{Body-F}
use Rattle.mspec_tree.specs.declared.fields.Body.TheOpen as body
use Rattle.mspec_tree.specs.declared.fields.Case.{Case, out-Case}
use Rattle.mspec_tree.specs.declared.fields.Field.{Field, out-Field}
use Rattle.mspec_tree.specs.declared.defs.Def.{Def}
use Rattle.mspec_tree.specs.declared.defs.DefBody.{DefBody}
use Rattle.mspec_tree.specs.declared.defs.DefBody.TheVariants as def
use Rattle.mspec_tree.specs.declared.defs.Description.{Description}
use Rattle.mspec_expr.specs.Kinds.{BodyLayer, case_fields, case_name, cases_of, entry_fields, entry_fields_in, fields_in, fields_of, first_cases, layer, of_found, switch_cases}
use Rattle.mspec_listings.specs.Plain.{IsSolid}
use Rattle.mspec_listings.proofs.SolidLemmas.{all-append}

-- ---- names are solid

abbrev pub name_byte : ℕ → Bool
name_byte c = is_ascii_alphabetic c || c == 95 || is_ascii_digit c

byte_solid : (c : ℕ) → name_byte c ≡ true → (c ≢ 32) × (c ≢ 10)
byte_solid c h = (
  λ e. let at : name_byte 32 ≡ true = subst (λ (x : ℕ). name_byte x ≡ true) e h in cc,
  λ e. let at : name_byte 10 ≡ true = subst (λ (x : ℕ). name_byte x ≡ true) e h in cc,
)

-- letters, digits and `_`
abbrev pub IsNameText : List ℕ → Type 0
IsNameText bytes = list_all name_byte bytes ≡ true

pub bytes_solid : (bytes : List ℕ) → list_all name_byte bytes ≡ true → IsSolid bytes
bytes_solid [] h = tt
bytes_solid (c ∷ bytes) h =
    let parts = and_parts (name_byte c) (list_all name_byte bytes) h in
    (byte_solid c parts.0, bytes_solid bytes parts.1)

first_byte : (a b : Bool) → (a || b) ≡ true → (c : Bool) → (a || b || c) ≡ true
first_byte true b h c = refl
first_byte false true h c = refl
first_byte false false h c = absurd (cc)

spelt_text : (name : List ℕ) → is_spelt name ≡ true → IsNameText name
spelt_text [] h = refl
spelt_text (b ∷ bytes) h =
    let parts = and_parts (is_ascii_alphabetic b || b == 95) (list_all name_byte bytes) h in
    rw (first_byte (is_ascii_alphabetic b) (b == 95) parts.0 (is_ascii_digit b)) parts.1

name_text : (name : List ℕ) → is_name name ≡ true → IsNameText name
name_text name h = spelt_text name (and_parts (is_spelt name) (not (is_one_of taken_words name)) h).0

empty_text : (name : List ℕ) → is_empty name ≡ true → IsNameText name
empty_text [] h = refl
empty_text (b ∷ name) h = absurd (cc)

named_first : (name : List ℕ) (other : Bool) → (is_name name && other) ≡ true → IsNameText name
named_first name other h = name_text name (and_parts (is_name name) other h).0

-- ---- fields and cases

abbrev pub AreNamed : List Field → Type 0
AreNamed fields = AllByRecursion (λ field. IsNameText (out-Field field).name) fields

abbrev pub AreNamedCases : List Case → Type 0
AreNamedCases cases = AllByRecursion (λ case. IsNameText (out-Case case).name) cases

-- what a field of a definition gives a listing: fields with entries, and cases
record Gives (case : ℕ) (field : Field) (in_it : BodyLayer) : Type 0 where
  entries : AreNamed (entry_fields_in case field in_it)
  cases : AreNamedCases (unwrap_or (switch_cases in_it) [])

body_name : (name : List ℕ) (in_it : BodyLayer) → is_body name in_it ≡ true → IsNameText name
body_name name (body.Simple ref) h = named_first name (is_ref ref) h
body_name name (body.Discriminator kind) h = named_first name (is_kind kind) h
body_name name (body.Const written lit) h = named_first name (is_simple written && is_lit lit) h
body_name name (body.Reserved written lit) h = empty_text name (and_parts (is_empty name) (is_simple written && is_lit lit) h).0
body_name name (body.Implicit kind e) h = named_first name (is_kind kind && is_expr e) h
body_name name (body.Virtual kind e) h = named_first name (is_kind kind && is_expr e) h
body_name name (body.Optional ref e) h = named_first name (is_ref ref && is_expr e) h
body_name name (body.Checksum written e) h = named_first name (is_simple written && is_expr e) h
body_name name (body.Padding written lit e) h = named_first name (is_simple written && (is_lit lit && is_expr e)) h
body_name name (body.CountArray ref e) h = named_first name (is_ref ref && is_expr e) h
body_name name (body.LengthArray ref e) h = named_first name (is_ref ref && is_expr e) h
body_name name (body.Switch names cases) h = absurd (cc)

plain_gives : (case : ℕ) (field : Field) (in_it : BodyLayer) → is_body (out-Field field).name in_it ≡ true → IsNameText (out-Field field).name → Gives case field in_it
plain_gives case field (body.Simple ref) h n = record { entries = (n, tt); cases = tt }
plain_gives case field (body.Discriminator kind) h n = record { entries = (n, tt); cases = tt }
plain_gives case field (body.Const written lit) h n = record { entries = (n, tt); cases = tt }
plain_gives case field (body.Reserved written lit) h n = record { entries = (n, tt); cases = tt }
plain_gives case field (body.Implicit kind e) h n = record { entries = (n, tt); cases = tt }
plain_gives case field (body.Virtual kind e) h n = record { entries = (n, tt); cases = tt }
plain_gives case field (body.Optional ref e) h n = record { entries = (n, tt); cases = tt }
plain_gives case field (body.Checksum written e) h n = record { entries = (n, tt); cases = tt }
plain_gives case field (body.Padding written lit e) h n = record { entries = (n, tt); cases = tt }
plain_gives case field (body.CountArray ref e) h n = record { entries = (n, tt); cases = tt }
plain_gives case field (body.LengthArray ref e) h n = record { entries = (n, tt); cases = tt }
plain_gives case field (body.Switch names cases) h n = absurd (cc)

fields_named : (fields : List Field) → list_all is_field fields ≡ true → AreNamed fields
fields_named [] h = tt
fields_named (field ∷ fields) h =
    let parts = and_parts (is_field field) (list_all is_field fields) h in
    (body_name (out-Field field).name (layer field) parts.0, fields_named fields parts.1)

-- the fields of a case, and its name
record CaseHas (case : Case) : Type 0 where
  name : IsNameText (out-Case case).name
  fields : AreNamed (out-Case case).fields

case_has : (case : Case) → is_case case ≡ true → CaseHas case
case_has case h =
    let rest = and_parts (list_all is_key (out-Case case).keys) (is_name (out-Case case).name && list_all is_field (out-Case case).fields) h in
    let parts = and_parts (is_name (out-Case case).name) (list_all is_field (out-Case case).fields) rest.1 in
    record { name = name_text (out-Case case).name parts.0; fields = fields_named (out-Case case).fields parts.1 }

cases_named : (cases : List Case) → list_all is_case cases ≡ true → AreNamedCases cases
cases_named [] h = tt
cases_named (case ∷ cases) h =
    let parts = and_parts (is_case case) (list_all is_case cases) h in
    ((case_has case parts.0).name, cases_named cases parts.1)

case_fields_named : (case : ℕ) (cases : List Case) → list_all is_case cases ≡ true → AreNamed (case_fields case cases)
case_fields_named zero cases h = tt
case_fields_named (suc before) [] h = tt
case_fields_named (suc zero) (case ∷ cases) h = (case_has case (and_parts (is_case case) (list_all is_case cases) h).0).fields
case_fields_named (suc (suc before)) (case ∷ cases) h = case_fields_named (suc before) cases (and_parts (is_case case) (list_all is_case cases) h).1

switch_gives : (case : ℕ) (field : Field) (in_it : BodyLayer) → is_switch_body in_it ≡ true → Gives case field in_it
switch_gives case field (body.Simple ref) h = absurd (cc)
switch_gives case field (body.Discriminator kind) h = absurd (cc)
switch_gives case field (body.Const written lit) h = absurd (cc)
switch_gives case field (body.Reserved written lit) h = absurd (cc)
switch_gives case field (body.Implicit kind e) h = absurd (cc)
switch_gives case field (body.Virtual kind e) h = absurd (cc)
switch_gives case field (body.Optional ref e) h = absurd (cc)
switch_gives case field (body.Checksum written e) h = absurd (cc)
switch_gives case field (body.Padding written lit e) h = absurd (cc)
switch_gives case field (body.CountArray ref e) h = absurd (cc)
switch_gives case field (body.LengthArray ref e) h = absurd (cc)
switch_gives case field (body.Switch names cases) h =
    let all = (and_parts (are_names names) (list_all is_case cases) h).1 in
    record { entries = case_fields_named case cases all; cases = cases_named cases all }

-- ---- definitions

abbrev is_member : Field → Bool
is_member field = is_field field || is_switch field

either : (a b : Bool) → (a || b) ≡ true → (a ≡ true) ⊎ (b ≡ true)
either true b h = inl refl
either false b h = inr h

member_gives : (case : ℕ) (field : Field) → (is_field field ≡ true) ⊎ (is_switch field ≡ true) → Gives case field (layer field)
member_gives case field (inl h) = plain_gives case field (layer field) h (body_name (out-Field field).name (layer field) h)
member_gives case field (inr h) =
    let rest = and_parts (is_empty (out-Field field).name) (is_none (out-Field field).order && is_switch_body (layer field)) h in
    switch_gives case field (layer field) (and_parts (is_none (out-Field field).order) (is_switch_body (layer field)) rest.1).1

-- fields of a definition's bracket
record Have (case : ℕ) (fields : List Field) : Type 0 where
  entries : AreNamed (entry_fields case fields)
  cases : AreNamedCases (first_cases fields)

first_of_both : (found : Option (List Case)) (rest : List Case) → AreNamedCases (unwrap_or found []) → AreNamedCases rest → AreNamedCases (unwrap_or found rest)
first_of_both (Some cases) rest h k = h
first_of_both None rest h k = k

have_members : (case : ℕ) (fields : List Field) → list_all is_member fields ≡ true → Have case fields
have_members case [] h = record { entries = tt; cases = tt }
have_members case (field ∷ fields) h =
    let parts = and_parts (is_member field) (list_all is_member fields) h in
    let here = member_gives case field (either (is_field field) (is_switch field) parts.0) in
    let rest = have_members case fields parts.1 in
    record {
      entries = all-append (λ f. IsNameText (out-Field f).name) (entry_fields_in case field (layer field)) (entry_fields case fields) here.entries rest.entries;
      cases = first_of_both (switch_cases (layer field)) (first_cases fields) here.cases rest.cases;
    }

members_of_fields : (fields : List Field) → list_all is_field fields ≡ true → list_all is_member fields ≡ true
members_of_fields [] h = refl
members_of_fields (field ∷ fields) h =
    let parts = and_parts (is_field field) (list_all is_field fields) h in
    rw parts.0 (members_of_fields fields parts.1)

other_member : (a b : Bool) → b ≡ true → ((a || b) && true) ≡ true
other_member true b h = refl
other_member false b h = rw h refl

have_body : (case : ℕ) (inner : DefBody) → is_def_body inner ≡ true → Have case (fields_in inner)
have_body case (def.Plain fields) h = have_members case fields (members_of_fields fields h)
have_body case (def.Switched fields) h = have_members case fields h
have_body case (def.DataIo switch) h = have_members case (switch ∷ []) (other_member (is_field switch) (is_switch switch) h)
have_body case (def.Enum base constants) h = record { entries = tt; cases = tt }

have_def : (case : ℕ) (one : Def) → is_def one ≡ true → Have case (fields_in one.body)
have_def case one h =
    let a = and_parts (is_name one.name) (list_all is_param one.params && ((has_order one.body || is_none one.order) && is_def_body one.body)) h in
    let b = and_parts (list_all is_param one.params) ((has_order one.body || is_none one.order) && is_def_body one.body) a.1 in
    have_body case one.body (and_parts (has_order one.body || is_none one.order) (is_def_body one.body) b.1).1

have_at : (case : ℕ) (defs : List Def) (place : ℕ) → list_all is_def defs ≡ true → Have case (of_found (λ found. fields_in found.body) (slice_get defs place))
have_at case [] place h = record { entries = tt; cases = tt }
have_at case (one ∷ defs) zero h = have_def case one (and_parts (is_def one) (list_all is_def defs) h).0
have_at case (one ∷ defs) (suc place) h = have_at case defs place (and_parts (is_def one) (list_all is_def defs) h).1

pub fields_are_named : (d : Description) (def case : ℕ) → IsWritten d → AreNamed (entry_fields case (fields_of d def))
fields_are_named d def case h = (have_at case d.defs def h).entries

cases_text : (case : ℕ) (cases : List Case) → AreNamedCases cases → IsNameText (case_name case cases)
cases_text zero cases h = refl
cases_text (suc before) [] h = refl
cases_text (suc zero) (case ∷ cases) h = h.0
cases_text (suc (suc before)) (case ∷ cases) h = cases_text (suc before) cases h.1

pub case_is_named : (d : Description) (def case : ℕ) → IsWritten d → IsSolid (case_name case (cases_of d def))
case_is_named d def case h = bytes_solid (case_name case (cases_of d def)) (cases_text case (cases_of d def) (have_at case d.defs def h).cases)
