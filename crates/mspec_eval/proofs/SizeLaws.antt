-- Sizes of entries, one after another.
use Rattle.std.proofs.Common.{◌≡◌, ℕ, zero, suc, ◌+◌, ◌-◌, ◌<◌, ◌≤◌, Bool, true, false, ◌&&◌, ◌==◌, List, [], ◌∷◌, length, drop, min, get_or, Some, None, refl, sym, ap, ◌∙◌, arith}
use Rattle.std.proofs.Math.ListN.{length-drop}
use Rattle.std.proofs.lemmas.List.{drop_more}
use Rattle.std.proofs.lemmas.Bool.Decides.{nat_tests}
use Rattle.node_tree.specs.declared.nodes.Node.{Node, out-Node}
use Rattle.node_tree.specs.declared.nodes.Node.TheOpen.{Node-F}
use Rattle.mspec_tree.specs.declared.fields.Body.TheOpen.{Body-F}
use Rattle.mspec_tree.specs.declared.fields.Case.{Case}
use Rattle.mspec_tree.specs.declared.fields.Field.{Field, out-Field}
use Rattle.mspec_tree.specs.declared.defs.Description.{Description}
use Rattle.mspec_expr.specs.Kinds.{BodyLayer, case_fields, field_meant, fields_of, layer, switch_cases}
use Rattle.mspec_expr.specs.Sizes.{Measure, Measures, Measuring, body_measure, group_measure, is_seen_by_padding, items_measure, measure_entries, measure_entry, measure_field, measure_fields, measure_to, nothing, seen_if, together}
use Rattle.mspec_expr.specs.Values.{Seen}
use Rattle.mspec_eval.proofs.EntryLaws.{drop-min}

-- ---- where no entry is left

abbrev at_end : List Seen → Measure → Measuring
at_end names sum = record { left = []; names = names; sum = sum }

pub no_entries : (d : Description) (ms : Measures) (last : Bool) (fields : List Field) (names : List Seen) (sum : Measure) → measure_entries d ms last fields (at_end names sum) ≡ at_end names sum
no_entries d ms last [] names sum = refl
no_entries d ms last (field ∷ fields) names sum = no_entries d ms last fields names sum

no_field : (d : Description) (ms : Measures) (last : Bool) (case : ℕ) (field : Field) (body : BodyLayer) (names : List Seen) (sum : Measure) → measure_field d ms last case field body (at_end names sum) ≡ at_end names sum
no_field d ms last case field (Body-F.Simple kind) names sum = refl
no_field d ms last case field (Body-F.Discriminator kind) names sum = refl
no_field d ms last case field (Body-F.Const simple value) names sum = refl
no_field d ms last case field (Body-F.Reserved simple value) names sum = refl
no_field d ms last case field (Body-F.Implicit kind value) names sum = refl
no_field d ms last case field (Body-F.Virtual kind value) names sum = refl
no_field d ms last case field (Body-F.Optional kind condition) names sum = refl
no_field d ms last case field (Body-F.Checksum simple value) names sum = refl
no_field d ms last case field (Body-F.Padding simple value count) names sum = refl
no_field d ms last case field (Body-F.CountArray kind count) names sum = refl
no_field d ms last case field (Body-F.LengthArray kind length) names sum = refl
no_field d ms last case field (Body-F.Switch keys cases) names sum =
    ap (λ (m : Measuring). record m { names = names }) (no_entries d ms last (case_fields case cases) names sum)

pub no_fields : (d : Description) (ms : Measures) (last : Bool) (case : ℕ) (fields : List Field) (names : List Seen) (sum : Measure) → measure_fields d ms last case fields (at_end names sum) ≡ at_end names sum
no_fields d ms last case [] names sum = refl
no_fields d ms last case (field ∷ fields) names sum =
    ap (measure_fields d ms last case fields) (no_field d ms last case field (layer field) names sum)
    ∙ no_fields d ms last case fields names sum

pub none_left : (nodes : List Node) → length nodes ≡ 0 → nodes ≡ []
none_left [] h = refl
none_left (node ∷ nodes) h = absurd (omega arith)

-- ---- behind a switch

abbrev pub there : List Node → List Seen → Measure → Measuring
there left names sum = record { left = left; names = names; sum = sum }

entries_left : (d : Description) (ms : Measures) (last : Bool) (fields : List Field) (left : List Node) (names : List Seen) (sum : Measure) → (measure_entries d ms last fields (there left names sum)).left ≡ drop (length fields) left
entries_left d ms last [] left names sum = refl
entries_left d ms last (field ∷ fields) [] names sum = ap (λ (m : Measuring). m.left) (no_entries d ms last fields names sum)
entries_left d ms last (field ∷ fields) (node ∷ nodes) names sum =
    entries_left d ms last fields nodes
    (seen_if (is_seen_by_padding (layer field)) (record { name = (out-Field field).name; meant = field_meant d field; node = node }) names)
    (together sum (body_measure d ms names last (layer field) node))

opened : (d : Description) (ms : Measures) (last : Bool) (case : ℕ) (field : Field) (body : BodyLayer) (cases : List Case) (m : Measuring) → Some cases ≡ switch_cases body → measure_field d ms last case field body m ≡ record (measure_entries d ms last (case_fields case cases) m) { names = m.names }
opened d ms last case field (Body-F.Simple kind) cases m e = absurd (cc)
opened d ms last case field (Body-F.Discriminator kind) cases m e = absurd (cc)
opened d ms last case field (Body-F.Const simple value) cases m e = absurd (cc)
opened d ms last case field (Body-F.Reserved simple value) cases m e = absurd (cc)
opened d ms last case field (Body-F.Implicit kind value) cases m e = absurd (cc)
opened d ms last case field (Body-F.Virtual kind value) cases m e = absurd (cc)
opened d ms last case field (Body-F.Optional kind condition) cases m e = absurd (cc)
opened d ms last case field (Body-F.Checksum simple value) cases m e = absurd (cc)
opened d ms last case field (Body-F.Padding simple value count) cases m e = absurd (cc)
opened d ms last case field (Body-F.CountArray kind count) cases m e = absurd (cc)
opened d ms last case field (Body-F.LengthArray kind length) cases m e = absurd (cc)
opened d ms last case field (Body-F.Switch keys inner) cases m e =
    let same : inner ≡ cases = cc in ap (λ l. record (measure_entries d ms last (case_fields case l) m) { names = m.names }) same

pub behind_switch : (d : Description) (ms : Measures) (last : Bool) (case : ℕ) (field : Field) (fields : List Field) (cases : List Case) (inner : List Field) (nodes left : List Node) (names : List Seen) (sum : Measure) → Some cases ≡ switch_cases (layer field) → inner ≡ case_fields case cases → left ≡ drop (min (length inner) (length nodes)) nodes → measure_fields d ms last case fields (there left names (measure_entries d ms last inner (there nodes names sum)).sum) ≡ measure_fields d ms last case (field ∷ fields) (there nodes names sum)
behind_switch d ms last case field fields cases inner nodes left names sum is own l =
    ap (λ k. measure_fields d ms last case fields (there k names (measure_entries d ms last inner (there nodes names sum)).sum))
    (l ∙ drop-min (length inner) nodes ∙ sym (entries_left d ms last inner nodes names sum))
    ∙ ap (λ i. measure_fields d ms last case fields (record (measure_entries d ms last i (there nodes names sum)) { names = names })) own
    ∙ ap (measure_fields d ms last case fields) (sym (opened d ms last case field (layer field) cases (there nodes names sum) is))

-- ---- behind another field

plain : (d : Description) (ms : Measures) (last : Bool) (case : ℕ) (field : Field) (body : BodyLayer) (m : Measuring) → None ≡ switch_cases body → measure_field d ms last case field body m ≡ measure_entry d ms last field m.left m
plain d ms last case field (Body-F.Simple kind) m e = refl
plain d ms last case field (Body-F.Discriminator kind) m e = refl
plain d ms last case field (Body-F.Const simple value) m e = refl
plain d ms last case field (Body-F.Reserved simple value) m e = refl
plain d ms last case field (Body-F.Implicit kind value) m e = refl
plain d ms last case field (Body-F.Virtual kind value) m e = refl
plain d ms last case field (Body-F.Optional kind condition) m e = refl
plain d ms last case field (Body-F.Checksum simple value) m e = refl
plain d ms last case field (Body-F.Padding simple value count) m e = refl
plain d ms last case field (Body-F.CountArray kind count) m e = refl
plain d ms last case field (Body-F.LengthArray kind length) m e = refl
plain d ms last case field (Body-F.Switch keys cases) m e = absurd (cc)

behind_field : (d : Description) (ms : Measures) (last : Bool) (case : ℕ) (field : Field) (fields : List Field) (node : Node) (nodes : List Node) (names : List Seen) (sum : Measure) → None ≡ switch_cases (layer field) → measure_fields d ms last case fields (there nodes (seen_if (is_seen_by_padding (layer field)) (record { name = (out-Field field).name; meant = field_meant d field; node = node }) names) (together sum (body_measure d ms names last (layer field) node))) ≡ measure_fields d ms last case (field ∷ fields) (there (node ∷ nodes) names sum)
behind_field d ms last case field fields node nodes names sum e =
    ap (measure_fields d ms last case fields) (sym (plain d ms last case field (layer field) (there (node ∷ nodes) names sum) e))

pub behind_unseen : (d : Description) (ms : Measures) (last : Bool) (case : ℕ) (field : Field) (fields : List Field) (node : Node) (nodes : List Node) (names : List Seen) (sum : Measure) {seen : Bool} → None ≡ switch_cases (layer field) → seen ≡ is_seen_by_padding (layer field) → seen ≡ false → measure_fields d ms last case fields (there nodes names (together sum (body_measure d ms names last (layer field) node))) ≡ measure_fields d ms last case (field ∷ fields) (there (node ∷ nodes) names sum)
behind_unseen d ms last case field fields node nodes names sum {seen} e s n =
    ap (λ t. measure_fields d ms last case fields (there nodes (seen_if t (record { name = (out-Field field).name; meant = field_meant d field; node = node }) names) (together sum (body_measure d ms names last (layer field) node))))
    (sym n ∙ s)
    ∙ behind_field d ms last case field fields node nodes names sum e

-- ---- a group

pub group_of : (d : Description) (levels def : ℕ) (last : Bool) (node : Node) (case : ℕ) (entries : List Node) → (levels ≡ 0 → ⊥) → out-Node node ≡ Node-F.Group case entries → (measure_fields d (measure_to (levels - 1) d) last case (fields_of d def) (there entries [] nothing)).sum ≡ measure_to levels d def last node
group_of d zero def last node case entries h is = absurd (h refl)
group_of d (suc levels) def last node case entries h is =
    let under : suc levels - 1 ≡ levels = omega arith in
    ap (λ n. group_measure d (measure_to n d) def last (Node-F.Group case entries)) under
    ∙ ap (group_measure d (measure_to levels d) def last) (sym is)

-- ---- items

abbrev is_end : List Node → Bool
is_end [] = true
is_end (item ∷ items) = false

first_item : (ms : Measures) (def : ℕ) (counted : Bool) (item : Node) (items : List Node) → (items_measure ms def counted (item ∷ items)).bits ≡ (ms def (counted && is_end items) item).bits + (items_measure ms def counted items).bits
first_item ms def true item [] = omega arith
first_item ms def false item [] = omega arith
first_item ms def true item (next ∷ items) = refl
first_item ms def false item (next ∷ items) = refl

ends : (n : ℕ) (items : List Node) → n ≤ length items → is_end (drop n items) ≡ (n == length items)
ends n items h = go (drop n items) refl
  where
    go : (rest : List Node) → drop n items ≡ rest → is_end rest ≡ (n == length items)
    go [] e = let none : length items - n ≡ 0 = sym (length-drop n items) ∙ ap length e in grind (arith, nat_tests)
    go (item ∷ rest) e = let some : length items - n ≡ length rest + 1 = sym (length-drop n items) ∙ ap length e ∙ omega arith in grind (arith, nat_tests)

-- the items from a place on
pub next_item : (ms : Measures) (def : ℕ) (counted : Bool) (items : List Node) (place : ℕ) (item : Node) (last : Bool) (before whole : ℕ) → place < length items → item ≡ get_or items place item → last ≡ (counted && place + 1 == length items) → whole ≡ before + (items_measure ms def counted (drop place items)).bits → whole ≡ (before + (ms def last item).bits) + (items_measure ms def counted (drop (place + 1) items)).bits
next_item ms def counted items place item last before whole h is mark sum =
    let here : drop place items ≡ item ∷ drop (place + 1) items = drop_more items place item h ∙ ap (λ i. i ∷ drop (place + 1) items) (sym is) in
    let marked : (counted && is_end (drop (place + 1) items)) ≡ last = ap (λ t. counted && t) (ends (place + 1) items (omega arith)) ∙ sym mark in
    let first : (items_measure ms def counted (drop place items)).bits ≡ (ms def last item).bits + (items_measure ms def counted (drop (place + 1) items)).bits =
    ap (λ l. (items_measure ms def counted l).bits) here
    ∙ first_item ms def counted item (drop (place + 1) items)
    ∙ ap (λ t. (ms def t item).bits + (items_measure ms def counted (drop (place + 1) items)).bits) marked in
    omega (arith, sum, first)
