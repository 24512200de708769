-- What views show is what expressions see.
use Rattle.std.proofs.Common.{◌≡◌, ℕ, suc, ◌+◌, Bool, true, false, List, [], ◌∷◌, refl, sym, ap, ◌∙◌, arith}
use Rattle.std.proofs.lemmas.Iterator.Adapters.{position_from-zero}
use Rattle.std.specs.List.{position, position_from, slice_get}
use Rattle.std.specs.Prelude.{if◌then◌else◌, Option, Some, None, find}
use Rattle.std.specs.Option.{option_map}
use Rattle.std.specs.Str.{bytes_eq}
use Rattle.node_tree.specs.declared.nodes.Node.{Node}
use Rattle.mspec_tree.specs.declared.fields.Field.{Field, out-Field}
use Rattle.mspec_tree.specs.declared.defs.Description.{Description}
use Rattle.mspec_expr.specs.declared.kinds.Meant.{Meant}
use Rattle.mspec_expr.specs.Kinds.{field_meant}
use Rattle.mspec_expr.specs.declared.scopes.MeantName.{MeantName}
use Rattle.mspec_expr.specs.declared.scopes.NodeName.{NodeName}
use Rattle.mspec_expr.specs.Fits.{seen_in}
use Rattle.mspec_expr.specs.Values.{Seen}
use Rattle.mspec_eval.specs.declared.paddings.Visible.{Visible, Nothing, More'}
use Rattle.mspec_eval.specs.Views.{pair_in, seen_of, visible_in}

-- the fields before a padding
abbrev with_meant : Description → Option (Field × Node) → Option (Meant × Node)
with_meant d found = option_map (λ pair. (field_meant d pair.0, pair.1)) found

pub seen_before : (d : Description) (v : Visible) (name : List ℕ) → with_meant d (visible_in v name) ≡ pair_in name (seen_of d v)
seen_before d Nothing name = refl
seen_before d (More' field node at rest) name = go (bytes_eq (out-Field field.now).name name) (seen_before d rest name)
  where
    go : (test : Bool) → with_meant d (visible_in rest name) ≡ pair_in name (seen_of d rest) →
        with_meant d (if test then Some (field.now, node.now) else visible_in rest name)
        ≡ option_map (λ (seen : Seen). (seen.meant, seen.node)) (if test then Some (record { name = (out-Field field.now).name; meant = field_meant d field.now; node = node.now }) else find (λ seen. bytes_eq seen.name name) (seen_of d rest))
    go true e = refl
    go false e = e

pub before : (d : Description) (v : Visible) (name : List ℕ) (found : Option (Field × Node)) → found ≡ visible_in v name → with_meant d found ≡ pair_in name (seen_of d v)
before d v name found e = ap (with_meant d) e ∙ seen_before d v name

-- ---- a scope with its environment

-- a name of a scope and its node
abbrev both : Option NodeName → Option MeantName → Option (Meant × Node)
both None name = None
both (Some given) None = None
both (Some given) (Some name) = Some (name.meant, given.node)

abbrev at_place : List MeantName → List NodeName → Option ℕ → Option (Meant × Node)
at_place names given None = None
at_place names given (Some place) = both (slice_get given place) (slice_get names place)

later : (test : MeantName → Bool) (names : List MeantName) (i : ℕ) → position_from test (i + 1) names ≡ option_map suc (position_from test i names)
later test [] i = refl
later test (name ∷ names) i = go (test name) (later test names (i + 1))
  where
    next : i + 1 ≡ suc i
    next = omega arith

    go : (found : Bool) → position_from test (i + 1 + 1) names ≡ option_map suc (position_from test (i + 1) names) →
        (if found then Some (i + 1) else position_from test (i + 1 + 1) names) ≡ option_map suc (if found then Some i else position_from test (i + 1) names)
    go true e = ap Some next
    go false e = e

none_there : (names : List MeantName) (place : Option ℕ) → None ≡ at_place names [] place
none_there names None = refl
none_there names (Some place) = refl

further : (name : MeantName) (given : NodeName) (names : List MeantName) (more : List NodeName) (place : Option ℕ) → at_place names more place ≡ at_place (name ∷ names) (given ∷ more) (option_map suc place)
further name given names more None = refl
further name given names more (Some place) = refl

shown_from : (name : List ℕ) (names : List MeantName) (given : List NodeName) → pair_in name (seen_in names given) ≡ at_place names given (position_from (λ seen. bytes_eq seen.name name) 0 names)
shown_from name [] given = refl
shown_from name (seen ∷ names) [] = none_there (seen ∷ names) (position_from (λ seen. bytes_eq seen.name name) 0 (seen ∷ names))
shown_from name (seen ∷ names) (given ∷ more) = go (bytes_eq seen.name name) (shown_from name names more)
  where
    test : MeantName → Bool
    test seen = bytes_eq seen.name name

    go : (found : Bool) → pair_in name (seen_in names more) ≡ at_place names more (position_from (λ (seen : MeantName). bytes_eq seen.name name) 0 names) →
        option_map (λ (seen : Seen). (seen.meant, seen.node)) (if found then Some (record { name = seen.name; meant = seen.meant; node = given.node }) else find (λ seen. bytes_eq seen.name name) (seen_in names more))
        ≡ at_place (seen ∷ names) (given ∷ more) (if found then Some 0 else position_from (λ (seen : MeantName). bytes_eq seen.name name) (0 + 1) names)
    go true e = refl
    go false e =
        e
        ∙ further seen given names more (position_from (λ (seen : MeantName). bytes_eq seen.name name) 0 names)
        ∙ ap (at_place (seen ∷ names) (given ∷ more)) (sym (later (λ (seen : MeantName). bytes_eq seen.name name) names 0))

pub shown_at : (name : List ℕ) (names : List MeantName) (given : List NodeName) (place : Option ℕ) → place ≡ position (λ seen. bytes_eq seen.name name) names → at_place names given place ≡ pair_in name (seen_in names given)
shown_at name names given place e =
    ap (at_place names given) (e ∙ position_from-zero (λ seen. bytes_eq seen.name name) names)
    ∙ sym (shown_from name names given)

pub no_name : (name : List ℕ) (names : List MeantName) (given : List NodeName) (place : ℕ) → Some place ≡ position (λ seen. bytes_eq seen.name name) names → None ≡ slice_get names place → None ≡ pair_in name (seen_in names given)
no_name name names given place e n = go (slice_get given place) ∙ ap (both (slice_get given place)) n ∙ shown_at name names given (Some place) e
  where
    go : (found : Option NodeName) → None ≡ both found None
    go None = refl
    go (Some given) = refl

pub no_node : (name : List ℕ) (names : List MeantName) (given : List NodeName) (place : ℕ) → Some place ≡ position (λ seen. bytes_eq seen.name name) names → None ≡ slice_get given place → None ≡ pair_in name (seen_in names given)
no_node name names given place e n = ap (λ found. both found (slice_get names place)) n ∙ shown_at name names given (Some place) e

pub name_and_node : (name : List ℕ) (names : List MeantName) (given : List NodeName) (place : ℕ) (seen : MeantName) (node : NodeName) → Some place ≡ position (λ seen. bytes_eq seen.name name) names → Some seen ≡ slice_get names place → Some node ≡ slice_get given place → Some (seen.meant, node.node) ≡ pair_in name (seen_in names given)
name_and_node name names given place seen node e m n =
    ap (λ found. both (Some node) found) m ∙ ap (λ found. both found (slice_get names place)) n ∙ shown_at name names given (Some place) e
