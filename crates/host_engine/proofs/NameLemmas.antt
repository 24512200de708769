-- The first definition of a name.
use Rattle.std.proofs.Common.{◌≡◌, ℕ, ◌<◌, List, [], length, get_or, slice_get, Option, Some, None, sym, ap, ◌∙◌, arith}
use Rattle.std.specs.List.{position}
use Rattle.std.specs.Option.{MatchOption}
use Rattle.std.specs.Str.{bytes_eq}
use Rattle.std.proofs.lemmas.Bool.{false≢true}
use Rattle.std.proofs.lemmas.List.Quantifiers.{position-Some}
use Rattle.std.proofs.lemmas.List.Sums.{fails_before_first}
use Rattle.std.proofs.lemmas.Option.{slice_get-get_or, slice_get_within}
use Rattle.std.proofs.lemmas.Slice.Eq.{bytes_eq-Decides}
use Rattle.mspec_tree.specs.declared.defs.Def.{Def}
use Rattle.mspec_tree.specs.declared.defs.DefBody.TheVariants.{Plain}
use Rattle.mspec_tree.specs.declared.defs.Description.{Description}
use Rattle.mspec_tree.specs.declared.words.Place.{Place}
use Rattle.host_engine.specs.Tool.{Names}
use Rattle.host_engine.proofs.LineLemmas.{no_position}

-- some place
abbrev no_place : Place
no_place = record { line = 1; column = 1 }

-- some definition
abbrev nameless : Def
nameless = record { place = no_place; named = no_place; name = []; params = []; order = None; body = Plain [] }

first_named : (defs : List Def) (name : List ℕ) (place : ℕ) → Some place ≡ position (λ def. bytes_eq def.name name) defs → (place < length defs) × ((found : Def) × (slice_get defs place ≡ Some found) × (found.name ≡ name))
first_named defs name place h =
    let at = position-Some (λ (def : Def). bytes_eq def.name name) defs place nameless (sym h) in
    let found = get_or defs place nameless in
    (at.0, (found, slice_get-get_or defs place nameless at.0, (bytes_eq-Decides found.name name).0 at.1))

none_named : (defs : List Def) (name : List ℕ) → None ≡ position (λ def. bytes_eq def.name name) defs → (place : ℕ) (found : Def) → slice_get defs place ≡ Some found → found.name ≡ name → ⊥
none_named defs name h place found at named =
    let test = λ (def : Def). bytes_eq def.name name in
    let within = slice_get_within defs place found at in
    let fails = fails_before_first test defs place found (omega (arith, within, no_position test defs h)) in
    let here : get_or defs place found ≡ found = let e = sym (slice_get-get_or defs place found within) ∙ at in cc in
    false≢true (sym fails ∙ ap test here ∙ (bytes_eq-Decides found.name name).1 named)

pub named_at : (d : Description) (name : List ℕ) (place : Option ℕ) → place ≡ position (λ def. bytes_eq def.name name) d.defs → MatchOption place ((def : ℕ) → Names d def name → ⊥) (λ def. Names d def name)
named_at d name None at = λ def named. none_named d.defs name at def named.0 named.1 named.2
named_at d name (Some place) at = (first_named d.defs name place at).1
