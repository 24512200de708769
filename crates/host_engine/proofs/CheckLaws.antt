-- A description is accepted, or one thing is told of all that is wrong with it.
use Rattle.std.proofs.Common.{◌≡◌, ◌⊎◌, List, [], ◌∷◌, Option, Some, None, refl, inl, inr, sym, ap, ◌∙◌}
use Rattle.std.specs.Prelude.{if◌then◌else◌}
use Rattle.mspec_tree.specs.declared.defs.Description.{Description}
use Rattle.mspec_tree.specs.declared.words.Place.{Place}
use Rattle.mspec_rules.specs.declared.wrongs.CheckWhy.{CheckWhy}
use Rattle.mspec_rules.specs.declared.wrongs.Wrong.{Wrong}
use Rattle.mspec_rules.specs.Wrongs.{before, earlier, found}
use Rattle.mspec_check.specs.Accepted.{Accepted, wrongs}
use Rattle.host_engine.specs.Texts.{IsWrong}

told_some : (wrong : Wrong) (other : Option Wrong) → (told : Wrong) × (earlier (Some wrong) other ≡ Some told)
told_some wrong None = (wrong, refl)
told_some wrong (Some other) = (if before other wrong then other else wrong, refl)

found_or_none : (all : List Wrong) → (all ≡ []) ⊎ ((told : Wrong) × (found all ≡ Some told))
found_or_none [] = inl refl
found_or_none (wrong ∷ more) = inr (told_some wrong (found more))

pub accepted_or_not : (d : Description) → Accepted d ⊎ ((place : Place) × (why : CheckWhy) × IsWrong d place why)
accepted_or_not d =
    elim (found_or_none (wrongs d)) [
      | inl none ↦ inl none
      | inr some ↦ inr (some.0.place, some.0.why, (some.0, some.1, refl, refl))
    ]

pub accepted_not_wrong : (d : Description) (place : Place) (why : CheckWhy) → Accepted d → IsWrong d place why → ⊥
accepted_not_wrong d place why none wrong =
    let nothing : found (wrongs d) ≡ None = ap found none in
    let some = wrong.1 in
    cc

pub one_wrong : (d : Description) (one other : Place) (why reason : CheckWhy) → IsWrong d one why → IsWrong d other reason → (one ≡ other) × (why ≡ reason)
one_wrong d one other why reason a b =
    let both : Some a.0 ≡ Some b.0 = sym a.1 ∙ b.1 in
    let same : a.0 ≡ b.0 = cc in
    (sym a.2 ∙ ap (λ (w : Wrong). w.place) same ∙ b.2, sym a.3 ∙ ap (λ (w : Wrong). w.why) same ∙ b.3)
