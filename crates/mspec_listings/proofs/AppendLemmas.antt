-- A text that grows at its end, or breaks off there.
use Rattle.std.proofs.Common.{◌≡◌, ◌≤◌, ℕ, List, ◌++◌, length, take, sym, ap, ◌∙◌, append_assoc, arith, Result, Ok, Err}
use Rattle.std.proofs.Math.Seq.{take-append_seam}
use Rattle.std.proofs.lemmas.List.{length-take, take-take}
use Rattle.node_tree.specs.Appends.{Appends}

still_begins : (old middle new : List ℕ) → take (length old) middle ≡ old → take (length middle) new ≡ middle → take (length old) new ≡ old
still_begins old middle new h g =
    let short : length old ≤ length middle = omega (arith, sym (length-take (length old) middle) ∙ ap length h) in
    sym (take-take (length old) (length middle) new short) ∙ ap (take (length old)) g ∙ h

-- one part was added, and then another
pub joined : {T E : Type 0} (r : Result T E) (old middle new first second : List ℕ) → middle ≡ old ++ first → Appends r middle new second → Appends r old new (first ++ second)
joined (Ok x) old middle new first second h g = g ∙ ap (λ (xs : List ℕ). xs ++ second) h ∙ append_assoc old first second
joined (Err e) old middle new first second h g = still_begins old middle new (ap (take (length old)) h ∙ take-append_seam old first) g

-- it broke off behind a first part
pub breaks_behind : (old middle new first : List ℕ) → middle ≡ old ++ first → take (length middle) new ≡ middle → take (length old) new ≡ old
breaks_behind old middle new first h g = still_begins old middle new (ap (take (length old)) h ∙ take-append_seam old first) g
