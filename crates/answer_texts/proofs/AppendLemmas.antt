-- A text that grows at its end, or breaks off there.
use Rattle.std.proofs.Common.{◌≡◌, ◌≤◌, ℕ, List, ◌++◌, length, take, sym, ap, ◌∙◌, append_assoc, arith, Result, Ok, Err, if◌then◌else◌}
use Rattle.std.specs.Result.{is_ok}
use Rattle.std.proofs.Math.Seq.{take-append_seam, take-length}
use Rattle.std.proofs.lemmas.List.{length-take, take-take}
use Rattle.node_tree.specs.Appends.{Appends}

pub still_begins : (old middle new : List ℕ) → take (length old) middle ≡ old → take (length middle) new ≡ middle → take (length old) new ≡ old
still_begins old middle new h g =
    let short : length old ≤ length middle = omega (arith, sym (length-take (length old) middle) ∙ ap length h) in
    sym (take-take (length old) (length middle) new short) ∙ ap (take (length old)) g ∙ h

-- words were added at once
pub extended : {T E : Type 0} (r : Result T E) (old new words : List ℕ) → new ≡ (if is_ok r then old ++ words else old) → Appends r old new words
extended (Ok x) old new words h = h
extended (Err e) old new words h = ap (take (length old)) h ∙ take-length old

-- one part was added, and then another
pub joined : {T E : Type 0} (r : Result T E) (old middle new first second : List ℕ) → middle ≡ old ++ first → Appends r middle new second → Appends r old new (first ++ second)
joined (Ok x) old middle new first second h g = g ∙ ap (λ (xs : List ℕ). xs ++ second) h ∙ append_assoc old first second
joined (Err e) old middle new first second h g = still_begins old middle new (ap (take (length old)) h ∙ take-append_seam old first) g

-- what was added is the text of this value
pub told : {A T E : Type 0} (text_of : A → List ℕ) (r : Result T E) (old new words : List ℕ) (a : A) → words ≡ text_of a → Appends r old new words → Appends r old new (text_of a)
told text_of (Ok x) old new words a e h = h ∙ ap (λ (xs : List ℕ). old ++ xs) e
told text_of (Err x) old new words a e h = h
