-- The lines of an input.
use Rattle.std.specs.Prelude.{ℕ, ◌≡◌, ◌⊎◌, ◌==◌, Bool, true, false, cond, List, [], ◌∷◌, ◌++◌, codes, Option, Some, None}
use Rattle.std.specs.List.{flat_map, slice_split}
use Rattle.host_engine.specs.declared.inputs.How.{How}
use Rattle.host_engine.specs.declared.inputs.How.TheVariants.{Ended, Failed, Over}

-- the parts between line feeds are lines; the last of them is one only where the input has ended there and it isn't empty
abbrev pub last_line : (ended : Bool) → List ℕ → List (List ℕ)
last_line ended [] = []
last_line ended (b ∷ bs) = cond ended ((b ∷ bs) ∷ []) []

abbrev pub lines_among : (ended : Bool) → List (List ℕ) → List (List ℕ)
lines_among ended [] = []
lines_among ended (part ∷ []) = last_line ended part
lines_among ended (part ∷ next ∷ more) = part ∷ lines_among ended (next ∷ more)

abbrev pub lines_in : (ended : Bool) → List ℕ → List (List ℕ)
lines_in ended bytes = lines_among ended (slice_split (λ b. b == 10) bytes)

-- lines, each with its line feed
abbrev pub with_feeds : List (List ℕ) → List ℕ
with_feeds lines = flat_map (λ line. line ++ 10 ∷ []) lines

-- the input has ended; one that was left before its end may go on, and so may its last line
abbrev pub has_ended : Option How → Bool
has_ended None = false
has_ended (Some Ended) = true
has_ended (Some Failed) = false
has_ended (Some Over) = false

-- the lines of an input that was left so
abbrev pub lines_of : Option How → List ℕ → List (List ℕ)
lines_of how bytes = lines_in (has_ended how) bytes

-- nothing, or text that ends with a line feed
abbrev pub AreWholeLines : List ℕ → Type 0
AreWholeLines text = (text ≡ []) ⊎ ((front : List ℕ) × (text ≡ front ++ codes "\n"))
