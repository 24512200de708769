-- Lines that can be told apart: what stands in them has no blank and no line feed.
use Rattle.std.specs.Prelude.{ℕ, ◌≢◌, List, []}
use Rattle.std.specs.List.{AllByRecursion}
use Rattle.mspec_listings.specs.Listings.{Line, Leaf, Chosen}

-- bytes without a blank and without a line feed
abbrev pub IsSolid : List ℕ → Type 0
IsSolid bytes = AllByRecursion (λ b. (b ≢ 32) × (b ≢ 10)) bytes

abbrev pub IsPlain : Line → Type 0
IsPlain (Leaf path value) = IsSolid path × (IsSolid value × (value ≢ []))
IsPlain (Chosen path case) = IsSolid path × IsSolid case

abbrev pub ArePlain : List Line → Type 0
ArePlain lines = AllByRecursion IsPlain lines
