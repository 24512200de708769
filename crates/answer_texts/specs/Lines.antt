-- What makes a text one line of words.
use Rattle.std.specs.Prelude.{ℕ, ◌≢◌, ◌==◌, List, []}
use Rattle.std.specs.List.{AllByRecursion, slice_split}

-- bytes without a line feed
abbrev pub IsFeedless : List ℕ → Type 0
IsFeedless bytes = AllByRecursion (λ b. b ≢ 10) bytes

-- words that stand apart by one space: what stands between spaces is never empty
abbrev pub IsSpaced : List ℕ → Type 0
IsSpaced bytes = AllByRecursion (λ word. word ≢ []) (slice_split (λ b. b == 32) bytes)

-- one line of words
abbrev pub IsWordLine : List ℕ → Type 0
IsWordLine bytes = IsFeedless bytes × IsSpaced bytes
