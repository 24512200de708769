-- Counts that never fall: of faults, and of the times that an end was met.
use Rattle.std.specs.Prelude.{ℕ, ◌≡◌, ◌+◌, min, max}

-- the greatest count, where a count stands still
abbrev pub top : ℕ
top = 18446744073709551615

-- the count after one more; it never falls
abbrev pub next : ℕ → ℕ
next count = max count (min (count + 1) top)

-- the count rose, by one; at the top it stands still
abbrev pub Rose : ℕ → ℕ → Type 0
Rose old new = new ≡ next old

-- what is known of a source that tells nothing of its bytes
pub record SourceCounts : Type 0 where
  pub faults : ℕ
  pub ends : ℕ
