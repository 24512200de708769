use Rattle.std.proofs.Common.{◌≡◌, ◌++◌, ℕ, List, length, drop}
use Rattle.host_engine.specs.Listing.{lines}
use Rattle.host_engine.proofs.listings.add_lines.Given as goal

-- the lines so far, and those of what is left, are all
abbrev pub invariant-loop-field : goal.invariant-loop-field
invariant-loop-field l =
    (so_far : List ℕ)
    × (l.text.items ≡ l.initial.text.items ++ so_far)
    × (so_far ++ lines (drop (length l.yielded) l.fields) (drop (length l.yielded) l.entries) ≡ lines l.fields l.entries)
