-- The frame of a wire that writes the payload alone.
use Rattle.std.proofs.Common.{◌≡◌, ℕ, ◌≤◌, Bool, true, false, List, Ok, Err, length, ap, arith}
use Rattle.std.specs.Prelude.{if◌then◌else◌}

-- a frame that is the payload, where it isn't refused, is no longer than the payload
pub bare_sized : {E : Type 0} (b : Bool) (e : E) (payload frame : List ℕ) → (if b then Err e else Ok payload) ≡ Ok frame → length frame ≤ length payload
bare_sized true e payload frame is = absurd (cc)
bare_sized false e payload frame is = let same : payload ≡ frame = cc in let long : length payload ≡ length frame = ap length same in omega arith
