-- A raw frame is whole, and what was put into it is read back.
use Rattle.std.proofs.Common.{◌≡◌, ℕ, ◌+◌, ◌<◌, ◌≤◌, ◌^◌, true, false, List, length, refl, ap, ◌∙◌, arith, Ok, Err}
use Rattle.std.specs.Prelude.{◌&&◌, ◌==◌, nat_le, nat_lt, if◌then◌else◌}
use Rattle.std.proofs.lemmas.Bool.Decides.{nat_tests}
use Rattle.std.proofs.lemmas.Nat.{from_be_bytes-to_be_bytes_2}
use Rattle.wire_frames.specs.RawCarries.{RawCarries}
use Rattle.wire_frames.specs.RawFrames.{is_whole, number_at, raw_frame, raw_reading, stated_length}
use Rattle.wire_frames.specs.declared.ends.FrameWhy.TheVariants.{Length}

raw_length : (payload : List ℕ) (reference : ℕ) → length (raw_frame payload reference) ≡ length payload + 4
raw_length payload reference = omega arith

-- a raw frame states its length
raw_stated : (payload : List ℕ) (reference : ℕ) → length payload ≤ 4092 → stated_length (raw_frame payload reference) ≡ length payload + 4
raw_stated payload reference few =
    let more : nat_lt (length (raw_frame payload reference)) 2 ≡ false = grind (arith, nat_tests) in
    ap (λ b. if b then 0 else number_at (raw_frame payload reference) 0) more ∙ from_be_bytes-to_be_bytes_2 (length payload + 4) (omega arith)

whole_from : (stated size : ℕ) → stated ≡ size → 4 ≤ size → size ≤ 4096 → ((stated == size) && (nat_le 4 size && nat_le size 4096)) ≡ true
whole_from stated size same low high = grind (arith, nat_tests)

raw_whole : (payload : List ℕ) (reference : ℕ) → length payload ≤ 4092 → is_whole (raw_frame payload reference) ≡ true
raw_whole payload reference few =
    let size = raw_length payload reference in
    let stated = raw_stated payload reference few in
    whole_from (stated_length (raw_frame payload reference)) (length (raw_frame payload reference)) (omega arith) (omega arith) (omega arith)

pub raw_carries : (payload : List ℕ) (reference : ℕ) → length payload ≤ 4092 → reference < 2 ^ 16 → RawCarries payload reference
raw_carries payload reference few small =
    let size = raw_length payload reference in
    record {
      framed = refl;
      reads = ap (λ b. if b then Ok (raw_reading (raw_frame payload reference)) else Err (Length (stated_length (raw_frame payload reference)))) (raw_whole payload reference few);
      carries = refl;
      refers = from_be_bytes-to_be_bytes_2 reference small;
      sized = size;
      within = omega arith;
    }
