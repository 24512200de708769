-- Flags packed in bytes.
use Rattle.std.proofs.Common.{◌≡◌, ℕ, zero, suc, ◌+◌, ◌-◌, ◌*◌, ◌<◌, ◌≤◌, ◌^◌, Bool, List, [], ◌∷◌, ◌++◌, length, take, drop, min, refl, sym, ap, ◌∙◌, append_assoc, arith, Result, Ok, Err, OnOk}
use Rattle.std.proofs.Math.Pow.{pow_mono}
use Rattle.std.proofs.Math.ListN.{drop_of_length-le}
use Rattle.std.proofs.Math.Seq.{take-length}
use Rattle.std.proofs.lemmas.List.{take_min}
use Rattle.plc_sim.specs.Devices.{packed, packed_byte}

-- a number of at most seven binary digits, with one more below, is a byte
pub doubled_fits : (digits number : ℕ) → number < 2 ^ digits → digits ≤ 7 → 2 * number + 1 < 256
doubled_fits digits number h k =
    let most : 2 ^ digits ≤ 2 ^ 7 = pow_mono k in
    omega arith

-- a short list is all that is taken of it, and nothing is left
pub all_taken : (flags : List Bool) → length flags ≤ 8 → flags ≡ take 8 flags
all_taken flags h =
    let m : min 8 (length flags) ≡ length flags = omega arith in
    sym (sym (take_min 8 flags) ∙ ap (λ n. take n flags) m ∙ take-length flags)

pub none_left : (flags : List Bool) → length flags ≤ 8 → [] ≡ drop 8 flags
none_left flags h = sym (drop_of_length-le flags h)

-- the next byte, and the rest
packed_step : (bytes : ℕ) (flags : List Bool) → 0 < bytes
    → packed_byte (take 8 flags) ∷ packed (bytes - 1) (drop 8 flags) ≡ packed bytes flags
packed_step zero flags h = absurd (omega arith)
packed_step (suc bytes) flags h =
    let one : suc bytes - 1 ≡ bytes = omega arith in
    rw one refl

-- what was there, the next byte, and the rest
pub packed_on : (bytes : ℕ) (flags front rest : List Bool) (old pushed new : List ℕ) (byte : ℕ) → 0 < bytes
    → front ≡ take 8 flags → rest ≡ drop 8 flags
    → pushed ≡ old ++ byte ∷ []
    → byte ≡ packed_byte front
    → new ≡ pushed ++ packed (bytes - 1) rest
    → new ≡ old ++ packed bytes flags
packed_on bytes flags front rest old pushed new byte h f r p b n =
    n ∙ ap (λ l. l ++ packed (bytes - 1) rest) p
    ∙ append_assoc old (byte ∷ []) (packed (bytes - 1) rest)
    ∙ ap (λ l. old ++ l) (ap (λ x. x ∷ packed (bytes - 1) rest) (b ∙ ap packed_byte f) ∙ ap (λ l. packed_byte (take 8 flags) ∷ packed (bytes - 1) l) r ∙ packed_step bytes flags h)

-- what holds where it went well, by what held there
pub on_ok : {E : Type 0} {P Q : Type 0} (result : Result (Unit {0}) E) → (P → Q) → OnOk result P → OnOk result Q
on_ok (Ok done) f p = f p
on_ok (Err fault) f p = p
