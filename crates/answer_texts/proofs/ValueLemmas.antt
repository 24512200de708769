-- Values as digits, and with commas between them.
use Rattle.std.proofs.Common.{◌≡◌, ◌≤◌, ◌-◌, ℕ, length, get_or, arith, List, [], ◌∷◌, ◌++◌, take, drop, refl, ap, ◌∙◌, codes, Result, Ok, Err, IfOk}
use Rattle.std.proofs.lemmas.List.{append-nil, take_all}
use Rattle.std.specs.Int.{w64, to_be_bytes}
use Rattle.std.specs.List.{flat_map}
use Rattle.hex.specs.Hex.{encode_with, encode_upper}
use Rattle.wire_frames.specs.declared.kinds.PlcValue.{PlcValue}
use Rattle.answer_texts.specs.Texts.{raw_text, value_text, values_text}

-- the digits of the last four bytes are the last eight
last_digits : (a b c d e f g h : ℕ) → encode_upper (e ∷ f ∷ g ∷ h ∷ []) ≡ drop 8 (encode_upper (a ∷ b ∷ c ∷ d ∷ e ∷ f ∷ g ∷ h ∷ []))
unfolding encode_with
last_digits a b c d e f g h = refl

short_raw : (bits width : ℕ) (bytes : List ℕ) → width ≡ 32 → bytes ≡ to_be_bytes w64 bits → codes "16#" ++ encode_upper (take 4 (drop 4 bytes)) ≡ raw_text bits width
short_raw bits width bytes h e = rw (h, e) (ap (λ (xs : List ℕ). codes "16#" ++ xs) (last_digits _ _ _ _ _ _ _ _))

-- what was encoded are the digits of 32 bits
pub short_told : {S E : Type 0} (r : Result S E) (bytes_of : S → List ℕ) (bits width : ℕ) (bytes : List ℕ) → width ≡ 32 → bytes ≡ to_be_bytes w64 bits → IfOk r (λ digits. bytes_of digits ≡ encode_upper (take 4 (drop 4 bytes))) → IfOk r (λ digits. codes "16#" ++ bytes_of digits ≡ raw_text bits width)
short_told (Ok digits) bytes_of bits width bytes h e told = ap (λ (xs : List ℕ). codes "16#" ++ xs) told ∙ short_raw bits width bytes h e
short_told (Err x) bytes_of bits width bytes h e told = tt

-- a value, and more of them, each behind a comma
behind_commas : (value : PlcValue) (more : List PlcValue) → value_text value ++ flat_map (λ value. 44 ∷ value_text value) more ≡ values_text (value ∷ more)
behind_commas value [] = append-nil (value_text value)
behind_commas value (next ∷ more) = ap (λ (xs : List ℕ). value_text value ++ (44 ∷ xs)) (behind_commas next more)

pub all_values : (values : List PlcValue) (other : PlcValue) → 1 ≤ length values → value_text (get_or values 0 other) ++ flat_map (λ value. 44 ∷ value_text value) (take (length values - 1) (drop 1 values)) ≡ values_text values
all_values [] other h = absurd (omega arith)
all_values (value ∷ more) other h =
    ap (λ (rest : List PlcValue). value_text value ++ flat_map (λ value. 44 ∷ value_text value) rest) (take_all (length (value ∷ more) - 1) more (omega arith)) ∙ behind_commas value more
