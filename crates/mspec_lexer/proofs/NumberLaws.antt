-- Digits at the front of a text, and the number that they spell.
use Rattle.std.proofs.Common.{◌≡◌, ℕ, ◌+◌, ◌*◌, ◌<◌, ◌≤◌, Bool, true, false, cond, List, [], ◌∷◌, length, get_or, drop, refl, subst, arith, add-one, drop-cons}
use Rattle.std.proofs.Math.Nat.{mul-le-mul_left}
use Rattle.std.specs.Char.{digit_value, is_digit}
use Rattle.std.specs.Str.Parse.{AllDigits, digits_value_after}
use Rattle.std.proofs.lemmas.List.Sums.{take_while-cons}
use Rattle.std.proofs.lemmas.Bool.Decides.{Decides-ltb}
use Rattle.mspec_lexer.specs.LexerParts.{digits_of}

digit_by : (radix b : ℕ) (bytes : List ℕ) (v : Bool) → is_digit b radix ≡ v → AllDigits radix bytes → AllDigits radix (cond v (b ∷ bytes) [])
digit_by radix b bytes true e h = ((Decides-ltb (digit_value b) radix).0 e, h)
digit_by radix b bytes false e h = tt

pub all_digits : (radix : ℕ) (bytes : List ℕ) → AllDigits radix (digits_of radix bytes)
all_digits radix [] = tt
all_digits radix (b ∷ bytes) = rw take_while-cons (digit_by radix b (digits_of radix bytes) (is_digit b radix) refl (all_digits radix bytes))

-- more digits never make a number smaller
after-ge : (radix n : ℕ) (digits : List ℕ) → 1 ≤ radix → n ≤ digits_value_after radix n digits
after-ge radix n [] h = omega arith
after-ge radix n (d ∷ digits) h =
    let rest = after-ge radix (n * radix + digit_value d) digits h in
    let more : n * 1 ≤ n * radix = mul-le-mul_left n h in
    omega (arith, rest, more)

-- the next digit is put behind the number so far
pub next_digit : (radix i n : ℕ) (digits : List ℕ) → i < length digits → digits_value_after radix n (drop i digits) ≡ digits_value_after radix (n * radix + digit_value (get_or digits i 0)) (drop (i + 1) digits)
next_digit radix i n digits h = rw (add-one, drop-cons digits i 0) refl

pub wide : (radix i n whole : ℕ) (digits : List ℕ) → 1 ≤ radix → i < length digits → whole ≡ digits_value_after radix n (drop i digits) → n * radix + digit_value (get_or digits i 0) ≤ whole
wide radix i n whole digits h within e =
    let least = after-ge radix (n * radix + digit_value (get_or digits i 0)) (drop (i + 1) digits) h in
    omega (arith, least, e, next_digit radix i n digits within)

pub digits_left : (radix i : ℕ) (digits : List ℕ) → i < length digits → AllDigits radix (drop i digits) → (digit_value (get_or digits i 0) < radix) × AllDigits radix (drop (i + 1) digits)
digits_left radix i digits within h =
    let P : List ℕ → Type 0 = λ ds. AllDigits radix ds in
    rw add-one (subst P (drop-cons digits i 0 within) h)
