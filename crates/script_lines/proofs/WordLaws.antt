-- What the readers of one word give is what the word spells.
use Rattle.std.proofs.Common.{◌≡◌, ℕ, ◌-◌, ◌<◌, ◌^◌, ◌&&◌, Bool, true, false, cond, eqb, List, [], ◌∷◌, length, Option, Some, None, Result, Ok, Err, refl, ap, ◌∙◌, arith, nat_lt, nat_le}
use Rattle.std.specs.Char.{is_ascii_digit}
use Rattle.std.specs.List.{list_all}
use Rattle.std.specs.Result.{result_ok}
use Rattle.std.specs.Str.Parse.{digits_value}
use Rattle.std.proofs.lemmas.Bool.{and_parts, and_from, cond-true, cond-false, eqb-false, ne_eqb, ltb-true, leb-true, lt-ltb, le-leb}
use Rattle.std.proofs.lemmas.Option.{option_and_then_some, cond_some}
use Rattle.hex.specs.Hex.{decode_of}
use Rattle.script_lines.specs.ReaderParts.{number_of, within_of, hex_of}
use Rattle.script_lines.specs.Scripts.{IsWithin, IsHex}
use Rattle.script_lines.proofs.NumberLaws.{digits_model}

pub number-sound : (word : List ℕ) (n : ℕ) → number_of word ≡ Some n → IsWithin 0 (2 ^ 64 - 1) word n
unfolding number_of
number-sound word n h =
    let found = cond_some (list_all is_ascii_digit word && (nat_lt 0 (length word) && nat_lt (digits_value 10 word) (2 ^ 64))) (digits_value 10 word) n h in
    let tests = and_parts (list_all is_ascii_digit word) _ found.0 in
    let sizes = and_parts (nat_lt 0 (length word)) _ tests.1 in
    let low = ltb-true 0 (length word) sizes.0 in
    let high = ltb-true (digits_value 10 word) (2 ^ 64) sizes.1 in
    (((low, digits_model.to word tests.0), found.1), omega arith, omega (arith, found.1))

pub number-complete : (word : List ℕ) (n : ℕ) → IsWithin 0 (2 ^ 64 - 1) word n → number_of word ≡ Some n
unfolding number_of
number-complete word n h =
    let low = lt-ltb 0 (length word) h.0.0.0 in
    let high = lt-ltb (digits_value 10 word) (2 ^ 64) (omega (arith, h.0.1, h.2)) in
    let all = digits_model.from word h.0.0.1 in
    let test = and_from (list_all is_ascii_digit word) _ all (and_from (nat_lt 0 (length word)) (nat_lt (digits_value 10 word) (2 ^ 64)) low high) in
    cond-true _ (Some (digits_value 10 word)) None test ∙ ap (λ x. Some x) h.0.1

pub within-sound : (low high : ℕ) (word : List ℕ) (n : ℕ) → within_of low high word ≡ Some n → IsWithin low high word n
unfolding within_of
within-sound low high word n h =
    option_and_then_some _ (number_of word) n h (λ m found test.
    let tested = cond_some (nat_le low m && nat_le m high) m n test in
    let bounds = and_parts (nat_le low m) _ tested.0 in
    let over = leb-true low m bounds.0 in
    let under = leb-true m high bounds.1 in
    let long = number-sound word m found in
    ((long.0.0, long.0.1 ∙ tested.1), omega (arith, tested.1), omega (arith, tested.1)))

pub within-complete : (low high : ℕ) (word : List ℕ) (n : ℕ) → high < 2 ^ 64 → IsWithin low high word n → within_of low high word ≡ Some n
unfolding within_of
within-complete low high word n fits h =
    let found = number-complete word n (h.0, omega arith, omega (arith, h.2)) in
    let test = and_from (nat_le low n) (nat_le n high) (le-leb low n h.1) (le-leb n high h.2) in
    rw found (cond-true _ (Some n) None test)

result_ok-some : {T E : Type 0} (r : Result T E) (x : T) → result_ok r ≡ Some x → r ≡ Ok x
result_ok-some (Ok y) x h = cc
result_ok-some (Err e) x h = cc

unless_none : {A : Type 0} (t : Bool) (o : Option A) (x : A) → cond t None o ≡ Some x → (t ≡ false) × (o ≡ Some x)
unless_none true o x h = cc
unless_none false o x h = (refl, h)

pub hex-sound : (word bytes : List ℕ) → hex_of word ≡ Some bytes → IsHex word bytes
unfolding hex_of
hex-sound word bytes h =
    let found = unless_none (eqb (length word) 0) (result_ok (decode_of word)) bytes h in
    (λ e. eqb-false (length word) 0 found.0 (ap length e), result_ok-some (decode_of word) bytes found.1)

pub hex-complete : (word bytes : List ℕ) → IsHex word bytes → hex_of word ≡ Some bytes
unfolding hex_of
hex-complete [] bytes h = absurd (h.0 refl)
hex-complete (b ∷ bs) bytes h =
    let some = ne_eqb (length (b ∷ bs)) 0 (λ e. omega (arith, e)) in
    cond-false (eqb (length (b ∷ bs)) 0) None (result_ok (decode_of (b ∷ bs))) some ∙ ap result_ok h.1
