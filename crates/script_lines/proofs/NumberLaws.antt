-- A word of digits, as `parse` reads it.
use Rattle.std.proofs.Common.{◌≡◌, ℕ, ◌<◌, ◌^◌, ◌&&◌, Bool, true, false, List, length, Some, None, Result, Ok, Err, refl, sym, ap, ◌∙◌, rules, nat_lt, MatchResult, Bor}
use Rattle.std.specs.Char.{is_ascii_digit}
use Rattle.std.specs.List.{list_all}
use Rattle.std.specs.Result.{OkIff, result_ok}
use Rattle.std.specs.Str.{IsUtf8}
use Rattle.std.specs.Str.Parse.{digits_value, ParsesUnsigned}
use Rattle.std.proofs.lemmas.Bool.{cond-true, cond-false, false_from_ne_true}
use Rattle.std.proofs.lemmas.Bool.Decides.{Decides-and, Decides-ltb}
use Rattle.std.proofs.lemmas.Fmt.{IsAscii-from_digits}
use Rattle.std.proofs.lemmas.Str.{IsUtf8-from_ascii}
use Rattle.std.proofs.lemmas.Str.Parse.{IsNumeralModel, numerals_by_value, parse_digits}
use Rattle.script_lines.specs.ReaderParts.{number_of}

pub digits_model : IsNumeralModel (λ ds. list_all is_ascii_digit ds ≡ true) (digits_value 10)
digits_model = numerals_by_value _ (search rules)

digits_are_text : (word : List ℕ) → list_all is_ascii_digit word ≡ true → IsUtf8 word
digits_are_text word h = IsUtf8-from_ascii word (IsAscii-from_digits word (digits_model.to word h))

pub other_byte : (word : List ℕ) → list_all is_ascii_digit word ≡ false → None ≡ number_of word
unfolding number_of
other_byte word h = rw h refl

-- digits are text
pub no_other_text : {E : Type 0} (V : E → Type 0) (word : List ℕ) (r : Result (Bor (List ℕ)) E) → list_all is_ascii_digit word ≡ true → MatchResult r (λ s. (s.now ≡ word) × IsUtf8 word) (λ e. (IsUtf8 word → ⊥) × V e) → None ≡ result_ok r → ⊥
no_other_text V word (Ok s) all h none = cc
no_other_text V word (Err e) all h none = h.0 (digits_are_text word all)

pub same_text : {E : Type 0} (V : E → Type 0) (word : List ℕ) (r : Result (Bor (List ℕ)) E) (s : Bor (List ℕ)) → MatchResult r (λ t. (t.now ≡ word) × IsUtf8 word) V → Some s ≡ result_ok r → s.now ≡ word
same_text V word (Ok t) s h some = let same : s ≡ t = cc in ap (λ (x : Bor (List ℕ)). x.now) same ∙ h.0
same_text V word (Err e) s h some = cc

in_64_bits : (word : List ℕ) → Bool
in_64_bits word = nat_lt 0 (length word) && nat_lt (digits_value 10 word) (2 ^ 64)

parsed : {E : Type 0} (word : List ℕ) (r : Result ℕ E) → list_all is_ascii_digit word ≡ true → OkIff r ((0 < length word) × (digits_value 10 word < 2 ^ 64)) (digits_value 10 word) → result_ok r ≡ number_of word
unfolding number_of in_64_bits
parsed word (Ok n) all h =
    let test = (Decides-and _ _ (Decides-ltb 0 (length word)) (Decides-ltb (digits_value 10 word) (2 ^ 64))).1 h.0 in
    ap (λ x. Some x) h.1 ∙ rw all (sym (cond-true (in_64_bits word) (Some (digits_value 10 word)) None test))
parsed word (Err e) all h =
    let tests = Decides-and _ _ (Decides-ltb 0 (length word)) (Decides-ltb (digits_value 10 word) (2 ^ 64)) in
    let test = false_from_ne_true (in_64_bits word) (λ t. h (tests.0 t)) in
    rw all (sym (cond-false (in_64_bits word) (Some (digits_value 10 word)) None test))

pub parse_is_number_of : {E : Type 0} (word : List ℕ) (r : Result ℕ E) → list_all is_ascii_digit word ≡ true → ParsesUnsigned 64 10 word r → result_ok r ≡ number_of word
parse_is_number_of word r all h = parsed word r all (parse_digits digits_model 64 word r h all)
