-- Decimal numbers without leading zeros, and the longest one in front of a text.
use Rattle.std.proofs.Common.{◌≡◌, ℕ, ◌+◌, ◌-◌, ◌*◌, ◌/◌, ◌%◌, ◌^◌, ◌<◌, ◌≤◌, List, [], ◌∷◌, ◌++◌, length, take, drop, get_or, refl, sym, ap, ◌∙◌, subst, inl, inr, arith, length-append, length-drop, decimal}
use Rattle.std.specs.Char.{digit_value}
use Rattle.std.specs.Int.{IsInRange}
use Rattle.std.specs.Str.Parse.{AllDigits, digits_value, digits_value_after}
use Rattle.std.proofs.lemmas.Bool.{cases_lt, ne_eqb}
use Rattle.std.proofs.lemmas.Fmt.{decimal_digit, decimal_injective, decimal_is_IsNumeral, decimal_nonempty, decimal_step, first_decimal}
use Rattle.std.proofs.lemmas.List.{append-nil, append_assoc, drop-drop, drop_more, get_or_at, take_more}
use Rattle.std.proofs.Math.Seq.{take-add}
use Rattle.std.proofs.lemmas.Str.{digit_value_digit}
use Rattle.std.proofs.lemmas.Str.Parse.{digit_at, digit_from_value}
use Rattle.tag_address.specs.Tags.{brackets, colons}
use Rattle.tag_address.specs.Places.{Begins}
use Rattle.tag_address.specs.Parts.{GoesOn, IsLonger, IsNotLed, IsNumber, IsNumberAt, IsStuckPart}
use Rattle.tag_address.proofs.Languages.{IsOnlyFront}
use Rattle.tag_address.proofs.Splits.{are_cut}

-- a text in which a byte stands behind a front
at_seam : (xs r : List ℕ) (b : ℕ) → get_or (xs ++ (b ∷ r)) (length xs) 0 ≡ b
at_seam xs r b = get_or_at xs b r 0 (length xs) refl

-- each byte of a number is a digit
pub digit_in : (n b : ℕ) (xs r : List ℕ) → n < 2 ^ 64 → decimal n ≡ xs ++ (b ∷ r) → IsInRange 48 57 b
digit_in n b xs r small e =
    let long : length (decimal n) ≡ length xs + length (b ∷ r) = ap length e ∙ length-append xs (b ∷ r) in
    let found = digit_at (decimal n) (length xs) (decimal_is_IsNumeral n small).0.1 (omega arith) in
    subst (λ (c : ℕ). IsInRange 48 57 c) (ap (λ (ds : List ℕ). get_or ds (length xs) 0) e ∙ at_seam xs r b) found

-- ---- the number that more digits make isn't smaller

after_append : (n : ℕ) (xs ys : List ℕ) → digits_value_after 10 n (xs ++ ys) ≡ digits_value_after 10 (digits_value_after 10 n xs) ys
after_append n [] ys = refl
after_append n (c ∷ xs) ys = after_append (n * 10 + digit_value c) xs ys

after_grows : (n : ℕ) (xs : List ℕ) → n ≤ digits_value_after 10 n xs
after_grows n [] = omega arith
after_grows n (c ∷ xs) =
    let more = after_grows (n * 10 + digit_value c) xs in omega (arith, more)

value_of : (n : ℕ) → n < 2 ^ 64 → digits_value 10 (decimal n) ≡ n
value_of n small = (decimal_is_IsNumeral n small).1

one_digit : decimal 0 ≡ 48 ∷ []
one_digit = decimal_digit 0 (omega arith)

-- a number of two digits or more doesn't begin with a zero
no_zero : (n b : ℕ) (r : List ℕ) → n < 2 ^ 64 → decimal n ≡ 48 ∷ (b ∷ r) → ⊥
no_zero n b r small e =
    elim (cases_lt 0 n) [
      | inl above ↦
          let first = first_decimal n above small in
          let zero : get_or (decimal n) 0 0 ≡ 48 = ap (λ (ds : List ℕ). get_or ds 0 0) e in
          omega (arith, first, zero)
      | inr none ↦
          let is : n ≡ 0 = omega arith in
          let both : 48 ∷ [] ≡ 48 ∷ (b ∷ r) = sym one_digit ∙ ap decimal (sym is) ∙ e in
          cc
    ]

not_zero : (v n b : ℕ) (r : List ℕ) → n < 2 ^ 64 → decimal n ≡ decimal v ++ (b ∷ r) → 1 ≤ v
not_zero v n b r small e =
    elim (cases_lt 0 v) [
      | inl above ↦ omega arith
      | inr none ↦
          let is : v ≡ 0 = omega arith in
          absurd (no_zero n b r small (e ∙ ap (λ (m : ℕ). decimal m ++ (b ∷ r)) is ∙ ap (λ (ds : List ℕ). ds ++ (b ∷ r)) one_digit))
    ]

-- a number that begins with the digits of another, and has more
pub longer_number : (v n b : ℕ) (r : List ℕ) → v < 2 ^ 64 → n < 2 ^ 64 → decimal n ≡ decimal v ++ (b ∷ r) → (1 ≤ v) × (48 ≤ b) × (b ≤ 57) × (v * 10 + (b - 48) ≤ n)
longer_number v n b r vs ns e =
    let digit = digit_in n b (decimal v) r ns e in
    let value : n ≡ digits_value_after 10 (v * 10 + digit_value b) r =
    sym (value_of n ns) ∙ ap (digits_value 10) e ∙ after_append 0 (decimal v) (b ∷ r) ∙ ap (λ (m : ℕ). digits_value_after 10 m (b ∷ r)) (value_of v vs) in
    let grows = after_grows (v * 10 + digit_value b) r in
    let is = digit_value_digit b digit in
    (not_zero v n b r ns e, digit.0, digit.1, omega (arith, value, grows, is))

-- the first digit of a number
pub first_digit : (n b : ℕ) (r : List ℕ) → n < 2 ^ 64 → decimal n ≡ b ∷ r → (48 ≤ b) × (b ≤ 57) × (b - 48 ≤ n) × (1 ≤ n → 49 ≤ b)
first_digit n b r small e =
    let digit = digit_in n b [] r small e in
    let value : n ≡ digits_value_after 10 (0 * 10 + digit_value b) r = sym (value_of n small) ∙ ap (digits_value 10) e in
    let grows = after_grows (0 * 10 + digit_value b) r in
    let is = digit_value_digit b digit in
    let read : get_or (decimal n) 0 0 ≡ b = ap (λ (ds : List ℕ). get_or ds 0 0) e in
    (digit.0, digit.1, omega (arith, value, grows, is), λ above. let first = first_decimal n above small in omega (arith, first, read))

-- one digit more
pub decimal-more : (v most b : ℕ) → v < 2 ^ 32 → GoesOn v most b → decimal (v * 10 + (b - 48)) ≡ decimal v ++ (b ∷ [])
decimal-more v most b small go =
    let n : ℕ = v * 10 + (b - 48) in
    let step = decimal_step n (omega arith) (omega arith) in
    let front : n / 10 ≡ v = omega arith in
    let last : 48 + n % 10 ≡ b = omega arith in
    step ∙ ap (λ (m : ℕ). decimal m ++ ((48 + n % 10) ∷ [])) front ∙ ap (λ (c : ℕ). decimal v ++ (c ∷ [])) last

abbrev pub IsDigit : ℕ → Type 0
IsDigit b = IsInRange 48 57 b

cut_number : (most v other : ℕ) (front x y z r : List ℕ) → most < 2 ^ 64 → v < 2 ^ 64 → other ≤ most → front ≡ decimal v → x ≡ decimal other → IsNotLed (GoesOn v most) z → x ≡ front ++ r → z ≡ r ++ y → x ≡ front
cut_number most v other front x y z [] ms vs os f o not e q = e ∙ append-nil front
cut_number most v other front x y z (c ∷ r) ms vs os f o not e q =
    let more = longer_number v other c r vs (omega arith) (sym o ∙ e ∙ ap (λ (ds : List ℕ). ds ++ (c ∷ r)) f) in
    absurd (not c (r ++ y) q (more.0, more.1, more.2, omega (arith, more.3)))

cut_front : (v : ℕ) (front x y z r : List ℕ) → v < 2 ^ 64 → front ≡ decimal v → IsNotLed IsDigit y → front ≡ x ++ r → y ≡ r ++ z → x ≡ front
cut_front v front x y z [] vs f not e q = sym (e ∙ append-nil x)
cut_front v front x y z (c ∷ r) vs f not e q = absurd (not c (r ++ z) q (digit_in v c x r vs (sym f ∙ e)))

-- The number in front of a text is the longest one, where no digit stands behind a number.
pub only_number : {B : Type 0} (K : ℕ → List ℕ → B → Type 0) (least most : ℕ) (front : List ℕ) (v : ℕ) → most < 2 ^ 64 → IsNumber least most front v → ((n : ℕ) (y : List ℕ) (b : B) → K n y b → IsNotLed IsDigit y) → IsOnlyFront (IsNumber least most) K (GoesOn v most) front v
only_number K least most front v ms h ends x y z other b l k not e =
    let vs : v < 2 ^ 64 = omega (arith, h.2) in
    let os : other < 2 ^ 64 = omega (arith, l.2) in
    let same : x ≡ front =
    elim (are_cut front z x y e) [
      | inl c ↦ cut_front v front x y z c.0 vs h.0 (ends other y b k) c.1 c.2
      | inr c ↦ cut_number most v other front x y z c.0 ms vs l.2 h.0 l.0 not c.1 c.2
    ] in
    (same, decimal_injective other v os vs (sym l.0 ∙ same ∙ h.0))

-- ---- no number stands in front

abbrev pub IsFirst : (least most : ℕ) → ℕ → Type 0
IsFirst least most b = (48 ≤ b) × (b ≤ 57) × (least ≤ b - 48) × (b - 48 ≤ most)

no_empty : (n : ℕ) (x r : List ℕ) → n < 2 ^ 64 → x ≡ decimal n → [] ≡ x ++ r → ⊥
no_empty n [] r small e f = let some = decimal_nonempty n small in let none = ap length e in omega (arith, some, none)
no_empty n (c ∷ x) r small e f = cc

by_least : (least n b : ℕ) → least ≤ 1 → least ≤ n → (1 ≤ n → 49 ≤ b) → least ≤ b - 48
by_least least n b low range above =
    elim (cases_lt 0 n) [
      | inl some ↦ let high = above some in omega arith
      | inr none ↦ omega arith
    ]

not_first : (least most : ℕ) (text : List ℕ) → least ≤ 1 → most < 2 ^ 64 → IsNotLed (IsFirst least most) text → 0 < length text → Begins (IsNumber least most) (take (0 + 1) text) → ⊥
not_first least most [] low ms not some h = omega arith
not_first least most (b ∷ text) low ms not some h =
    let n = h.1 in
    let is : decimal n ≡ b ∷ h.0 = sym h.2.0 in
    let first = first_digit n b h.0 (omega (arith, h.2.2)) is in
    not b text refl (first.0, first.1, by_least least n b low h.2.1 first.3, omega (arith, first.2, h.2.2))

pub no_number : (least most : ℕ) (text : List ℕ) → least ≤ 1 → least ≤ most → most < 2 ^ 64 → IsNotLed (IsFirst least most) text → IsStuckPart (IsNumber least most) text 0
no_number least most text low range ms not = record {
  within = omega arith;
  front = (decimal least, least, (refl, omega arith, range));
  none = λ x r n e h. no_empty n x r (omega (arith, h.2)) h.0 e;
  next = not_first least most text low ms not;
}

-- a text that isn't empty is led by its first byte
pub not_led_at : (Q : ℕ → Type 0) (text : List ℕ) → (0 < length text → Q (get_or text 0 0) → ⊥) → IsNotLed Q text
not_led_at Q text h b r e q =
    let long = ap length e in
    h (omega (arith, long)) (subst Q (sym (ap (λ (bs : List ℕ). get_or bs 0 0) e)) q)

-- ---- the longest number in front of a text

pub more_digits : (value v longer most place b : ℕ) (text : List ℕ) → v ≤ most → most ≤ 65536 → place < length text → decimal v ≡ decimal value ++ take place text → GoesOn v most b → longer ≡ v * 10 + (b - 48) → b ≡ get_or text place 0 → decimal longer ≡ decimal value ++ take (place + 1) text
more_digits value v longer most place b text vs ms inside is go e at =
    let grown : decimal longer ≡ decimal v ++ (b ∷ []) = ap decimal e ∙ decimal-more v most b (omega arith) go in
    let taken : take (place + 1) text ≡ take place text ++ (b ∷ []) = take_more text place 0 inside ∙ ap (λ (c : ℕ). take place text ++ (c ∷ [])) (sym at) in
    grown ∙ ap (λ (ds : List ℕ). ds ++ (b ∷ [])) is ∙ append_assoc (decimal value) (take place text) (b ∷ []) ∙ ap (λ (ds : List ℕ). decimal value ++ ds) (sym taken)

number-text : (digit used : ℕ) (text : List ℕ) → 0 < length text → IsDigit (get_or text 0 0) → digit ≡ get_or text 0 0 - 48 → take (used + 1) text ≡ decimal digit ++ take used (drop 1 text)
number-text digit used text some range is =
    let one : decimal digit ≡ (48 + digit) ∷ [] = decimal_digit digit (omega arith) in
    let first : 48 + digit ≡ get_or text 0 0 = omega arith in
    let split : text ≡ get_or text 0 0 ∷ drop 1 text = drop_more text 0 0 some in
    let swap : used + 1 ≡ 1 + used = omega arith in
    ap (λ (k : ℕ). take k text) swap ∙ take-add 1 used text
    ∙ ap (λ (ds : List ℕ). ds ++ take used (drop 1 text)) (take_more text 0 0 some ∙ sym (one ∙ ap (λ (c : ℕ). c ∷ []) first))

pub number_found : (least most digit value used : ℕ) (text : List ℕ) → 0 < length text → IsDigit (get_or text 0 0) → digit ≡ get_or text 0 0 - 48 → least ≤ digit → IsLonger digit most (drop 1 text) value used → IsNumberAt least most text value (used + 1)
number_found least most digit value used text some range is low longer =
    let long = length-drop 1 text in
    let swap : used + 1 ≡ 1 + used = omega arith in
    record {
      within = omega (arith, long, longer.within);
      is = (number-text digit used text some range is ∙ sym longer.is, omega (arith, longer.least), longer.range);
      longest = subst (IsNotLed (GoesOn value most)) (drop-drop used 1 text ∙ ap (λ (k : ℕ). drop k text) (sym swap)) longer.longest;
    }

-- ---- no byte of a number is a colon or a bracket

clear_digits : (ds : List ℕ) → AllDigits 10 ds → (colons ds ≡ 0) × (brackets ds ≡ 0)
clear_digits [] h = (refl, refl)
clear_digits (c ∷ ds) h =
    let digit = digit_from_value c h.0 in
    let rest = clear_digits ds h.1 in
    let colon = ne_eqb c 58 (λ e. omega (arith, digit, e)) in
    let bracket = ne_eqb c 91 (λ e. omega (arith, digit, e)) in
    (rw colon rest.0, rw bracket rest.1)

pub digits_clear : (n : ℕ) → n < 2 ^ 64 → (colons (decimal n) ≡ 0) × (brackets (decimal n) ≡ 0)
digits_clear n small = clear_digits (decimal n) (decimal_is_IsNumeral n small).0.1
