-- The words of paths: names, and numbers in brackets or behind a `#`.
use Rattle.std.proofs.Common.{◌≡◌, ◌≢◌, ◌<◌, ◌≤◌, ◌^◌, ℕ, zero, suc, ◌+◌, ◌/◌, ◌%◌, ◌==◌, Bool, true, false, if◌then◌else◌, List, [], ◌∷◌, ◌++◌, refl, subst, arith, codes}
use Rattle.std.specs.Fmt.{decimal, digits, digits_onto, digit_glyph}
use Rattle.std.specs.List.{AllByRecursion, list_all}
use Rattle.std.proofs.lemmas.Bool.{and_parts, lt-ltb}
use Rattle.std.proofs.lemmas.Fmt.{decimal_injective}
use Rattle.std.proofs.lemmas.List.{append_cancel_right}
use Rattle.mspec_listings.specs.Listings.{field_word}
use Rattle.mspec_listings.proofs.BlockLemmas.{IsWord, all-weaker}
use Rattle.mspec_listings.proofs.NameLemmas.{IsNameText, name_byte}
use Rattle.mspec_listings.proofs.SolidLemmas.{all-append}

-- ---- numbers

abbrev IsDigits : List ℕ → Type 0
IsDigits bytes = AllByRecursion (λ b. (48 ≤ b) × (b < 58)) bytes

glyph_digit : (d : ℕ) → d < 10 → (48 ≤ digit_glyph false d) × (digit_glyph false d < 58)
glyph_digit d h =
    let e : digit_glyph false d ≡ 48 + d = rw (lt-ltb d 10 h) refl in
    (omega arith, omega arith)

if_digits : (b : Bool) (xs ys : List ℕ) → IsDigits xs → IsDigits ys → IsDigits (if b then xs else ys)
if_digits true xs ys h k = h
if_digits false xs ys h k = k

onto_digits : (k n : ℕ) (acc : List ℕ) → IsDigits acc → IsDigits (digits_onto k 10 false n acc)
onto_digits zero n acc h = h
onto_digits (suc k) n acc h =
    let more : IsDigits (digit_glyph false (n % 10) ∷ acc) = (glyph_digit (n % 10) (omega arith), h) in
    if_digits (n / 10 == 0) _ _ more (onto_digits k (n / 10) (digit_glyph false (n % 10) ∷ acc) more)

decimal_digits : (n : ℕ) → IsDigits (decimal n)
unfolding digits
decimal_digits n = onto_digits 64 n [] tt

digit_in_word : (b : ℕ) → (48 ≤ b) × (b < 58) → (b ≢ 46) × (b ≢ 91)
digit_in_word b h = (omega arith, omega arith)

decimal_word : (n : ℕ) → IsWord (decimal n)
decimal_word n = all-weaker (λ b. (48 ≤ b) × (b < 58)) (λ b. (b ≢ 46) × (b ≢ 91)) digit_in_word (decimal n) (decimal_digits n)

-- ---- items

abbrev pub item_word : ℕ → List ℕ
item_word place = decimal place ++ codes "]"

pub item_is_word : (place : ℕ) → IsWord (item_word place)
item_is_word place = all-append (λ b. (b ≢ 46) × (b ≢ 91)) (decimal place) (codes "]") (decimal_word place) ((omega arith, omega arith), tt)

ended : (xs : List ℕ) (b : ℕ) → (xs ++ b ∷ []) ≢ []
ended [] b = λ e. cc
ended (x ∷ xs) b = λ e. cc

pub item_is_some : (place : ℕ) → item_word place ≢ []
item_is_some place = ended (decimal place) 93

pub items_differ : (before place : ℕ) → before < place → place < 2 ^ 64 → item_word before ≢ item_word place
items_differ before place h k = λ e.
    let same = decimal_injective before place (omega arith) k (append_cancel_right (decimal before) (decimal place) (codes "]") e) in
    omega arith

-- ---- fields

byte_in_word : (c : ℕ) → name_byte c ≡ true → (c ≢ 46) × (c ≢ 91)
byte_in_word c h = (
  λ e. let at : name_byte 46 ≡ true = subst (λ (x : ℕ). name_byte x ≡ true) e h in cc,
  λ e. let at : name_byte 91 ≡ true = subst (λ (x : ℕ). name_byte x ≡ true) e h in cc,
)

no_hash : (c : ℕ) → name_byte c ≡ true → c ≢ 35
no_hash c h = λ e. let at : name_byte 35 ≡ true = subst (λ (x : ℕ). name_byte x ≡ true) e h in cc

name_word : (name : List ℕ) → IsNameText name → IsWord name
name_word [] h = tt
name_word (c ∷ name) h =
    let parts = and_parts (name_byte c) (list_all name_byte name) h in
    (byte_in_word c parts.0, name_word name parts.1)

pub field_is_word : (name : List ℕ) (place : ℕ) → IsNameText name → IsWord (field_word name place)
field_is_word [] place h = ((omega arith, omega arith), decimal_word place)
field_is_word (c ∷ name) place h = name_word (c ∷ name) h

pub field_is_some : (name : List ℕ) (place : ℕ) → field_word name place ≢ []
field_is_some [] place = λ e. cc
field_is_some (c ∷ name) place = λ e. cc

pub fields_differ : (name : List ℕ) (before : ℕ) (other : List ℕ) (place : ℕ) → IsNameText name → IsNameText other → (name ≡ other → name ≡ []) → before < place → place < 2 ^ 64
    → field_word name before ≢ field_word other place
fields_differ [] before [] place n o own h k = λ e.
    let digits : decimal before ≡ decimal place = cc in
    let same = decimal_injective before place (omega arith) k digits in
    omega arith
fields_differ [] before (c ∷ other) place n o own h k = λ e.
    let first : c ≡ 35 = cc in
    no_hash c (and_parts (name_byte c) (list_all name_byte other) o).0 first
fields_differ (c ∷ name) before [] place n o own h k = λ e.
    let first : c ≡ 35 = cc in
    no_hash c (and_parts (name_byte c) (list_all name_byte name) n).0 first
fields_differ (c ∷ name) before (c' ∷ other) place n o own h k = λ e. let none = own e in cc
