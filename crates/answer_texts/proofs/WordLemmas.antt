-- Words: some bytes, with no space and no line feed among them.
use Rattle.std.proofs.Common.{◌≡◌, ◌≢◌, ◌<◌, ℕ, zero, suc, ◌+◌, ◌/◌, ◌%◌, ◌==◌, Bool, true, false, if◌then◌else◌, nat_lt, List, [], ◌∷◌, ◌++◌, drop, refl, arith, codes, get_or}
use Rattle.std.specs.Prelude.{ℤ, pos, negsuc}
use Rattle.std.specs.Fmt.{decimal, signed_decimal, digits, digits_onto, digit_glyph}
use Rattle.std.specs.Int.{w64, to_be_bytes}
use Rattle.std.specs.List.{AllByRecursion, list_all}
use Rattle.std.proofs.lemmas.Bool.{and_parts, ltb-true}
use Rattle.hex.specs.Hex.{encode_lower, encode_upper, encode_with, lower_digits, upper_digits}
use Rattle.wire_frames.specs.declared.kinds.PlcValue.{PlcValue}
use Rattle.wire_frames.specs.declared.kinds.PlcValue.TheVariants as values
use Rattle.answer_texts.specs.Texts.{raw_text, value_text, values_text}

-- a byte that ends neither a word nor a line
abbrev pub IsInner : ℕ → Type 0
IsInner b = (b ≢ 10) × (b ≢ 32)

abbrev pub AreInner : List ℕ → Type 0
AreInner bytes = AllByRecursion IsInner bytes

pub record IsWord (bytes : List ℕ) : Type 0 where
  pub some : bytes ≢ []
  pub inner : AreInner bytes

inner_above : (b : ℕ) → 32 < b → IsInner b
inner_above b h = (omega arith, omega arith)

pub all-append : {A : Type 0} (P : A → Type 0) (xs ys : List A) → AllByRecursion P xs → AllByRecursion P ys → AllByRecursion P (xs ++ ys)
all-append P [] ys h k = k
all-append P (x ∷ xs) ys h k = (h.0, all-append P xs ys h.1 k)

pub all-weaker : {A : Type 0} (P Q : A → Type 0) → ((x : A) → P x → Q x) → (xs : List A) → AllByRecursion P xs → AllByRecursion Q xs
all-weaker P Q f [] h = tt
all-weaker P Q f (x ∷ xs) h = (f x h.0, all-weaker P Q f xs h.1)

all-drop : (P : ℕ → Type 0) (n : ℕ) (xs : List ℕ) → AllByRecursion P xs → AllByRecursion P (drop n xs)
all-drop P zero xs h = h
all-drop P (suc n) [] h = tt
all-drop P (suc n) (x ∷ xs) h = all-drop P n xs h.1

word_cons : (b : ℕ) (bytes : List ℕ) → IsInner b → AreInner bytes → IsWord (b ∷ bytes)
word_cons b bytes h k = record { some = λ e. cc; inner = (h, k) }

word-append : (xs ys : List ℕ) → IsWord xs → AreInner ys → IsWord (xs ++ ys)
word-append [] ys h k = absurd (h.some refl)
word-append (x ∷ xs) ys h k = word_cons x (xs ++ ys) h.inner.0 (all-append IsInner xs ys h.inner.1 k)

-- ---- words that are written out

abbrev pub is_word : List ℕ → Bool
is_word [] = false
is_word (b ∷ bytes) = list_all (λ b. nat_lt 32 b) (b ∷ bytes)

inner_from_test : (bytes : List ℕ) → list_all (λ b. nat_lt 32 b) bytes ≡ true → AreInner bytes
inner_from_test [] h = tt
inner_from_test (b ∷ bytes) h =
    let parts = and_parts (nat_lt 32 b) (list_all (λ b. nat_lt 32 b) bytes) h in
    (inner_above b (ltb-true 32 b parts.0), inner_from_test bytes parts.1)

pub written : (bytes : List ℕ) → is_word bytes ≡ true → IsWord bytes
written [] h = absurd (cc)
written (b ∷ bytes) h = record { some = λ e. cc; inner = inner_from_test (b ∷ bytes) h }

-- ---- numbers

if_inner : (b : Bool) (x y : ℕ) → 32 < x → 32 < y → IsInner (if b then x else y)
if_inner true x y h k = inner_above x h
if_inner false x y h k = inner_above y k

glyph_inner : (d : ℕ) → IsInner (digit_glyph false d)
glyph_inner d = if_inner (nat_lt d 10) (48 + d) (87 + d) (omega arith) (omega arith)

if_word : (b : Bool) (xs ys : List ℕ) → IsWord xs → IsWord ys → IsWord (if b then xs else ys)
if_word true xs ys h k = h
if_word false xs ys h k = k

onto_word : (k n : ℕ) (acc : List ℕ) → IsWord acc → IsWord (digits_onto k 10 false n acc)
onto_word zero n acc h = h
onto_word (suc k) n acc h =
    let more = word_cons (digit_glyph false (n % 10)) acc (glyph_inner (n % 10)) h.inner in
    if_word (n / 10 == 0) _ _ more (onto_word k (n / 10) (digit_glyph false (n % 10) ∷ acc) more)

first_word : (k n : ℕ) → IsWord (digits_onto (suc k) 10 false n [])
first_word k n =
    let more = word_cons (digit_glyph false (n % 10)) [] (glyph_inner (n % 10)) tt in
    if_word (n / 10 == 0) _ _ more (onto_word k (n / 10) (digit_glyph false (n % 10) ∷ []) more)

pub decimal_word : (n : ℕ) → IsWord (decimal n)
unfolding digits
decimal_word n = first_word 63 n

signed_word : (z : ℤ) → IsWord (signed_decimal z)
signed_word (pos n) = decimal_word n
signed_word (negsuc n) = word_cons 45 (decimal (suc n)) (inner_above 45 (omega arith)) (decimal_word (suc n)).inner

-- ---- digits of bytes

index_inner : (table : List ℕ) (i : ℕ) → AreInner table → IsInner (get_or table i 0)
index_inner [] i h = (omega arith, omega arith)
index_inner (c ∷ table) zero h = h.0
index_inner (c ∷ table) (suc i) h = index_inner table i h.1

hex_inner : (table bytes : List ℕ) → AreInner table → AreInner (encode_with table bytes)
unfolding encode_with
hex_inner table [] h = tt
hex_inner table (b ∷ bytes) h = (index_inner table (b / 16) h, (index_inner table (b % 16) h, hex_inner table bytes h))

pub lower_inner : (bytes : List ℕ) → AreInner (encode_lower bytes)
lower_inner bytes = hex_inner lower_digits bytes (inner_from_test lower_digits refl)

pub lower_word : (bytes : List ℕ) → bytes ≢ [] → IsWord (encode_lower bytes)
unfolding encode_with
lower_word [] h = absurd (h refl)
lower_word (b ∷ bytes) h = record { some = λ e. cc; inner = lower_inner (b ∷ bytes) }

if_all : (b : Bool) (xs ys : List ℕ) → AreInner xs → AreInner ys → AreInner (if b then xs else ys)
if_all true xs ys h k = h
if_all false xs ys h k = k

raw_word : (bits width : ℕ) → IsWord (raw_text bits width)
raw_word bits width =
    let digits = encode_upper (to_be_bytes w64 bits) in
    let inner : AreInner digits = hex_inner upper_digits (to_be_bytes w64 bits) (inner_from_test upper_digits refl) in
    word-append (codes "16#") _ (written (codes "16#") refl) (if_all (width == 32) (drop 8 digits) digits (all-drop IsInner 8 digits inner) inner)

-- ---- values

value_word : (value : PlcValue) → IsWord (value_text value)
value_word (values.Bool true) = written (codes "true") refl
value_word (values.Bool false) = written (codes "false") refl
value_word (values.Whole number) = signed_word number
value_word (values.Raw bits width) = raw_word bits width

pub values_inner : (row : List PlcValue) → AreInner (values_text row)
values_inner [] = tt
values_inner (value ∷ []) = (value_word value).inner
values_inner (value ∷ next ∷ more) =
    all-append IsInner (value_text value) (44 ∷ values_text (next ∷ more)) (value_word value).inner (inner_above 44 (omega arith), values_inner (next ∷ more))

pub values_word : (row : List PlcValue) → row ≢ [] → IsWord (values_text row)
values_word [] h = absurd (h refl)
values_word (value ∷ []) h = value_word value
values_word (value ∷ next ∷ more) h =
    word-append (value_text value) (44 ∷ values_text (next ∷ more)) (value_word value) (inner_above 44 (omega arith), values_inner (next ∷ more))
