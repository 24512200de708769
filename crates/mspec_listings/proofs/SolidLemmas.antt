-- Bytes without a blank and without a line feed.
use Rattle.std.proofs.Common.{◌≡◌, ◌≢◌, ◌<◌, ℕ, zero, suc, ◌+◌, ◌-◌, ◌/◌, ◌%◌, ◌==◌, Bool, true, false, if◌then◌else◌, nat_lt, List, [], ◌∷◌, ◌++◌, drop, refl, arith, codes, get_or}
use Rattle.std.specs.Prelude.{ℤ, pos, negsuc}
use Rattle.std.specs.Fmt.{decimal, signed_decimal, digits, digits_onto, digit_glyph}
use Rattle.std.specs.Int.{w64, to_be_bytes}
use Rattle.std.specs.List.{AllByRecursion, list_all}
use Rattle.std.proofs.lemmas.Bool.{and_parts, ltb-true}
use Rattle.hex.specs.Hex.{encode_lower, encode_upper, encode_with, lower_digits, upper_digits}
use Rattle.node_tree.specs.declared.nodes.Node.TheOpen.{Flag}
use Rattle.mspec_listings.specs.Listings.{dot_behind, field_path, field_word, item_path, leaf_text, raw_digits}
use Rattle.mspec_listings.specs.Plain.{IsSolid}

pub all-append : {A : Type 0} (P : A → Type 0) (xs ys : List A) → AllByRecursion P xs → AllByRecursion P ys → AllByRecursion P (xs ++ ys)
all-append P [] ys h k = k
all-append P (x ∷ xs) ys h k = (h.0, all-append P xs ys h.1 k)

pub solid-append : (xs ys : List ℕ) → IsSolid xs → IsSolid ys → IsSolid (xs ++ ys)
solid-append xs ys h k = all-append (λ b. (b ≢ 32) × (b ≢ 10)) xs ys h k

solid-drop : (n : ℕ) (xs : List ℕ) → IsSolid xs → IsSolid (drop n xs)
solid-drop zero xs h = h
solid-drop (suc n) [] h = tt
solid-drop (suc n) (x ∷ xs) h = solid-drop n xs h.1

-- bytes that are written out
pub solid_codes : (bytes : List ℕ) → list_all (λ b. nat_lt 32 b) bytes ≡ true → IsSolid bytes
solid_codes [] h = tt
solid_codes (b ∷ bytes) h =
    let parts = and_parts (nat_lt 32 b) (list_all (λ b. nat_lt 32 b) bytes) h in
    let above : 32 < b = ltb-true 32 b parts.0 in
    ((omega arith, omega arith), solid_codes bytes parts.1)

-- ---- numbers

if_solid : (b : Bool) (xs ys : List ℕ) → IsSolid xs → IsSolid ys → IsSolid (if b then xs else ys)
if_solid true xs ys h k = h
if_solid false xs ys h k = k

if_byte : (b : Bool) (x y : ℕ) → 32 < x → 32 < y → ((if b then x else y) ≢ 32) × ((if b then x else y) ≢ 10)
if_byte true x y h k = (omega arith, omega arith)
if_byte false x y h k = (omega arith, omega arith)

glyph_solid : (d : ℕ) → (digit_glyph false d ≢ 32) × (digit_glyph false d ≢ 10)
glyph_solid d = if_byte (nat_lt d 10) (48 + d) (87 + d) (omega arith) (omega arith)

onto_solid : (k n : ℕ) (acc : List ℕ) → IsSolid acc → IsSolid (digits_onto k 10 false n acc)
onto_solid zero n acc h = h
onto_solid (suc k) n acc h =
    let more : IsSolid (digit_glyph false (n % 10) ∷ acc) = (glyph_solid (n % 10), h) in
    if_solid (n / 10 == 0) _ _ more (onto_solid k (n / 10) (digit_glyph false (n % 10) ∷ acc) more)

pub decimal_solid : (n : ℕ) → IsSolid (decimal n)
unfolding digits
decimal_solid n = onto_solid 64 n [] tt

if_some : (b : Bool) (xs ys : List ℕ) → xs ≢ [] → ys ≢ [] → (if b then xs else ys) ≢ []
if_some true xs ys h k = h
if_some false xs ys h k = k

onto_some : (k n : ℕ) (acc : List ℕ) → acc ≢ [] → digits_onto k 10 false n acc ≢ []
onto_some zero n acc h = h
onto_some (suc k) n acc h =
    let more : (digit_glyph false (n % 10) ∷ acc) ≢ [] = λ e. cc in
    if_some (n / 10 == 0) _ _ more (onto_some k (n / 10) (digit_glyph false (n % 10) ∷ acc) more)

decimal_some : (n : ℕ) → decimal n ≢ []
unfolding digits
decimal_some n =
    let more : (digit_glyph false (n % 10) ∷ []) ≢ [] = λ e. cc in
    if_some (n / 10 == 0) _ _ more (onto_some 63 (n / 10) (digit_glyph false (n % 10) ∷ []) more)

-- ---- digits of bytes

index_solid : (table : List ℕ) (i : ℕ) → IsSolid table → (get_or table i 0 ≢ 32) × (get_or table i 0 ≢ 10)
index_solid [] i h = (omega arith, omega arith)
index_solid (c ∷ table) zero h = h.0
index_solid (c ∷ table) (suc i) h = index_solid table i h.1

hex_solid : (table bytes : List ℕ) → IsSolid table → IsSolid (encode_with table bytes)
unfolding encode_with
hex_solid table [] h = tt
hex_solid table (b ∷ bytes) h = (index_solid table (b / 16) h, (index_solid table (b % 16) h, hex_solid table bytes h))

-- ---- leaves

signed_solid : (z : ℤ) → IsSolid (signed_decimal z)
signed_solid (pos n) = decimal_solid n
signed_solid (negsuc n) = ((omega arith, omega arith), decimal_solid (suc n))

signed_some : (z : ℤ) → signed_decimal z ≢ []
signed_some (pos n) = decimal_some n
signed_some (negsuc n) = λ e. cc

raw_solid : (bits width : ℕ) → IsSolid (raw_digits bits width)
raw_solid bits width =
    solid-drop (16 - width / 4) (encode_upper (to_be_bytes w64 bits)) (hex_solid upper_digits (to_be_bytes w64 bits) (solid_codes upper_digits refl))

pub number_leaf : (z : ℤ) → IsSolid (signed_decimal z) × (signed_decimal z ≢ [])
number_leaf z = (signed_solid z, signed_some z)

pub flag_leaf : (A : Type 0) (flag : Bool) → let text = leaf_text {A = A} (Flag flag) in IsSolid text × (text ≢ [])
flag_leaf A true = (solid_codes (codes "true") refl, λ e. cc)
flag_leaf A false = (solid_codes (codes "false") refl, λ e. cc)

pub raw_leaf : (bits width : ℕ) → let text = codes "16#" ++ raw_digits bits width in IsSolid text × (text ≢ [])
raw_leaf bits width = (solid-append (codes "16#") (raw_digits bits width) (solid_codes (codes "16#") refl) (raw_solid bits width), λ e. cc)

pub blob_leaf : (bytes : List ℕ) → let text = codes "0x" ++ encode_lower bytes in IsSolid text × (text ≢ [])
blob_leaf bytes = (solid-append (codes "0x") (encode_lower bytes) (solid_codes (codes "0x") refl) (hex_solid lower_digits bytes (solid_codes lower_digits refl)), λ e. cc)

-- ---- paths

dot_solid : (path : List ℕ) → IsSolid (dot_behind path)
dot_solid [] = tt
dot_solid (b ∷ path) = solid_codes (codes ".") refl

word_solid : (name : List ℕ) (place : ℕ) → IsSolid name → IsSolid (field_word name place)
word_solid [] place h = solid-append (codes "#") (decimal place) (solid_codes (codes "#") refl) (decimal_solid place)
word_solid (b ∷ name) place h = h

pub field_solid : (path name : List ℕ) (place : ℕ) → IsSolid path → IsSolid name → IsSolid (field_path path name place)
field_solid path name place h k =
    solid-append path (dot_behind path ++ field_word name place) h
    (solid-append (dot_behind path) (field_word name place) (dot_solid path) (word_solid name place k))

pub item_solid : (path : List ℕ) (place : ℕ) → IsSolid path → IsSolid (item_path path place)
item_solid path place h =
    solid-append path (codes "[" ++ (decimal place ++ codes "]")) h
    (solid-append (codes "[") (decimal place ++ codes "]") (solid_codes (codes "[") refl)
    (solid-append (decimal place) (codes "]") (decimal_solid place) (solid_codes (codes "]") refl)))
