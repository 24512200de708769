-- The forms of tokens: which bytes begin them, and that bytes have one form at most.
use Rattle.std.proofs.Common.{◌≡◌, ◌<◌, ◌≤◌, ℕ, true, false, List, [], ◌∷◌, ◌++◌, length, Some, None, Option, refl, sym, ap, ◌∙◌, subst, inl, inr, arith}
use Rattle.std.specs.Prelude.{codes}
use Rattle.std.specs.Char.{digit_value, is_ascii_digit}
use Rattle.std.specs.Str.Parse.{AllDigits, digits_value}
use Rattle.std.proofs.lemmas.Bool.Decides.{nat_tests}
use Rattle.std.proofs.lemmas.Str.Parse.{digit_from_value}
use Rattle.mspec_lexer.specs.declared.tokens.Symbol.{Symbol}
use Rattle.mspec_lexer.specs.declared.tokens.Symbol.TheVariants.{DoubleEqual}
use Rattle.mspec_lexer.specs.declared.tokens.TokenKind.{TokenKind}
use Rattle.mspec_lexer.specs.declared.tokens.TokenKind.TheVariants.{Name, Number, Symbol as Sign}
use Rattle.mspec_lexer.specs.Spellings.{begins_name, HasForm, IsNumber, spelling}
use Rattle.mspec_lexer.specs.Tokens.{is_blank}
use Rattle.mspec_lexer.specs.LexerParts.{single_symbol, double_symbol}

-- ---- classes of bytes

pub data Class : Type 0 where
  Letter : Class
  Digit : Class
  Other : Class

-- the class of the bytes that begin tokens of this kind
abbrev pub class_of : TokenKind → Class
class_of Name = Letter
class_of (Number n) = Digit
class_of (Sign symbol) = Other

abbrev pub IsIn : Class → ℕ → Type 0
IsIn Letter b = begins_name b ≡ true
IsIn Digit b = is_ascii_digit b ≡ true
IsIn Other b = (begins_name b ≡ false) × (is_ascii_digit b ≡ false)

letter_no_digit : (b : ℕ) → begins_name b ≡ true → is_ascii_digit b ≡ true → ⊥
letter_no_digit b h k = grind (arith, nat_tests)

pub one_class : (c d : Class) (b : ℕ) → IsIn c b → IsIn d b → c ≡ d
one_class Letter Letter b h k = refl
one_class Letter Digit b h k = absurd (letter_no_digit b h k)
one_class Letter Other b h k = cc
one_class Digit Letter b h k = absurd (letter_no_digit b k h)
one_class Digit Digit b h k = refl
one_class Digit Other b h k = cc
one_class Other Letter b h k = cc
one_class Other Digit b h k = cc
one_class Other Other b h k = refl

pub letter_no_blank : (b : ℕ) → begins_name b ≡ true → is_blank b ≡ false
letter_no_blank b h = grind (arith, nat_tests)

pub digit_no_blank : (b : ℕ) → is_ascii_digit b ≡ true → is_blank b ≡ false
digit_no_blank b h = grind (arith, nat_tests)

pub digit_is_digit : (b : ℕ) → digit_value b < 10 → is_ascii_digit b ≡ true
digit_is_digit b h = let in_range = digit_from_value b h in grind (arith, nat_tests)

-- ---- the first byte

-- what is known of the first byte of a token
pub record Begins (kind : TokenKind) (bytes : List ℕ) : Type 0 where
  pub first : ℕ
  pub more : List ℕ
  pub split : bytes ≡ first ∷ more
  pub class : IsIn (class_of kind) first
  pub filled : is_blank first ≡ false

-- a symbol has one byte or two
abbrev IsSymbol : List ℕ → Type 0
IsSymbol [] = ⊥
IsSymbol (b ∷ bytes) = (begins_name b ≡ false) × (is_ascii_digit b ≡ false) × (is_blank b ≡ false) × (length bytes ≤ 1)

is_symbol : (symbol : Symbol) → IsSymbol (spelling symbol)
is_symbol DoubleEqual = (refl, refl, refl, omega arith)
is_symbol other = (refl, refl, refl, omega arith)

begins_symbol : (symbol : Symbol) (bytes : List ℕ) → IsSymbol bytes → Begins (Sign symbol) bytes
begins_symbol symbol [] h = elim h [ ]
begins_symbol symbol (b ∷ bytes) h = record { first = b; more = bytes; split = refl; class = (h.0, h.1); filled = h.2 }

begins_decimal : (n : ℕ) (bytes : List ℕ) → 0 < length bytes → AllDigits 10 bytes → Begins (Number n) bytes
begins_decimal n [] some h = absurd (omega arith)
begins_decimal n (b ∷ bytes) some h =
    let digit = digit_is_digit b h.0 in
    record { first = b; more = bytes; split = refl; class = digit; filled = digit_no_blank b digit }

pub begins : (kind : TokenKind) (bytes : List ℕ) → HasForm kind bytes → Begins kind bytes
begins Name [] h = elim h [ ]
begins Name (b ∷ bytes) h =
    record { first = b; more = bytes; split = refl; class = h.0; filled = letter_no_blank b h.0 }
begins (Number n) bytes (inl decimal) = begins_decimal n bytes decimal.0.0 decimal.0.1
begins (Number n) bytes (inr hexadecimal) =
    record { first = 48; more = 120 ∷ hexadecimal.0; split = hexadecimal.1; class = refl; filled = refl }
begins (Sign symbol) bytes h = begins_symbol symbol bytes (subst IsSymbol (sym h) (is_symbol symbol))

-- ---- one form

one_first : (kind other : TokenKind) (xs ys behind beyond : List ℕ) → xs ++ behind ≡ ys ++ beyond → (x : Begins kind xs) → (y : Begins other ys) → x.first ≡ y.first
one_first kind other xs ys behind beyond e x y =
    let xs_is : xs ++ behind ≡ x.first ∷ (x.more ++ behind) = ap (λ (l : List ℕ). l ++ behind) x.split in
    let ys_is : ys ++ beyond ≡ y.first ∷ (y.more ++ beyond) = ap (λ (l : List ℕ). l ++ beyond) y.split in
    let same : x.first ∷ (x.more ++ behind) ≡ y.first ∷ (y.more ++ beyond) = sym xs_is ∙ e ∙ ys_is in
    cc

-- two tokens that can begin one text are of one class
pub same_class : (kind other : TokenKind) (xs ys behind beyond : List ℕ) → xs ++ behind ≡ ys ++ beyond → HasForm kind xs → HasForm other ys → class_of kind ≡ class_of other
same_class kind other xs ys behind beyond e h k =
    let x = begins kind xs h in
    let y = begins other ys k in
    one_class (class_of kind) (class_of other) y.first
    (subst (λ b. IsIn (class_of kind) b) (one_first kind other xs ys behind beyond e x y) x.class) y.class

digits_of_x : (digits : List ℕ) → AllDigits 10 (codes "0x" ++ digits) → ⊥
digits_of_x digits h = let no : 33 < 10 = h.1.0 in absurd (omega arith)

one_number : (n m : ℕ) (bytes : List ℕ) → IsNumber bytes n → IsNumber bytes m → n ≡ m
one_number n m bytes (inl h) (inl k) = sym h.1 ∙ k.1
one_number n m bytes (inl h) (inr k) = absurd (digits_of_x k.0 (subst (λ (bs : List ℕ). AllDigits 10 bs) k.1 h.0.1))
one_number n m bytes (inr h) (inl k) = absurd (digits_of_x h.0 (subst (λ (bs : List ℕ). AllDigits 10 bs) h.1 k.0.1))
one_number n m bytes (inr h) (inr k) =
    let e : codes "0x" ++ h.0 ≡ codes "0x" ++ k.0 = sym h.1 ∙ k.1 in
    let same : h.0 ≡ k.0 = cc in
    sym h.3 ∙ ap (λ (ds : List ℕ). digits_value 16 ds) same ∙ k.3

-- the symbol that bytes spell
abbrev pub spelled : List ℕ → Option Symbol
spelled [] = None
spelled (a ∷ []) = single_symbol a
spelled (a ∷ b ∷ bytes) = double_symbol a b

pub spelled_back : (symbol : Symbol) → spelled (spelling symbol) ≡ Some symbol
unfolding single_symbol double_symbol
spelled_back DoubleEqual = refl
spelled_back other = refl

one_symbol : (s t : Symbol) → spelling s ≡ spelling t → s ≡ t
one_symbol s t e =
    let same : Some s ≡ Some t = sym (spelled_back s) ∙ ap spelled e ∙ spelled_back t in cc

by_class : (kind other : TokenKind) (bytes : List ℕ) → HasForm kind bytes → HasForm other bytes → class_of kind ≡ class_of other → kind ≡ other
by_class Name Name bytes h k e = refl
by_class Name (Number m) bytes h k e = cc
by_class Name (Sign t) bytes h k e = cc
by_class (Number n) Name bytes h k e = cc
by_class (Number n) (Number m) bytes h k e = ap (λ v. Number v) (one_number n m bytes h k)
by_class (Number n) (Sign t) bytes h k e = cc
by_class (Sign s) Name bytes h k e = cc
by_class (Sign s) (Number m) bytes h k e = cc
by_class (Sign s) (Sign t) bytes h k e = ap (λ v. Sign v) (one_symbol s t (sym h ∙ k))

-- bytes have the form of one token at most
pub one_form : (kind other : TokenKind) (bytes : List ℕ) → HasForm kind bytes → HasForm other bytes → kind ≡ other
one_form kind other bytes h k =
    by_class kind other bytes h k (same_class kind other bytes bytes [] [] refl h k)
