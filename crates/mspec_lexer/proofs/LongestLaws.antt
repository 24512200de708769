-- The longest token at the front of a text.
use Rattle.std.proofs.Common.{◌≡◌, ◌≢◌, ◌+◌, ◌<◌, ◌≤◌, ◌&&◌, ℕ, suc, Bool, true, false, cond, List, [], ◌∷◌, ◌++◌, length, take, drop, Some, None, refl, sym, ap, ◌∙◌, subst, inl, inr, arith, eqb, eqb-true}
use Rattle.std.specs.Prelude.{codes, IsTrue}
use Rattle.std.specs.Char.{digit_value, is_ascii_digit, is_digit}
use Rattle.std.specs.List.{AllByRecursion, prefix_len}
use Rattle.std.specs.Str.Parse.{AllDigits, digits_value, IsNumeral}
use Rattle.std.proofs.lemmas.Bool.Decides.{nat_tests, Decides-ltb}
use Rattle.std.proofs.lemmas.List.{take-append-drop}
use Rattle.std.proofs.lemmas.List.Folds.{length-prefix_len}
use Rattle.mspec_lexer.specs.declared.tokens.Symbol.{Symbol}
use Rattle.mspec_lexer.specs.declared.tokens.Symbol.TheVariants.{DoubleEqual}
use Rattle.mspec_lexer.specs.declared.tokens.TokenKind.{TokenKind}
use Rattle.mspec_lexer.specs.declared.tokens.TokenKind.TheVariants.{Name, Number, Symbol as Sign}
use Rattle.mspec_lexer.specs.Spellings.{begins_name, continues_name, HasForm, IsName, IsNumber, spelling}
use Rattle.mspec_lexer.specs.Tokens.{BeginsComment, IsLongest}
use Rattle.mspec_lexer.specs.LexerParts.{digits_len, digits_of, double_symbol, hexadecimal_of, name_len}
use Rattle.mspec_lexer.proofs.FormLaws.{class_of, Digit, Letter, Other, same_class, spelled, spelled_back}
use Rattle.mspec_lexer.proofs.NumberLaws.{all_digits}

-- ---- fronts that pass a test

pub front_passes : (p : ℕ → Bool) (bytes : List ℕ) → AllByRecursion (λ b. IsTrue (p b)) (take (prefix_len p bytes) bytes)
front_passes p [] = tt
front_passes p (b ∷ bytes) = passes_by p b bytes (p b) refl (front_passes p bytes)
  where
    passes_by : (p : ℕ → Bool) (b : ℕ) (bytes : List ℕ) (v : Bool) → p b ≡ v → AllByRecursion (λ c. IsTrue (p c)) (take (prefix_len p bytes) bytes) → AllByRecursion (λ c. IsTrue (p c)) (take (cond v (1 + prefix_len p bytes) 0) (b ∷ bytes))
    passes_by p b bytes true e h = let more : 1 + prefix_len p bytes ≡ suc (prefix_len p bytes) = omega arith in rw more (e, h)
    passes_by p b bytes false e h = tt

pub passes-le : (p : ℕ → Bool) (xs ys : List ℕ) → AllByRecursion (λ c. IsTrue (p c)) xs → length xs ≤ prefix_len p (xs ++ ys)
passes-le p [] ys h = omega arith
passes-le p (x ∷ xs) ys h = rw h.0 (omega (arith, passes-le p xs ys h.1))

pub digits-le : (radix : ℕ) (xs ys : List ℕ) → AllDigits radix xs → length xs ≤ digits_len radix (xs ++ ys)
digits-le radix [] ys h = omega arith
digits-le radix (x ∷ xs) ys h =
    let digit : is_digit x radix ≡ true = (Decides-ltb (digit_value x) radix).1 h.0 in
    rw digit (omega (arith, digits-le radix xs ys h.1))

-- ---- no comment

pub not_slash : (b : ℕ) (rest : List ℕ) → b ≢ 47 → BeginsComment (b ∷ rest) → ⊥
not_slash b rest h (behind, inl e) = h cc
not_slash b rest h (behind, inr e) = h cc

-- ---- names

only_name : (other : TokenKind) → class_of other ≡ Letter → other ≡ Name
only_name Name e = refl
only_name (Number n) e = cc
only_name (Sign s) e = cc

name_within : (b : ℕ) (behind more less : List ℕ) → b ∷ behind ≡ more ++ less → IsName more → length more ≤ suc (name_len behind)
name_within b behind [] less e h = elim h [ ]
name_within b behind (c ∷ more) less e h =
    let same : behind ≡ more ++ less = cc in
    rw same (omega (arith, passes-le continues_name more less h.1))

pub name_longest : (b : ℕ) (behind : List ℕ) → begins_name b ≡ true → IsLongest Name (b ∷ take (name_len behind) behind) (drop (name_len behind) behind)
name_longest b behind h =
    let bytes = b ∷ take (name_len behind) behind in
    let beyond = drop (name_len behind) behind in
    let parted : bytes ++ beyond ≡ b ∷ behind = ap (λ (l : List ℕ). b ∷ l) (take-append-drop (name_len behind) behind) in
    let form : HasForm Name bytes = (h, front_passes continues_name behind) in
    let letter : b ≢ 47 = λ e. let no : begins_name 47 ≡ true = subst (λ c. begins_name c ≡ true) e h in cc in (
      form,
      λ other more less e k.
          let kind = only_name other (sym (same_class Name other bytes more beyond less e form k)) in
          rw (length-prefix_len continues_name behind)
          (name_within b behind more less (sym parted ∙ e) (subst (λ v. HasForm v more) kind k)),
      subst (λ (l : List ℕ). BeginsComment l → ⊥) (sym parted) (not_slash b behind letter),
    )

-- ---- numbers

any_number : (other : TokenKind) → class_of other ≡ Digit → (m : ℕ) × (other ≡ Number m)
any_number Name e = cc
any_number (Number m) e = (m, refl)
any_number (Sign s) e = cc

digit_below : (b : ℕ) → is_ascii_digit b ≡ true → is_digit b 10 ≡ true
digit_below b h = grind (arith, nat_tests)

digit_no_slash : (b : ℕ) → is_ascii_digit b ≡ true → b ≢ 47
digit_no_slash b h e = let no : is_ascii_digit 47 ≡ true = subst (λ c. is_ascii_digit c ≡ true) e h in cc

some_digits : (radix b : ℕ) (behind : List ℕ) → is_digit b radix ≡ true → 0 < length (digits_of radix (b ∷ behind))
some_digits radix b behind h =
    let more : 1 + digits_len radix behind ≡ suc (digits_len radix behind) = omega arith in
    rw (h, more) (omega arith)

-- a number in hexadecimal digits can't begin a text that has no such digits
no_hexadecimal : (digits less : List ℕ) → IsNumeral 16 digits → hexadecimal_of (codes "0x" ++ digits ++ less) ≡ [] → ⊥
unfolding hexadecimal_of
no_hexadecimal [] less h e = absurd (omega (arith, h.0))
no_hexadecimal (d ∷ digits) less h e =
    let digit : is_digit d 16 ≡ true = (Decides-ltb (digit_value d) 16).1 h.1.0 in
    let some = some_digits 16 d (digits ++ less) digit in
    omega (arith, some, ap length e)

decimal_within : (rest more less : List ℕ) (m : ℕ) → rest ≡ more ++ less → hexadecimal_of rest ≡ [] → IsNumber more m → length more ≤ digits_len 10 rest
decimal_within rest more less m e none (inl h) = rw e (digits-le 10 more less h.0.1)
decimal_within rest more less m e none (inr (digits, spelt, numeral, value)) =
    let whole : rest ≡ codes "0x" ++ digits ++ less = e ∙ ap (λ (l : List ℕ). l ++ less) spelt in
    absurd (no_hexadecimal digits less numeral (subst (λ (l : List ℕ). hexadecimal_of l ≡ []) whole none))

pub decimal_longest : (b : ℕ) (behind : List ℕ) → is_ascii_digit b ≡ true → hexadecimal_of (b ∷ behind) ≡ [] → IsLongest (Number (digits_value 10 (digits_of 10 (b ∷ behind)))) (digits_of 10 (b ∷ behind)) (drop (digits_len 10 (b ∷ behind)) (b ∷ behind))
decimal_longest b behind digit none =
    let rest = b ∷ behind in
    let bytes = digits_of 10 rest in
    let beyond = drop (digits_len 10 rest) rest in
    let value = digits_value 10 bytes in
    let parted : bytes ++ beyond ≡ rest = take-append-drop (digits_len 10 rest) rest in
    let form : HasForm (Number value) bytes = inl ((some_digits 10 b behind (digit_below b digit), all_digits 10 rest), refl) in (
      form,
      λ other more less e k.
          let kind = any_number other (sym (same_class (Number value) other bytes more beyond less e form k)) in
          rw (length-prefix_len (λ c. is_digit c 10) rest)
          (decimal_within rest more less kind.0 (sym parted ∙ e) none (subst (λ v. HasForm v more) kind.1 k)),
      subst (λ (l : List ℕ). BeginsComment l → ⊥) (sym parted) (not_slash b behind (digit_no_slash b digit)),
    )

-- the bytes behind `0x`, where hexadecimal digits stand there
pub record Hexadecimal (rest digits : List ℕ) : Type 0 where
  pub behind : List ℕ
  pub split : rest ≡ 48 ∷ 120 ∷ behind
  pub digits_are : digits ≡ digits_of 16 behind

hexadecimal_by : (a b : ℕ) (behind digits : List ℕ) (d : ℕ) (v w : Bool) → eqb a 48 ≡ v → eqb b 120 ≡ w → cond (v && w) (digits_of 16 behind) [] ≡ d ∷ digits → Hexadecimal (a ∷ b ∷ behind) (d ∷ digits)
hexadecimal_by a b behind digits d true true e f h =
    record {
      behind = behind;
      split = let first : a ≡ 48 = eqb-true a 48 e in let second : b ≡ 120 = eqb-true b 120 f in cc;
      digits_are = sym h;
    }
hexadecimal_by a b behind digits d true false e f h = cc
hexadecimal_by a b behind digits d false w e f h = cc

pub is_hexadecimal : (rest digits : List ℕ) (d : ℕ) → hexadecimal_of rest ≡ d ∷ digits → Hexadecimal rest (d ∷ digits)
unfolding hexadecimal_of
is_hexadecimal [] digits d h = cc
is_hexadecimal (a ∷ []) digits d h = cc
is_hexadecimal (a ∷ b ∷ behind) digits d h = hexadecimal_by a b behind digits d (eqb a 48) (eqb b 120) refl refl h

x_no_digit : (more less behind : List ℕ) → 48 ∷ 120 ∷ behind ≡ more ++ less → AllDigits 10 more → length more ≤ 1
x_no_digit [] less behind e h = omega arith
x_no_digit (a ∷ []) less behind e h = omega arith
x_no_digit (a ∷ b ∷ more) less behind e h =
    let x : b ≡ 120 = cc in
    let no : digit_value 120 < 10 = subst (λ c. digit_value c < 10) x h.1.0 in
    absurd (omega arith)

hexadecimal_within : (behind more less : List ℕ) (m : ℕ) → 48 ∷ 120 ∷ behind ≡ more ++ less → IsNumber more m → length more ≤ 2 + digits_len 16 behind
hexadecimal_within behind more less m e (inl h) = omega (arith, x_no_digit more less behind e h.0.1)
hexadecimal_within behind more less m e (inr (digits, spelt, numeral, value)) =
    let whole : 48 ∷ 120 ∷ behind ≡ 48 ∷ 120 ∷ (digits ++ less) = e ∙ ap (λ (l : List ℕ). l ++ less) spelt in
    let same : behind ≡ digits ++ less = cc in
    let within = digits-le 16 digits less numeral.1 in
    rw (spelt, same) (omega (arith, within))

pub hexadecimal_longest : (behind digits : List ℕ) (d : ℕ) → d ∷ digits ≡ digits_of 16 behind → IsLongest (Number (digits_value 16 (d ∷ digits))) (48 ∷ 120 ∷ d ∷ digits) (drop (digits_len 16 behind) behind)
hexadecimal_longest behind digits d are =
    let bytes = 48 ∷ 120 ∷ d ∷ digits in
    let beyond = drop (digits_len 16 behind) behind in
    let value = digits_value 16 (d ∷ digits) in
    let parted : bytes ++ beyond ≡ 48 ∷ 120 ∷ behind =
    ap (λ (l : List ℕ). 48 ∷ 120 ∷ (l ++ beyond)) are
    ∙ ap (λ (l : List ℕ). 48 ∷ 120 ∷ l) (take-append-drop (digits_len 16 behind) behind) in
    let all : AllDigits 16 (d ∷ digits) = subst (λ (l : List ℕ). AllDigits 16 l) (sym are) (all_digits 16 behind) in
    let some : 0 < length (d ∷ digits) = omega arith in
    let form : HasForm (Number value) bytes = inr (d ∷ digits, refl, (some, all), refl) in
    let len : length (d ∷ digits) ≡ digits_len 16 behind = ap length are ∙ length-prefix_len (λ c. is_digit c 16) behind in (
      form,
      λ other more less e k.
          let kind = any_number other (sym (same_class (Number value) other bytes more beyond less e form k)) in
          let within = hexadecimal_within behind more less kind.0 (sym parted ∙ e) (subst (λ v. HasForm v more) kind.1 k) in
          omega (arith, within, len),
      not_slash 48 (120 ∷ d ∷ digits ++ beyond) (λ e. let no : 48 ≡ 47 = e in absurd (omega arith)),
    )

-- ---- symbols

pub only_symbol : (other : TokenKind) → class_of other ≡ Other → (s : Symbol) × (other ≡ Sign s)
only_symbol Name e = cc
only_symbol (Number m) e = cc
only_symbol (Sign s) e = (s, refl)

-- how many bytes a symbol can have at the front of a text: two, unless no symbol of two bytes stands there
abbrev pub NoDouble : ℕ → List ℕ → Type 0
NoDouble first behind = (second : ℕ) (beyond : List ℕ) → behind ≡ second ∷ beyond → double_symbol first second ≡ None

short : (s : Symbol) → length (spelling s) ≤ 2
short DoubleEqual = omega arith
short other = omega arith

pub single_within : (s : Symbol) (first : ℕ) (behind more less : List ℕ) → NoDouble first behind → first ∷ behind ≡ more ++ less → spelling s ≡ more → length more ≤ 1
single_within s first behind [] less none e h = omega arith
single_within s first behind (a ∷ []) less none e h = omega arith
single_within s first behind (a ∷ b ∷ more) less none e h =
    let same : first ≡ a = cc in
    let second : behind ≡ b ∷ (more ++ less) = cc in
    let missing = none b (more ++ less) second in
    let some : double_symbol a b ≡ Some s = ap spelled (sym h) ∙ spelled_back s in
    let both : Some s ≡ None = sym some ∙ ap (λ c. double_symbol c b) (sym same) ∙ missing in
    cc

pub single_longest : (s : Symbol) (first : ℕ) (behind : List ℕ) → spelling s ≡ first ∷ [] → NoDouble first behind → (BeginsComment (first ∷ behind) → ⊥) → IsLongest (Sign s) (first ∷ []) behind
single_longest s first behind h none comment = (
  sym h,
  λ other more less e k.
      let kind = only_symbol other (sym (same_class (Sign s) other (first ∷ []) more behind less e (sym h) k)) in
      let spelt : more ≡ spelling kind.0 = subst (λ v. HasForm v more) kind.1 k in
      single_within kind.0 first behind more less none e (sym spelt),
  comment,
)

pub double_longest : (s : Symbol) (first second : ℕ) (behind : List ℕ) → spelling s ≡ first ∷ second ∷ [] → (BeginsComment (first ∷ second ∷ behind) → ⊥) → IsLongest (Sign s) (first ∷ second ∷ []) behind
double_longest s first second behind h comment = (
  sym h,
  λ other more less e k.
      let kind = only_symbol other (sym (same_class (Sign s) other (first ∷ second ∷ []) more behind less e (sym h) k)) in
      let spelt : more ≡ spelling kind.0 = subst (λ v. HasForm v more) kind.1 k in
      rw spelt (short kind.0),
  comment,
)
