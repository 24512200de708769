-- Words of a printed text: each is the longest token at its place, if what follows parts it from the next.
use Rattle.std.proofs.Common.{◌≡◌, ◌≢◌, ◌<◌, ◌^◌, ◌&&◌, ◌||◌, ℕ, Bool, true, false, cond, List, [], ◌∷◌, ◌++◌, length, take, drop, None, refl, ap, ◌∙◌, subst, inl, inr, arith, eqb, eqb-true}
use Rattle.std.specs.Prelude.{decimal, ◌==◌}
use Rattle.std.specs.Char.{digit_value, is_ascii_alphabetic, is_ascii_digit, is_digit}
use Rattle.std.specs.List.{list_all, prefix_len}
use Rattle.std.specs.Str.Parse.{AllDigits, digits_value, IsNumeral}
use Rattle.std.proofs.Math.Seq.{take-append_seam, drop-append_seam}
use Rattle.std.proofs.lemmas.Bool.Decides.{nat_tests, Decides-ltb}
use Rattle.std.proofs.lemmas.Fmt.{decimal_is_IsNumeral_wide}
use Rattle.mspec_tree.specs.Form.{is_spelt}
use Rattle.mspec_lexer.specs.declared.tokens.Symbol.{Symbol}
use Rattle.mspec_lexer.specs.declared.tokens.Symbol.TheVariants.{DoubleEqual, NotEqual, LessEqual, GreaterEqual, DoubleLess, DoubleGreater, DoubleAmpersand, DoubleBar, LeftBracket, RightBracket, LeftParenthesis, RightParenthesis, Quote, DoubleQuote, Comma, Dot, Star, Equal, Less, Greater, Plus, Minus, Slash, Percent, Ampersand, Bar, Exclamation, Question, Colon}
use Rattle.mspec_lexer.specs.declared.tokens.TokenKind.{TokenKind}
use Rattle.mspec_lexer.specs.declared.tokens.TokenKind.TheVariants.{Name, Number, Symbol as Sign}
use Rattle.mspec_lexer.specs.Spellings.{begins_name, continues_name, spelling}
use Rattle.mspec_lexer.specs.Tokens.{BeginsComment, IsLongest, StandsBefore, Word}
use Rattle.mspec_lexer.specs.LexerParts.{digits_len, digits_of, double_symbol, hexadecimal_of, name_len}
use Rattle.mspec_lexer.proofs.FormLaws.{digit_is_digit}
use Rattle.mspec_lexer.proofs.LongestLaws.{decimal_longest, double_longest, name_longest, not_slash, single_longest}

-- ---- what follows a word

-- the first byte, if there is one, doesn't pass
abbrev pub Stops : (ℕ → Bool) → List ℕ → Type 0
Stops p [] = Unit {0}
Stops p (b ∷ bytes) = p b ≡ false

-- no name and no number goes on here
abbrev pub Ends : List ℕ → Type 0
Ends bytes = Stops continues_name bytes

-- a byte that could make one longer symbol, or a comment, of a symbol in front of it
abbrev pub sticks : ℕ → Bool
sticks b = b == 61 || (b == 60 || (b == 62 || (b == 38 || (b == 124 || (b == 47 || b == 42)))))

abbrev pub Apart : List ℕ → Type 0
Apart bytes = Stops sticks bytes

pub either_false : (v w : Bool) → v || w ≡ false → (v ≡ false) × (w ≡ false)
either_false true w h = absurd (cc)
either_false false w h = (refl, h)

-- ---- fronts that pass a test

prefix_none : (p : ℕ → Bool) (ys : List ℕ) → Stops p ys → prefix_len p ys ≡ 0
prefix_none p [] h = refl
prefix_none p (y ∷ ys) h = rw h refl

two_true : (v w : Bool) → v && w ≡ true → (v ≡ true) × (w ≡ true)
two_true true w h = (refl, h)
two_true false w h = absurd (cc)

prefix_stops : (p : ℕ → Bool) (xs ys : List ℕ) → list_all p xs ≡ true → Stops p ys → prefix_len p (xs ++ ys) ≡ length xs
prefix_stops p [] ys h k = prefix_none p ys k
prefix_stops p (x ∷ xs) ys h k =
    let tests = two_true (p x) _ h in
    let tail = prefix_stops p xs ys tests.1 k in
    rw tests.0 (omega arith)

-- the longest token, in other words
longest_at : {kind other : TokenKind} {bytes others behind beyond : List ℕ} → kind ≡ other → bytes ≡ others → behind ≡ beyond → IsLongest kind bytes behind → IsLongest other others beyond
longest_at {kind} {other} {bytes} {others} {behind} {beyond} e f g h =
    subst (λ k. IsLongest k others beyond) e (subst (λ l. IsLongest kind l beyond) f (subst (λ l. IsLongest kind bytes l) g h))

-- ---- names

pub name-stands : (bytes behind : List ℕ) → is_spelt bytes ≡ true → Ends behind → StandsBefore (Word Name bytes) behind
name-stands [] behind h k = absurd (cc)
name-stands (b ∷ bytes) behind h k =
    let tests = two_true (is_ascii_alphabetic b || b == 95) _ h in
    let len : name_len (bytes ++ behind) ≡ length bytes = prefix_stops continues_name bytes behind tests.1 k in (
      longest_at {kind = Name} refl
          (ap (λ n. b ∷ take n (bytes ++ behind)) len ∙ ap (λ (l : List ℕ). b ∷ l) (take-append_seam bytes behind))
          (ap (λ n. drop n (bytes ++ behind)) len ∙ drop-append_seam bytes behind)
          (name_longest b (bytes ++ behind) tests.0),
      tt,
    )

-- ---- numbers

all_pass : (ds : List ℕ) → AllDigits 10 ds → list_all (λ c. is_digit c 10) ds ≡ true
all_pass [] h = refl
all_pass (d ∷ ds) h =
    let digit : is_digit d 10 ≡ true = (Decides-ltb (digit_value d) 10).1 h.0 in
    rw (digit, all_pass ds h.1) refl

no_digit_by : (b : ℕ) (v : Bool) → is_digit b 10 ≡ v → continues_name b ≡ false → v ≡ false
no_digit_by b true e h =
    let ascii = digit_is_digit b ((Decides-ltb (digit_value b) 10).0 e) in
    let parts = either_false (begins_name b) (is_ascii_digit b) h in
    absurd (cc)
no_digit_by b false e h = refl

no_digits : (behind : List ℕ) → Ends behind → Stops (λ c. is_digit c 10) behind
no_digits [] h = tt
no_digits (b ∷ behind) h = no_digit_by b (is_digit b 10) refl h

no_x_by : (a b : ℕ) (behind : List ℕ) (v : Bool) → eqb b 120 ≡ v → b ≢ 120 → cond (a == 48 && v) (digits_of 16 behind) [] ≡ []
no_x_by a b behind true e h = absurd (h (eqb-true b 120 e))
no_x_by a b behind false e h = without (a == 48)
  where
    without : (v : Bool) → cond (v && false) (digits_of 16 behind) [] ≡ []
    without true = refl
    without false = refl

no_x : (a b : ℕ) (behind : List ℕ) → b ≢ 120 → hexadecimal_of (a ∷ b ∷ behind) ≡ []
unfolding hexadecimal_of
no_x a b behind h = no_x_by a b behind (eqb b 120) refl h

alone : (a : ℕ) → hexadecimal_of (a ∷ []) ≡ []
unfolding hexadecimal_of
alone a = refl

decimal_alone : (d : ℕ) (ds behind : List ℕ) → AllDigits 10 ds → Ends behind → hexadecimal_of (d ∷ (ds ++ behind)) ≡ []
decimal_alone d [] [] h k = alone d
decimal_alone d [] (b ∷ behind) h k =
    no_x d b behind (λ e. let x : continues_name 120 ≡ false = subst (λ c. continues_name c ≡ false) e k in cc)
decimal_alone d (b ∷ ds) behind h k =
    no_x d b (ds ++ behind) (λ e. let x : digit_value 120 < 10 = subst (λ c. digit_value c < 10) e h.0 in absurd (omega arith))

digits-stand : (n : ℕ) (ds behind : List ℕ) → n < 2 ^ 128 → IsNumeral 10 ds → digits_value 10 ds ≡ n → Ends behind → StandsBefore (Word (Number n) ds) behind
digits-stand n [] behind small h e k = absurd (omega (arith, h.0))
digits-stand n (d ∷ ds) behind small h e k =
    let whole = (d ∷ ds) ++ behind in
    let len : digits_len 10 whole ≡ length (d ∷ ds) = prefix_stops (λ c. is_digit c 10) (d ∷ ds) behind (all_pass (d ∷ ds) h.1) (no_digits behind k) in
    let bytes : digits_of 10 whole ≡ d ∷ ds = ap (λ n. take n whole) len ∙ take-append_seam (d ∷ ds) behind in (
      longest_at {kind = Number (digits_value 10 (digits_of 10 whole))} {other = Number n}
          (ap (λ v. Number v) (ap (λ (l : List ℕ). digits_value 10 l) bytes ∙ e)) bytes
          (ap (λ n. drop n whole) len ∙ drop-append_seam (d ∷ ds) behind)
          (decimal_longest d (ds ++ behind) (digit_is_digit d h.1.0) (decimal_alone d ds behind h.1.1 k)),
      small,
    )

pub number-stands : (n : ℕ) (behind : List ℕ) → n < 2 ^ 128 → Ends behind → StandsBefore (Word (Number n) (decimal n)) behind
number-stands n behind small k =
    let numeral = decimal_is_IsNumeral_wide n (omega arith) in
    digits-stand n (decimal n) behind small numeral.0 numeral.1 k

-- ---- symbols

-- a symbol that no byte behind it makes longer, nor a comment
calm_by : (s : Symbol) (first : ℕ) (behind : List ℕ) → spelling s ≡ first ∷ [] → ((second : ℕ) → double_symbol first second ≡ None) → first ≢ 47 → IsLongest (Sign s) (first ∷ []) behind
calm_by s first behind spelt none slash =
    single_longest s first behind spelt (λ second beyond e. none second) (not_slash first behind slash)

abbrev pub calm : Symbol → Bool
calm LeftBracket = true
calm RightBracket = true
calm LeftParenthesis = true
calm RightParenthesis = true
calm Quote = true
calm Comma = true
calm Dot = true
calm Star = true
calm Minus = true
calm Question = true
calm Colon = true
calm other = false

pub calm-stands : (s : Symbol) (behind : List ℕ) → calm s ≡ true → StandsBefore (Word (Sign s) (spelling s)) behind
unfolding double_symbol
calm-stands LeftBracket behind h = (calm_by LeftBracket 91 behind refl (λ b. refl) (λ e. absurd (omega arith)), tt)
calm-stands RightBracket behind h = (calm_by RightBracket 93 behind refl (λ b. refl) (λ e. absurd (omega arith)), tt)
calm-stands LeftParenthesis behind h = (calm_by LeftParenthesis 40 behind refl (λ b. refl) (λ e. absurd (omega arith)), tt)
calm-stands RightParenthesis behind h = (calm_by RightParenthesis 41 behind refl (λ b. refl) (λ e. absurd (omega arith)), tt)
calm-stands Quote behind h = (calm_by Quote 39 behind refl (λ b. refl) (λ e. absurd (omega arith)), tt)
calm-stands Comma behind h = (calm_by Comma 44 behind refl (λ b. refl) (λ e. absurd (omega arith)), tt)
calm-stands Dot behind h = (calm_by Dot 46 behind refl (λ b. refl) (λ e. absurd (omega arith)), tt)
calm-stands Star behind h = (calm_by Star 42 behind refl (λ b. refl) (λ e. absurd (omega arith)), tt)
calm-stands Minus behind h = (calm_by Minus 45 behind refl (λ b. refl) (λ e. absurd (omega arith)), tt)
calm-stands Question behind h = (calm_by Question 63 behind refl (λ b. refl) (λ e. absurd (omega arith)), tt)
calm-stands Colon behind h = (calm_by Colon 58 behind refl (λ b. refl) (λ e. absurd (omega arith)), tt)
calm-stands other behind h = absurd (cc)

-- a byte that doesn't stick is none of these
record Unstuck (b : ℕ) : Type 0 where
  equal : b == 61 ≡ false
  less : b == 60 ≡ false
  greater : b == 62 ≡ false
  ampersand : b == 38 ≡ false
  bar : b == 124 ≡ false

unstuck : (b : ℕ) → sticks b ≡ false → Unstuck b
unstuck b h =
    let equal = either_false _ _ h in
    let less = either_false _ _ equal.1 in
    let greater = either_false _ _ less.1 in
    let ampersand = either_false _ _ greater.1 in
    let bar = either_false _ _ ampersand.1 in
    record { equal = equal.0; less = less.0; greater = greater.0; ampersand = ampersand.0; bar = bar.0 }

eager_by : (s : Symbol) (first : ℕ) (behind : List ℕ) → spelling s ≡ first ∷ [] → ((second : ℕ) → Unstuck second → double_symbol first second ≡ None) → first ≢ 47 → Apart behind → IsLongest (Sign s) (first ∷ []) behind
eager_by s first behind spelt none slash h =
    single_longest s first behind spelt (λ second beyond e. none second (unstuck second (subst Apart e h))) (not_slash first behind slash)

double_by : (s : Symbol) (first second : ℕ) (behind : List ℕ) → spelling s ≡ first ∷ second ∷ [] → first ≢ 47 → IsLongest (Sign s) (first ∷ second ∷ []) behind
double_by s first second behind spelt slash =
    double_longest s first second behind spelt (not_slash first (second ∷ behind) slash)

no_comment : (behind : List ℕ) → Apart behind → BeginsComment (47 ∷ behind) → ⊥
no_comment behind h (inner, inl e) =
    let next : behind ≡ 47 ∷ inner = cc in
    let stuck : sticks 47 ≡ false = subst Apart next h in cc
no_comment behind h (inner, inr e) =
    let next : behind ≡ 42 ∷ inner = cc in
    let stuck : sticks 42 ≡ false = subst Apart next h in cc

pub mark-stands : (s : Symbol) (behind : List ℕ) → Apart behind → StandsBefore (Word (Sign s) (spelling s)) behind
unfolding double_symbol
mark-stands DoubleEqual behind h = (double_by DoubleEqual 61 61 behind refl (λ e. absurd (omega arith)), tt)
mark-stands NotEqual behind h = (double_by NotEqual 33 61 behind refl (λ e. absurd (omega arith)), tt)
mark-stands LessEqual behind h = (double_by LessEqual 60 61 behind refl (λ e. absurd (omega arith)), tt)
mark-stands GreaterEqual behind h = (double_by GreaterEqual 62 61 behind refl (λ e. absurd (omega arith)), tt)
mark-stands DoubleLess behind h = (double_by DoubleLess 60 60 behind refl (λ e. absurd (omega arith)), tt)
mark-stands DoubleGreater behind h = (double_by DoubleGreater 62 62 behind refl (λ e. absurd (omega arith)), tt)
mark-stands DoubleAmpersand behind h = (double_by DoubleAmpersand 38 38 behind refl (λ e. absurd (omega arith)), tt)
mark-stands DoubleBar behind h = (double_by DoubleBar 124 124 behind refl (λ e. absurd (omega arith)), tt)
mark-stands LeftBracket behind h = calm-stands LeftBracket behind refl
mark-stands RightBracket behind h = calm-stands RightBracket behind refl
mark-stands LeftParenthesis behind h = calm-stands LeftParenthesis behind refl
mark-stands RightParenthesis behind h = calm-stands RightParenthesis behind refl
mark-stands Quote behind h = calm-stands Quote behind refl
mark-stands DoubleQuote behind h = (calm_by DoubleQuote 34 behind refl (λ b. refl) (λ e. absurd (omega arith)), tt)
mark-stands Comma behind h = calm-stands Comma behind refl
mark-stands Dot behind h = calm-stands Dot behind refl
mark-stands Star behind h = calm-stands Star behind refl
mark-stands Equal behind h = (eager_by Equal 61 behind refl (λ b u. rw u.equal refl) (λ e. absurd (omega arith)) h, tt)
mark-stands Less behind h = (eager_by Less 60 behind refl (λ b u. rw (u.equal, u.less) refl) (λ e. absurd (omega arith)) h, tt)
mark-stands Greater behind h = (eager_by Greater 62 behind refl (λ b u. rw (u.equal, u.greater) refl) (λ e. absurd (omega arith)) h, tt)
mark-stands Plus behind h = (calm_by Plus 43 behind refl (λ b. refl) (λ e. absurd (omega arith)), tt)
mark-stands Minus behind h = calm-stands Minus behind refl
mark-stands Slash behind h = (single_longest Slash 47 behind refl (λ b beyond e. refl) (no_comment behind h), tt)
mark-stands Percent behind h = (calm_by Percent 37 behind refl (λ b. refl) (λ e. absurd (omega arith)), tt)
mark-stands Ampersand behind h = (eager_by Ampersand 38 behind refl (λ b u. rw u.ampersand refl) (λ e. absurd (omega arith)) h, tt)
mark-stands Bar behind h = (eager_by Bar 124 behind refl (λ b u. rw u.bar refl) (λ e. absurd (omega arith)) h, tt)
mark-stands Exclamation behind h = (eager_by Exclamation 33 behind refl (λ b u. rw u.equal refl) (λ e. absurd (omega arith)) h, tt)
mark-stands Question behind h = calm-stands Question behind refl
mark-stands Colon behind h = calm-stands Colon behind refl

-- ---- first bytes

pub letter-apart : (b : ℕ) → begins_name b ≡ true → sticks b ≡ false
letter-apart b h = grind (arith, nat_tests)

pub digit-apart : (b : ℕ) → is_ascii_digit b ≡ true → sticks b ≡ false
digit-apart b h = grind (arith, nat_tests)
