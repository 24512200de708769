-- A list of three words.
use Rattle.std.proofs.Common.{◌≡◌, ℕ, List, [], ◌∷◌, length, codes, get_or, slice_get, Some, refl, inl, inr, sym, ap, ◌∙◌, arith}
use Rattle.std.specs.Prelude.{IsTrue, ◌↔◌}
use Rattle.std.specs.Str.{bytes_eq}
use Rattle.std.proofs.lemmas.Slice.Eq.{bytes_eq-Decides}
use Rattle.host_engine.specs.declared.words.FileCommand.{FileCommand}
use Rattle.host_engine.specs.declared.words.FileCommand.TheVariants.{Check, Print}
use Rattle.host_engine.specs.Tool.{AreDecode, AreOverFile, NamesFile, command_word}

pub of_three : (words : List (List ℕ)) (a b c : List ℕ) → length words ≡ 3 → slice_get words 0 ≡ Some a → slice_get words 1 ≡ Some b → slice_get words 2 ≡ Some c → words ≡ a ∷ b ∷ c ∷ []
of_three [] a b c n p q r = absurd (omega (arith, n))
of_three (x ∷ []) a b c n p q r = absurd (omega (arith, n))
of_three (x ∷ y ∷ []) a b c n p q r = absurd (omega (arith, n))
of_three (x ∷ y ∷ z ∷ []) a b c n p q r = cc
of_three (x ∷ y ∷ z ∷ w ∷ more) a b c n p q r = absurd (omega (arith, n))

-- the words name one file and one type
pub one_decode : (words : List (List ℕ)) (name kind other type : List ℕ) → AreDecode words name kind → AreDecode words other type → (name ≡ other) × (kind ≡ type)
one_decode words name kind other type a b =
    let same : codes "decode" ∷ name ∷ kind ∷ [] ≡ codes "decode" ∷ other ∷ type ∷ [] = sym a.spelled ∙ b.spelled in
    (cc, cc)

pub of_two : (words : List (List ℕ)) (a b : List ℕ) → length words ≡ 2 → slice_get words 0 ≡ Some a → slice_get words 1 ≡ Some b → words ≡ a ∷ b ∷ []
of_two [] a b n p q = absurd (omega (arith, n))
of_two (x ∷ []) a b n p q = absurd (omega (arith, n))
of_two (x ∷ y ∷ []) a b n p q = cc
of_two (x ∷ y ∷ z ∷ more) a b n p q = absurd (omega (arith, n))

pub decode_or_other : (words : List (List ℕ)) (name kind : List ℕ) (command : FileCommand) (other : List ℕ) → AreDecode words name kind → AreOverFile words command other → ⊥
decode_or_other words name kind command other decode over =
    let same : codes "decode" ∷ name ∷ kind ∷ [] ≡ command_word command ∷ other ∷ [] = sym decode.spelled ∙ over.spelled in
    absurd (omega (arith, ap length same))

-- the first letters of `check` and `print` differ
words_differ : codes "check" ≡ codes "print" → ⊥
words_differ e =
    let first : 99 ≡ 112 = ap (λ (word : List ℕ). get_or word 0 0) e in absurd (omega (arith, first))

pub same_command : (one other : FileCommand) → command_word one ≡ command_word other → one ≡ other
same_command Check Check e = refl
same_command Check Print e = absurd (words_differ e)
same_command Print Check e = absurd (words_differ (sym e))
same_command Print Print e = refl

-- the words are one command over one file
pub one_over_file : (words : List (List ℕ)) (one other : FileCommand) (name file : List ℕ) → AreOverFile words one name → AreOverFile words other file → (one ≡ other) × (name ≡ file)
one_over_file words one other name file a b =
    let same : command_word one ∷ name ∷ [] ≡ command_word other ∷ file ∷ [] = sym a.spelled ∙ b.spelled in
    let word : command_word one ≡ command_word other = cc in
    (same_command one other word, cc)

-- the words name one file
pub one_file : (words : List (List ℕ)) (name other : List ℕ) → NamesFile words name → NamesFile words other → name ≡ other
one_file words name other (inl a) (inl b) = (one_decode words name a.0 other b.0 a.1 b.1).0
one_file words name other (inl a) (inr b) = absurd (decode_or_other words name a.0 b.0 other a.1 b.1)
one_file words name other (inr a) (inl b) = absurd (decode_or_other words other b.0 a.0 name b.1 a.1)
one_file words name other (inr a) (inr b) = (one_over_file words a.0 b.0 name other a.1 b.1).1

pub of_one : (words : List (List ℕ)) (a : List ℕ) → length words ≡ 1 → slice_get words 0 ≡ Some a → words ≡ a ∷ []
of_one [] a n p = absurd (omega (arith, n))
of_one (x ∷ []) a n p = cc
of_one (x ∷ y ∷ more) a n p = absurd (omega (arith, n))

-- one word is a command's where it is that command's name
pub one_word : (words : List (List ℕ)) (a name : List ℕ) → length words ≡ 1 → slice_get words 0 ≡ Some a → IsTrue (bytes_eq a name) ↔ (words ≡ name ∷ [])
one_word words a name n p =
    let one = of_one words a n p in (
      λ h. one ∙ ap (λ word. word ∷ []) ((bytes_eq-Decides a name).0 h),
      λ e. (bytes_eq-Decides a name).1 (let same : a ∷ [] ≡ name ∷ [] = sym one ∙ e in cc),
    )
