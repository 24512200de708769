-- What one lexeme is picked for where some words are left out.
use Rattle.std.proofs.Common.{ℕ, ◌≡◌, ◌||◌, Bool, true, false, cond, List, [], ◌∷◌, codes, Option, Some, None, Result, Ok, Err, refl, sym, ap, ◌∙◌}
use Rattle.std.proofs.lemmas.Slice.Eq.{bytes_eq-Decides}
use Rattle.std.specs.Str.{bytes_eq}
use Rattle.mspec_tree.specs.Form.{left_out_types, is_one_of}
use Rattle.mspec_lexer.specs.Lexemes.{Lexeme}
use Rattle.mspec_grammar.specs.declared.faults.ParseWhy.{ParseWhy}
use Rattle.mspec_grammar.specs.declared.faults.ParseWhy.TheVariants.{Unexpected, EndOfText, LeftOut, TooDeep}
use Rattle.mspec_grammar.specs.declared.words.Word.{Word}
use Rattle.mspec_grammar.specs.declared.words.Word.TheVariants as word
use Rattle.mspec_grammar.specs.Meanings.{Meaning, meaning, Number, Sign, Taken, Name}
use Rattle.mspec_grammar.specs.Faults.{left_out_fields}
use Rattle.mspec_parser.specs.declared.words.FieldWord.{FieldWord}
use Rattle.mspec_parser.specs.declared.words.FieldWord.TheVariants as field_word
use Rattle.mspec_parser.specs.declared.words.ArrayWord.{ArrayWord}
use Rattle.mspec_parser.specs.declared.words.ArrayWord.TheVariants as array_word
use Rattle.mspec_parser.specs.Words.{field_word_of, array_word_of}
use Rattle.mspec_parser.specs.Readers.{is_word}
use Rattle.mspec_parser.specs.Small.{is_type_word, pick_simple, KindStart, by_word, by_name, pick_kind}
use Rattle.mspec_parser.specs.Fields.{pick_field, field_or_left_out, pick_array, array_or_left_out, MemberWord, of_field, of_switch, or_member, pick_member}
use Rattle.mspec_parser.proofs.Stops.{Proper, Allowed, for_field, for_type, for_way, spelt_lexeme, means_simple, means_bit, means_count}

abbrev field_choice : Bool → Result FieldWord ParseWhy
field_choice b = cond b (Err LeftOut) (Err Unexpected)

abbrev array_choice : Bool → Result ArrayWord ParseWhy
array_choice b = cond b (Err LeftOut) (Err Unexpected)

abbrev member_choice : Bool → Result FieldWord ParseWhy → Result MemberWord ParseWhy
member_choice b r = cond b (Ok of_switch) (or_member r)

abbrev simple_choice : Bool → Result Word ParseWhy
simple_choice b = cond b (Err LeftOut) (Err Unexpected)

abbrev word_choice : {A : Type 0} → Bool → A → Result A ParseWhy
word_choice b a = cond b (Ok a) (Err Unexpected)

abbrev kind_choice : Bool → List ℕ → Result KindStart ParseWhy
kind_choice b w = cond b (Err LeftOut) (Ok (by_name w))

-- whether one word is it
abbrev one_test : Bool → Bool
one_test b = b || false

-- each lexeme is picked, or left out as one of the words, or unexpected
record Words {A : Type 0} (pick : Meaning → Result A ParseWhy) (words : List (List ℕ)) : Type 0 where
  pub why : (m : Meaning) (why : ParseWhy) → pick m ≡ Err why → (why ≡ TooDeep → ⊥) × (why ≡ EndOfText → ⊥)
  pub left : (m : Meaning) → pick m ≡ Err LeftOut → (w : List ℕ) × (m ≡ Name w) × (is_one_of words w ≡ true)
  pub kept : (w : List ℕ) → is_one_of words w ≡ true → pick (Name w) ≡ Err Unexpected → ⊥

not-both : {A : Type 0} (pick : Meaning → Result A ParseWhy) (m : Meaning) (why : ParseWhy) (a : A) → pick m ≡ Err why → pick m ≡ Ok a → ⊥
not-both pick m why a h e = cc

-- ---- fields

left-field : (o : Option FieldWord) (w : List ℕ) → field_or_left_out o w ≡ Err LeftOut → is_one_of left_out_fields w ≡ true
left-field (Some word) w e = absurd (cc)
left-field None w e = by-test (is_one_of left_out_fields w) e
  where
    by-test : (b : Bool) → field_choice b ≡ Err LeftOut → b ≡ true
    by-test true e = refl
    by-test false e = absurd (cc)

kept-field : (o : Option FieldWord) (w : List ℕ) → is_one_of left_out_fields w ≡ true → field_or_left_out o w ≡ Err Unexpected → ⊥
kept-field (Some word) w h e = cc
kept-field None w h e = let left = ap field_choice h in cc

why-field : (o : Option FieldWord) (w : List ℕ) (why : ParseWhy) → field_or_left_out o w ≡ Err why → (why ≡ TooDeep → ⊥) × (why ≡ EndOfText → ⊥)
why-field (Some word) w why e = absurd (cc)
why-field None w why e = by-test (is_one_of left_out_fields w) e
  where
    by-test : (b : Bool) → field_choice b ≡ Err why → (why ≡ TooDeep → ⊥) × (why ≡ EndOfText → ⊥)
    by-test true e = (λ h. cc, λ h. cc)
    by-test false e = (λ h. cc, λ h. cc)

field-words : Words pick_field left_out_fields
field-words = record { why = why-of; left = left-of; kept = λ w h e. kept-field (field_word_of w) w h e }
  where
    why-of : (m : Meaning) (why : ParseWhy) → pick_field m ≡ Err why → (why ≡ TooDeep → ⊥) × (why ≡ EndOfText → ⊥)
    why-of (Name w) why e = why-field (field_word_of w) w why e
    why-of (Number n) why e = (λ h. cc, λ h. cc)
    why-of (Sign s) why e = (λ h. cc, λ h. cc)
    why-of (Taken w) why e = (λ h. cc, λ h. cc)

    left-of : (m : Meaning) → pick_field m ≡ Err LeftOut → (w : List ℕ) × (m ≡ Name w) × (is_one_of left_out_fields w ≡ true)
    left-of (Name w) e = (w, refl, left-field (field_word_of w) w e)
    left-of (Number n) e = absurd (cc)
    left-of (Sign s) e = absurd (cc)
    left-of (Taken w) e = absurd (cc)

-- where a field begins, and a type doesn't
field-like : {A : Type 0} (pick : Meaning → Result A ParseWhy) → Words pick left_out_fields → (a : A) → pick (Name (codes "simple")) ≡ Ok a
    → pick (Taken word.Bit) ≡ Err Unexpected → pick (Name (codes "count")) ≡ Err Unexpected → Proper pick
field-like {A} pick words value simple bit count = record {
  lexeme = spelt_lexeme (codes "simple");
  value = value;
  picks = ap pick means_simple ∙ simple;
  flat = λ m e. (words.why m TooDeep e).0 refl;
  going = λ m e. (words.why m EndOfText e).1 refl;
  leaves = λ x e. for_field (words.left (meaning x) e) value simple;
  keeps = λ x e a. keeps x e a;
}
  where
    keeps : (x : Lexeme) → pick (meaning x) ≡ Err Unexpected → Allowed pick x → ⊥
    keeps x e (for_field w a p) = words.kept w.0 w.2 (sym (ap pick w.1) ∙ e)
    keeps x e (for_type w a p) = not-both pick (Taken word.Bit) Unexpected a bit p
    keeps x e (for_way w a p) = not-both pick (Name (codes "count")) Unexpected a count p

pub field-proper : Proper pick_field
unfolding field_word_of
field-proper = field-like pick_field field-words field_word.Simple refl refl refl

member-of : (r : Result FieldWord ParseWhy) (why : ParseWhy) → or_member r ≡ Err why → r ≡ Err why
member-of (Ok word) why e = absurd (cc)
member-of (Err other) why e = let same : other ≡ why = cc in ap Err same

member-by : (b : Bool) (r : Result FieldWord ParseWhy) (why : ParseWhy) → member_choice b r ≡ Err why → r ≡ Err why
member-by true r why e = absurd (cc)
member-by false r why e = member-of r why e

member-words : Words pick_member left_out_fields
member-words = record {
  why = λ m why e. field-words.why m why (member-by (is_word (codes "typeSwitch") m) (pick_field m) why e);
  left = λ m e. field-words.left m (member-by (is_word (codes "typeSwitch") m) (pick_field m) LeftOut e);
  kept = λ w h e. field-words.kept w h (member-by (is_word (codes "typeSwitch") (Name w)) (pick_field (Name w)) Unexpected e);
}

pub member-proper : Proper pick_member
unfolding field_word_of
member-proper = field-like pick_member member-words (of_field field_word.Simple) refl refl refl

-- ---- arrays

same-word : (w : List ℕ) → is_one_of (codes "terminated" ∷ []) w ≡ true → bytes_eq w (codes "terminated") ≡ true
same-word w h = by-test (bytes_eq (codes "terminated") w) refl h
  where
    by-test : (b : Bool) → bytes_eq (codes "terminated") w ≡ b → one_test b ≡ true → bytes_eq w (codes "terminated") ≡ true
    by-test true e h = (bytes_eq-Decides w (codes "terminated")).1 (sym ((bytes_eq-Decides (codes "terminated") w).0 e))
    by-test false e h = absurd (cc)

word-same : (w : List ℕ) → bytes_eq w (codes "terminated") ≡ true → is_one_of (codes "terminated" ∷ []) w ≡ true
word-same w h = ap one_test ((bytes_eq-Decides (codes "terminated") w).1 (sym ((bytes_eq-Decides w (codes "terminated")).0 h)))

left-array : (o : Option ArrayWord) (w : List ℕ) → array_or_left_out o w ≡ Err LeftOut → bytes_eq w (codes "terminated") ≡ true
left-array (Some word) w e = absurd (cc)
left-array None w e = by-test (bytes_eq w (codes "terminated")) e
  where
    by-test : (b : Bool) → array_choice b ≡ Err LeftOut → b ≡ true
    by-test true e = refl
    by-test false e = absurd (cc)

kept-array : (o : Option ArrayWord) (w : List ℕ) → bytes_eq w (codes "terminated") ≡ true → array_or_left_out o w ≡ Err Unexpected → ⊥
kept-array (Some word) w h e = cc
kept-array None w h e = let left = ap array_choice h in cc

why-array : (o : Option ArrayWord) (w : List ℕ) (why : ParseWhy) → array_or_left_out o w ≡ Err why → (why ≡ TooDeep → ⊥) × (why ≡ EndOfText → ⊥)
why-array (Some word) w why e = absurd (cc)
why-array None w why e = by-test (bytes_eq w (codes "terminated")) e
  where
    by-test : (b : Bool) → array_choice b ≡ Err why → (why ≡ TooDeep → ⊥) × (why ≡ EndOfText → ⊥)
    by-test true e = (λ h. cc, λ h. cc)
    by-test false e = (λ h. cc, λ h. cc)

array-words : Words pick_array (codes "terminated" ∷ [])
array-words = record { why = why-of; left = left-of; kept = λ w h e. kept-array (array_word_of w) w (same-word w h) e }
  where
    why-of : (m : Meaning) (why : ParseWhy) → pick_array m ≡ Err why → (why ≡ TooDeep → ⊥) × (why ≡ EndOfText → ⊥)
    why-of (Name w) why e = why-array (array_word_of w) w why e
    why-of (Number n) why e = (λ h. cc, λ h. cc)
    why-of (Sign s) why e = (λ h. cc, λ h. cc)
    why-of (Taken w) why e = (λ h. cc, λ h. cc)

    left-of : (m : Meaning) → pick_array m ≡ Err LeftOut → (w : List ℕ) × (m ≡ Name w) × (is_one_of (codes "terminated" ∷ []) w ≡ true)
    left-of (Name w) e = (w, refl, word-same w (left-array (array_word_of w) w e))
    left-of (Number n) e = absurd (cc)
    left-of (Sign s) e = absurd (cc)
    left-of (Taken w) e = absurd (cc)

pub array-proper : Proper pick_array
unfolding array_word_of
array-proper = record {
  lexeme = spelt_lexeme (codes "count");
  value = array_word.Count;
  picks = ap pick_array means_count;
  flat = λ m e. (array-words.why m TooDeep e).0 refl;
  going = λ m e. (array-words.why m EndOfText e).1 refl;
  leaves = λ x e. for_way (array-words.left (meaning x) e) array_word.Count refl;
  keeps = λ x e a. keeps x e a;
}
  where
    keeps : (x : Lexeme) → pick_array (meaning x) ≡ Err Unexpected → Allowed pick_array x → ⊥
    keeps x e (for_field w a p) = not-both pick_array (Name (codes "simple")) Unexpected a refl p
    keeps x e (for_type w a p) = not-both pick_array (Taken word.Bit) Unexpected a refl p
    keeps x e (for_way w a p) = array-words.kept w.0 w.2 (sym (ap pick_array w.1) ∙ e)

-- ---- types

left-simple : (b : Bool) → simple_choice b ≡ Err LeftOut → b ≡ true
left-simple true e = refl
left-simple false e = absurd (cc)

kept-simple : (b : Bool) → b ≡ true → simple_choice b ≡ Err Unexpected → ⊥
kept-simple true h e = cc
kept-simple false h e = cc

why-simple : (b : Bool) (why : ParseWhy) → simple_choice b ≡ Err why → (why ≡ TooDeep → ⊥) × (why ≡ EndOfText → ⊥)
why-simple true why e = (λ h. cc, λ h. cc)
why-simple false why e = (λ h. cc, λ h. cc)

why-word : {A : Type 0} (b : Bool) (a : A) (why : ParseWhy) → word_choice b a ≡ Err why → why ≡ Unexpected
why-word true a why e = absurd (cc)
why-word false a why e = cc

simple-words : Words pick_simple left_out_types
simple-words = record { why = why-of; left = left-of; kept = λ w h e. kept-simple (is_one_of left_out_types w) h e }
  where
    why-of : (m : Meaning) (why : ParseWhy) → pick_simple m ≡ Err why → (why ≡ TooDeep → ⊥) × (why ≡ EndOfText → ⊥)
    why-of (Name w) why e = why-simple (is_one_of left_out_types w) why e
    why-of (Taken w) why e = let same = why-word (is_type_word w) w why e in (λ h. cc, λ h. cc)
    why-of (Number n) why e = (λ h. cc, λ h. cc)
    why-of (Sign s) why e = (λ h. cc, λ h. cc)

    left-of : (m : Meaning) → pick_simple m ≡ Err LeftOut → (w : List ℕ) × (m ≡ Name w) × (is_one_of left_out_types w ≡ true)
    left-of (Name w) e = (w, refl, left-simple (is_one_of left_out_types w) e)
    left-of (Taken w) e = let same = why-word (is_type_word w) w LeftOut e in absurd (cc)
    left-of (Number n) e = absurd (cc)
    left-of (Sign s) e = absurd (cc)

pub simple-proper : Proper pick_simple
simple-proper = record {
  lexeme = spelt_lexeme (codes "bit");
  value = word.Bit;
  picks = ap pick_simple means_bit;
  flat = λ m e. (simple-words.why m TooDeep e).0 refl;
  going = λ m e. (simple-words.why m EndOfText e).1 refl;
  leaves = λ x e. for_type (simple-words.left (meaning x) e) word.Bit refl;
  keeps = λ x e a. keeps x e a;
}
  where
    keeps : (x : Lexeme) → pick_simple (meaning x) ≡ Err Unexpected → Allowed pick_simple x → ⊥
    keeps x e (for_field w a p) = not-both pick_simple (Name (codes "simple")) Unexpected a refl p
    keeps x e (for_type w a p) = simple-words.kept w.0 w.2 (sym (ap pick_simple w.1) ∙ e)
    keeps x e (for_way w a p) = not-both pick_simple (Name (codes "count")) Unexpected a refl p

left-kind : (b : Bool) (w : List ℕ) → kind_choice b w ≡ Err LeftOut → b ≡ true
left-kind true w e = refl
left-kind false w e = absurd (cc)

kept-kind : (b : Bool) (w : List ℕ) → kind_choice b w ≡ Err Unexpected → ⊥
kept-kind true w e = cc
kept-kind false w e = cc

why-kind : (b : Bool) (w : List ℕ) (why : ParseWhy) → kind_choice b w ≡ Err why → (why ≡ TooDeep → ⊥) × (why ≡ EndOfText → ⊥)
why-kind true w why e = (λ h. cc, λ h. cc)
why-kind false w why e = absurd (cc)

kind-words : Words pick_kind left_out_types
kind-words = record { why = why-of; left = left-of; kept = λ w h e. kept-kind (is_one_of left_out_types w) w e }
  where
    why-of : (m : Meaning) (why : ParseWhy) → pick_kind m ≡ Err why → (why ≡ TooDeep → ⊥) × (why ≡ EndOfText → ⊥)
    why-of (Name w) why e = why-kind (is_one_of left_out_types w) w why e
    why-of (Taken w) why e = let same = why-word (is_type_word w) (by_word w) why e in (λ h. cc, λ h. cc)
    why-of (Number n) why e = (λ h. cc, λ h. cc)
    why-of (Sign s) why e = (λ h. cc, λ h. cc)

    left-of : (m : Meaning) → pick_kind m ≡ Err LeftOut → (w : List ℕ) × (m ≡ Name w) × (is_one_of left_out_types w ≡ true)
    left-of (Name w) e = (w, refl, left-kind (is_one_of left_out_types w) w e)
    left-of (Taken w) e = let same = why-word (is_type_word w) (by_word w) LeftOut e in absurd (cc)
    left-of (Number n) e = absurd (cc)
    left-of (Sign s) e = absurd (cc)

pub kind-proper : Proper pick_kind
kind-proper = record {
  lexeme = spelt_lexeme (codes "bit");
  value = by_word word.Bit;
  picks = ap pick_kind means_bit;
  flat = λ m e. (kind-words.why m TooDeep e).0 refl;
  going = λ m e. (kind-words.why m EndOfText e).1 refl;
  leaves = λ x e. for_type (kind-words.left (meaning x) e) (by_word word.Bit) refl;
  keeps = λ x e a. keeps x e a;
}
  where
    named : (x : Lexeme) (w : List ℕ) → meaning x ≡ Name w → pick_kind (meaning x) ≡ Err Unexpected → ⊥
    named x w h e = kept-kind (is_one_of left_out_types w) w (sym (ap pick_kind h) ∙ e)

    keeps : (x : Lexeme) → pick_kind (meaning x) ≡ Err Unexpected → Allowed pick_kind x → ⊥
    keeps x e (for_field w a p) = named x w.0 w.1 e
    keeps x e (for_type w a p) = named x w.0 w.1 e
    keeps x e (for_way w a p) = named x w.0 w.1 e
