-- Printed parts whose words stand apart.
use Rattle.std.proofs.Common.{◌≡◌, ◌<◌, ◌^◌, ℕ, zero, suc, Bool, true, false, List, [], ◌∷◌, ◌++◌, map, Option, Some, None, refl, sym, ap, ◌∙◌, subst, inl, arith, append_assoc}
use Rattle.std.specs.Prelude.{codes, decimal, nat_lt}
use Rattle.std.specs.List.{AllByRecursion, flat_map, list_all}
use Rattle.std.specs.Str.Parse.{IsNumeral}
use Rattle.std.proofs.lemmas.Bool.{ltb-true}
use Rattle.std.proofs.lemmas.Fmt.{decimal_is_IsNumeral_wide}
use Rattle.mspec_tree.specs.declared.words.ByteOrder.{ByteOrder}
use Rattle.mspec_tree.specs.declared.words.ByteOrder.TheVariants.{Big, Little}
use Rattle.mspec_tree.specs.declared.words.Key.{Key}
use Rattle.mspec_tree.specs.declared.words.Key.TheVariants as key
use Rattle.mspec_tree.specs.declared.words.Lit.{Lit}
use Rattle.mspec_tree.specs.declared.words.Lit.TheVariants.{Num, Flag}
use Rattle.mspec_tree.specs.declared.words.Simple.{Simple}
use Rattle.mspec_tree.specs.declared.words.Simple.TheVariants.{Bit, Byte, Uint, Int, Float}
use Rattle.mspec_tree.specs.Form.{is_key, is_lit, is_name, is_simple, is_spelt}
use Rattle.mspec_lexer.specs.declared.tokens.Symbol.{Symbol}
use Rattle.mspec_lexer.specs.declared.tokens.Symbol.TheVariants as sign
use Rattle.mspec_lexer.specs.Spellings.{continues_name}
use Rattle.mspec_lexer.specs.Tokens.{Piece, StandBefore, StandsBefore, text_of}
use Rattle.mspec_lexer.proofs.FormLaws.{digit_is_digit}
use Rattle.mspec_printer.specs.Printed as printed
use Rattle.mspec_printer.specs.Printed.{blank, each_behind, in_brackets, in_parentheses, indent, line, line_end, listed, mark, number, parted, quoted, spaced, unless_empty, word}
use Rattle.mspec_printer.proofs.Joints.{calm, calm-stands, digit-apart, Ends, letter-apart, mark-stands, name-stands, number-stands, sticks, Stops}
use Rattle.mspec_printer.proofs.Spelling.{both}
use Rattle.mspec_printer.proofs.WriteLaws.{text_of_both}

-- the words stand apart, if what follows begins with no letter, digit or `_`
pub record Joined (p : List Piece) : Type 0 where
  pub by : (behind : List ℕ) → Ends behind → StandBefore p behind

-- the words stand apart, whatever follows
pub record Free (p : List Piece) : Type 0 where
  pub by : (behind : List ℕ) → StandBefore p behind

-- the first byte doesn't pass
pub record Begins (test : ℕ → Bool) (p : List Piece) : Type 0 where
  pub by : (behind : List ℕ) → Stops test (text_of p ++ behind)

-- a part that may stand behind a word
pub record Tail (p : List Piece) : Type 0 where
  pub joined : Joined p
  pub opens : (behind : List ℕ) → Ends behind → Ends (text_of p ++ behind)

-- ---- one part behind another

text_behind : (p q : List Piece) (behind : List ℕ) → text_of p ++ (text_of q ++ behind) ≡ text_of (p ++ q) ++ behind
text_behind p q behind =
    sym (append_assoc (text_of p) (text_of q) behind) ∙ ap (λ (l : List ℕ). l ++ behind) (sym (text_of_both p q))

stand_both : (p q : List Piece) (behind : List ℕ) → StandBefore p (text_of q ++ behind) → StandBefore q behind → StandBefore (p ++ q) behind
stand_both [] q behind h k = k
stand_both (piece ∷ p) q behind h k =
    (subst (λ (l : List ℕ). StandsBefore piece l) (text_behind p q behind) h.0, stand_both p q behind h.1 k)

pub begins_front : {test : ℕ → Bool} {p : List Piece} (q : List Piece) → Begins test p → Begins test (p ++ q)
begins_front {test} {p} q b =
    record { by = λ behind. subst (λ (l : List ℕ). Stops test l) (text_behind p q behind) (b.by (text_of q ++ behind)) }

pub free_joined : {p : List Piece} → Free p → Joined p
free_joined f = record { by = λ behind e. f.by behind }

pub then_tail : {p q : List Piece} → Joined p → Tail q → Joined (p ++ q)
then_tail {p} {q} j t = record {
  by = λ behind e. stand_both p q behind (j.by (text_of q ++ behind) (t.opens behind e)) (t.joined.by behind e);
}

pub free_then : {p q : List Piece} → Free p → Joined q → Joined (p ++ q)
free_then {p} {q} f j = record { by = λ behind e. stand_both p q behind (f.by (text_of q ++ behind)) (j.by behind e) }

pub free_both : {p q : List Piece} → Free p → Free q → Free (p ++ q)
free_both {p} {q} f g = record { by = λ behind. stand_both p q behind (f.by (text_of q ++ behind)) (g.by behind) }

-- a word, and what parts it from whatever follows
pub then_free : {p q : List Piece} → Joined p → Begins continues_name q → Free q → Free (p ++ q)
then_free {p} {q} j b f = record { by = λ behind. stand_both p q behind (j.by (text_of q ++ behind) (b.by behind)) (f.by behind) }

pub tail_of : {p : List Piece} → Joined p → Begins continues_name p → Tail p
tail_of j b = record { joined = j; opens = λ behind e. b.by behind }

pub no_tail : Tail []
no_tail = record { joined = record { by = λ behind e. tt }; opens = λ behind e. e }

-- ---- words and blanks

pub free_nothing : Free []
free_nothing = record { by = λ behind. tt }

pub free_mark : (s : Symbol) → calm s ≡ true → Free (mark s)
free_mark s h = record { by = λ behind. (calm-stands s behind h, tt) }

pub free_blank : Free blank
free_blank = record { by = λ behind. (inl (32, refl, refl), tt) }

pub free_line_end : Free line_end
free_line_end = record { by = λ behind. (inl (10, refl, refl), tt) }

pub begins_blank : Begins continues_name blank
begins_blank = record { by = λ behind. refl }

pub joined_word : (bytes : List ℕ) → is_spelt bytes ≡ true → Joined (word bytes)
joined_word bytes h = record { by = λ behind e. (name-stands bytes behind h e, tt) }

pub spelt : (bytes : List ℕ) → is_name bytes ≡ true → is_spelt bytes ≡ true
spelt bytes h = (both (is_spelt bytes) _ h).0

pub joined_name : (bytes : List ℕ) → is_name bytes ≡ true → Joined (word bytes)
joined_name bytes h = joined_word bytes (spelt bytes h)

pub joined_number : (n : ℕ) → n < 2 ^ 128 → Joined (number n)
joined_number n h = record { by = λ behind e. (number-stands n behind h e, tt) }

-- ---- enclosed parts

pub free_quoted : {p : List Piece} → Joined p → Free (quoted p)
free_quoted j =
    free_both (free_mark sign.Quote refl) (then_free j (record { by = λ behind. refl }) (free_mark sign.Quote refl))

pub free_in_parentheses : {p : List Piece} → Joined p → Free (in_parentheses p)
free_in_parentheses j =
    free_both (free_mark sign.LeftParenthesis refl) (then_free j (record { by = λ behind. refl }) (free_mark sign.RightParenthesis refl))

pub free_in_brackets : {p : List Piece} → Joined p → Free (in_brackets p)
free_in_brackets j =
    free_both (free_mark sign.LeftBracket refl) (then_free j (record { by = λ behind. refl }) (free_mark sign.RightBracket refl))

-- ---- lists

each-joined : (between : List Piece) → Free between → Begins continues_name between → (parts : List (List Piece)) → AllByRecursion Joined parts → Tail (each_behind between parts)
each-joined between f b [] all = no_tail
each-joined between f b (p ∷ parts) all =
    tail_of (free_then f (then_tail all.0 (each-joined between f b parts all.1))) (begins_front (p ++ each_behind between parts) b)

parted-joined : (between : List Piece) → Free between → Begins continues_name between → (parts : List (List Piece)) → AllByRecursion Joined parts → Joined (parted between parts)
parted-joined between f b [] all = no_tail.joined
parted-joined between f b (p ∷ parts) all = then_tail all.0 (each-joined between f b parts all.1)

pub spaced-joined : (parts : List (List Piece)) → AllByRecursion Joined parts → Joined (spaced parts)
spaced-joined parts all = parted-joined blank free_blank begins_blank parts all

pub listed-joined : (parts : List (List Piece)) → AllByRecursion Joined parts → Joined (listed parts)
listed-joined parts all =
    parted-joined (mark sign.Comma ++ blank) (free_both (free_mark sign.Comma refl) free_blank) (record { by = λ behind. refl }) parts all

module _ {A : Type 0} (f : A → List Piece) (test : A → Bool) where
  pub items-joined : (each : (a : A) → test a ≡ true → Joined (f a)) (items : List A) → list_all test items ≡ true → AllByRecursion Joined (map f items)
  items-joined each [] h = tt
  items-joined each (a ∷ items) h =
      let tests = both (test a) _ h in (each a tests.0, items-joined each items tests.1)

  pub all-free : (each : (a : A) → test a ≡ true → Free (f a)) (items : List A) → list_all test items ≡ true → Free (flat_map f items)
  all-free each [] h = free_nothing
  all-free each (a ∷ items) h =
      let tests = both (test a) _ h in free_both (each a tests.0) (all-free each items tests.1)

  pub parentheses-tail : (each : (a : A) → test a ≡ true → Joined (f a)) (items : List A) → list_all test items ≡ true → Tail (unless_empty (λ some. in_parentheses (listed (map f some))) items)
  parentheses-tail each [] h = no_tail
  parentheses-tail each (a ∷ items) h =
      tail_of (free_joined (free_in_parentheses (listed-joined (map f (a ∷ items)) (items-joined each (a ∷ items) h)))) (record { by = λ behind. refl })

-- ---- lines

free_indent : (depth : ℕ) → Free (indent depth)
free_indent zero = free_nothing
free_indent (suc depth) = free_both free_blank (free_both free_blank (free_indent depth))

pub free_line : (depth : ℕ) {p : List Piece} → Joined p → Free (line depth p)
free_line depth j =
    free_both (free_indent depth) (then_free j (record { by = λ behind. refl }) free_line_end)

pub free_block : (depth : ℕ) {head inner : List Piece} → Joined head → Free inner → Free (printed.block depth head inner)
free_block depth h i =
    free_both (free_line depth (free_then (free_mark sign.LeftBracket refl) h))
    (free_both i (free_line depth (free_joined (free_mark sign.RightBracket refl))))

-- ---- literals and types

narrow : (n : ℕ) → nat_lt n (2 ^ 128) ≡ true → n < 2 ^ 128
narrow n h = ltb-true n (2 ^ 128) h

pub lit-joined : (value : Lit) → is_lit value ≡ true → Joined (printed.lit value)
lit-joined (Num true n) h = free_then (free_mark sign.Minus refl) (joined_number n (narrow n h))
lit-joined (Num false n) h = joined_number n (narrow n h)
lit-joined (Flag true) h = joined_word (codes "true") refl
lit-joined (Flag false) h = joined_word (codes "false") refl

pub key-joined : (k : Key) → is_key k ≡ true → Joined (printed.key_in_quotes k)
key-joined key.Any h = free_joined (free_mark sign.Star refl)
key-joined (key.Lit value) h = lit-joined value h
key-joined (key.Constant name) h = joined_name name h

wide-joined : (first : List ℕ) (n : ℕ) → is_spelt first ≡ true → nat_lt n 256 ≡ true → Joined (spaced (word first ∷ number n ∷ []))
wide-joined first n h k =
    let small : n < 256 = ltb-true n 256 k in
    spaced-joined (word first ∷ number n ∷ []) (joined_word first h, (joined_number n (omega arith), tt))

pub simple-joined : (s : Simple) → is_simple s ≡ true → Joined (printed.simple s)
simple-joined Bit h = joined_word (codes "bit") refl
simple-joined Byte h = joined_word (codes "byte") refl
simple-joined (Uint n) h = wide-joined (codes "uint") n refl h
simple-joined (Int n) h = wide-joined (codes "int") n refl h
simple-joined (Float n) h = wide-joined (codes "float") n refl h

-- ---- byte orders

order-joined : (which : List ℕ) → is_spelt which ≡ true → Tail (blank ++ (word (codes "byteOrder") ++ (mark sign.Equal ++ quoted (word which))))
order-joined which h =
    let name = free_quoted (joined_word which h) in
    let equal : Joined (mark sign.Equal ++ quoted (word which)) = record { by = λ behind e. (mark-stands sign.Equal _ refl, name.by behind) } in
    tail_of (free_then free_blank (then_tail (joined_word (codes "byteOrder") refl) (tail_of equal (record { by = λ behind. refl })))) (record { by = λ behind. refl })

pub order-tail : (order : Option ByteOrder) → Tail (printed.order order)
order-tail None = no_tail
order-tail (Some Big) = order-joined (codes "BIG_ENDIAN") refl
order-tail (Some Little) = order-joined (codes "LITTLE_ENDIAN") refl

-- ---- first bytes

pub begins_word : (bytes : List ℕ) → is_spelt bytes ≡ true → Begins sticks (word bytes)
begins_word [] h = absurd (cc)
begins_word (b ∷ bytes) h = record { by = λ behind. letter-apart b (both _ _ h).0 }

begins_digits : (n : ℕ) (ds : List ℕ) → IsNumeral 10 ds → (behind : List ℕ) → Stops sticks ((ds ++ []) ++ behind)
begins_digits n [] h behind = absurd (omega (arith, h.0))
begins_digits n (d ∷ ds) h behind = digit-apart d (digit_is_digit d h.1.0)

pub begins_number : (n : ℕ) → n < 2 ^ 128 → Begins sticks (number n)
begins_number n h = record { by = λ behind. begins_digits n (decimal n) (decimal_is_IsNumeral_wide n (omega arith)).0 behind }
