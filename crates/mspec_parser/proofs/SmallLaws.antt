-- Where the smaller parts of a description stop.
use Rattle.std.proofs.Common.{ℕ, ◌≡◌, Bool, true, false, cond, List, [], ◌∷◌, codes, Some, None, Ok, Err, length, refl, ap, ◌∙◌, arith}
use Rattle.std.proofs.lemmas.Slice.Eq.{bytes_eq-Decides}
use Rattle.std.specs.Str.{bytes_eq}
use Rattle.mspec_tree.specs.declared.words.Place.{Place}
use Rattle.mspec_tree.specs.declared.words.Lit.{Lit}
use Rattle.mspec_tree.specs.declared.words.Lit.TheVariants.{Num}
use Rattle.mspec_tree.specs.declared.words.Key.TheVariants as tree_key
use Rattle.mspec_tree.specs.declared.words.Simple.TheVariants as tree_simple
use Rattle.mspec_tree.specs.declared.words.ByteOrder.{ByteOrder}
use Rattle.mspec_tree.specs.declared.exprs.Ref.TheVariants.{Plain as plain_ref, Named}
use Rattle.mspec_tree.specs.declared.defs.Constant.{Constant}
use Rattle.mspec_tree.specs.Form.{left_out_types, is_one_of}
use Rattle.mspec_lexer.specs.Lexemes.{Lexeme}
use Rattle.mspec_lexer.specs.declared.tokens.Symbol.TheVariants as sign
use Rattle.mspec_grammar.specs.declared.faults.ParseWhy.TheVariants.{Unexpected}
use Rattle.mspec_grammar.specs.declared.words.Word.{Word}
use Rattle.mspec_grammar.specs.declared.words.Word.TheVariants as word
use Rattle.mspec_grammar.specs.Meanings.{Meaning, meaning, Number, Sign, Taken, Name}
use Rattle.mspec_grammar.specs.Faults.{left_out_fields}
use Rattle.mspec_grammar.specs.Parts.{width}
use Rattle.mspec_quotes.specs.Machine.{read_quoted}
use Rattle.mspec_parser.specs.declared.words.Mark.{Mark}
use Rattle.mspec_parser.specs.declared.words.Mark.TheVariants as mark
use Rattle.mspec_parser.specs.declared.words.LitStart.{LitStart}
use Rattle.mspec_parser.specs.declared.words.LitStart.TheVariants as start
use Rattle.mspec_parser.specs.Words.{symbol_of}
use Rattle.mspec_parser.specs.Readers.{Read, ◌>>=◌, one, begins_with, many, listed, is_mark, is_word, passing, pick_name, pick_number, mark_at, word_at, name_at, number_at}
use Rattle.mspec_parser.specs.Small.{pick_lit, lit_from, lit_at, quoted_lit_at, const_lit_at, KeyStart, any, of_lit, of_name, pick_key, key_from, pick_star, key_inside, key_at, begins_key, keys_at, pick_simple, simple_from, simple_at, KindStart, by_word, by_name, pick_kind, kind_from, kind_at, args_inside, args_at, ref_from, ref_at, param_at, params_inside, params_at, pick_order, order_inside, order_at, attributes_inside, attributes_at, constant_at}
use Rattle.mspec_parser.proofs.Stops.{fewer, opens}
use Rattle.mspec_parser.proofs.Chosen.{Plain}
use Rattle.mspec_parser.proofs.Sounds.{mark-sound, word-sound, name-sound}
use Rattle.mspec_parser.proofs.Behave.{Law, nothing, either_of, Apart, in-first, Starts, starts-one, starts-then, Blocks, blocks-nothing, blocks-start, blocks-gives, blocks-wider, blocks-then, one-law, quote-law, gives-law, then-law, either-law, optional-law, blocks-optional}
use Rattle.mspec_parser.proofs.Rows.{many-law, blocks-many}
use Rattle.mspec_parser.proofs.Quoting.{quoted-law}
use Rattle.mspec_parser.proofs.Picks.{mark-proper, order-word-proper, name-proper, number-proper, lit-proper, key-proper, star-proper, order-proper}
use Rattle.mspec_parser.proofs.WordPicks.{simple-proper, kind-proper}

-- what is read to nothing may be read to something
pub slower : {A : Type 0} {go : Meaning → Bool} {r : ℕ → List Lexeme → Read A} → Law true go r → Law false go r
slower law = record {
  good = λ n k good bars. fewer (omega arith) (law.good n k good bars);
  shrinks = λ limit xs p e. let h = law.shrinks limit xs p e in omega arith;
}

-- ---- tests

pub mark-plain : (m : Mark) → Plain (is_mark m)
mark-plain m = record { simple = refl; bit = refl; count = refl; fields = λ w h. refl; types = λ w h. refl; ways = λ w h. refl }

pub key-plain : Plain begins_key
key-plain = record { simple = refl; bit = refl; count = refl; fields = λ w h. refl; types = λ w h. refl; ways = λ w h. refl }

abbrev pub order_word : List ℕ
order_word = codes "byteOrder"

no-order : (words : List (List ℕ)) → is_one_of words order_word ≡ false → (w : List ℕ) → is_one_of words w ≡ true → is_word order_word (Name w) ≡ false
no-order words free w h = by-test (bytes_eq w order_word) refl
  where
    by-test : (b : Bool) → bytes_eq w order_word ≡ b → b ≡ false
    by-test true e =
        let same : w ≡ order_word = (bytes_eq-Decides w order_word).0 e in
        let one = ap (is_one_of words) same in
        cc
    by-test false e = refl

pub order-plain : Plain (is_word order_word)
order-plain = record {
  simple = refl;
  bit = refl;
  count = refl;
  fields = no-order left_out_fields refl;
  types = no-order left_out_types refl;
  ways = no-order (codes "terminated" ∷ []) refl;
}

-- ---- symbols, words, names, numbers

pub mark-law : (m : Mark) (go : Meaning → Bool) → passing (is_mark m) (Sign sign.Quote) ≡ Err Unexpected → Law true go (λ limit xs. mark_at m xs)
unfolding mark_at
mark-law m go h = then-law (one-law (passing (is_mark m)) go (mark-proper m) Unexpected h) (λ p. gives-law go p.1) (λ p. blocks-gives go p.1)

-- a quote opens what no parenthesis begins
pub quote_mark-law : Law true opens (λ limit xs. mark_at mark.Quote xs)
unfolding mark_at
quote_mark-law = then-law (quote-law (passing (is_mark mark.Quote)) (mark-proper mark.Quote)) (λ p. gives-law opens p.1) (λ p. blocks-gives opens p.1)

begins-by : (test : Meaning → Bool) (b : Bool) (xs rest : List Lexeme) (x : Lexeme) (m : Meaning) → xs ≡ x ∷ rest → meaning x ≡ m → test m ≡ b → begins_with test xs ≡ b
begins-by test b xs rest x m whole means h = ap (begins_with test) whole ∙ ap test means ∙ h

pub mark-starts : (m : Mark) (test : Meaning → Bool) (b : Bool) → test (Sign (symbol_of m)) ≡ b → Starts test b (λ limit xs. mark_at m xs)
mark-starts m test b h = record { is = λ limit xs p e. let s = (mark-sound m).is xs p e in begins-by test b xs p.1 s.x (Sign (symbol_of m)) s.whole s.means h }

pub word-law : (w : List ℕ) (go : Meaning → Bool) → Law true go (λ limit xs. one (passing (is_word w)) xs) → Law true go (λ limit xs. word_at w xs)
unfolding word_at
word-law w go law = then-law law (λ p. gives-law go p.1) (λ p. blocks-gives go p.1)

pub word-starts : (w : List ℕ) (test : Meaning → Bool) (b : Bool) → test (Name w) ≡ b → Starts test b (λ limit xs. word_at w xs)
word-starts w test b h = record { is = λ limit xs p e. let s = (word-sound w).is xs p e in begins-by test b xs p.1 s.x (Name w) s.whole s.means h }

pub name-law : (go : Meaning → Bool) → Law true go (λ limit xs. name_at xs)
unfolding name_at
name-law go = one-law pick_name go name-proper Unexpected refl

pub name-starts : (test : Meaning → Bool) (b : Bool) → ((w : List ℕ) → test (Name w) ≡ b) → Starts test b (λ limit xs. name_at xs)
name-starts test b h = record { is = λ limit xs p e. let s = name-sound.is xs p e in begins-by test b xs p.1 s.x (Name p.0.0) s.whole s.means (h p.0.0) }

pub number-law : (go : Meaning → Bool) → Law true go (λ limit xs. number_at xs)
unfolding number_at
number-law go = then-law (one-law pick_number go number-proper Unexpected refl) (λ p. gives-law go p.0) (λ p. blocks-gives go p.0)

-- ---- parts with commas

abbrev pub comma : Meaning → Bool
comma m = is_mark mark.Comma m

module _ {A : Type 0} {go : Meaning → Bool} {part : ℕ → List Lexeme → Read A} (law : Law true go part) (apart : Apart comma go) where
  next-law : Law true go (λ limit ys. mark_at mark.Comma ys >>= λ c. part limit c.1)
  next-law = then-law (mark-law mark.Comma nothing refl) (λ c. law) (λ c. blocks-nothing go part)

  next-starts : Starts comma true (λ limit ys. mark_at mark.Comma ys >>= λ c. part limit c.1)
  next-starts = starts-then (mark-starts mark.Comma comma true refl) (λ c. part)

  pub listed-law : Law true (either_of go comma) (λ limit xs. listed (part limit) xs)
  unfolding listed
  listed-law =
      then-law law
      (λ first. then-law (many-law comma (mark-plain mark.Comma) (λ limit ys. mark_at mark.Comma ys >>= λ c. part limit c.1) next-starts go next-law apart)
      (λ others. gives-law (either_of go comma) (first ∷ others)) (λ others. blocks-gives (either_of go comma) (first ∷ others)))
      (λ first. blocks-wider (in-first go comma)
      (blocks-then (blocks-many comma (mark-plain mark.Comma) (λ limit ys. mark_at mark.Comma ys >>= λ c. part limit c.1) next-starts go next-law apart)
      (λ others. blocks-gives go (first ∷ others))))

pub listed-starts : {A : Type 0} {test : Meaning → Bool} {b : Bool} {part : ℕ → List Lexeme → Read A} → Starts test b part → Starts test b (λ limit xs. listed (part limit) xs)
unfolding listed
listed-starts {part} s = starts-then s (λ first limit xs. many comma (λ ys. mark_at mark.Comma ys >>= λ c. part limit c.1) (length xs) xs >>= λ others. Ok (first ∷ others.0, others.1))

-- ---- literals and keys

lit_from-law : (go : Meaning → Bool) (s : LitStart) → Law false go (λ limit xs. lit_from s xs)
lit_from-law go (start.Whole lit) = gives-law go lit
lit_from-law go start.Minus = slower (then-law (number-law go) (λ n. gives-law go (Num true n)) (λ n. blocks-gives go (Num true n)))

pub lit-law : (go : Meaning → Bool) → Law true go (λ limit xs. lit_at xs)
unfolding lit_at
lit-law go = then-law (one-law pick_lit nothing lit-proper Unexpected refl) (λ s. lit_from-law go s.0) (λ s. blocks-nothing go (λ limit xs. lit_from s.0 xs))

lit-starts : (test : Meaning → Bool) (b : Bool) → ((n : ℕ) → test (Number n) ≡ b) → test (Sign sign.Minus) ≡ b → ((w : Word) → test (Taken w) ≡ b) → Starts test b (λ limit xs. lit_at xs)
unfolding lit_at
lit-starts test b numbers minus words = starts-then (starts-one test b pick_lit picks) (λ s limit xs. lit_from s.0 xs)
  where
    picks : (m : Meaning) (a : LitStart) → pick_lit m ≡ Ok a → test m ≡ b
    picks (Number n) a h = numbers n
    picks (Sign sign.Minus) a h = minus
    picks (Sign s) a h = absurd (cc)
    picks (Taken w) a h = words w
    picks (Name w) a h = absurd (cc)

pub quoted_lit-law : Law true opens (λ limit xs. quoted_lit_at xs)
unfolding quoted_lit_at
quoted_lit-law =
    then-law quote_mark-law
    (λ left. then-law (lit-law nothing)
    (λ lit. then-law quote_mark-law (λ right. gives-law opens lit) (λ right. blocks-gives opens lit))
    (λ lit. blocks-nothing opens (λ limit xs. mark_at mark.Quote xs >>= λ right. Ok (lit, right.1))))
    (λ left. blocks-start (starts-then (lit-starts opens false (λ n. refl) refl (λ w. refl)) (λ lit limit xs. mark_at mark.Quote xs >>= λ right. Ok (lit, right.1))) opens)

pub quoted_lit-starts : (test : Meaning → Bool) (b : Bool) → test (Sign sign.Quote) ≡ b → Starts test b (λ limit xs. quoted_lit_at xs)
unfolding quoted_lit_at
quoted_lit-starts test b h =
    starts-then (mark-starts mark.Quote test b h) (λ left limit xs. lit_at xs >>= λ lit. mark_at mark.Quote lit.1 >>= λ right. Ok (lit.0, right.1))

pub const_lit-law : Law true opens (λ limit xs. const_lit_at xs)
unfolding const_lit_at
const_lit-law =
    either-law (mark-plain mark.Quote) quoted_lit-law (lit-law opens) (quoted_lit-starts (is_mark mark.Quote) true refl)
    (lit-starts (is_mark mark.Quote) false (λ n. refl) refl (λ w. refl))

key_from-law : (go : Meaning → Bool) (s : KeyStart) → Law false go (λ limit xs. key_from s xs)
key_from-law go any = gives-law go tree_key.Any
key_from-law go (of_lit first) = then-law (lit_from-law go first) (λ l. gives-law go (tree_key.Lit l)) (λ l. blocks-gives go (tree_key.Lit l))
key_from-law go (of_name bytes) = gives-law go (tree_key.Constant bytes)

key_inside-law : Law true opens (λ limit xs. key_inside xs)
unfolding key_inside
key_inside-law =
    then-law (one-law pick_key nothing key-proper Unexpected refl)
    (λ first. then-law (key_from-law nothing first.0)
    (λ inner. then-law quote_mark-law (λ right. gives-law opens inner) (λ right. blocks-gives opens inner))
    (λ inner. blocks-nothing opens (λ limit xs. mark_at mark.Quote xs >>= λ right. Ok (inner, right.1))))
    (λ first. blocks-nothing opens (λ limit xs. key_from first.0 xs >>= λ inner. mark_at mark.Quote inner.1 >>= λ right. Ok (inner.0, right.1)))

key_inside-starts : Starts opens false (λ limit xs. key_inside xs)
unfolding key_inside
key_inside-starts = starts-then (starts-one opens false pick_key picks) (λ first limit xs. key_from first.0 xs >>= λ inner. mark_at mark.Quote inner.1 >>= λ right. Ok (inner.0, right.1))
  where
    picks : (m : Meaning) (a : KeyStart) → pick_key m ≡ Ok a → opens m ≡ false
    picks (Number n) a h = refl
    picks (Sign sign.LeftParenthesis) a h = absurd (cc)
    picks (Sign s) a h = refl
    picks (Taken w) a h = refl
    picks (Name w) a h = refl

key_rest-law : (star : Bool) → Law false opens (λ limit xs. cond star (Ok (tree_key.Any, xs)) (key_inside xs))
key_rest-law true = gives-law opens tree_key.Any
key_rest-law false = slower key_inside-law

key_rest-blocks : (star : Bool) → Blocks opens opens (λ limit xs. cond star (Ok (tree_key.Any, xs)) (key_inside xs))
key_rest-blocks true = blocks-gives opens tree_key.Any
key_rest-blocks false = blocks-start key_inside-starts opens

pub key-law : Law true opens (λ limit xs. key_at xs)
unfolding key_at
key-law = then-law (quote-law pick_star star-proper) (λ s. key_rest-law s.0) (λ s. key_rest-blocks s.0)

key-starts : Starts begins_key true (λ limit xs. key_at xs)
unfolding key_at
key-starts = starts-then (starts-one begins_key true pick_star picks) (λ s limit xs. cond s.0 (Ok (tree_key.Any, xs)) (key_inside xs))
  where
    picks : (m : Meaning) (a : Bool) → pick_star m ≡ Ok a → begins_key m ≡ true
    picks (Number n) a h = absurd (cc)
    picks (Sign sign.Star) a h = refl
    picks (Sign sign.Quote) a h = refl
    picks (Sign s) a h = absurd (cc)
    picks (Taken w) a h = absurd (cc)
    picks (Name w) a h = absurd (cc)

-- a comma is no parenthesis
comma-opens : Apart comma opens
comma-opens (Sign sign.LeftParenthesis) h = absurd (cc)
comma-opens (Sign s) h = refl
comma-opens (Number n) h = refl
comma-opens (Taken w) h = refl
comma-opens (Name w) h = refl

comma-nothing : Apart comma nothing
comma-nothing m h = refl

abbrev pub goes_key : Meaning → Bool
goes_key m = either_of (either_of opens comma) begins_key m

pub keys-law : Law false goes_key (λ limit xs. keys_at xs)
unfolding keys_at
keys-law = optional-law [] key-plain (listed-law key-law comma-opens) (listed-starts key-starts)

-- ---- types

simple_from-law : (go : Meaning → Bool) (w : Word) → Law false go (λ limit xs. simple_from w xs)
simple_from-law go word.Byte = gives-law go tree_simple.Byte
simple_from-law go word.Uint = slower (then-law (number-law go) (λ n. gives-law go (tree_simple.Uint (width n))) (λ n. blocks-gives go (tree_simple.Uint (width n))))
simple_from-law go word.Int = slower (then-law (number-law go) (λ n. gives-law go (tree_simple.Int (width n))) (λ n. blocks-gives go (tree_simple.Int (width n))))
simple_from-law go word.Float = slower (then-law (number-law go) (λ n. gives-law go (tree_simple.Float (width n))) (λ n. blocks-gives go (tree_simple.Float (width n))))
simple_from-law go other = gives-law go tree_simple.Bit

pub simple-law : (go : Meaning → Bool) → Law true go (λ limit xs. simple_at xs)
unfolding simple_at
simple-law go = then-law (one-law pick_simple nothing simple-proper Unexpected refl) (λ w. simple_from-law go w.0) (λ w. blocks-nothing go (λ limit xs. simple_from w.0 xs))

kind_from-law : (go : Meaning → Bool) (s : KindStart) (place : Place) → Law false go (λ limit xs. kind_from s place xs)
kind_from-law go (by_word w) place = then-law (simple_from-law go w) (λ s. gives-law go (plain_ref s)) (λ s. blocks-gives go (plain_ref s))
kind_from-law go (by_name bytes) place = gives-law go (Named place bytes [])

pub kind-law : (go : Meaning → Bool) → Law true go (λ limit xs. kind_at xs)
unfolding kind_at
kind-law go = then-law (one-law pick_kind nothing kind-proper Unexpected refl) (λ s. kind_from-law go s.0 s.1) (λ s. blocks-nothing go (λ limit xs. kind_from s.0 s.1 xs))

args_inside-law : (go : Meaning → Bool) → Law true go args_inside
unfolding args_inside
args_inside-law go =
    then-law (mark-law mark.LeftParenthesis nothing refl)
    (λ left. then-law (listed-law quoted-law comma-opens)
    (λ args. then-law (mark-law mark.RightParenthesis go refl) (λ right. gives-law go args) (λ right. blocks-gives go args))
    (λ args. blocks-start (starts-then (mark-starts mark.RightParenthesis (either_of opens comma) false refl) (λ right limit xs. Ok (args, xs))) go))
    (λ left. blocks-nothing go (λ limit xs. listed (read_quoted limit) xs >>= λ args. mark_at mark.RightParenthesis args.1 >>= λ right. Ok (args.0, right.1)))

args_inside-starts : Starts opens true args_inside
unfolding args_inside
args_inside-starts = starts-then (mark-starts mark.LeftParenthesis opens true refl) (λ left limit xs. listed (read_quoted limit) xs >>= λ args. mark_at mark.RightParenthesis args.1 >>= λ right. Ok (args.0, right.1))

args-law : Law false opens args_at
unfolding args_at
args-law = optional-law [] (mark-plain mark.LeftParenthesis) (args_inside-law nothing) args_inside-starts

ref_from-law : (s : KindStart) (place : Place) → Law false opens (λ limit xs. ref_from limit s place xs)
ref_from-law (by_word w) place = then-law (simple_from-law opens w) (λ s. gives-law opens (plain_ref s)) (λ s. blocks-gives opens (plain_ref s))
ref_from-law (by_name bytes) place = then-law args-law (λ args. gives-law opens (Named place bytes args)) (λ args. blocks-gives opens (Named place bytes args))

pub ref-law : Law true opens ref_at
unfolding ref_at
ref-law = then-law (one-law pick_kind nothing kind-proper Unexpected refl) (λ s. ref_from-law s.0 s.1) (λ s. blocks-nothing opens (λ limit xs. ref_from limit s.0 s.1 xs))

-- ---- parameters and byte orders

param-law : (go : Meaning → Bool) → Law true go (λ limit xs. param_at xs)
unfolding param_at
param-law go =
    then-law (kind-law nothing)
    (λ kind. then-law (name-law go)
    (λ named. gives-law go (record { place = named.1; kind = kind; name = named.0 }))
    (λ named. blocks-gives go (record { place = named.1; kind = kind; name = named.0 })))
    (λ kind. blocks-nothing go (λ limit xs. name_at xs >>= λ named. Ok (record { place = named.0.1; kind = kind; name = named.0.0 }, named.1)))

params_inside-law : (go : Meaning → Bool) → Law true go (λ limit xs. params_inside xs)
unfolding params_inside
params_inside-law go =
    then-law (mark-law mark.LeftParenthesis nothing refl)
    (λ left. then-law (listed-law (param-law nothing) comma-nothing)
    (λ params. then-law (mark-law mark.RightParenthesis go refl) (λ right. gives-law go params) (λ right. blocks-gives go params))
    (λ params. blocks-start (starts-then (mark-starts mark.RightParenthesis comma false refl) (λ right limit xs. Ok (params, xs))) go))
    (λ left. blocks-nothing go (λ limit xs. listed param_at xs >>= λ params. mark_at mark.RightParenthesis params.1 >>= λ right. Ok (params.0, right.1)))

params_inside-starts : Starts opens true (λ limit xs. params_inside xs)
unfolding params_inside
params_inside-starts = starts-then (mark-starts mark.LeftParenthesis opens true refl) (λ left limit xs. listed param_at xs >>= λ params. mark_at mark.RightParenthesis params.1 >>= λ right. Ok (params.0, right.1))

pub params-law : Law false opens (λ limit xs. params_at xs)
unfolding params_at
params-law = optional-law [] (mark-plain mark.LeftParenthesis) (params_inside-law nothing) params_inside-starts

abbrev pub orders : Meaning → Bool
orders m = either_of opens (is_word order_word) m

order_inside-law : Law true opens (λ limit xs. order_inside xs)
unfolding order_inside
order_inside-law =
    then-law (word-law order_word nothing (one-law (passing (is_word order_word)) nothing order-word-proper Unexpected refl))
    (λ word. then-law (mark-law mark.Equal nothing refl)
    (λ equal. then-law quote_mark-law
    (λ left. then-law (one-law pick_order nothing order-proper Unexpected refl)
    (λ order. then-law quote_mark-law (λ right. gives-law opens (Some order.0)) (λ right. blocks-gives opens (Some order.0)))
    (λ order. blocks-nothing opens (λ limit xs. mark_at mark.Quote xs >>= λ right. Ok (Some order.0, right.1))))
    (λ left. blocks-start (starts-then (starts-one opens false pick_order picks) (λ order limit xs. mark_at mark.Quote xs >>= λ right. Ok (Some order.0, right.1))) opens))
    (λ equal. blocks-nothing opens (λ limit xs. mark_at mark.Quote xs >>= λ left. one pick_order left.1 >>= λ order. mark_at mark.Quote order.1 >>= λ right. Ok (Some order.0.0, right.1))))
    (λ word. blocks-nothing opens (λ limit xs. mark_at mark.Equal xs >>= λ equal. mark_at mark.Quote equal.1 >>= λ left. one pick_order left.1 >>= λ order. mark_at mark.Quote order.1 >>= λ right. Ok (Some order.0.0, right.1)))
  where
    picks : (m : Meaning) (a : ByteOrder) → pick_order m ≡ Ok a → opens m ≡ false
    picks (Name w) a h = refl
    picks (Number n) a h = absurd (cc)
    picks (Sign s) a h = absurd (cc)
    picks (Taken w) a h = absurd (cc)

order_inside-starts : Starts (is_word order_word) true (λ limit xs. order_inside xs)
unfolding order_inside
order_inside-starts =
    starts-then (word-starts order_word (is_word order_word) true refl)
    (λ word limit xs. mark_at mark.Equal xs >>= λ equal. mark_at mark.Quote equal.1 >>= λ left. one pick_order left.1 >>= λ order. mark_at mark.Quote order.1 >>= λ right. Ok (Some order.0.0, right.1))

pub order-law : Law false orders (λ limit xs. order_at xs)
unfolding order_at
order-law = optional-law None order-plain order_inside-law order_inside-starts

order-opens : Apart (is_word order_word) opens
order-opens (Name w) h = refl
order-opens (Number n) h = absurd (cc)
order-opens (Sign s) h = absurd (cc)
order-opens (Taken w) h = absurd (cc)

pub order-blocks : Blocks opens opens (λ limit xs. order_at xs)
unfolding order_at
order-blocks = blocks-optional None order-opens

-- ---- constants

abbrev pub bracket : Meaning → Bool
bracket m = is_mark mark.LeftBracket m

attributes_inside-law : (go : Meaning → Bool) → Law true go (λ limit xs. attributes_inside xs)
unfolding attributes_inside
attributes_inside-law go =
    then-law (mark-law mark.LeftBracket nothing refl)
    (λ left. then-law (listed-law quoted_lit-law comma-opens)
    (λ lits. then-law (mark-law mark.RightBracket go refl) (λ right. gives-law go lits) (λ right. blocks-gives go lits))
    (λ lits. blocks-start (starts-then (mark-starts mark.RightBracket (either_of opens comma) false refl) (λ right limit xs. Ok (lits, xs))) go))
    (λ left. blocks-nothing go (λ limit xs. listed quoted_lit_at xs >>= λ lits. mark_at mark.RightBracket lits.1 >>= λ right. Ok (lits.0, right.1)))

attributes_inside-starts : Starts bracket true (λ limit xs. attributes_inside xs)
unfolding attributes_inside
attributes_inside-starts = starts-then (mark-starts mark.LeftBracket bracket true refl) (λ left limit xs. listed quoted_lit_at xs >>= λ lits. mark_at mark.RightBracket lits.1 >>= λ right. Ok (lits.0, right.1))

attributes-law : Law false bracket (λ limit xs. attributes_at xs)
unfolding attributes_at
attributes-law = optional-law [] (mark-plain mark.LeftBracket) (attributes_inside-law nothing) attributes_inside-starts

abbrev constant_of : List ℕ × Place → Lit → List Lit → Constant
constant_of named value attrs = record { place = named.1; value = value; name = named.0; attrs = attrs }

pub constant-law : (go : Meaning → Bool) → Law true go (λ limit xs. constant_at xs)
unfolding constant_at
constant-law go =
    then-law (mark-law mark.LeftBracket nothing refl)
    (λ left. then-law quoted_lit-law
    (λ value. then-law (name-law nothing)
    (λ named. then-law attributes-law
    (λ attrs. then-law (mark-law mark.RightBracket go refl) (λ right. gives-law go (constant_of named value attrs)) (λ right. blocks-gives go (constant_of named value attrs)))
    (λ attrs. blocks-start (starts-then (mark-starts mark.RightBracket bracket false refl) (λ right limit xs. Ok (constant_of named value attrs, xs))) go))
    (λ named. blocks-nothing go (λ limit xs. attributes_at xs >>= λ attrs. mark_at mark.RightBracket attrs.1 >>= λ right. Ok (constant_of named value attrs.0, right.1))))
    (λ value. blocks-start (starts-then (name-starts opens false (λ w. refl)) (λ named limit xs. attributes_at xs >>= λ attrs. mark_at mark.RightBracket attrs.1 >>= λ right. Ok (constant_of named value attrs.0, right.1))) go))
    (λ left. blocks-nothing go (λ limit xs. quoted_lit_at xs >>= λ value. name_at value.1 >>= λ named. attributes_at named.1 >>= λ attrs. mark_at mark.RightBracket attrs.1 >>= λ right. Ok (constant_of named.0 value.0 attrs.0, right.1)))

pub constant-starts : Starts bracket true (λ limit xs. constant_at xs)
unfolding constant_at
constant-starts =
    starts-then (mark-starts mark.LeftBracket bracket true refl)
    (λ left limit xs. quoted_lit_at xs >>= λ value. name_at value.1 >>= λ named. attributes_at named.1 >>= λ attrs. mark_at mark.RightBracket attrs.1 >>= λ right. Ok (constant_of named.0 value.0 attrs.0, right.1))
