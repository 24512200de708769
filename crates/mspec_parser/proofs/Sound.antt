-- What is read of literals, types, parameters, byte orders and constants is in the grammar.
use Rattle.std.proofs.Common.{ℕ, ◌≡◌, inl, inr, ◌≤◌, Bool, true, false, cond, List, [], ◌∷◌, codes, Option, Some, None, Ok, Err, refl, sym, ap, subst, ◌∙◌}
use Rattle.std.specs.Str.{bytes_eq}
use Rattle.std.proofs.lemmas.Slice.Eq.{bytes_eq-Decides}
use Rattle.mspec_tree.specs.declared.words.Place.{Place}
use Rattle.mspec_tree.specs.declared.words.ByteOrder.{ByteOrder}
use Rattle.mspec_tree.specs.declared.words.ByteOrder.TheVariants.{Big, Little}
use Rattle.mspec_tree.specs.declared.words.Lit.{Lit}
use Rattle.mspec_tree.specs.declared.words.Lit.TheVariants.{Num, Flag}
use Rattle.mspec_tree.specs.declared.words.Key.{Key}
use Rattle.mspec_tree.specs.declared.words.Key.TheVariants as tree_key
use Rattle.mspec_tree.specs.declared.words.Simple.{Simple}
use Rattle.mspec_tree.specs.declared.words.Simple.TheVariants as tree_simple
use Rattle.mspec_tree.specs.declared.exprs.Expr.{Expr}
use Rattle.mspec_tree.specs.declared.exprs.Ref.{Ref}
use Rattle.mspec_tree.specs.declared.exprs.Ref.TheVariants.{Plain, Named}
use Rattle.mspec_lexer.specs.Lexemes.{Lexeme}
use Rattle.mspec_lexer.specs.declared.tokens.Symbol.TheVariants as sign
use Rattle.mspec_grammar.specs.Meanings.{Meaning, meaning, Number, Sign, Taken, Name}
use Rattle.mspec_grammar.specs.declared.words.Word.TheVariants as word
use Rattle.mspec_grammar.specs.Expressions.{Quoted}
use Rattle.mspec_grammar.specs.Parts.{IsLit, IsQuotedLit, IsConstLit, IsKey, IsSimple, IsTypeName, IsKind, IsRef, IsParam, IsParams, IsOrder, IsAttributes, IsConstant, width, order_name, none, named, number, negative, yes, no, quoted, bare, any, quoted_any, literal, constant, bit, byte, uint, int, float, plain, kind, arguments, param, some, given}
use Rattle.mspec_grammar.specs.Trees as trees
use Rattle.mspec_grammar.specs.Trees.{IsBody, IsField, IsKeys, IsCase, IsSwitch, IsMember, IsHead, IsDef, Tree, simple, discriminator, const, reserved, implicit, virtual, optional, checksum, padding, by_count, by_length, field, case, switch, head, type_, discriminated, data_io, enum}
use Rattle.mspec_tree.specs.Form.{left_out_types, is_one_of}
use Rattle.mspec_grammar.specs.declared.words.Word.{Word}
use Rattle.mspec_grammar.specs.declared.faults.ParseWhy.TheVariants.{Unexpected, LeftOut}
use Rattle.mspec_quotes.specs.Machine.{read_quoted}
use Rattle.mspec_quotes.proofs.QuoteLaws.{quoted-read}
use Rattle.mspec_parser.specs.declared.words.Mark.TheVariants as mark
use Rattle.mspec_parser.specs.declared.words.LitStart.{LitStart}
use Rattle.mspec_parser.specs.declared.words.LitStart.TheVariants as start
use Rattle.mspec_parser.specs.Words.{order_word_of}
use Rattle.mspec_parser.specs.Readers.{begins_with, is_mark, is_word}
use Rattle.mspec_parser.specs.Small.{or_unexpected, lit_start_of, pick_lit, lit_from, lit_at, quoted_lit_at, const_lit_at, KeyStart, any as of_any, of_lit, of_name, or_literal, pick_key, pick_star, key_from, key_inside, key_at, begins_key, keys_at, is_type_word, pick_simple, simple_from, simple_at, KindStart, by_word, by_name, pick_kind, kind_from, kind_at, args_inside, args_at, ref_from, ref_at, param_at, params_inside, params_at, pick_order, order_inside, order_at, attributes_inside, attributes_at, constant_at}
use Rattle.mspec_parser.proofs.Sounds.{Sound, through, gives, and_then, either, one-sound, mark-sound, word-sound, name-sound, number-sound, listed-sound}

-- ---- literals

-- what a literal's beginning makes of the lexemes behind it
data Rest : LitStart → List Lexeme → Lit → List Lexeme → Type 0 where
  whole : {lit : Lit} {rest : List Lexeme} → Rest (start.Whole lit) rest lit rest
  signed : {x : Lexeme} {n : ℕ} {rest : List Lexeme} → meaning x ≡ Number n → Rest start.Minus (x ∷ rest) (Num true n) rest

rest-sound : (s : LitStart) → Sound (lit_from s) (Rest s)
rest-sound (start.Whole lit) = through (gives lit) (λ xs l rest t. rw (t.value, t.rest_is) whole)
rest-sound start.Minus = through (and_then number-sound (λ n. gives (Num true n))) (λ xs l rest t.
    rw (t.first.whole, t.next.value, t.next.rest_is) (signed t.first.means))

whole-lit : {lit : Lit} {mid rest : List Lexeme} {l : Lit} (s : LitStart) → s ≡ start.Whole lit → Rest s mid l rest → (l ≡ lit) × (mid ≡ rest)
whole-lit (start.Whole other) e whole = (cc, refl)
whole-lit start.Minus e (signed h) = absurd (cc)

minus-lit : {mid rest : List Lexeme} {l : Lit} (x : Lexeme) (s : LitStart) → s ≡ start.Minus → meaning x ≡ Sign sign.Minus → Rest s mid l rest → IsLit (x ∷ mid) l rest
minus-lit x (start.Whole other) e h whole = absurd (cc)
minus-lit x start.Minus e h (signed h') = negative h h'

from-start : (m : Meaning) (x : Lexeme) (s : LitStart) {mid rest : List Lexeme} {l : Lit} → meaning x ≡ m → lit_start_of m ≡ Some s → Rest s mid l rest → IsLit (x ∷ mid) l rest
from-start (Number n) x s h e r = let e' : s ≡ start.Whole (Num false n) = cc in let w = whole-lit s e' r in rw (w.0, w.1) (number h)
from-start (Sign sign.Minus) x s h e r = let e' : s ≡ start.Minus = cc in minus-lit x s e' h r
from-start (Taken word.True) x s h e r = let e' : s ≡ start.Whole (Flag true) = cc in let w = whole-lit s e' r in rw (w.0, w.1) (yes h)
from-start (Taken word.False) x s h e r = let e' : s ≡ start.Whole (Flag false) = cc in let w = whole-lit s e' r in rw (w.0, w.1) (no h)
from-start m x s h e r = absurd (cc)

picked-some : {A : Type 0} (o : Option A) (a : A) → or_unexpected o ≡ Ok a → o ≡ Some a
picked-some (Some b) a h = let e : b ≡ a = cc in ap Some e
picked-some None a h = absurd (cc)

lit-sound : Sound lit_at IsLit
unfolding lit_at
lit-sound = through (and_then (one-sound pick_lit) (λ s. rest-sound s.0)) (λ xs l rest t.
    rw t.first.whole (from-start (meaning t.first.x) t.first.x t.value.0 refl (picked-some (lit_start_of (meaning t.first.x)) t.value.0 t.first.picks) t.next))

pub quoted_lit-sound : Sound quoted_lit_at IsQuotedLit
unfolding quoted_lit_at
quoted_lit-sound =
    through (and_then (mark-sound mark.Quote) (λ left. and_then lit-sound (λ lit. and_then (mark-sound mark.Quote) (λ right. gives lit))))
    (λ xs l rest t.
    let right = t.next.next.first in
    let gave = t.next.next.next in
    rw (t.first.whole, gave.value, gave.rest_is) (quoted t.first.means (rw right.whole at t.next.first) right.means))

pub const_lit-sound : Sound const_lit_at IsConstLit
unfolding const_lit_at
const_lit-sound = through (either (begins_with (is_mark mark.Quote)) quoted_lit-sound lit-sound) (λ xs l rest t. elim t [ inl q ↦ quoted q | inr q ↦ bare q ])

-- ---- keys

-- what a key's beginning makes of the lexemes behind it
data Inner : KeyStart → List Lexeme → Key → List Lexeme → Type 0 where
  inner_any : {rest : List Lexeme} → Inner of_any rest tree_key.Any rest
  inner_lit : {s : LitStart} {from rest : List Lexeme} {l : Lit} → Rest s from l rest → Inner (of_lit s) from (tree_key.Lit l) rest
  inner_constant : {bytes : List ℕ} {rest : List Lexeme} → Inner (of_name bytes) rest (tree_key.Constant bytes) rest

inner-sound : (k : KeyStart) → Sound (key_from k) (Inner k)
inner-sound of_any = through (gives tree_key.Any) (λ xs k rest t. rw (t.value, t.rest_is) inner_any)
inner-sound (of_lit s) = through (and_then (rest-sound s) (λ l. gives (tree_key.Lit l))) (λ xs k rest t. rw (t.next.value, t.next.rest_is) (inner_lit t.first))
inner-sound (of_name bytes) = through (gives (tree_key.Constant bytes)) (λ xs k rest t. rw (t.value, t.rest_is) inner_constant)

any-key : {mid rest : List Lexeme} {key : Key} (left x right : Lexeme) (k : KeyStart) → k ≡ of_any → meaning left ≡ Sign sign.Quote → meaning x ≡ Sign sign.Star
    → Inner k mid key (right ∷ rest) → meaning right ≡ Sign sign.Quote → IsKey (left ∷ x ∷ mid) key rest
any-key left x right of_any e hl h inner_any hr = quoted_any hl h hr
any-key left x right (of_lit s) e hl h i hr = absurd (cc)
any-key left x right (of_name bytes) e hl h i hr = absurd (cc)

name-key : {mid rest : List Lexeme} {key : Key} (left x right : Lexeme) (bytes : List ℕ) (k : KeyStart) → k ≡ of_name bytes → meaning left ≡ Sign sign.Quote → meaning x ≡ Name bytes
    → Inner k mid key (right ∷ rest) → meaning right ≡ Sign sign.Quote → IsKey (left ∷ x ∷ mid) key rest
name-key left x right bytes of_any e hl h i hr = absurd (cc)
name-key left x right bytes (of_lit s) e hl h i hr = absurd (cc)
name-key left x right bytes (of_name other) e hl h inner_constant hr = let e' : bytes ≡ other = cc in constant hl (h ∙ ap Name e') hr

lit-key : {mid rest : List Lexeme} {key : Key} (left x right : Lexeme) (m : Meaning) (k : KeyStart) → meaning x ≡ m → or_literal (lit_start_of m) ≡ Ok k → meaning left ≡ Sign sign.Quote
    → Inner k mid key (right ∷ rest) → meaning right ≡ Sign sign.Quote → IsKey (left ∷ x ∷ mid) key rest
lit-key left x right m of_any h e hl i hr = absurd (no-any (lit_start_of m) e)
  where
    no-any : (o : Option LitStart) → or_literal o ≡ Ok of_any → ⊥
    no-any None e = cc
    no-any (Some s) e = cc
lit-key left x right m (of_name bytes) h e hl i hr = absurd (no-name (lit_start_of m) e)
  where
    no-name : (o : Option LitStart) → or_literal o ≡ Ok (of_name bytes) → ⊥
    no-name None e = cc
    no-name (Some s) e = cc
lit-key left x right m (of_lit s) h e hl (inner_lit r) hr = literal (quoted hl (from-start m x s h (started (lit_start_of m) e) r) hr)
  where
    started : (o : Option LitStart) → or_literal o ≡ Ok (of_lit s) → o ≡ Some s
    started None e = absurd (cc)
    started (Some other) e = let e' : other ≡ s = cc in ap Some e'

from-key : {mid rest : List Lexeme} {key : Key} (left x right : Lexeme) (m : Meaning) (k : KeyStart) → meaning x ≡ m → pick_key m ≡ Ok k → meaning left ≡ Sign sign.Quote
    → Inner k mid key (right ∷ rest) → meaning right ≡ Sign sign.Quote → IsKey (left ∷ x ∷ mid) key rest
from-key left x right (Sign sign.Star) k h e hl i hr = let e' : k ≡ of_any = cc in any-key left x right k e' hl h i hr
from-key left x right (Name bytes) k h e hl i hr = let e' : k ≡ of_name bytes = cc in name-key left x right bytes k e' hl h i hr
from-key left x right m k h e hl i hr = lit-key left x right m k h e hl i hr

record Inside (xs : List Lexeme) (k : Key) (rest : List Lexeme) : Type 0 where
  pub is : (left : Lexeme) → meaning left ≡ Sign sign.Quote → IsKey (left ∷ xs) k rest

inside-sound : Sound key_inside Inside
unfolding key_inside
inside-sound = through (and_then (one-sound pick_key) (λ s. and_then (inner-sound s.0) (λ inner. and_then (mark-sound mark.Quote) (λ right. gives inner))))
    (λ xs k rest t. record {
      is = λ left hl.
          let right = t.next.next.first in
          let gave = t.next.next.next in
          rw (t.first.whole, gave.value, gave.rest_is)
          (from-key left t.first.x right.x (meaning t.first.x) t.value.0 refl t.first.picks hl (rw right.whole at t.next.first) right.means);
    })

star-is : (m : Meaning) → pick_star m ≡ Ok true → m ≡ Sign sign.Star
star-is (Sign sign.Star) e = refl
star-is (Sign s) e = absurd (cc)
star-is (Number n) e = absurd (cc)
star-is (Taken t) e = absurd (cc)
star-is (Name n) e = absurd (cc)

quote-is : (m : Meaning) → pick_star m ≡ Ok false → m ≡ Sign sign.Quote
quote-is (Sign sign.Quote) e = refl
quote-is (Sign s) e = absurd (cc)
quote-is (Number n) e = absurd (cc)
quote-is (Taken t) e = absurd (cc)
quote-is (Name n) e = absurd (cc)

-- a key behind its first lexeme, which is a star or a quote
data Keyed : Bool → List Lexeme → Key → List Lexeme → Type 0 where
  star : {rest : List Lexeme} → Keyed true rest tree_key.Any rest
  quote : {from rest : List Lexeme} {k : Key} → Inside from k rest → Keyed false from k rest

keyed-sound : (b : Bool) → Sound (λ xs. cond b (Ok (tree_key.Any, xs)) (key_inside xs)) (Keyed b)
keyed-sound true = through (gives tree_key.Any) (λ xs k rest t. rw (t.value, t.rest_is) star)
keyed-sound false = through inside-sound (λ xs k rest t. quote t)

from-star : {mid rest : List Lexeme} {k : Key} (b : Bool) (x : Lexeme) → pick_star (meaning x) ≡ Ok b → Keyed b mid k rest → IsKey (x ∷ mid) k rest
from-star true x e star = any (star-is (meaning x) e)
from-star false x e (quote i) = i.is x (quote-is (meaning x) e)

key-sound : Sound key_at IsKey
unfolding key_at
key-sound = through (and_then (one-sound pick_star) (λ s. keyed-sound s.0)) (λ xs k rest t. rw t.first.whole (from-star t.value.0 t.first.x t.first.picks t.next))

pub keys-sound : Sound keys_at IsKeys
unfolding keys_at
keys-sound = through (either (begins_with begins_key) (listed-sound key-sound) (gives [])) (λ xs ks rest t. elim t [
  | inl q ↦ trees.some q
  | inr q ↦ rw (q.value, q.rest_is) trees.none
])

-- ---- types

-- what a type's word makes of the lexemes behind it
record Sized (w : Word) (xs : List Lexeme) (s : Simple) (rest : List Lexeme) : Type 0 where
  pub is : (x : Lexeme) → meaning x ≡ Taken w → is_type_word w ≡ true → IsSimple (x ∷ xs) s rest

sized-sound : (w : Word) → Sound (simple_from w) (Sized w)
sized-sound word.Byte = through (gives tree_simple.Byte) (λ xs s rest t. record { is = λ x h typed. rw (t.value, t.rest_is) (byte h) })
sized-sound word.Uint = through (and_then number-sound (λ n. gives (tree_simple.Uint (width n)))) (λ xs s rest t. record {
  is = λ x h typed.
      rw (t.first.whole, t.next.value, t.next.rest_is) (uint h t.first.means);
})
sized-sound word.Int = through (and_then number-sound (λ n. gives (tree_simple.Int (width n)))) (λ xs s rest t. record {
  is = λ x h typed.
      rw (t.first.whole, t.next.value, t.next.rest_is) (int h t.first.means);
})
sized-sound word.Float = through (and_then number-sound (λ n. gives (tree_simple.Float (width n)))) (λ xs s rest t. record {
  is = λ x h typed.
      rw (t.first.whole, t.next.value, t.next.rest_is) (float h t.first.means);
})
sized-sound word.Bit = through (gives tree_simple.Bit) (λ xs s rest t. record { is = λ x h typed. rw (t.value, t.rest_is) (bit h) })
sized-sound w = through (gives tree_simple.Bit) (λ xs s rest t. record { is = λ x h typed. absurd (cc) })

data Typed (w : Word) (m : Meaning) : Type 0 where
  typed : m ≡ Taken w → is_type_word w ≡ true → Typed w m

simple-word : (m : Meaning) (w : Word) → pick_simple m ≡ Ok w → Typed w m
simple-word (Taken t) w e = by-test (is_type_word t) refl e
  where
    by-test : (b : Bool) → is_type_word t ≡ b → cond b (Ok t) (Err Unexpected) ≡ Ok w → Typed w (Taken t)
    by-test true h e = let e' : t ≡ w = cc in typed (ap Taken e') (rw (sym e') h)
    by-test false h e = absurd (cc)
simple-word (Name n) w e = absurd (no-name (is_one_of left_out_types n) e)
  where
    no-name : (b : Bool) → cond b (Err LeftOut) (Err Unexpected) ≡ Ok w → ⊥
    no-name true e = cc
    no-name false e = cc
simple-word (Number n) w e = absurd (cc)
simple-word (Sign s) w e = absurd (cc)

sized-is : {mid rest : List Lexeme} {s : Simple} {w : Word} (x : Lexeme) → Typed w (meaning x) → Sized w mid s rest → IsSimple (x ∷ mid) s rest
sized-is x (typed h t) s = s.is x h t

pub simple-sound : Sound simple_at IsSimple
unfolding simple_at
simple-sound = through (and_then (one-sound pick_simple) (λ w. sized-sound w.0)) (λ xs s rest t.
    rw t.first.whole (sized-is t.first.x (simple-word (meaning t.first.x) t.value.0 t.first.picks) t.next))

-- what a type begins with
data Kinded : KindStart → Meaning → Type 0 where
  as_word : {w : Word} {m : Meaning} → Typed w m → Kinded (by_word w) m
  as_name : {bytes : List ℕ} {m : Meaning} → m ≡ Name bytes → is_one_of left_out_types bytes ≡ false → Kinded (by_name bytes) m

kinded : (m : Meaning) (k : KindStart) → pick_kind m ≡ Ok k → Kinded k m
kinded (Taken t) k e = by-test (is_type_word t) refl e
  where
    by-test : (b : Bool) → is_type_word t ≡ b → cond b (Ok (by_word t)) (Err Unexpected) ≡ Ok k → Kinded k (Taken t)
    by-test true h e = let e' : by_word t ≡ k = cc in subst (λ (k : KindStart). Kinded k (Taken t)) e' (as_word (typed refl h))
    by-test false h e = absurd (cc)
kinded (Name n) k e = by-test (is_one_of left_out_types n) refl e
  where
    by-test : (b : Bool) → is_one_of left_out_types n ≡ b → cond b (Err LeftOut) (Ok (by_name n)) ≡ Ok k → Kinded k (Name n)
    by-test true h e = absurd (cc)
    by-test false h e = let e' : by_name n ≡ k = cc in subst (λ (k : KindStart). Kinded k (Name n)) e' (as_name refl h)
kinded (Number n) k e = absurd (cc)
kinded (Sign s) k e = absurd (cc)

record KindRest (k : KindStart) (place : Place) (xs : List Lexeme) (r : Ref) (rest : List Lexeme) : Type 0 where
  pub is : (x : Lexeme) → Kinded k (meaning x) → place ≡ x.place → IsKind (x ∷ xs) r rest

word-kind : {mid rest : List Lexeme} {s : Simple} {w : Word} (x : Lexeme) → Kinded (by_word w) (meaning x) → Sized w mid s rest → IsKind (x ∷ mid) (Plain s) rest
word-kind x (as_word t) s = plain (sized-is x t s)

name-kind : {rest : List Lexeme} {bytes : List ℕ} (x : Lexeme) → Kinded (by_name bytes) (meaning x) → IsKind (x ∷ rest) (Named x.place bytes []) rest
name-kind x (as_name h free) = named (h, free)

kind_rest-sound : (k : KindStart) (place : Place) → Sound (kind_from k place) (KindRest k place)
kind_rest-sound (by_word w) place = through (and_then (sized-sound w) (λ s. gives (Plain s))) (λ xs r rest t. record {
  is = λ x h at.
      rw (t.next.value, t.next.rest_is) (word-kind x h t.first);
})
kind_rest-sound (by_name bytes) place = through (gives (Named place bytes [])) (λ xs r rest t. record {
  is = λ x h at.
      rw (t.value, t.rest_is, at) (name-kind x h);
})

pub kind-sound : Sound kind_at IsKind
unfolding kind_at
kind-sound = through (and_then (one-sound pick_kind) (λ s. kind_rest-sound s.0 s.1)) (λ xs r rest t.
    rw t.first.whole (t.next.is t.first.x (kinded (meaning t.first.x) t.value.0 t.first.picks) t.first.at))

module _ (limit : ℕ) (low : 1 ≤ limit) where
  pub quoted-sound : Sound (read_quoted limit) (Quoted limit)
  quoted-sound = record { is = λ xs p h. quoted-read limit xs p h low }

  record Arguments (xs : List Lexeme) (args : List Expr) (rest : List Lexeme) : Type 0 where
    pub is : (x : Lexeme) (bytes : List ℕ) → IsTypeName x bytes → IsRef limit (x ∷ xs) (Named x.place bytes args) rest

  args_inside-sound : Sound (args_inside limit) Arguments
  unfolding args_inside
  args_inside-sound =
      through (and_then (mark-sound mark.LeftParenthesis) (λ left. and_then (listed-sound quoted-sound) (λ args. and_then (mark-sound mark.RightParenthesis) (λ right. gives args))))
      (λ xs args rest t. record {
        is = λ x bytes h.
            let right = t.next.next.first in
            let gave = t.next.next.next in
            rw (t.first.whole, gave.value, gave.rest_is) (arguments h t.first.means (rw right.whole at t.next.first) right.means);
      })

  args-sound : Sound (args_at limit) Arguments
  unfolding args_at
  args-sound = through (either (begins_with (is_mark mark.LeftParenthesis)) args_inside-sound (gives [])) (λ xs args rest t. elim t [
    | inl q ↦ q
    | inr q ↦ record { is = λ x bytes h. rw (q.value, q.rest_is) (kind (named h)) }
  ])

  record RefRest (k : KindStart) (place : Place) (xs : List Lexeme) (r : Ref) (rest : List Lexeme) : Type 0 where
    pub is : (x : Lexeme) → Kinded k (meaning x) → place ≡ x.place → IsRef limit (x ∷ xs) r rest

  name-ref : {mid rest : List Lexeme} {args : List Expr} {bytes : List ℕ} (x : Lexeme) → Kinded (by_name bytes) (meaning x) → Arguments mid args rest
      → IsRef limit (x ∷ mid) (Named x.place bytes args) rest
  name-ref {bytes} x (as_name h free) a = a.is x bytes (h, free)

  ref_rest-sound : (k : KindStart) (place : Place) → Sound (ref_from limit k place) (RefRest k place)
  ref_rest-sound (by_word w) place = through (and_then (sized-sound w) (λ s. gives (Plain s))) (λ xs r rest t. record {
    is = λ x h at.
        rw (t.next.value, t.next.rest_is) (kind (word-kind x h t.first));
  })
  ref_rest-sound (by_name bytes) place = through (and_then args-sound (λ args. gives (Named place bytes args))) (λ xs r rest t. record {
    is = λ x h at.
        rw (t.next.value, t.next.rest_is, at) (name-ref x h t.first);
  })

  pub ref-sound : Sound (ref_at limit) (IsRef limit)
  unfolding ref_at
  ref-sound = through (and_then (one-sound pick_kind) (λ s. ref_rest-sound s.0 s.1)) (λ xs r rest t.
      rw t.first.whole (t.next.is t.first.x (kinded (meaning t.first.x) t.value.0 t.first.picks) t.first.at))

-- ---- parameters and byte orders

param-sound : Sound param_at IsParam
unfolding param_at
param-sound = through (and_then kind-sound (λ kind. and_then name-sound (λ named. gives (record { place = named.1; kind = kind; name = named.0 }))))
    (λ xs p rest t.
    let named = t.next.first in
    rw (t.next.next.value, t.next.next.rest_is, named.at) (param (rw named.whole at t.first) named.means))

params_inside-sound : Sound params_inside IsParams
unfolding params_inside
params_inside-sound =
    through (and_then (mark-sound mark.LeftParenthesis) (λ left. and_then (listed-sound param-sound) (λ params. and_then (mark-sound mark.RightParenthesis) (λ right. gives params))))
    (λ xs ps rest t.
    let right = t.next.next.first in
    let gave = t.next.next.next in
    rw (t.first.whole, gave.value, gave.rest_is) (some t.first.means (rw right.whole at t.next.first) right.means))

pub params-sound : Sound params_at IsParams
unfolding params_at
params-sound = through (either (begins_with (is_mark mark.LeftParenthesis)) params_inside-sound (gives [])) (λ xs ps rest t. elim t [
  | inl q ↦ q
  | inr q ↦ rw (q.value, q.rest_is) none
])

order-bytes : (bytes : List ℕ) (o : ByteOrder) → order_word_of bytes ≡ Some o → bytes ≡ order_name o
unfolding order_word_of
order-bytes bytes o e = by-big (bytes_eq bytes (codes "BIG_ENDIAN")) refl e
  where
    by-little : (b : Bool) → bytes_eq bytes (codes "LITTLE_ENDIAN") ≡ b → cond b (Some Little) None ≡ Some o → bytes ≡ order_name o
    by-little true h e = let e' : Little ≡ o = cc in (bytes_eq-Decides bytes (codes "LITTLE_ENDIAN")).0 h ∙ ap order_name e'
    by-little false h e = absurd (cc)

    by-big : (b : Bool) → bytes_eq bytes (codes "BIG_ENDIAN") ≡ b → cond b (Some Big) (cond (bytes_eq bytes (codes "LITTLE_ENDIAN")) (Some Little) None) ≡ Some o → bytes ≡ order_name o
    by-big true h e = let e' : Big ≡ o = cc in (bytes_eq-Decides bytes (codes "BIG_ENDIAN")).0 h ∙ ap order_name e'
    by-big false h e = by-little (bytes_eq bytes (codes "LITTLE_ENDIAN")) refl e

order-is : (m : Meaning) (o : ByteOrder) → pick_order m ≡ Ok o → m ≡ Name (order_name o)
order-is (Name bytes) o e = ap Name (order-bytes bytes o (picked-some (order_word_of bytes) o e))
order-is (Number n) o e = absurd (cc)
order-is (Taken t) o e = absurd (cc)
order-is (Sign s) o e = absurd (cc)

order_inside-sound : Sound order_inside IsOrder
unfolding order_inside
order_inside-sound =
    through (and_then (word-sound (codes "byteOrder")) (λ w. and_then (mark-sound mark.Equal) (λ equal. and_then (mark-sound mark.Quote) (λ left.
    and_then (one-sound pick_order) (λ order. and_then (mark-sound mark.Quote) (λ right. gives (Some order.0)))))))
    (λ xs o rest t.
    let equal = t.next.first in
    let left = t.next.next.first in
    let y = t.next.next.next.first in
    let right = t.next.next.next.next.first in
    let gave = t.next.next.next.next.next in
    rw (t.first.whole, equal.whole, left.whole, y.whole, right.whole, gave.value, gave.rest_is)
    (given t.first.means equal.means left.means (order-is (meaning y.x) t.next.next.next.value.0 y.picks) right.means))

pub order-sound : Sound order_at IsOrder
unfolding order_at
order-sound = through (either (begins_with (is_word (codes "byteOrder"))) order_inside-sound (gives None)) (λ xs o rest t. elim t [
  | inl q ↦ q
  | inr q ↦ rw (q.value, q.rest_is) none
])

-- ---- constants

attributes_inside-sound : Sound attributes_inside IsAttributes
unfolding attributes_inside
attributes_inside-sound =
    through (and_then (mark-sound mark.LeftBracket) (λ left. and_then (listed-sound quoted_lit-sound) (λ lits. and_then (mark-sound mark.RightBracket) (λ right. gives lits))))
    (λ xs ls rest t.
    let right = t.next.next.first in
    let gave = t.next.next.next in
    rw (t.first.whole, gave.value, gave.rest_is) (some t.first.means (rw right.whole at t.next.first) right.means))

attributes-sound : Sound attributes_at IsAttributes
unfolding attributes_at
attributes-sound = through (either (begins_with (is_mark mark.LeftBracket)) attributes_inside-sound (gives [])) (λ xs ls rest t. elim t [
  | inl q ↦ q
  | inr q ↦ rw (q.value, q.rest_is) none
])

pub constant-sound : Sound constant_at IsConstant
unfolding constant_at
constant-sound =
    through (and_then (mark-sound mark.LeftBracket) (λ left. and_then quoted_lit-sound (λ value. and_then name-sound (λ named.
    and_then attributes-sound (λ attrs. and_then (mark-sound mark.RightBracket) (λ right.
    gives (record { place = named.1; value = value; name = named.0; attrs = attrs })))))))
    (λ xs c rest t.
    let named = t.next.next.first in
    let attrs = t.next.next.next.first in
    let right = t.next.next.next.next.first in
    let gave = t.next.next.next.next.next in
    rw (t.first.whole, gave.value, gave.rest_is, named.at)
    (constant t.first.means (rw named.whole at t.next.first) named.means (rw right.whole at attrs) right.means))
