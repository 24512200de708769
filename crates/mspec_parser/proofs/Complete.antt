-- What the grammar allows is read.
use Rattle.std.proofs.Common.{ℕ, zero, suc, ◌≡◌, ◌≤◌, ◌<◌, Bool, true, false, cond, List, [], ◌∷◌, codes, Option, Some, Result, Ok, Err, length, refl, ap, ◌∙◌, arith}
use Rattle.std.specs.Str.{bytes_eq}
use Rattle.std.proofs.lemmas.Slice.Eq.{bytes_eq-Decides}
use Rattle.mspec_tree.specs.declared.words.Place.{Place}
use Rattle.mspec_tree.specs.declared.words.ByteOrder.{ByteOrder}
use Rattle.mspec_tree.specs.declared.words.ByteOrder.TheVariants.{Big, Little}
use Rattle.mspec_tree.specs.declared.words.Lit.{Lit}
use Rattle.mspec_tree.specs.declared.words.Lit.TheVariants.{Num, Flag}
use Rattle.mspec_tree.specs.declared.words.Key.{Key}
use Rattle.mspec_tree.specs.declared.words.Key.TheVariants as tree_key
use Rattle.mspec_tree.specs.declared.words.Simple.{Simple}
use Rattle.mspec_tree.specs.declared.words.Simple.TheVariants as tree_simple
use Rattle.mspec_tree.specs.declared.exprs.Expr.{Expr}
use Rattle.mspec_tree.specs.declared.exprs.Ref.{Ref}
use Rattle.mspec_tree.specs.declared.defs.Param.{Param}
use Rattle.mspec_tree.specs.declared.defs.Constant.{Constant}
use Rattle.mspec_lexer.specs.Lexemes.{Lexeme}
use Rattle.mspec_lexer.specs.declared.tokens.Symbol.TheVariants as sign
use Rattle.mspec_grammar.specs.Meanings.{Meaning, meaning, Number, Sign, Taken, Name}
use Rattle.mspec_grammar.specs.declared.words.Word.{Word}
use Rattle.mspec_grammar.specs.declared.words.Word.TheVariants as word
use Rattle.mspec_grammar.specs.Expressions.{Quoted}
use Rattle.mspec_grammar.specs.Parts.{Many, Listed, IsLit, IsQuotedLit, IsConstLit, IsKey, IsSimple, IsTypeName, IsKind, IsRef, IsParam, IsParams, IsOrder, IsAttributes, IsConstant, width, order_name, none, more, last, named, number, negative, yes, no, quoted, bare, any, quoted_any, literal, constant, bit, byte, uint, int, float, plain, kind, arguments, param, some, given}
use Rattle.mspec_grammar.specs.Trees as trees
use Rattle.mspec_grammar.specs.Trees.{IsBody, IsField, IsKeys, IsCase, IsSwitch, IsMember, IsHead, IsDef, Tree, simple, discriminator, const, reserved, implicit, virtual, optional, checksum, padding, by_count, by_length, field, case, switch, head, type_, discriminated, data_io, enum}
use Rattle.mspec_grammar.specs.declared.faults.ParseWhy.{ParseWhy}
use Rattle.mspec_grammar.specs.declared.faults.ParseWhy.TheVariants.{Unexpected}
use Rattle.mspec_quotes.specs.Machine.{read_quoted}
use Rattle.mspec_quotes.proofs.QuoteLaws.{read-quoted}
use Rattle.mspec_parser.specs.declared.words.Mark.{Mark}
use Rattle.mspec_parser.specs.declared.words.Mark.TheVariants as mark
use Rattle.mspec_parser.specs.declared.words.LitStart.TheVariants as start
use Rattle.mspec_parser.specs.Words.{symbol_of, order_word_of}
use Rattle.mspec_parser.specs.Readers.{Read, ◌>>=◌, picked, next_at, one, begins_with, many, listed, is_mark, is_word, passing, place_only, pick_name, pick_number, mark_at, word_at, name_at, number_at}
use Rattle.mspec_parser.specs.Small.{pick_lit, lit_at, quoted_lit_at, const_lit_at, any as of_any, of_lit, of_name, pick_key, pick_star, key_inside, key_at, begins_key, keys_at, is_type_word, pick_simple, simple_from, simple_at, by_word, by_name, pick_kind, kind_at, args_inside, args_at, ref_at, param_at, params_inside, params_at, pick_order, order_inside, order_at, attributes_inside, attributes_at, constant_at}
use Rattle.mspec_parser.proofs.Shorter.{quoted-shorter, quoted_lit-shorter, key-shorter, param-shorter, constant-shorter}

-- ---- one lexeme

pub one-reads : {A : Type 0} (pick : Meaning → Result A ParseWhy) (x : Lexeme) (rest : List Lexeme) (a : A) → pick (meaning x) ≡ Ok a
    → one pick (x ∷ rest) ≡ Ok ((a, x.place), rest)
unfolding next_at
one-reads pick x rest a h = ap (λ r. picked r x.place rest (x ∷ rest)) h

is-own-mark : (m : Mark) → is_mark m (Sign (symbol_of m)) ≡ true
is-own-mark mark.LeftBracket = refl
is-own-mark mark.RightBracket = refl
is-own-mark mark.LeftParenthesis = refl
is-own-mark mark.RightParenthesis = refl
is-own-mark mark.Quote = refl
is-own-mark mark.Comma = refl
is-own-mark mark.Equal = refl

pub is-marked : (m : Mark) (x : Lexeme) → meaning x ≡ Sign (symbol_of m) → is_mark m (meaning x) ≡ true
is-marked m x h = ap (is_mark m) h ∙ is-own-mark m

pub mark-reads : (m : Mark) (x : Lexeme) (rest : List Lexeme) → meaning x ≡ Sign (symbol_of m) → mark_at m (x ∷ rest) ≡ Ok (x.place, rest)
unfolding mark_at
mark-reads m x rest h = ap place_only (one-reads (passing (is_mark m)) x rest tt (ap (λ b. cond b (Ok tt) (Err Unexpected)) (is-marked m x h)))

same-bytes : (w : List ℕ) → bytes_eq w w ≡ true
same-bytes w = (bytes_eq-Decides w w).1 refl

pub is-worded : (w : List ℕ) (x : Lexeme) → meaning x ≡ Name w → is_word w (meaning x) ≡ true
is-worded w x h = ap (is_word w) h ∙ same-bytes w

pub word-reads : (w : List ℕ) (x : Lexeme) (rest : List Lexeme) → meaning x ≡ Name w → word_at w (x ∷ rest) ≡ Ok (x.place, rest)
unfolding word_at
word-reads w x rest h = ap place_only (one-reads (passing (is_word w)) x rest tt (ap (λ b. cond b (Ok tt) (Err Unexpected)) (is-worded w x h)))

pub name-reads : (x : Lexeme) (rest : List Lexeme) (spelt : List ℕ) → meaning x ≡ Name spelt → name_at (x ∷ rest) ≡ Ok ((spelt, x.place), rest)
unfolding name_at
name-reads x rest spelt h = one-reads pick_name x rest spelt (ap pick_name h)

pub number-reads : (x : Lexeme) (rest : List Lexeme) (n : ℕ) → meaning x ≡ Number n → number_at (x ∷ rest) ≡ Ok (n, rest)
unfolding number_at
number-reads x rest n h = ap (λ (r : Read (ℕ × Place)). r >>= λ p. Ok (p.0.0, p.1)) (one-reads pick_number x rest n (ap pick_number h))

-- ---- lists

pub cond-true : {A : Type 0} (b : Bool) (x y : A) → b ≡ true → cond b x y ≡ x
cond-true b x y h = ap (λ b. cond b x y) h

pub cond-false : {A : Type 0} (b : Bool) (x y : A) → b ≡ false → cond b x y ≡ y
cond-false b x y h = ap (λ b. cond b x y) h

module _ {A : Type 0} (begins : Meaning → Bool) (part : List Lexeme → Read A) where
  over : (n : ℕ) (xs : List Lexeme) → begins_with begins xs ≡ false → many begins part n xs ≡ Ok ([], xs)
  unfolding many
  over zero xs h = refl
  over (suc n) xs h = cond-false _ _ _ h

  goes : (n : ℕ) (xs mid rest : List Lexeme) (a : A) (others : List A) → begins_with begins xs ≡ true → part xs ≡ Ok (a, mid)
      → many begins part n mid ≡ Ok (others, rest) → many begins part (suc n) xs ≡ Ok (a ∷ others, rest)
  unfolding many
  goes n xs mid rest a others h p e = cond-true _ _ _ h ∙ rw (p, e) refl

-- a part that is read whatever follows it, and is no empty list of lexemes
pub record Closed {A : Type 0} (Part : List Lexeme → A → List Lexeme → Type 0) (part : List Lexeme → Read A) : Type 0 where
  pub reads : {from rest : List Lexeme} {a : A} → Part from a rest → part from ≡ Ok (a, rest)
  pub shortens : {from rest : List Lexeme} {a : A} → Part from a rest → length rest < length from

module _ {A : Type 0} {Part : List Lexeme → A → List Lexeme → Type 0} {part : List Lexeme → Read A} (closed : Closed Part part) where
  pub many-reads : {from rest : List Lexeme} {parts : List A} (begins : Meaning → Bool) → ((from : List Lexeme) (a : A) (rest : List Lexeme) → Part from a rest → begins_with begins from ≡ true)
      → Many Part from parts rest → begins_with begins rest ≡ false → (n : ℕ) → length from ≤ n → many begins part n from ≡ Ok (parts, rest)
  many-reads {from} begins first none h n le = over begins part n from h
  many-reads begins first (more {from} {mid} {rest} {a} {parts} p ps) h zero le = let s = closed.shortens p in absurd (omega arith)
  many-reads begins first (more {from} {mid} {rest} {a} {parts} p ps) h (suc n) le =
      let s = closed.shortens p in
      goes begins part n from mid rest a parts (first from a mid p) (closed.reads p) (many-reads begins first ps h n (omega arith))

  abbrev comma-part : List Lexeme → Read A
  comma-part ys = mark_at mark.Comma ys >>= λ comma. part comma.1

  behind-comma : (x : Lexeme) (rest behind : List Lexeme) (a : A) → meaning x ≡ Sign sign.Comma → part rest ≡ Ok (a, behind) → comma-part (x ∷ rest) ≡ Ok (a, behind)
  behind-comma x rest behind a h p = rw (mark-reads mark.Comma x rest h) p

  commas-read : {mid rest : List Lexeme} {parts : List A} (comma : Lexeme) → meaning comma ≡ Sign sign.Comma → Listed Part mid parts rest
      → begins_with (is_mark mark.Comma) rest ≡ false → (n : ℕ) → length mid < n → many (is_mark mark.Comma) comma-part n (comma ∷ mid) ≡ Ok (parts, rest)
  commas-read comma hc (last {from} {rest} {a} p) h zero lt = absurd (omega arith)
  commas-read comma hc (last {from} {rest} {a} p) h (suc n) lt =
      goes (is_mark mark.Comma) comma-part n (comma ∷ from) rest rest a [] (is-marked mark.Comma comma hc)
      (behind-comma comma from rest a hc (closed.reads p)) (over (is_mark mark.Comma) comma-part n rest h)
  commas-read comma hc (more {from} {mid} {rest} {comma = comma'} {a} {parts} p hc' ps) h zero lt = absurd (omega arith)
  commas-read comma hc (more {from} {mid} {rest} {comma = comma'} {a} {parts} p hc' ps) h (suc n) lt =
      let s = closed.shortens p in
      goes (is_mark mark.Comma) comma-part n (comma ∷ from) (comma' ∷ mid) rest a parts (is-marked mark.Comma comma hc)
      (behind-comma comma from (comma' ∷ mid) a hc (closed.reads p)) (commas-read comma' hc' ps h n (omega arith))

  pub listed-reads : {from rest : List Lexeme} {parts : List A} → Listed Part from parts rest → begins_with (is_mark mark.Comma) rest ≡ false
      → listed part from ≡ Ok (parts, rest)
  unfolding listed
  listed-reads (last {from} {rest} {a} p) h = rw (closed.reads p, over (is_mark mark.Comma) comma-part (length rest) rest h) refl
  listed-reads (more {from} {mid} {rest} {comma} {a} {parts} p hc ps) h =
      rw (closed.reads p, commas-read comma hc ps h (length (comma ∷ mid)) (omega arith)) refl

-- ---- literals and keys

lit-reads : {from rest : List Lexeme} {lit : Lit} → IsLit from lit rest → lit_at from ≡ Ok (lit, rest)
unfolding lit_at
lit-reads (number {x} {rest} {n} h) = rw (one-reads pick_lit x rest (start.Whole (Num false n)) (ap pick_lit h)) refl
lit-reads (negative {minus} {x} {rest} {n} h h') = rw (one-reads pick_lit minus (x ∷ rest) start.Minus (ap pick_lit h), number-reads x rest n h') refl
lit-reads (yes {x} {rest} h) = rw (one-reads pick_lit x rest (start.Whole (Flag true)) (ap pick_lit h)) refl
lit-reads (no {x} {rest} h) = rw (one-reads pick_lit x rest (start.Whole (Flag false)) (ap pick_lit h)) refl

pub quoted_lit-reads : {from rest : List Lexeme} {lit : Lit} → IsQuotedLit from lit rest → quoted_lit_at from ≡ Ok (lit, rest)
unfolding quoted_lit_at
quoted_lit-reads (quoted {left} {right} {from} {rest} hl l hr) =
    rw (mark-reads mark.Quote left from hl, lit-reads l, mark-reads mark.Quote right rest hr) refl

lit-bare : {from rest : List Lexeme} {lit : Lit} → IsLit from lit rest → begins_with (is_mark mark.Quote) from ≡ false
lit-bare (number h) = ap (is_mark mark.Quote) h
lit-bare (negative h h') = ap (is_mark mark.Quote) h
lit-bare (yes h) = ap (is_mark mark.Quote) h
lit-bare (no h) = ap (is_mark mark.Quote) h

quoted_lit-begins : {from rest : List Lexeme} {lit : Lit} → IsQuotedLit from lit rest → begins_with (is_mark mark.Quote) from ≡ true
quoted_lit-begins (quoted hl l hr) = ap (is_mark mark.Quote) hl

pub const_lit-reads : {from rest : List Lexeme} {lit : Lit} → IsConstLit from lit rest → const_lit_at from ≡ Ok (lit, rest)
unfolding const_lit_at
const_lit-reads (bare l) = cond-false _ _ _ (lit-bare l) ∙ lit-reads l
const_lit-reads (quoted l) = cond-true _ _ _ (quoted_lit-begins l) ∙ quoted_lit-reads l

key_inside-reads : {from rest : List Lexeme} {lit : Lit} {right : Lexeme} → IsLit from lit (right ∷ rest) → meaning right ≡ Sign sign.Quote
    → key_inside from ≡ Ok (tree_key.Lit lit, rest)
unfolding key_inside
key_inside-reads {rest} {right} (number {x} {n} h) hr =
    rw (one-reads pick_key x (right ∷ rest) (of_lit (start.Whole (Num false n))) (ap pick_key h), mark-reads mark.Quote right rest hr) refl
key_inside-reads {rest} {right} (negative {minus} {x} {n} h h') hr =
    rw (one-reads pick_key minus (x ∷ right ∷ rest) (of_lit start.Minus) (ap pick_key h), number-reads x (right ∷ rest) n h', mark-reads mark.Quote right rest hr) refl
key_inside-reads {rest} {right} (yes {x} h) hr =
    rw (one-reads pick_key x (right ∷ rest) (of_lit (start.Whole (Flag true))) (ap pick_key h), mark-reads mark.Quote right rest hr) refl
key_inside-reads {rest} {right} (no {x} h) hr =
    rw (one-reads pick_key x (right ∷ rest) (of_lit (start.Whole (Flag false))) (ap pick_key h), mark-reads mark.Quote right rest hr) refl

key-in-quotes : (left : Lexeme) (xs rest : List Lexeme) (k : Key) → meaning left ≡ Sign sign.Quote → key_inside xs ≡ Ok (k, rest) → key_at (left ∷ xs) ≡ Ok (k, rest)
unfolding key_at
key-in-quotes left xs rest k hl e = rw (one-reads pick_star left xs false (ap pick_star hl)) e

any-inside : (x right : Lexeme) (rest : List Lexeme) → meaning x ≡ Sign sign.Star → meaning right ≡ Sign sign.Quote → key_inside (x ∷ right ∷ rest) ≡ Ok (tree_key.Any, rest)
unfolding key_inside
any-inside x right rest h hr = rw (one-reads pick_key x (right ∷ rest) of_any (ap pick_key h), mark-reads mark.Quote right rest hr) refl

name-inside : (x right : Lexeme) (rest : List Lexeme) (spelt : List ℕ) → meaning x ≡ Name spelt → meaning right ≡ Sign sign.Quote
    → key_inside (x ∷ right ∷ rest) ≡ Ok (tree_key.Constant spelt, rest)
unfolding key_inside
name-inside x right rest spelt h hr = rw (one-reads pick_key x (right ∷ rest) (of_name spelt) (ap pick_key h), mark-reads mark.Quote right rest hr) refl

key-reads : {from rest : List Lexeme} {k : Key} → IsKey from k rest → key_at from ≡ Ok (k, rest)
unfolding key_at
key-reads (any {x} {rest} h) = rw (one-reads pick_star x rest true (ap pick_star h)) refl
key-reads (quoted_any {left} {x} {right} {rest} hl h hr) = key-in-quotes left (x ∷ right ∷ rest) rest tree_key.Any hl (any-inside x right rest h hr)
key-reads (literal (quoted {left} {right} {from} {rest} {lit} hl l hr)) = key-in-quotes left from rest (tree_key.Lit lit) hl (key_inside-reads l hr)
key-reads (constant {left} {x} {right} {rest} {name = spelt} hl h hr) =
    key-in-quotes left (x ∷ right ∷ rest) rest (tree_key.Constant spelt) hl (name-inside x right rest spelt h hr)

key-closed : Closed IsKey key_at
key-closed = record { reads = λ p. key-reads p; shortens = λ p. key-shorter p }

key-begins : {from rest : List Lexeme} {k : Key} → IsKey from k rest → begins_with begins_key from ≡ true
key-begins (any h) = ap begins_key h
key-begins (quoted_any hl h hr) = ap begins_key hl
key-begins (literal (quoted hl l hr)) = ap begins_key hl
key-begins (constant hl h hr) = ap begins_key hl

keys-begin : {from rest : List Lexeme} {ks : List Key} → Listed IsKey from ks rest → begins_with begins_key from ≡ true
keys-begin (last p) = key-begins p
keys-begin (more p hc ps) = key-begins p

-- a name follows the keys
pub keys-read : {from rest : List Lexeme} {ks : List Key} (x : Lexeme) (spelt : List ℕ) → meaning x ≡ Name spelt → IsKeys from ks (x ∷ rest) → keys_at from ≡ Ok (ks, x ∷ rest)
unfolding keys_at
keys-read x spelt h trees.none = cond-false _ _ _ (ap begins_key h)
keys-read x spelt h (trees.some ks) = cond-true _ _ _ (keys-begin ks) ∙ listed-reads key-closed ks (ap (is_mark mark.Comma) h)

-- ---- types

record Starts (from rest : List Lexeme) (s : Simple) : Type 0 where
  pub x : Lexeme
  pub mid : List Lexeme
  pub w : Word
  pub whole : from ≡ x ∷ mid
  pub means : meaning x ≡ Taken w
  pub typed : is_type_word w ≡ true
  pub goes : simple_from w mid ≡ Ok (s, rest)

abbrev with_number : {A : Type 0} → (ℕ → A) → ℕ × List Lexeme → Read A
with_number f n = Ok (f n.0, n.1)

sized : {A : Type 0} (read : Read ℕ) (f : ℕ → A) (n : ℕ) (rest : List Lexeme) → read ≡ Ok (n, rest) → (read >>= with_number f) ≡ with_number f (n, rest)
sized read f n rest e = ap (λ (r : Read ℕ). r >>= with_number f) e

starts : {from rest : List Lexeme} {s : Simple} → IsSimple from s rest → Starts from rest s
starts (bit {x} {rest} h) = record { x = x; mid = rest; w = word.Bit; whole = refl; means = h; typed = refl; goes = refl }
starts (byte {x} {rest} h) = record { x = x; mid = rest; w = word.Byte; whole = refl; means = h; typed = refl; goes = refl }
starts (uint {x} {y} {rest} {n} h h') = record {
  x = x;
  mid = y ∷ rest;
  w = word.Uint;
  whole = refl;
  means = h;
  typed = refl;
  goes = sized (number_at (y ∷ rest)) (λ n. tree_simple.Uint (width n)) n rest (number-reads y rest n h');
}
starts (int {x} {y} {rest} {n} h h') = record {
  x = x;
  mid = y ∷ rest;
  w = word.Int;
  whole = refl;
  means = h;
  typed = refl;
  goes = sized (number_at (y ∷ rest)) (λ n. tree_simple.Int (width n)) n rest (number-reads y rest n h');
}
starts (float {x} {y} {rest} {n} h h') = record {
  x = x;
  mid = y ∷ rest;
  w = word.Float;
  whole = refl;
  means = h;
  typed = refl;
  goes = sized (number_at (y ∷ rest)) (λ n. tree_simple.Float (width n)) n rest (number-reads y rest n h');
}

pub simple-reads : {from rest : List Lexeme} {s : Simple} → IsSimple from s rest → simple_at from ≡ Ok (s, rest)
unfolding simple_at
simple-reads p =
    let t = starts p in
    rw (t.whole, one-reads pick_simple t.x t.mid t.w (ap pick_simple t.means ∙ cond-true _ _ _ t.typed)) t.goes

picks-word : (x : Lexeme) (w : Word) → meaning x ≡ Taken w → is_type_word w ≡ true → pick_kind (meaning x) ≡ Ok (by_word w)
picks-word x w h typed = ap pick_kind h ∙ cond-true _ _ _ typed

picks-name : (x : Lexeme) (spelt : List ℕ) → IsTypeName x spelt → pick_kind (meaning x) ≡ Ok (by_name spelt)
picks-name x spelt h = ap pick_kind h.0 ∙ cond-false _ _ _ h.1

pub kind-reads : {from rest : List Lexeme} {r : Ref} → IsKind from r rest → kind_at from ≡ Ok (r, rest)
unfolding kind_at
kind-reads (plain p) = let t = starts p in rw (t.whole, one-reads pick_kind t.x t.mid (by_word t.w) (picks-word t.x t.w t.means t.typed), t.goes) refl
kind-reads (named {x} {rest} {name = spelt} h) = rw (one-reads pick_kind x rest (by_name spelt) (picks-name x spelt h)) refl

expression-closed : {limit : ℕ} → Closed (Quoted limit) (read_quoted limit)
expression-closed = record { reads = λ p. read-quoted p; shortens = λ p. quoted-shorter p }

args-none : (limit : ℕ) (rest : List Lexeme) → begins_with (is_mark mark.LeftParenthesis) rest ≡ false → args_at limit rest ≡ Ok ([], rest)
unfolding args_at
args-none limit rest h = cond-false _ _ _ h

args_inside-read : {limit : ℕ} {from rest : List Lexeme} {args : List Expr} (left right : Lexeme) → meaning left ≡ Sign sign.LeftParenthesis
    → Listed (Quoted limit) from args (right ∷ rest) → meaning right ≡ Sign sign.RightParenthesis → args_inside limit (left ∷ from) ≡ Ok (args, rest)
unfolding args_inside
args_inside-read {from} {rest} left right hl ps hr =
    rw (mark-reads mark.LeftParenthesis left from hl, listed-reads expression-closed ps (ap (is_mark mark.Comma) hr), mark-reads mark.RightParenthesis right rest hr) refl

args-some : {limit : ℕ} {from rest : List Lexeme} {args : List Expr} (left right : Lexeme) → meaning left ≡ Sign sign.LeftParenthesis
    → Listed (Quoted limit) from args (right ∷ rest) → meaning right ≡ Sign sign.RightParenthesis → args_at limit (left ∷ from) ≡ Ok (args, rest)
unfolding args_at
args-some left right hl ps hr = cond-true _ _ _ (is-marked mark.LeftParenthesis left hl) ∙ args_inside-read left right hl ps hr

-- no parenthesis follows
pub ref-reads : {limit : ℕ} {from rest : List Lexeme} {r : Ref} → IsRef limit from r rest → begins_with (is_mark mark.LeftParenthesis) rest ≡ false → ref_at limit from ≡ Ok (r, rest)
unfolding ref_at
ref-reads (kind (plain p)) h' = let t = starts p in rw (t.whole, one-reads pick_kind t.x t.mid (by_word t.w) (picks-word t.x t.w t.means t.typed), t.goes) refl
ref-reads {limit} (kind (named {x} {rest} {name = spelt} h)) h' = rw (one-reads pick_kind x rest (by_name spelt) (picks-name x spelt h), args-none limit rest h') refl
ref-reads (arguments {x} {left} {right} {from} {rest} {name = spelt} h hl ps hr) h' =
    rw (one-reads pick_kind x (left ∷ from) (by_name spelt) (picks-name x spelt h), args-some left right hl ps hr) refl

-- ---- parameters and byte orders

pub param-reads : {from rest : List Lexeme} {p : Param} → IsParam from p rest → param_at from ≡ Ok (p, rest)
unfolding param_at
param-reads (param {x} {rest} {name = spelt} k h) = rw (kind-reads k, name-reads x rest spelt h) refl

param-closed : Closed IsParam param_at
param-closed = record { reads = λ p. param-reads p; shortens = λ p. param-shorter p }

params_inside-read : {from rest : List Lexeme} {ps : List Param} (left right : Lexeme) → meaning left ≡ Sign sign.LeftParenthesis
    → Listed IsParam from ps (right ∷ rest) → meaning right ≡ Sign sign.RightParenthesis → params_inside (left ∷ from) ≡ Ok (ps, rest)
unfolding params_inside
params_inside-read {from} {rest} left right hl ps hr =
    rw (mark-reads mark.LeftParenthesis left from hl, listed-reads param-closed ps (ap (is_mark mark.Comma) hr), mark-reads mark.RightParenthesis right rest hr) refl

pub params-read : {from rest : List Lexeme} {ps : List Param} → IsParams from ps rest → begins_with (is_mark mark.LeftParenthesis) rest ≡ false → params_at from ≡ Ok (ps, rest)
unfolding params_at
params-read none h = cond-false _ _ _ h
params-read (some {left} {right} hl ps hr) h = cond-true _ _ _ (is-marked mark.LeftParenthesis left hl) ∙ params_inside-read left right hl ps hr

order-named : (o : ByteOrder) → pick_order (Name (order_name o)) ≡ Ok o
unfolding order_word_of
order-named Big = refl
order-named Little = refl

order_inside-reads : (x equal left y right : Lexeme) (rest : List Lexeme) (o : ByteOrder) → meaning x ≡ Name (codes "byteOrder") → meaning equal ≡ Sign sign.Equal
    → meaning left ≡ Sign sign.Quote → meaning y ≡ Name (order_name o) → meaning right ≡ Sign sign.Quote
    → order_inside (x ∷ equal ∷ left ∷ y ∷ right ∷ rest) ≡ Ok (Some o, rest)
unfolding order_inside
order_inside-reads x equal left y right rest o h he hl hy hr =
    rw (
      word-reads (codes "byteOrder") x (equal ∷ left ∷ y ∷ right ∷ rest) h,
      mark-reads mark.Equal equal (left ∷ y ∷ right ∷ rest) he,
      mark-reads mark.Quote left (y ∷ right ∷ rest) hl,
      one-reads pick_order y (right ∷ rest) o (ap pick_order hy ∙ order-named o),
      mark-reads mark.Quote right rest hr,
    ) refl

pub order-reads : {from rest : List Lexeme} {o : Option ByteOrder} → IsOrder from o rest → begins_with (is_word (codes "byteOrder")) rest ≡ false → order_at from ≡ Ok (o, rest)
unfolding order_at
order-reads none h = cond-false _ _ _ h
order-reads (given {x} {equal} {left} {y} {right} {rest} {order} hx he hl hy hr) h =
    cond-true _ _ _ (is-worded (codes "byteOrder") x hx) ∙ order_inside-reads x equal left y right rest order hx he hl hy hr

-- ---- constants

quoted_lit-closed : Closed IsQuotedLit quoted_lit_at
quoted_lit-closed = record { reads = λ p. quoted_lit-reads p; shortens = λ p. quoted_lit-shorter p }

attributes_inside-read : {from rest : List Lexeme} {ls : List Lit} (left right : Lexeme) → meaning left ≡ Sign sign.LeftBracket
    → Listed IsQuotedLit from ls (right ∷ rest) → meaning right ≡ Sign sign.RightBracket → attributes_inside (left ∷ from) ≡ Ok (ls, rest)
unfolding attributes_inside
attributes_inside-read {from} {rest} left right hl ls hr =
    rw (mark-reads mark.LeftBracket left from hl, listed-reads quoted_lit-closed ls (ap (is_mark mark.Comma) hr), mark-reads mark.RightBracket right rest hr) refl

attributes-read : {from rest : List Lexeme} {ls : List Lit} → IsAttributes from ls rest → begins_with (is_mark mark.LeftBracket) rest ≡ false → attributes_at from ≡ Ok (ls, rest)
unfolding attributes_at
attributes-read none h = cond-false _ _ _ h
attributes-read (some {left} {right} hl ls hr) h = cond-true _ _ _ (is-marked mark.LeftBracket left hl) ∙ attributes_inside-read left right hl ls hr

constant-reads : {from rest : List Lexeme} {c : Constant} → IsConstant from c rest → constant_at from ≡ Ok (c, rest)
unfolding constant_at
constant-reads (constant {left} {x} {right} {from} {behind} {rest} {name = spelt} hl v hx a hr) =
    rw (
      mark-reads mark.LeftBracket left from hl,
      quoted_lit-reads v,
      name-reads x behind spelt hx,
      attributes-read a (ap (is_mark mark.LeftBracket) hr),
      mark-reads mark.RightBracket right rest hr,
    ) refl

pub constant-closed : Closed IsConstant constant_at
constant-closed = record { reads = λ p. constant-reads p; shortens = λ p. constant-shorter p }

pub constant-begins : {from rest : List Lexeme} {c : Constant} → IsConstant from c rest → begins_with (is_mark mark.LeftBracket) from ≡ true
constant-begins (constant {left} hl v hx a hr) = is-marked mark.LeftBracket left hl
