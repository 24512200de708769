-- A tree of lexemes that are spelt as tokens are has the form that the grammar can give.
use Rattle.std.proofs.Common.{ℕ, ◌≡◌, ◌^◌, Bool, true, false, not, ◌&&◌, ◌||◌, List, [], ◌∷◌, Option, None, refl, sym, ap, ◌∙◌}
use Rattle.std.specs.Prelude.{nat_lt, if◌then◌else◌}
use Rattle.std.specs.List.{AllByRecursion, list_all}
use Rattle.std.specs.Str.{bytes_eq}
use Rattle.std.specs.Cmp.Derive.{both_true}
use Rattle.std.proofs.lemmas.Bool.{le-leb, false_from_ne_true}
use Rattle.std.proofs.lemmas.Slice.Eq.{bytes_eq-Decides}
use Rattle.mspec_tree.specs.declared.words.Place.{Place}
use Rattle.mspec_tree.specs.declared.words.ByteOrder.{ByteOrder}
use Rattle.mspec_tree.specs.declared.words.Lit.{Lit}
use Rattle.mspec_tree.specs.declared.words.Lit.TheVariants.{Num, Flag}
use Rattle.mspec_tree.specs.declared.words.Key.{Key}
use Rattle.mspec_tree.specs.declared.words.Simple.{Simple}
use Rattle.mspec_tree.specs.declared.exprs.Expr.{Expr, fold-Expr, fold-roll-Expr}
use Rattle.mspec_tree.specs.declared.exprs.Shape.{Shape, Shape-F, roll-Shape, fold-Shape, map-Shape, fold-roll-Shape}
use Rattle.mspec_tree.specs.declared.exprs.Shape.TheOpen as layer
use Rattle.mspec_tree.specs.declared.exprs.Shape.TheVariants as shape
use Rattle.mspec_tree.specs.declared.exprs.Ref.{Ref}
use Rattle.mspec_tree.specs.declared.exprs.Ref.TheVariants.{Plain, Named}
use Rattle.mspec_tree.specs.declared.fields.Field.{Field}
use Rattle.mspec_tree.specs.declared.fields.Body.{Body, out-Body, out-roll-Body, roll-Body}
use Rattle.mspec_tree.specs.declared.fields.Body.TheOpen.{Body-F}
use Rattle.mspec_tree.specs.declared.fields.Body.TheOpen as open_body
use Rattle.mspec_tree.specs.declared.fields.Body.TheVariants as body
use Rattle.mspec_tree.specs.declared.fields.Case.{Case, out-roll-Case}
use Rattle.mspec_tree.specs.declared.defs.Param.{Param}
use Rattle.mspec_tree.specs.declared.defs.Constant.{Constant}
use Rattle.mspec_tree.specs.declared.defs.Def.{Def}
use Rattle.mspec_tree.specs.declared.defs.Description.{Description}
use Rattle.mspec_tree.specs.Depth.{depth, depth_limit}
use Rattle.mspec_tree.specs.Form.{is_name, is_type_name, is_free_name, is_lit, is_key, is_simple, is_layer, is_expr, is_kind, is_ref, is_body, is_field, is_case, are_names, is_switch_body, is_switch, is_param, is_constant, is_def, IsWritten}
use Rattle.mspec_lexer.specs.Lexemes.{Lexeme}
use Rattle.mspec_grammar.specs.Meanings.{Meaning, meaning, Number, Sign, Taken, Name, static_call}
use Rattle.mspec_grammar.specs.Expressions.{at, IsFree, CaseName, Stands, Quoted, tighter, condition, two, negation, minus, path, length_of, null, name, cur_pos, last_item, sum_bytes, xor_bytes, count, cast, grouped}
use Rattle.mspec_grammar.specs.Expressions as expression
use Rattle.mspec_grammar.specs.Parts.{Many, Listed, IsNamed, IsLit, IsQuotedLit, IsConstLit, IsKey, IsSimple, IsTypeName, IsKind, IsRef, IsParam, IsParams, IsOrder, IsAttributes, IsConstant, width, none, more, last, named, number, negative, yes, no, quoted, bare, any, quoted_any, literal, constant, bit, byte, uint, int, float, plain, kind, arguments, param, some, given}
use Rattle.mspec_grammar.specs.Trees as trees
use Rattle.mspec_grammar.specs.Trees.{IsBody, IsField, IsKeys, IsCase, IsSwitch, IsMember, IsHead, IsDef, Tree, simple, discriminator, const, reserved, implicit, virtual, optional, checksum, padding, by_count, by_length, field, case, switch, head, type_, discriminated, data_io, enum}

-- ---- lexemes

-- what the meaning of a token is: a number below 2^128, or a name that is spelt as names are
abbrev pub proper : Meaning → Bool
proper (Number n) = nat_lt n (2 ^ 128)
proper (Name bytes) = is_name bytes
proper (Sign symbol) = true
proper (Taken word) = true

abbrev pub IsProper : Lexeme → Type 0
IsProper x = proper (meaning x) ≡ true

abbrev pub AreProper : List Lexeme → Type 0
AreProper xs = AllByRecursion IsProper xs

name-of : (x : Lexeme) (bytes : List ℕ) → IsProper x → meaning x ≡ Name bytes → is_name bytes ≡ true
name-of x bytes p h = sym (ap proper h) ∙ p

number-of : (x : Lexeme) (n : ℕ) → IsProper x → meaning x ≡ Number n → nat_lt n (2 ^ 128) ≡ true
number-of x n p h = sym (ap proper h) ∙ p

-- a test of what was read holds, and what is left has proper lexemes still
record Kept (test : Bool) (rest : List Lexeme) : Type 0 where
  pub holds : test ≡ true
  pub left : AreProper rest

-- a part passes a test wherever it is read of proper lexemes
record Keeps {A : Type 0} (Part : List Lexeme → A → List Lexeme → Type 0) (test : A → Bool) : Type 0 where
  pub by : {from rest : List Lexeme} {a : A} → Part from a rest → AreProper from → Kept (test a) rest

-- ---- expressions

abbrev has_form : Expr → Bool
has_form e = fold-Expr Bool Bool is_layer (λ layer. layer.shape) e

form-layer : (x : Lexeme) (form : Shape-F Shape Expr)
    → has_form (at x (roll-Shape form)) ≡ is_layer (map-Shape Shape Expr Bool Bool (fold-Shape Bool Bool is_layer (λ layer. layer.shape)) (fold-Expr Bool Bool is_layer (λ layer. layer.shape)) form)
form-layer x form =
    fold-roll-Expr Bool Bool is_layer (λ layer. layer.shape) (record { place = x.place; shape = roll-Shape form })
    ∙ fold-roll-Shape Bool Bool is_layer (λ layer. layer.shape) form

-- the form of an expression of this shape
by-layer : (x : Lexeme) (s : Shape) (form : Shape-F Shape Expr) → roll-Shape form ≡ s
    → is_layer (map-Shape Shape Expr Bool Bool (fold-Shape Bool Bool is_layer (λ layer. layer.shape)) (fold-Expr Bool Bool is_layer (λ layer. layer.shape)) form) ≡ true
    → has_form (at x s) ≡ true
by-layer x s form rolls h = ap (λ (s : Shape). has_form (at x s)) (sym rolls) ∙ form-layer x form ∙ h

free-name : (x : Lexeme) (bytes : List ℕ) → IsProper x → IsFree x bytes → is_free_name bytes ≡ true
free-name x bytes p f =
    let other : bytes_eq bytes static_call ≡ false = false_from_ne_true (bytes_eq bytes static_call) (λ t. f.1 ((bytes_eq-Decides bytes static_call).0 t)) in
    both_true (name-of x bytes p f.0) (ap not other)

case-name-kept : {from rest : List Lexeme} {bytes : List ℕ} → CaseName from bytes rest → AreProper from → Kept (is_free_name bytes) rest
case-name-kept (expression.bare {x} {name = bytes} f) p = record { holds = free-name x bytes p.0 f; left = p.1 }
case-name-kept (expression.quoted {x} {name = bytes} hl f hr) p =
    record { holds = free-name x bytes p.1.0 f; left = p.1.1.1 }

stands-kept : {l : ℕ} {from rest : List Lexeme} {e : Expr} → Stands l from e rest → AreProper from → Kept (has_form e) rest
stands-kept (tighter h s) p = stands-kept s p
stands-kept (condition {question} {c} {a} {b} sc hq sa hc sb) p =
    let c' = stands-kept sc p in
    let a' = stands-kept sa c'.left.1 in
    let b' = stands-kept sb a'.left.1 in
    record {
      holds = by-layer question (shape.If c a b) (layer.If c a b) (shape.rolls-If c a b) (both_true c'.holds (both_true a'.holds b'.holds));
      left = b'.left;
    }
stands-kept (two {x} {operator} {a} {b} h sa hx sb) p =
    let a' = stands-kept sa p in
    let b' = stands-kept sb a'.left.1 in
    record {
      holds = by-layer x (shape.Two operator a b) (layer.Two operator a b) (shape.rolls-Two operator a b) (both_true a'.holds b'.holds);
      left = b'.left;
    }
stands-kept (negation {x} {e} h s) p =
    let s' = stands-kept s p.1 in
    record { holds = by-layer x (shape.Not e) (layer.Not e) (shape.rolls-Not e) s'.holds; left = s'.left }
stands-kept (minus {x} {e} h s) p =
    let s' = stands-kept s p.1 in
    record { holds = by-layer x (shape.Neg e) (layer.Neg e) (shape.rolls-Neg e) s'.holds; left = s'.left }
stands-kept (path {x} {named = behind} {name = bytes} {e} s h f) p =
    let s' = stands-kept s p in
    record {
      holds = by-layer x (shape.Dot e bytes) (layer.Dot e bytes) (shape.rolls-Dot e bytes) (both_true s'.holds (free-name behind bytes s'.left.1.0 f));
      left = s'.left.1.1;
    }
stands-kept (length_of {x} {e} s h h') p =
    let s' = stands-kept s p in
    record { holds = by-layer x (shape.LengthOf e) (layer.LengthOf e) (shape.rolls-LengthOf e) s'.holds; left = s'.left.1.1 }
stands-kept (expression.number {x} {n} h) p =
    record {
      holds = by-layer x (shape.Lit (Num false n)) (layer.Lit (Num false n)) (shape.rolls-Lit (Num false n)) (number-of x n p.0 h);
      left = p.1;
    }
stands-kept (expression.yes {x} h) p =
    record { holds = by-layer x (shape.Lit (Flag true)) (layer.Lit (Flag true)) (shape.rolls-Lit (Flag true)) refl; left = p.1 }
stands-kept (expression.no {x} h) p =
    record { holds = by-layer x (shape.Lit (Flag false)) (layer.Lit (Flag false)) (shape.rolls-Lit (Flag false)) refl; left = p.1 }
stands-kept (null {x} h) p = record { holds = by-layer x shape.Null layer.Null shape.rolls-Null refl; left = p.1 }
stands-kept (name {x} {name = bytes} f) p =
    record { holds = by-layer x (shape.Name bytes) (layer.Name bytes) (shape.rolls-Name bytes) (free-name x bytes p.0 f); left = p.1 }
stands-kept (cur_pos {x} h) p = record { holds = by-layer x shape.CurPos layer.CurPos shape.rolls-CurPos refl; left = p.1 }
stands-kept (expression.length {x} h) p = record { holds = by-layer x shape.Length layer.Length shape.rolls-Length refl; left = p.1 }
stands-kept (last_item {x} h) p = record { holds = by-layer x shape.LastItem layer.LastItem shape.rolls-LastItem refl; left = p.1 }
stands-kept (sum_bytes {x} h) p = record { holds = by-layer x shape.SumBytes layer.SumBytes shape.rolls-SumBytes refl; left = p.1 }
stands-kept (xor_bytes {x} h) p = record { holds = by-layer x shape.XorBytes layer.XorBytes shape.rolls-XorBytes refl; left = p.1 }
stands-kept (count {x} {e} h hl s hr) p =
    let s' = stands-kept s p.1.1 in
    record { holds = by-layer x (shape.Count e) (layer.Count e) (shape.rolls-Count e) s'.holds; left = s'.left.1 }
stands-kept (cast {x} {e} {name = bytes} h hl s hc n hr) p =
    let s' = stands-kept s p.1.1 in
    let n' = case-name-kept n s'.left.1 in
    record {
      holds = by-layer x (shape.Cast e bytes) (layer.Cast e bytes) (shape.rolls-Cast e bytes) (both_true s'.holds n'.holds);
      left = n'.left.1;
    }
stands-kept (grouped hl s hr) p = let s' = stands-kept s p.1 in record { holds = s'.holds; left = s'.left.1 }

quoted-kept : {from rest : List Lexeme} {e : Expr} → Quoted depth_limit from e rest → AreProper from → Kept (is_expr e) rest
quoted-kept (expression.quoted {e} hl s hr fits) p =
    let s' = stands-kept s p.1 in
    record { holds = both_true s'.holds (le-leb (depth e) depth_limit fits); left = s'.left.1 }

quoted-keeps : Keeps (Quoted depth_limit) is_expr
quoted-keeps = record { by = λ q p. quoted-kept q p }

-- ---- lists

module _ {A : Type 0} {Part : List Lexeme → A → List Lexeme → Type 0} {test : A → Bool} (keeps : Keeps Part test) where
  many-kept : {from rest : List Lexeme} {parts : List A} → Many Part from parts rest → AreProper from → Kept (list_all test parts) rest
  many-kept none p = record { holds = refl; left = p }
  many-kept (more part others) p =
      let a' = keeps.by part p in
      let others' = many-kept others a'.left in
      record { holds = both_true a'.holds others'.holds; left = others'.left }

  listed-kept : {from rest : List Lexeme} {parts : List A} → Listed Part from parts rest → AreProper from → Kept (list_all test parts) rest
  listed-kept (last part) p = let a' = keeps.by part p in record { holds = both_true a'.holds refl; left = a'.left }
  listed-kept (more part h others) p =
      let a' = keeps.by part p in
      let others' = listed-kept others a'.left.1 in
      record { holds = both_true a'.holds others'.holds; left = others'.left }

-- ---- literals and keys

lit-kept : {from rest : List Lexeme} {l : Lit} → IsLit from l rest → AreProper from → Kept (is_lit l) rest
lit-kept (number {x} {n} h) p = record { holds = number-of x n p.0 h; left = p.1 }
lit-kept (negative {x} {n} h h') p = record { holds = number-of x n p.1.0 h'; left = p.1.1 }
lit-kept (yes h) p = record { holds = refl; left = p.1 }
lit-kept (no h) p = record { holds = refl; left = p.1 }

quoted-lit-kept : {from rest : List Lexeme} {l : Lit} → IsQuotedLit from l rest → AreProper from → Kept (is_lit l) rest
quoted-lit-kept (quoted hl l hr) p = let l' = lit-kept l p.1 in record { holds = l'.holds; left = l'.left.1 }

quoted-lit-keeps : Keeps IsQuotedLit is_lit
quoted-lit-keeps = record { by = λ q p. quoted-lit-kept q p }

const-lit-kept : {from rest : List Lexeme} {l : Lit} → IsConstLit from l rest → AreProper from → Kept (is_lit l) rest
const-lit-kept (bare l) p = lit-kept l p
const-lit-kept (quoted l) p = quoted-lit-kept l p

key-kept : {from rest : List Lexeme} {k : Key} → IsKey from k rest → AreProper from → Kept (is_key k) rest
key-kept (any h) p = record { holds = refl; left = p.1 }
key-kept (quoted_any hl h hr) p = record { holds = refl; left = p.1.1.1 }
key-kept (literal l) p = let l' = quoted-lit-kept l p in record { holds = l'.holds; left = l'.left }
key-kept (constant {x} {name = bytes} hl h hr) p = record { holds = name-of x bytes p.1.0 h; left = p.1.1.1 }

key-keeps : Keeps IsKey is_key
key-keeps = record { by = λ q p. key-kept q p }

keys-kept : {from rest : List Lexeme} {ks : List Key} → IsKeys from ks rest → AreProper from → Kept (list_all is_key ks) rest
keys-kept trees.none p = record { holds = refl; left = p }
keys-kept (trees.some keys) p = listed-kept key-keeps keys p

-- ---- types

fits-either : (n : ℕ) (b : Bool) → nat_lt n 256 ≡ b → nat_lt (if b then n else 255) 256 ≡ true
fits-either n true h = h
fits-either n false h = refl

width-fits : (n : ℕ) → nat_lt (width n) 256 ≡ true
width-fits n = fits-either n (nat_lt n 256) refl

simple-kept : {from rest : List Lexeme} {s : Simple} → IsSimple from s rest → AreProper from → Kept (is_simple s) rest
simple-kept (bit h) p = record { holds = refl; left = p.1 }
simple-kept (byte h) p = record { holds = refl; left = p.1 }
simple-kept (uint {n} h h') p = record { holds = width-fits n; left = p.1.1 }
simple-kept (int {n} h h') p = record { holds = width-fits n; left = p.1.1 }
simple-kept (float {n} h h') p = record { holds = width-fits n; left = p.1.1 }

type-name : (x : Lexeme) (bytes : List ℕ) → IsProper x → IsTypeName x bytes → is_type_name bytes ≡ true
type-name x bytes p h = both_true (name-of x bytes p h.0) (ap not h.1)

kind-kept : {from rest : List Lexeme} {r : Ref} → IsKind from r rest → AreProper from → Kept (is_kind r) rest
kind-kept (plain s) p = let s' = simple-kept s p in record { holds = s'.holds; left = s'.left }
kind-kept (named {x} {name = bytes} h) p = record { holds = type-name x bytes p.0 h; left = p.1 }

-- a type without arguments is one with none
kind-ref : (r : Ref) → is_kind r ≡ true → is_ref r ≡ true
kind-ref (Plain written) h = h
kind-ref (Named place bytes []) h = both_true h refl
kind-ref (Named place bytes (arg ∷ args)) h = absurd (cc)

ref-kept : {from rest : List Lexeme} {r : Ref} → IsRef depth_limit from r rest → AreProper from → Kept (is_ref r) rest
ref-kept (kind {ref = r} k) p = let k' = kind-kept k p in record { holds = kind-ref r k'.holds; left = k'.left }
ref-kept (arguments {x} {name = bytes} h hl list hr) p =
    let list' = listed-kept quoted-keeps list p.1.1 in
    record { holds = both_true (type-name x bytes p.0 h) list'.holds; left = list'.left.1 }

-- ---- parameters, byte orders and constants

param-kept : {from rest : List Lexeme} {p : Param} → IsParam from p rest → AreProper from → Kept (is_param p) rest
param-kept (param {x} {name = bytes} k h) p =
    let k' = kind-kept k p in
    record { holds = both_true k'.holds (name-of x bytes k'.left.0 h); left = k'.left.1 }

param-keeps : Keeps IsParam is_param
param-keeps = record { by = λ q p. param-kept q p }

params-kept : {from rest : List Lexeme} {ps : List Param} → IsParams from ps rest → AreProper from → Kept (list_all is_param ps) rest
params-kept none p = record { holds = refl; left = p }
params-kept (some hl list hr) p = let list' = listed-kept param-keeps list p.1 in record { holds = list'.holds; left = list'.left.1 }

order-kept : {from rest : List Lexeme} {o : Option ByteOrder} → IsOrder from o rest → AreProper from → AreProper rest
order-kept none p = p
order-kept (given h he hl hy hr) p = p.1.1.1.1.1

attributes-kept : {from rest : List Lexeme} {ls : List Lit} → IsAttributes from ls rest → AreProper from → Kept (list_all is_lit ls) rest
attributes-kept none p = record { holds = refl; left = p }
attributes-kept (some hl list hr) p = let list' = listed-kept quoted-lit-keeps list p.1 in record { holds = list'.holds; left = list'.left.1 }

constant-kept : {from rest : List Lexeme} {c : Constant} → IsConstant from c rest → AreProper from → Kept (is_constant c) rest
constant-kept (constant {x} {name = bytes} hl v hx a hr) p =
    let v' = quoted-lit-kept v p.1 in
    let a' = attributes-kept a v'.left.1 in
    record { holds = both_true v'.holds (both_true (name-of x bytes v'.left.0 hx) a'.holds); left = a'.left.1 }

constant-keeps : Keeps IsConstant is_constant
constant-keeps = record { by = λ q p. constant-kept q p }

-- ---- fields

-- the body has the form that fits its name
abbrev fits : List ℕ → Body → Bool
fits bytes b = is_body bytes (out-Body b)

by-body : (bytes : List ℕ) (b : Body) (l : Body-F Body Case Field) → roll-Body l ≡ b → is_body bytes l ≡ true → fits bytes b ≡ true
by-body bytes b l rolls h = ap (λ (l : Body-F Body Case Field). is_body bytes l) (ap out-Body (sym rolls) ∙ out-roll-Body l) ∙ h

body-kept : {bracket place : Place} {bytes : List ℕ} {from rest : List Lexeme} {b : Body} → IsBody depth_limit bracket from place bytes b rest → AreProper from
    → Kept (fits bytes b) rest
body-kept (simple {x} {ref} {name = bytes} hw r hx) p =
    let r' = ref-kept r p.1 in
    record {
      holds = by-body bytes (body.Simple ref) (open_body.Simple ref) (body.rolls-Simple ref) (both_true (name-of x bytes r'.left.0 hx) r'.holds);
      left = r'.left.1;
    }
body-kept (discriminator {x} {kind = of} {name = bytes} hw k hx) p =
    let k' = kind-kept k p.1 in
    record {
      holds = by-body bytes (body.Discriminator of) (open_body.Discriminator of) (body.rolls-Discriminator of) (both_true (name-of x bytes k'.left.0 hx) k'.holds);
      left = k'.left.1;
    }
body-kept (const {x} {simple = written} {name = bytes} {lit} hw s hx l) p =
    let s' = simple-kept s p.1 in
    let l' = const-lit-kept l s'.left.1 in
    record {
      holds = by-body bytes (body.Const written lit) (open_body.Const written lit) (body.rolls-Const written lit)
          (both_true (name-of x bytes s'.left.0 hx) (both_true s'.holds l'.holds));
      left = l'.left;
    }
body-kept (reserved {simple = written} {lit} hw s l) p =
    let s' = simple-kept s p.1 in
    let l' = quoted-lit-kept l s'.left in
    record {
      holds = by-body [] (body.Reserved written lit) (open_body.Reserved written lit) (body.rolls-Reserved written lit) (both_true s'.holds l'.holds);
      left = l'.left;
    }
body-kept (implicit {x} {kind = of} {name = bytes} {e} hw k hx q) p =
    let k' = kind-kept k p.1 in
    let q' = quoted-kept q k'.left.1 in
    record {
      holds = by-body bytes (body.Implicit of e) (open_body.Implicit of e) (body.rolls-Implicit of e)
          (both_true (name-of x bytes k'.left.0 hx) (both_true k'.holds q'.holds));
      left = q'.left;
    }
body-kept (virtual {x} {kind = of} {name = bytes} {e} hw k hx q) p =
    let k' = kind-kept k p.1 in
    let q' = quoted-kept q k'.left.1 in
    record {
      holds = by-body bytes (body.Virtual of e) (open_body.Virtual of e) (body.rolls-Virtual of e)
          (both_true (name-of x bytes k'.left.0 hx) (both_true k'.holds q'.holds));
      left = q'.left;
    }
body-kept (optional {x} {ref} {name = bytes} {e} hw r hx q) p =
    let r' = ref-kept r p.1 in
    let q' = quoted-kept q r'.left.1 in
    record {
      holds = by-body bytes (body.Optional ref e) (open_body.Optional ref e) (body.rolls-Optional ref e)
          (both_true (name-of x bytes r'.left.0 hx) (both_true r'.holds q'.holds));
      left = q'.left;
    }
body-kept (checksum {x} {simple = written} {name = bytes} {e} hw s hx q) p =
    let s' = simple-kept s p.1 in
    let q' = quoted-kept q s'.left.1 in
    record {
      holds = by-body bytes (body.Checksum written e) (open_body.Checksum written e) (body.rolls-Checksum written e)
          (both_true (name-of x bytes s'.left.0 hx) (both_true s'.holds q'.holds));
      left = q'.left;
    }
body-kept (padding {x} {simple = written} {name = bytes} {lit} {e} hw s hx l q) p =
    let s' = simple-kept s p.1 in
    let l' = quoted-lit-kept l s'.left.1 in
    let q' = quoted-kept q l'.left in
    record {
      holds = by-body bytes (body.Padding written lit e) (open_body.Padding written lit e) (body.rolls-Padding written lit e)
          (both_true (name-of x bytes s'.left.0 hx) (both_true s'.holds (both_true l'.holds q'.holds)));
      left = q'.left;
    }
body-kept (by_count {x} {ref} {name = bytes} {e} hw r hx hh q) p =
    let r' = ref-kept r p.1 in
    let q' = quoted-kept q r'.left.1.1 in
    record {
      holds = by-body bytes (body.CountArray ref e) (open_body.CountArray ref e) (body.rolls-CountArray ref e)
          (both_true (name-of x bytes r'.left.0 hx) (both_true r'.holds q'.holds));
      left = q'.left;
    }
body-kept (by_length {x} {ref} {name = bytes} {e} hw r hx hh q) p =
    let r' = ref-kept r p.1 in
    let q' = quoted-kept q r'.left.1.1 in
    record {
      holds = by-body bytes (body.LengthArray ref e) (open_body.LengthArray ref e) (body.rolls-LengthArray ref e)
          (both_true (name-of x bytes r'.left.0 hx) (both_true r'.holds q'.holds));
      left = q'.left;
    }

field-form : (left : Lexeme) (place : Place) (bytes : List ℕ) (order : Option ByteOrder) (b : Body) → is_field (trees.field_at left place bytes order b) ≡ fits bytes b
field-form left place bytes order b = refl

field-kept : {from rest : List Lexeme} {f : Field} → IsField depth_limit from f rest → AreProper from → Kept (is_field f) rest
field-kept (field {left} {named = place} {name = bytes} {order} {form = b} hl inner o hr) p =
    let b' = body-kept inner p.1 in
    let o' = order-kept o b'.left in
    record { holds = field-form left place bytes order b ∙ b'.holds; left = o'.1 }

field-keeps : Keeps (IsField depth_limit) is_field
field-keeps = record { by = λ q p. field-kept q p }

-- ---- switches

case-kept : {from rest : List Lexeme} {c : Case} → IsCase depth_limit from c rest → AreProper from → Kept (is_case c) rest
case-kept (case {x} {name = bytes} hl ks hx fs hr) p =
    let ks' = keys-kept ks p.1 in
    let fs' = many-kept field-keeps fs ks'.left.1 in
    let spelt : is_name bytes ≡ true = name-of x bytes ks'.left.0 hx in
    record { holds = simp out-roll-Case (both_true ks'.holds (both_true spelt fs'.holds)); left = fs'.left.1 }

case-keeps : Keeps (IsCase depth_limit) is_case
case-keeps = record { by = λ q p. case-kept q p }

named-kept : {from rest : List Lexeme} {bytes : List ℕ} → IsNamed from bytes rest → AreProper from → Kept (is_name bytes) rest
named-kept (named {x} {name = bytes} h) p = record { holds = name-of x bytes p.0 h; left = p.1 }

named-keeps : Keeps IsNamed is_name
named-keeps = record { by = λ q p. named-kept q p }

are-names : {from rest : List Lexeme} {names : List (List ℕ)} → Listed IsNamed from names rest → list_all is_name names ≡ true → are_names names ≡ true
are-names (last part) h = h
are-names (more part hc others) h = h

switch-form : (left : Lexeme) (place : Place) (names : List (List ℕ)) (cases : List Case)
    → is_switch (trees.field_at left place [] None (body.Switch names cases)) ≡ (are_names names && list_all is_case cases)
switch-form left place names cases =
    ap is_switch_body (ap out-Body (sym (body.rolls-Switch names cases)) ∙ out-roll-Body (open_body.Switch names cases))

switch-kept : {from rest : List Lexeme} {f : Field} → IsSwitch depth_limit from f rest → AreProper from → Kept (is_switch f) rest
switch-kept (switch {left} {names} {cases} hl hw ns cs hr) p =
    let ns' = listed-kept named-keeps ns p.1.1 in
    let cs' = many-kept case-keeps cs ns'.left in
    record { holds = switch-form left left.place names cases ∙ both_true (are-names ns ns'.holds) cs'.holds; left = cs'.left.1 }

or-right : (s t : Bool) → t ≡ true → (s || t) ≡ true
or-right true t h = refl
or-right false t h = h

member-kept : {from rest : List Lexeme} {f : Field} → IsMember depth_limit from f rest → AreProper from → Kept (is_field f || is_switch f) rest
member-kept (field {f} inner) p = let f' = field-kept inner p in record { holds = ap (λ b. b || is_switch f) f'.holds; left = f'.left }
member-kept (switch {f} inner) p = let s' = switch-kept inner p in record { holds = or-right (is_field f) (is_switch f) s'.holds; left = s'.left }

member-keeps : Keeps (IsMember depth_limit) (λ f. is_field f || is_switch f)
member-keeps = record { by = λ q p. member-kept q p }

-- ---- definitions

record Headed (bytes : List ℕ) (params : List Param) (rest : List Lexeme) : Type 0 where
  pub spelt : is_name bytes ≡ true
  pub typed : list_all is_param params ≡ true
  pub left : AreProper rest

head-kept : {from rest : List Lexeme} {place : Place} {bytes : List ℕ} {params : List Param} {order : Option ByteOrder} → IsHead from place bytes params order rest
    → AreProper from → Headed bytes params rest
head-kept (head {x} {name = bytes} h ps o) p =
    let ps' = params-kept ps p.1 in
    let o' = order-kept o ps'.left in
    record { spelt = name-of x bytes p.0 h; typed = ps'.holds; left = o' }

def-kept : {from rest : List Lexeme} {d : Def} → IsDef depth_limit from d rest → AreProper from → Kept (is_def d) rest
def-kept (type_ hl hw h fs hr) p =
    let h' = head-kept h p.1.1 in
    let fs' = many-kept field-keeps fs h'.left in
    record { holds = both_true h'.spelt (both_true h'.typed (both_true refl fs'.holds)); left = fs'.left.1 }
def-kept (discriminated hl hw h fs hr) p =
    let h' = head-kept h p.1.1 in
    let fs' = many-kept member-keeps fs h'.left in
    record { holds = both_true h'.spelt (both_true h'.typed (both_true refl fs'.holds)); left = fs'.left.1 }
def-kept (data_io hl hw h s hr) p =
    let h' = head-kept h p.1.1 in
    let s' = switch-kept s h'.left in
    record { holds = both_true h'.spelt (both_true h'.typed (both_true refl s'.holds)); left = s'.left.1 }
def-kept (enum {x} {name = bytes} hl hw s hx ps cs hr) p =
    let s' = simple-kept s p.1.1 in
    let ps' = params-kept ps s'.left.1 in
    let cs' = many-kept constant-keeps cs ps'.left in
    record {
      holds = both_true (name-of x bytes s'.left.0 hx) (both_true ps'.holds (both_true refl (both_true s'.holds cs'.holds)));
      left = cs'.left.1;
    }

def-keeps : Keeps (IsDef depth_limit) is_def
def-keeps = record { by = λ q p. def-kept q p }

pub tree-form : (xs : List Lexeme) (d : Description) → AreProper xs → Tree depth_limit xs d → IsWritten d
tree-form xs d p t = (many-kept def-keeps t p).holds
