-- Each part of a description has a lexeme at least.
use Rattle.std.proofs.Common.{ℕ, ◌≤◌, ◌<◌, List, ◌∷◌, Option, length, arith}
use Rattle.mspec_tree.specs.declared.words.Place.{Place}
use Rattle.mspec_tree.specs.declared.words.ByteOrder.{ByteOrder}
use Rattle.mspec_tree.specs.declared.words.Lit.{Lit}
use Rattle.mspec_tree.specs.declared.words.Key.{Key}
use Rattle.mspec_tree.specs.declared.words.Simple.{Simple}
use Rattle.mspec_tree.specs.declared.exprs.Expr.{Expr}
use Rattle.mspec_tree.specs.declared.exprs.Ref.{Ref}
use Rattle.mspec_tree.specs.declared.fields.Field.{Field}
use Rattle.mspec_tree.specs.declared.fields.Body.{Body}
use Rattle.mspec_tree.specs.declared.fields.Case.{Case}
use Rattle.mspec_tree.specs.declared.defs.Param.{Param}
use Rattle.mspec_tree.specs.declared.defs.Constant.{Constant}
use Rattle.mspec_tree.specs.declared.defs.Def.{Def}
use Rattle.mspec_lexer.specs.Lexemes.{Lexeme}
use Rattle.mspec_grammar.specs.Expressions.{CaseName, Stands, Quoted, tighter, condition, two, negation, minus, path, length_of, null, name, cur_pos, last_item, sum_bytes, xor_bytes, count, cast, grouped}
use Rattle.mspec_grammar.specs.Expressions as expression
use Rattle.mspec_grammar.specs.Parts.{Many, Listed, IsNamed, IsLit, IsQuotedLit, IsConstLit, IsKey, IsSimple, IsKind, IsRef, IsParam, IsParams, IsOrder, IsAttributes, IsConstant, none, more, last, named, number, negative, yes, no, quoted, bare, any, quoted_any, literal, constant, bit, byte, uint, int, float, plain, kind, arguments, param, some, given}
use Rattle.mspec_grammar.specs.Trees as trees
use Rattle.mspec_grammar.specs.Trees.{IsBody, IsField, IsKeys, IsCase, IsSwitch, IsMember, IsHead, IsDef, Tree, simple, discriminator, const, reserved, implicit, virtual, optional, checksum, padding, by_count, by_length, field, case, switch, head, type_, discriminated, data_io, enum}

-- ---- expressions

case-name-shorter : {from rest : List Lexeme} {name : List ℕ} → CaseName from name rest → length rest < length from
case-name-shorter (expression.bare h) = omega arith
case-name-shorter (expression.quoted hl h hr) = omega arith

stands-shorter : {l : ℕ} {from rest : List Lexeme} {e : Expr} → Stands l from e rest → length rest < length from
stands-shorter (tighter h s) = stands-shorter s
stands-shorter (condition c hq a hc b) = let c' = stands-shorter c in let a' = stands-shorter a in let b' = stands-shorter b in omega arith
stands-shorter (two h a hx b) = let a' = stands-shorter a in let b' = stands-shorter b in omega arith
stands-shorter (negation h s) = let s' = stands-shorter s in omega arith
stands-shorter (minus h s) = let s' = stands-shorter s in omega arith
stands-shorter (path s h f) = let s' = stands-shorter s in omega arith
stands-shorter (length_of s h h') = let s' = stands-shorter s in omega arith
stands-shorter (expression.number h) = omega arith
stands-shorter (expression.yes h) = omega arith
stands-shorter (expression.no h) = omega arith
stands-shorter (null h) = omega arith
stands-shorter (name h) = omega arith
stands-shorter (cur_pos h) = omega arith
stands-shorter (expression.length h) = omega arith
stands-shorter (last_item h) = omega arith
stands-shorter (sum_bytes h) = omega arith
stands-shorter (xor_bytes h) = omega arith
stands-shorter (count h hl s hr) = let s' = stands-shorter s in omega arith
stands-shorter (cast h hl s hc n hr) = let s' = stands-shorter s in let n' = case-name-shorter n in omega arith
stands-shorter (grouped hl s hr) = let s' = stands-shorter s in omega arith

pub quoted-shorter : {limit : ℕ} {from rest : List Lexeme} {e : Expr} → Quoted limit from e rest → length rest < length from
quoted-shorter (expression.quoted hl s hr fits) = let s' = stands-shorter s in omega arith

-- ---- lists

many-shorter : {A : Type 0} {Part : List Lexeme → A → List Lexeme → Type 0} {from rest : List Lexeme} {parts : List A}
    → ((from : List Lexeme) (a : A) (rest : List Lexeme) → Part from a rest → length rest < length from)
    → Many Part from parts rest → length rest ≤ length from
many-shorter h none = omega arith
many-shorter h (more {from} {mid} {rest} {a} p ps) = let p' = h from a mid p in let ps' = many-shorter h ps in omega arith

listed-shorter : {A : Type 0} {Part : List Lexeme → A → List Lexeme → Type 0} {from rest : List Lexeme} {parts : List A}
    → ((from : List Lexeme) (a : A) (rest : List Lexeme) → Part from a rest → length rest < length from)
    → Listed Part from parts rest → length rest < length from
listed-shorter h (last {from} {rest} {a} p) = h from a rest p
listed-shorter h (more {from} {mid} {rest} {comma} {a} p hc ps) = let p' = h from a (comma ∷ mid) p in let ps' = listed-shorter h ps in omega arith

pub named-shorter : {from rest : List Lexeme} {name : List ℕ} → IsNamed from name rest → length rest < length from
named-shorter (named h) = omega arith

-- ---- literals and keys

lit-shorter : {from rest : List Lexeme} {lit : Lit} → IsLit from lit rest → length rest < length from
lit-shorter (number h) = omega arith
lit-shorter (negative h h') = omega arith
lit-shorter (yes h) = omega arith
lit-shorter (no h) = omega arith

pub quoted_lit-shorter : {from rest : List Lexeme} {lit : Lit} → IsQuotedLit from lit rest → length rest < length from
quoted_lit-shorter (quoted hl l hr) = let l' = lit-shorter l in omega arith

const_lit-shorter : {from rest : List Lexeme} {lit : Lit} → IsConstLit from lit rest → length rest < length from
const_lit-shorter (bare l) = lit-shorter l
const_lit-shorter (quoted l) = quoted_lit-shorter l

pub key-shorter : {from rest : List Lexeme} {k : Key} → IsKey from k rest → length rest < length from
key-shorter (any h) = omega arith
key-shorter (quoted_any hl h hr) = omega arith
key-shorter (literal l) = quoted_lit-shorter l
key-shorter (constant hl h hr) = omega arith

keys-shorter : {from rest : List Lexeme} {ks : List Key} → IsKeys from ks rest → length rest ≤ length from
keys-shorter trees.none = omega arith
keys-shorter (trees.some ks) = let ks' = listed-shorter (λ f a r p. key-shorter p) ks in omega arith

-- ---- types

simple-shorter : {from rest : List Lexeme} {s : Simple} → IsSimple from s rest → length rest < length from
simple-shorter (bit h) = omega arith
simple-shorter (byte h) = omega arith
simple-shorter (uint h h') = omega arith
simple-shorter (int h h') = omega arith
simple-shorter (float h h') = omega arith

kind-shorter : {from rest : List Lexeme} {r : Ref} → IsKind from r rest → length rest < length from
kind-shorter (plain s) = simple-shorter s
kind-shorter (named h) = omega arith

ref-shorter : {limit : ℕ} {from rest : List Lexeme} {r : Ref} → IsRef limit from r rest → length rest < length from
ref-shorter (kind k) = kind-shorter k
ref-shorter (arguments h hl args hr) = let args' = listed-shorter (λ f a r p. quoted-shorter p) args in omega arith

pub param-shorter : {from rest : List Lexeme} {p : Param} → IsParam from p rest → length rest < length from
param-shorter (param k h) = let k' = kind-shorter k in omega arith

params-shorter : {from rest : List Lexeme} {ps : List Param} → IsParams from ps rest → length rest ≤ length from
params-shorter none = omega arith
params-shorter (some hl ps hr) = let ps' = listed-shorter (λ f a r p. param-shorter p) ps in omega arith

order-shorter : {from rest : List Lexeme} {o : Option ByteOrder} → IsOrder from o rest → length rest ≤ length from
order-shorter none = omega arith
order-shorter (given h he hl hy hr) = omega arith

attributes-shorter : {from rest : List Lexeme} {ls : List Lit} → IsAttributes from ls rest → length rest ≤ length from
attributes-shorter none = omega arith
attributes-shorter (some hl ls hr) = let ls' = listed-shorter (λ f a r p. quoted_lit-shorter p) ls in omega arith

pub constant-shorter : {from rest : List Lexeme} {c : Constant} → IsConstant from c rest → length rest < length from
constant-shorter (constant hl v hx a hr) = let v' = quoted_lit-shorter v in let a' = attributes-shorter a in omega arith

-- ---- fields

body-shorter : {limit : ℕ} {bracket named : Place} {from rest : List Lexeme} {name : List ℕ} {b : Body} → IsBody limit bracket from named name b rest
    → length rest < length from
body-shorter (simple hw r hx) = let r' = ref-shorter r in omega arith
body-shorter (discriminator hw k hx) = let k' = kind-shorter k in omega arith
body-shorter (const hw s hx l) = let s' = simple-shorter s in let l' = const_lit-shorter l in omega arith
body-shorter (reserved hw s l) = let s' = simple-shorter s in let l' = quoted_lit-shorter l in omega arith
body-shorter (implicit hw k hx q) = let k' = kind-shorter k in let q' = quoted-shorter q in omega arith
body-shorter (virtual hw k hx q) = let k' = kind-shorter k in let q' = quoted-shorter q in omega arith
body-shorter (optional hw r hx q) = let r' = ref-shorter r in let q' = quoted-shorter q in omega arith
body-shorter (checksum hw s hx q) = let s' = simple-shorter s in let q' = quoted-shorter q in omega arith
body-shorter (padding hw s hx l q) = let s' = simple-shorter s in let l' = quoted_lit-shorter l in let q' = quoted-shorter q in omega arith
body-shorter (by_count hw r hx hh q) = let r' = ref-shorter r in let q' = quoted-shorter q in omega arith
body-shorter (by_length hw r hx hh q) = let r' = ref-shorter r in let q' = quoted-shorter q in omega arith

pub field-shorter : {limit : ℕ} {from rest : List Lexeme} {f : Field} → IsField limit from f rest → length rest < length from
field-shorter (field hl b o hr) = let b' = body-shorter b in let o' = order-shorter o in omega arith

pub case-shorter : {limit : ℕ} {from rest : List Lexeme} {c : Case} → IsCase limit from c rest → length rest < length from
case-shorter (case hl ks hx fs hr) = let ks' = keys-shorter ks in let fs' = many-shorter (λ f a r p. field-shorter p) fs in omega arith

switch-shorter : {limit : ℕ} {from rest : List Lexeme} {f : Field} → IsSwitch limit from f rest → length rest < length from
switch-shorter (switch hl hw ns cs hr) =
    let ns' = listed-shorter (λ f a r p. named-shorter p) ns in let cs' = many-shorter (λ f a r p. case-shorter p) cs in omega arith

pub member-shorter : {limit : ℕ} {from rest : List Lexeme} {f : Field} → IsMember limit from f rest → length rest < length from
member-shorter (field f) = field-shorter f
member-shorter (switch s) = switch-shorter s

-- ---- definitions

head-shorter : {from rest : List Lexeme} {named : Place} {name : List ℕ} {ps : List Param} {o : Option ByteOrder} → IsHead from named name ps o rest
    → length rest < length from
head-shorter (head h ps o) = let ps' = params-shorter ps in let o' = order-shorter o in omega arith

pub def-shorter : {limit : ℕ} {from rest : List Lexeme} {d : Def} → IsDef limit from d rest → length rest < length from
def-shorter (type_ hl hw h fs hr) = let h' = head-shorter h in let fs' = many-shorter (λ f a r p. field-shorter p) fs in omega arith
def-shorter (discriminated hl hw h fs hr) = let h' = head-shorter h in let fs' = many-shorter (λ f a r p. member-shorter p) fs in omega arith
def-shorter (data_io hl hw h s hr) = let h' = head-shorter h in let s' = switch-shorter s in omega arith
def-shorter (enum hl hw s hx ps cs hr) =
    let s' = simple-shorter s in let ps' = params-shorter ps in let cs' = many-shorter (λ f a r p. constant-shorter p) cs in omega arith
