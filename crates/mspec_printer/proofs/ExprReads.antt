-- Printed expressions are read back.
use Rattle.std.proofs.Common.{◌≡◌, ◌≤◌, ◌+◌, ◌-◌, ℕ, zero, suc, max, Bool, true, false, ◌&&◌, List, [], ◌∷◌, ◌++◌, map, refl, sym, ap, ◌∙◌, subst, arith}
use Rattle.std.specs.Prelude.{codes}
use Rattle.std.specs.Str.{bytes_eq}
use Rattle.std.proofs.lemmas.Bool.{leb-true}
use Rattle.std.proofs.lemmas.Slice.Eq.{bytes_eq-Decides}
use Rattle.mspec_tree.specs.declared.words.Op.{Op}
use Rattle.mspec_tree.specs.declared.words.Op.TheVariants as op
use Rattle.mspec_tree.specs.declared.words.Lit.TheVariants.{Num, Flag}
use Rattle.mspec_tree.specs.declared.exprs.Expr.{Expr, fold_out-Expr, fold-roll-Expr, roll-Expr}
use Rattle.mspec_tree.specs.declared.exprs.Shape.{Shape, Shape-F, roll-Shape, out-Shape, fold-Shape, map-Shape, fold-roll-Shape, fold_out-Shape}
use Rattle.mspec_tree.specs.declared.exprs.Shape.TheOpen as layer
use Rattle.mspec_tree.specs.declared.exprs.Shape.TheVariants as shape
use Rattle.mspec_tree.specs.declared.exprs.Ref.{Ref}
use Rattle.mspec_tree.specs.declared.exprs.Ref.TheVariants.{Plain, Named}
use Rattle.mspec_tree.specs.Depth.{depth, depth_limit, shape_depth}
use Rattle.mspec_tree.specs.Form.{is_expr, is_free_name, is_layer, is_name, is_ref, is_type_name}
use Rattle.mspec_lexer.specs.declared.tokens.TokenKind.TheVariants as token
use Rattle.mspec_lexer.specs.Lexemes.{Lexeme}
use Rattle.mspec_grammar.specs.Meanings.{meaning, meaning_of, Sign, word_of}
use Rattle.mspec_grammar.specs.Expressions as grammar
use Rattle.mspec_grammar.specs.Expressions.{at, IsFree, operator_sign, Quoted, Stands, strength, tighter}
use Rattle.mspec_grammar.specs.Parts.{IsRef, kind, arguments}
use Rattle.mspec_printer.specs.Alike.{at_start, start, unplaced, unplaced_ref}
use Rattle.mspec_printer.specs.Printed.{expr, Form, form, in_parentheses, listed, mark, operand, operator, quoted, ref, spaced}
use Rattle.mspec_printer.specs.Printed as printed
use Rattle.mspec_printer.proofs.Layers.{by_layer, depths, forms, has_form, printed_layer, some_depth}
use Rattle.mspec_printer.proofs.Spelling.{all_there, before_gap, before_last, before_two, before_word, both, done, gap, Like, past_gap, Reads, reads-listed, Spells, word}
use Rattle.mspec_printer.proofs.SmallReads.{kind-reads, means_name, negated, type_name}

-- ---- expressions without places

abbrev pub rolled : Shape → Expr
rolled s = roll-Expr (record { place = start; shape = s })

-- one layer, whose operands have no place
abbrev pub unplaced_layer : Shape-F Shape Expr → Shape-F Shape Expr
unplaced_layer f = map-Shape Shape Expr Shape Expr (fold-Shape Shape Expr roll-Shape at_start) unplaced f

unplaced_out : (e : Expr) → unplaced e ≡ rolled (roll-Shape (unplaced_layer (out-Shape e.shape)))
unplaced_out e =
    fold_out-Expr Shape Expr roll-Shape at_start e ∙ ap rolled (fold_out-Shape Shape Expr roll-Shape at_start e.shape)

unplaced_at : (x : Lexeme) (s : Shape) (f : Shape-F Shape Expr) → roll-Shape f ≡ s → unplaced (at x s) ≡ rolled (roll-Shape (unplaced_layer f))
unplaced_at x s f rolls =
    ap (λ t. unplaced (at x t)) (sym rolls)
    ∙ fold-roll-Expr Shape Expr roll-Shape at_start (record { place = x.place; shape = roll-Shape f })
    ∙ ap rolled (fold-roll-Shape Shape Expr roll-Shape at_start f)

depth_at : (x : Lexeme) (s : Shape) (f : Shape-F Shape Expr) → roll-Shape f ≡ s → depth (at x s) ≡ depths f
depth_at x s f rolls =
    ap (λ t. depth (at x t)) (sym rolls)
    ∙ fold-roll-Expr ℕ ℕ shape_depth (λ l. l.shape) (record { place = x.place; shape = roll-Shape f })
    ∙ fold-roll-Shape ℕ ℕ shape_depth (λ l. l.shape) f

-- ---- what is read of one expression

-- an expression like one of this layer, which binds at least as tightly as its printed form
pub record Found (f : Shape-F Shape Expr) (from rest : List Lexeme) : Type 0 where
  pub level : ℕ
  pub value : Expr
  pub reads : Stands level from value rest
  pub most : level ≤ 11
  pub least : (printed_layer f).tight ≡ true → 11 ≤ level
  pub alike : unplaced value ≡ rolled (roll-Shape (unplaced_layer f))
  pub deep : depth value ≡ depths f

pub record ReadsExpr (e : Expr) : Type 0 where
  pub by : {from rest : List Lexeme} → Spells from (expr e) rest → Found (out-Shape e.shape) from rest

-- an expression that binds this tightly and is like this one
pub record Stood (level : ℕ) (e : Expr) (from rest : List Lexeme) : Type 0 where
  pub value : Expr
  pub reads : Stands level from value rest
  pub alike : unplaced value ≡ unplaced e
  pub deep : depth value ≡ depth e

lower : (steps k l : ℕ) {from rest : List Lexeme} {e : Expr} → l ≡ steps + k → l ≤ 11 → Stands l from e rest → Stands k from e rest
lower zero k l {from} {rest} {e} same high d =
    let equal : l ≡ k = omega arith in subst (λ n. Stands n from e rest) equal d
lower (suc steps) k zero same high d = absurd (omega arith)
lower (suc steps) k (suc l) same high d = lower steps k l (omega arith) (omega arith) (tighter (omega arith) d)

to_level : (k l : ℕ) {from rest : List Lexeme} {e : Expr} → k ≤ l → l ≤ 11 → Stands l from e rest → Stands k from e rest
to_level k l low high d = lower (l - k) k l (omega arith) high d

stood : (k : ℕ) (e : Expr) {from rest : List Lexeme} (found : Found (out-Shape e.shape) from rest) → k ≤ found.level → Stood k e from rest
stood k e found low = record {
  value = found.value;
  reads = to_level k found.level low found.most found.reads;
  alike = found.alike ∙ sym (unplaced_out e);
  deep = found.deep ∙ sym (by_layer shape_depth e);
}

pub inner-reads : (e : Expr) → ReadsExpr e → {from rest : List Lexeme} → Spells from (expr e) rest → Stood 0 e from rest
inner-reads e r s = stood 0 e (r.by s) (omega arith)

operand_by : (e : Expr) (tight : Bool) → (form e).tight ≡ tight → ReadsExpr e → {from rest : List Lexeme} → Spells from (operand (record { tight = tight; pieces = expr e })) rest → Stood 11 e from rest
operand_by e true h r s =
    let found = r.by s in
    stood 11 e found (found.least (sym (ap (λ f. f.tight) (by_layer printed.layer e)) ∙ h))
operand_by e false h r (word left s) =
    let inside = before_last (expr e) _ _ s in
    let inner = inner-reads e r inside.first in
    record { value = inner.value; reads = grammar.grouped left inner.reads inside.means; alike = inner.alike; deep = inner.deep }

operand-reads : (e : Expr) → ReadsExpr e → {from rest : List Lexeme} → Spells from (operand (form e)) rest → Stood 11 e from rest
operand-reads e r s = operand_by e (form e).tight refl r s

-- ---- layers, one after another

-- a layer g of what was read is like a layer f
layer_found : (level : ℕ) (x : Lexeme) (s : Shape) (g f : Shape-F Shape Expr) {from rest : List Lexeme} → roll-Shape g ≡ s → Stands level from (at x s) rest → level ≤ 11 → ((printed_layer f).tight ≡ true → 11 ≤ level) → unplaced_layer g ≡ unplaced_layer f → depths g ≡ depths f → Found f from rest
layer_found level x s g f rolls reads most least alike deep = record {
  level = level;
  value = at x s;
  reads = reads;
  most = most;
  least = least;
  alike = unplaced_at x s g rolls ∙ ap (λ l. rolled (roll-Shape l)) alike;
  deep = depth_at x s g rolls ∙ deep;
}

leaf : (x : Lexeme) (s : Shape) (f : Shape-F Shape Expr) {from rest : List Lexeme} → roll-Shape f ≡ s → Stands 11 from (at x s) rest → Found f from rest
leaf x s f rolls reads = layer_found 11 x s f f rolls reads (omega arith) (λ h. omega arith) refl refl

free : (x : Lexeme) (name : List ℕ) → is_free_name name ≡ true → meaning x ≡ meaning_of token.Name name → IsFree x name
free x name h means =
    let tests = both (is_name name) _ h in (
      means_name name tests.0 means,
      λ e. let same : bytes_eq name (codes "STATIC_CALL") ≡ true = (bytes_eq-Decides name (codes "STATIC_CALL")).1 e in
          let other = negated _ tests.1 in cc,
    )

case_name : (name : List ℕ) → is_free_name name ≡ true → {from rest : List Lexeme} → Spells from (printed.blank ++ printed.word name) rest → grammar.CaseName from name rest
case_name name h (gap (word {x} means done)) = grammar.bare (free x name h means)

same_operator : (o : Op) → operator o ≡ operator_sign o
same_operator op.Or = refl
same_operator o = refl

some_strength : (o : Op) → strength o ≤ 9
some_strength op.Or = omega arith
some_strength o = omega arith

of_two : {A B : Type 0} (f : A → A → B) {a b a' b' : A} → a ≡ a' → b ≡ b' → f a b ≡ f a' b'
of_two f {b} {a' = c} e h = ap (λ x. f x b) e ∙ ap (λ x. f c x) h

of_three : {A B : Type 0} (f : A → A → A → B) {a b c a' b' c' : A} → a ≡ a' → b ≡ b' → c ≡ c' → f a b c ≡ f a' b' c'
of_three f {c} {a' = d} {b' = e} k l m = ap (λ g. g c) (of_two f k l) ∙ ap (λ x. f d e x) m

-- each operand of a layer is read
module _ (n : ℕ) (each : (a : Expr) → depth a ≤ n → has_form a ≡ true → ReadsExpr a) where
  dot-reads : (of : Expr) (name : List ℕ) → suc (depth of) ≤ suc n → has_form of && is_free_name name ≡ true → {from rest : List Lexeme} → Spells from (printed_layer (layer.Dot of name)).pieces rest → Found (layer.Dot of name) from rest
  dot-reads of name d h s =
      let tests = both (has_form of) _ h in
      let parts = before_two (operand (form of)) _ _ _ _ s in
      let a = operand-reads of (each of (omega arith) tests.0) parts.first in
      layer_found 11 parts.x (shape.Dot a.value name) (layer.Dot a.value name) (layer.Dot of name) (shape.rolls-Dot a.value name)
      (grammar.path a.reads parts.means (free parts.y name tests.1 parts.also)) (omega arith) (λ h. omega arith)
      (ap (λ e. layer.Dot e name) a.alike) (ap (λ k. suc k) a.deep)

  length_of-reads : (of : Expr) → suc (depth of) ≤ suc n → has_form of ≡ true → {from rest : List Lexeme} → Spells from (printed_layer (layer.LengthOf of)).pieces rest → Found (layer.LengthOf of) from rest
  unfolding word_of
  length_of-reads of d h s =
      let parts = before_two (operand (form of)) _ _ _ _ s in
      let a = operand-reads of (each of (omega arith) h) parts.first in
      layer_found 11 parts.x (shape.LengthOf a.value) (layer.LengthOf a.value) (layer.LengthOf of) (shape.rolls-LengthOf a.value)
      (grammar.length_of a.reads parts.means parts.also) (omega arith) (λ h. omega arith)
      (ap (λ e. layer.LengthOf e) a.alike) (ap (λ k. suc k) a.deep)

  count-reads : (of : Expr) → suc (depth of) ≤ suc n → has_form of ≡ true → {from rest : List Lexeme} → Spells from (printed_layer (layer.Count of)).pieces rest → Found (layer.Count of) from rest
  unfolding word_of
  count-reads of d h (word {x} means (word left s)) =
      let inside = before_last (expr of) _ _ s in
      let a = inner-reads of (each of (omega arith) h) inside.first in
      layer_found 11 x (shape.Count a.value) (layer.Count a.value) (layer.Count of) (shape.rolls-Count a.value)
      (grammar.count means left a.reads inside.means) (omega arith) (λ h. omega arith)
      (ap (λ e. layer.Count e) a.alike) (ap (λ k. suc k) a.deep)

  cast-reads : (of : Expr) (name : List ℕ) → suc (depth of) ≤ suc n → has_form of && is_free_name name ≡ true → {from rest : List Lexeme} → Spells from (printed_layer (layer.Cast of name)).pieces rest → Found (layer.Cast of name) from rest
  unfolding word_of
  cast-reads of name d h (word {x} means (word left s)) =
      let tests = both (has_form of) _ h in
      let inside = before_last (listed (expr of ∷ printed.word name ∷ [])) _ _ s in
      let parts = before_word (expr of) _ _ _ inside.first in
      let a = inner-reads of (each of (omega arith) tests.0) parts.first in
      layer_found 11 x (shape.Cast a.value name) (layer.Cast a.value name) (layer.Cast of name) (shape.rolls-Cast a.value name)
      (grammar.cast means left a.reads parts.means (case_name name tests.1 parts.second) inside.means) (omega arith) (λ h. omega arith)
      (ap (λ e. layer.Cast e name) a.alike) (ap (λ k. suc k) a.deep)

  not-reads : (of : Expr) → suc (depth of) ≤ suc n → has_form of ≡ true → {from rest : List Lexeme} → Spells from (printed_layer (layer.Not of)).pieces rest → Found (layer.Not of) from rest
  not-reads of d h (word {x} means s) =
      let a = operand-reads of (each of (omega arith) h) s in
      layer_found 10 x (shape.Not a.value) (layer.Not a.value) (layer.Not of) (shape.rolls-Not a.value)
      (grammar.negation means (to_level 10 11 (omega arith) (omega arith) a.reads)) (omega arith) (λ h. absurd (cc))
      (ap (λ e. layer.Not e) a.alike) (ap (λ k. suc k) a.deep)

  minus-reads : (of : Expr) → suc (depth of) ≤ suc n → has_form of ≡ true → {from rest : List Lexeme} → Spells from (printed_layer (layer.Neg of)).pieces rest → Found (layer.Neg of) from rest
  minus-reads of d h (word {x} means s) =
      let a = operand-reads of (each of (omega arith) h) s in
      layer_found 10 x (shape.Neg a.value) (layer.Neg a.value) (layer.Neg of) (shape.rolls-Neg a.value)
      (grammar.minus means (to_level 10 11 (omega arith) (omega arith) a.reads)) (omega arith) (λ h. absurd (cc))
      (ap (λ e. layer.Neg e) a.alike) (ap (λ k. suc k) a.deep)

  two-reads : (o : Op) (a b : Expr) → suc (max (depth a) (depth b)) ≤ suc n → has_form a && has_form b ≡ true → {from rest : List Lexeme} → Spells from (printed_layer (layer.Two o a b)).pieces rest → Found (layer.Two o a b) from rest
  two-reads o a b d h s =
      let tests = both (has_form a) _ h in
      let parts = before_gap (operand (form a)) _ _ _ _ s in
      let low = some_strength o in
      let one = operand-reads a (each a (omega arith) tests.0) parts.first in
      let other = operand-reads b (each b (omega arith) tests.1) (all_there (operand (form b)) (past_gap parts.second)) in
      layer_found (strength o) parts.x (shape.Two o one.value other.value) (layer.Two o one.value other.value) (layer.Two o a b) (shape.rolls-Two o one.value other.value)
      (grammar.two refl (to_level (strength o) 11 (omega arith) (omega arith) one.reads) (parts.means ∙ ap (λ v. Sign v) (same_operator o))
      (to_level (suc (strength o)) 11 (omega arith) (omega arith) other.reads))
      (omega arith) (λ h. absurd (cc))
      (of_two (λ p q. layer.Two o p q) one.alike other.alike)
      (of_two (λ k l. suc (max k l)) one.deep other.deep)

  if-reads : (c a b : Expr) → suc (max (depth c) (max (depth a) (depth b))) ≤ suc n → has_form c && (has_form a && has_form b) ≡ true → {from rest : List Lexeme} → Spells from (printed_layer (layer.If c a b)).pieces rest → Found (layer.If c a b) from rest
  if-reads c a b d h s =
      let tests = both (has_form c) _ h in
      let others = both (has_form a) _ tests.1 in
      let parts = before_gap (operand (form c)) _ _ _ _ s in
      let more = before_gap (operand (form a)) _ _ _ _ (past_gap parts.second) in
      let test = operand-reads c (each c (omega arith) tests.0) parts.first in
      let one = operand-reads a (each a (omega arith) others.0) more.first in
      let other = operand-reads b (each b (omega arith) others.1) (all_there (operand (form b)) (past_gap more.second)) in
      layer_found 0 parts.x (shape.If test.value one.value other.value) (layer.If test.value one.value other.value) (layer.If c a b) (shape.rolls-If test.value one.value other.value)
      (grammar.condition (to_level 1 11 (omega arith) (omega arith) test.reads) parts.means
      (to_level 0 11 (omega arith) (omega arith) one.reads) more.means
      (to_level 0 11 (omega arith) (omega arith) other.reads))
      (omega arith) (λ h. absurd (cc))
      (of_three (λ p q r. layer.If p q r) test.alike one.alike other.alike)
      (of_three (λ k l m. suc (max k (max l m))) test.deep one.deep other.deep)

  layer-reads : (f : Shape-F Shape Expr) → depths f ≤ suc n → forms f ≡ true → {from rest : List Lexeme} → Spells from (printed_layer f).pieces rest → Found f from rest
  unfolding word_of
  layer-reads (layer.Lit (Num true size)) d h s = absurd (cc)
  layer-reads (layer.Lit (Num false size)) d h (word {x} means done) = leaf x (shape.Lit (Num false size)) (layer.Lit (Num false size)) (shape.rolls-Lit (Num false size)) (grammar.number means)
  layer-reads (layer.Lit (Flag true)) d h (word {x} means done) = leaf x (shape.Lit (Flag true)) (layer.Lit (Flag true)) (shape.rolls-Lit (Flag true)) (grammar.yes means)
  layer-reads (layer.Lit (Flag false)) d h (word {x} means done) = leaf x (shape.Lit (Flag false)) (layer.Lit (Flag false)) (shape.rolls-Lit (Flag false)) (grammar.no means)
  layer-reads layer.Null d h (word {x} means done) = leaf x shape.Null layer.Null shape.rolls-Null (grammar.null means)
  layer-reads (layer.Name name) d h (word {x} means done) = leaf x (shape.Name name) (layer.Name name) (shape.rolls-Name name) (grammar.name (free x name h means))
  layer-reads layer.CurPos d h (word {x} means done) = leaf x shape.CurPos layer.CurPos shape.rolls-CurPos (grammar.cur_pos means)
  layer-reads layer.Length d h (word {x} means done) = leaf x shape.Length layer.Length shape.rolls-Length (grammar.length means)
  layer-reads layer.LastItem d h (word {x} means done) = leaf x shape.LastItem layer.LastItem shape.rolls-LastItem (grammar.last_item means)
  layer-reads layer.SumBytes d h (word {x} means done) = leaf x shape.SumBytes layer.SumBytes shape.rolls-SumBytes (grammar.sum_bytes means)
  layer-reads layer.XorBytes d h (word {x} means done) = leaf x shape.XorBytes layer.XorBytes shape.rolls-XorBytes (grammar.xor_bytes means)
  layer-reads (layer.Dot of name) d h s = dot-reads of name d h s
  layer-reads (layer.LengthOf of) d h s = length_of-reads of d h s
  layer-reads (layer.Count of) d h s = count-reads of d h s
  layer-reads (layer.Cast of name) d h s = cast-reads of name d h s
  layer-reads (layer.Not of) d h s = not-reads of d h s
  layer-reads (layer.Neg of) d h s = minus-reads of d h s
  layer-reads (layer.Two o a b) d h s = two-reads o a b d h s
  layer-reads (layer.If c a b) d h s = if-reads c a b d h s

-- ---- whole expressions

expr_by : (n : ℕ) (e : Expr) → ((f : Shape-F Shape Expr) → depths f ≤ suc n → forms f ≡ true → (from rest : List Lexeme) → Spells from (printed_layer f).pieces rest → Found f from rest) → depth e ≤ suc n → has_form e ≡ true → {from rest : List Lexeme} → Spells from (expr e) rest → Found (out-Shape e.shape) from rest
expr_by n e layers d h {from} {rest} s =
    let shallow : depths (out-Shape e.shape) ≤ suc n = rw (sym (by_layer shape_depth e)) d in
    let formed : forms (out-Shape e.shape) ≡ true = sym (by_layer is_layer e) ∙ h in
    layers (out-Shape e.shape) shallow formed from rest (subst (λ (f : Form). Spells from f.pieces rest) (by_layer printed.layer e) s)

expr-reads : (n : ℕ) (e : Expr) → depth e ≤ n → has_form e ≡ true → ReadsExpr e
expr-reads zero e d h = absurd (omega (arith, by_layer shape_depth e, some_depth (out-Shape e.shape)))
expr-reads (suc n) e d h = record { by = expr_by n e (λ f deep formed from rest s. layer-reads n (expr-reads n) f deep formed s) d h }

quoted_by : (e : Expr) → is_expr e ≡ true → {from rest : List Lexeme} → Spells from (quoted (expr e)) rest → Like (Quoted depth_limit) unplaced (unplaced e) from rest
quoted_by e h (word left s) =
    let tests = both (has_form e) _ h in
    let shallow : depth e ≤ depth_limit = leb-true _ _ tests.1 in
    let inside = before_last (expr e) _ _ s in
    let found = inner-reads e (expr-reads depth_limit e shallow tests.0) inside.first in
    let within : depth found.value ≤ depth_limit = rw found.deep shallow in
    record { value = found.value; reads = grammar.quoted left found.reads inside.means within; alike = found.alike }

pub reads-quoted : (e : Expr) → is_expr e ≡ true → Reads (Quoted depth_limit) unplaced (λ x. quoted (expr x)) e
reads-quoted e h = record { by = quoted_by e h }

-- ---- types with arguments

pub ref-reads : (r : Ref) → is_ref r ≡ true → {from rest : List Lexeme} → Spells from (ref r) rest → Like (IsRef depth_limit) unplaced_ref (unplaced_ref r) from rest
ref-reads (Plain simple) h s =
    let found = kind-reads (Plain simple) h s in
    record { value = found.value; reads = kind found.reads; alike = found.alike }
ref-reads (Named place name []) h s =
    let found = kind-reads (Named place name []) (both (is_type_name name) _ h).0 s in
    record { value = found.value; reads = kind found.reads; alike = found.alike }
ref-reads (Named place name (arg ∷ args)) h (word {x} means (word left s)) =
    let tests = both (is_type_name name) _ h in
    let others = both (is_expr arg) _ tests.1 in
    let inside = before_last (listed (map (λ e. quoted (expr e)) (arg ∷ args))) _ _ s in
    let found = reads-listed (Quoted depth_limit) unplaced (λ e. quoted (expr e)) is_expr reads-quoted arg args others.0 others.1 inside.first in
    record {
      value = Named x.place name found.value;
      reads = arguments (type_name x name tests.0 means) left found.reads inside.means;
      alike = ap (λ es. Named start name es) found.alike;
    }
