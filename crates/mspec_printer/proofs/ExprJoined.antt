-- The words of printed expressions and types stand apart.
use Rattle.std.proofs.Common.{◌≡◌, ◌≤◌, ℕ, zero, suc, Bool, true, false, List, [], ◌∷◌, ◌++◌, refl, sym, ◌∙◌, ◌^◌, subst, inl, arith}
use Rattle.std.specs.Prelude.{codes}
use Rattle.std.proofs.lemmas.Bool.{leb-true, ltb-true}
use Rattle.mspec_tree.specs.declared.words.Lit.TheVariants.{Num, Flag}
use Rattle.mspec_tree.specs.declared.exprs.Expr.{Expr}
use Rattle.mspec_tree.specs.declared.exprs.Shape.{Shape, Shape-F, out-Shape}
use Rattle.mspec_tree.specs.declared.exprs.Shape.TheOpen as layer
use Rattle.mspec_tree.specs.declared.exprs.Ref.{Ref}
use Rattle.mspec_tree.specs.declared.exprs.Ref.TheVariants.{Plain, Named}
use Rattle.mspec_tree.specs.Depth.{depth, depth_limit, shape_depth}
use Rattle.mspec_tree.specs.Form.{is_expr, is_free_name, is_layer, is_name, is_ref, is_spelt, is_type_name}
use Rattle.mspec_lexer.specs.declared.tokens.Symbol.{Symbol}
use Rattle.mspec_lexer.specs.declared.tokens.Symbol.TheVariants as sign
use Rattle.mspec_lexer.specs.Tokens.{Piece}
use Rattle.mspec_printer.specs.Printed.{blank, expr, Form, form, in_parentheses, listed, mark, operand, operator, quoted, ref, spaced, word}
use Rattle.mspec_printer.specs.Printed as printed
use Rattle.mspec_printer.proofs.Joints.{mark-stands, sticks}
use Rattle.mspec_printer.proofs.Joined.{Begins, begins_front, begins_number, begins_word, Free, free_in_parentheses, free_joined, free_mark, free_quoted, free_then, Joined, joined_name, joined_word, listed-joined, lit-joined, no_tail, parentheses-tail, simple-joined, spaced-joined, spelt, tail_of, then_tail}
use Rattle.mspec_printer.proofs.Layers.{by_layer, depths, forms, has_form, printed_layer, some_depth}
use Rattle.mspec_printer.proofs.Spelling.{both}

-- a printed expression's words stand apart, and what is primary or dotted begins with nothing that lengthens a symbol
pub record JoinedForm (f : Form) : Type 0 where
  pub joined : Joined f.pieces
  pub apart : f.tight ≡ true → Begins sticks f.pieces

pub record Operand (p : List Piece) : Type 0 where
  pub joined : Joined p
  pub apart : Begins sticks p

operand_by : (tight : Bool) (p : List Piece) → JoinedForm (record { tight = tight; pieces = p }) → Operand (operand (record { tight = tight; pieces = p }))
operand_by true p j = record { joined = j.joined; apart = j.apart refl }
operand_by false p j =
    record { joined = free_joined (free_in_parentheses j.joined); apart = record { by = λ behind. refl } }

pub operand-joined : (f : Form) → JoinedForm f → Operand (operand f)
operand-joined f j = operand_by f.tight f.pieces j

-- a word that stands by itself
taken : (bytes : List ℕ) → is_spelt bytes ≡ true → JoinedForm (printed.tight (word bytes))
taken bytes h = record { joined = joined_word bytes h; apart = λ t. begins_word bytes h }

free_name : (name : List ℕ) → is_free_name name ≡ true → is_name name ≡ true
free_name name h = (both (is_name name) _ h).0

-- a part behind a dot
dotted : {p : List Piece} (bytes : List ℕ) → Operand p → is_spelt bytes ≡ true → JoinedForm (printed.tight (p ++ (mark sign.Dot ++ word bytes)))
dotted bytes o h = record {
  joined = then_tail o.joined (tail_of (free_then (free_mark sign.Dot refl) (joined_word bytes h)) (record { by = λ behind. refl }));
  apart = λ t. begins_front (mark sign.Dot ++ word bytes) o.apart;
}

-- a word and what stands in parentheses behind it
called : {p : List Piece} (bytes : List ℕ) → Joined p → is_spelt bytes ≡ true → JoinedForm (printed.tight (word bytes ++ in_parentheses p))
called {p} bytes j h = record {
  joined = then_tail (joined_word bytes h) (tail_of (free_joined (free_in_parentheses j)) (record { by = λ behind. refl }));
  apart = λ t. begins_front (in_parentheses p) (begins_word bytes h);
}

-- a symbol between two blanks
between_blanks : (s : Symbol) → Free (blank ++ (mark s ++ blank))
between_blanks s = record {
  by = λ behind. (inl (32, refl, refl), (mark-stands s (32 ∷ behind) refl, (inl (32, refl, refl), tt)));
}

-- ---- layers

loose : {p : List Piece} → Joined p → JoinedForm (printed.loose p)
loose j = record { joined = j; apart = λ t. absurd (cc) }

negated : {p : List Piece} (s : Symbol) → Operand p → JoinedForm (printed.loose (mark s ++ p))
negated s o =
    loose (record { by = λ behind e. (mark-stands s _ (o.apart.by behind), o.joined.by behind e) })

two_sided : {p q : List Piece} (s : Symbol) → Operand p → Operand q → JoinedForm (printed.loose (spaced (p ∷ mark s ∷ q ∷ [])))
two_sided s o r =
    loose (then_tail o.joined (tail_of (free_then (between_blanks s) (then_tail r.joined no_tail)) (record { by = λ behind. refl })))

conditional : {p q r : List Piece} → Operand p → Operand q → Operand r → JoinedForm (printed.loose (spaced (p ∷ mark sign.Question ∷ q ∷ mark sign.Colon ∷ r ∷ [])))
conditional {p} {q} {r} c o d =
    loose (spaced-joined (p ∷ mark sign.Question ∷ q ∷ mark sign.Colon ∷ r ∷ [])
    (c.joined, (free_joined (free_mark sign.Question refl), (o.joined, (free_joined (free_mark sign.Colon refl), (d.joined, tt))))))

-- each operand of a layer stands apart
module _ (n : ℕ) (each : (a : Expr) → depth a ≤ n → has_form a ≡ true → JoinedForm (form a)) where
  in_operand : (a : Expr) → depth a ≤ n → has_form a ≡ true → Operand (operand (form a))
  in_operand a d h = operand-joined (form a) (each a d h)

  layer-joined : (f : Shape-F Shape Expr) → depths f ≤ suc n → forms f ≡ true → JoinedForm (printed_layer f)
  layer-joined (layer.Lit (Num true size)) d h = absurd (cc)
  layer-joined (layer.Lit (Num false size)) d h =
      record { joined = lit-joined (Num false size) h; apart = λ t. begins_number size (ltb-true size (2 ^ 128) h) }
  layer-joined (layer.Lit (Flag true)) d h = taken (codes "true") refl
  layer-joined (layer.Lit (Flag false)) d h = taken (codes "false") refl
  layer-joined layer.Null d h = taken (codes "null") refl
  layer-joined (layer.Name name) d h = taken name (spelt name (free_name name h))
  layer-joined layer.CurPos d h = taken (codes "curPos") refl
  layer-joined layer.Length d h = taken (codes "lengthInBytes") refl
  layer-joined layer.LastItem d h = taken (codes "lastItem") refl
  layer-joined layer.SumBytes d h = taken (codes "SUM_BYTES") refl
  layer-joined layer.XorBytes d h = taken (codes "XOR_BYTES") refl
  layer-joined (layer.Dot of name) d h =
      let tests = both (has_form of) _ h in
      dotted name (in_operand of (omega arith) tests.0) (spelt name (free_name name tests.1))
  layer-joined (layer.LengthOf of) d h = dotted (codes "lengthInBytes") (in_operand of (omega arith) h) refl
  layer-joined (layer.Count of) d h = called (codes "COUNT") (each of (omega arith) h).joined refl
  layer-joined (layer.Cast of name) d h =
      let tests = both (has_form of) _ h in
      let parts = listed-joined (expr of ∷ word name ∷ []) ((each of (omega arith) tests.0).joined, (joined_name name (free_name name tests.1), tt)) in
      called (codes "CAST") parts refl
  layer-joined (layer.Not of) d h = negated sign.Exclamation (in_operand of (omega arith) h)
  layer-joined (layer.Neg of) d h = negated sign.Minus (in_operand of (omega arith) h)
  layer-joined (layer.Two o a b) d h =
      let tests = both (has_form a) _ h in
      two_sided (operator o) (in_operand a (omega arith) tests.0) (in_operand b (omega arith) tests.1)
  layer-joined (layer.If c a b) d h =
      let tests = both (has_form c) _ h in
      let others = both (has_form a) _ tests.1 in
      conditional (in_operand c (omega arith) tests.0) (in_operand a (omega arith) others.0) (in_operand b (omega arith) others.1)

expr_by : (n : ℕ) (e : Expr) → depth e ≤ n → has_form e ≡ true → JoinedForm (form e)
expr_by zero e d h = absurd (omega (arith, by_layer shape_depth e, some_depth (out-Shape e.shape)))
expr_by (suc n) e d h =
    let shallow : depths (out-Shape e.shape) ≤ suc n = rw (sym (by_layer shape_depth e)) d in
    let formed : forms (out-Shape e.shape) ≡ true = sym (by_layer is_layer e) ∙ h in
    subst JoinedForm (sym (by_layer printed.layer e)) (layer-joined n (expr_by n) (out-Shape e.shape) shallow formed)

pub quoted-free : (e : Expr) → is_expr e ≡ true → Free (quoted (expr e))
quoted-free e h =
    let tests = both (has_form e) _ h in
    free_quoted (expr_by depth_limit e (leb-true _ _ tests.1) tests.0).joined

pub quoted-joined : (e : Expr) → is_expr e ≡ true → Joined (quoted (expr e))
quoted-joined e h = free_joined (quoted-free e h)

-- ---- types

pub ref-joined : (r : Ref) → is_ref r ≡ true → Joined (ref r)
ref-joined (Plain simple) h = simple-joined simple h
ref-joined (Named place name args) h =
    let tests = both (is_type_name name) _ h in
    then_tail (joined_name name (both (is_name name) _ tests.0).0) (parentheses-tail (λ e. quoted (expr e)) is_expr quoted-joined args tests.1)
