-- The parts of a padding's expression, by its outermost form; and the first field of a name in two lists.
use Rattle.std.proofs.Common.{◌≡◌, ℕ, zero, suc, ◌-◌, ◌++◌, ◌&&◌, List, Option, Some, None, refl, sym, ap, ◌∙◌, arith}
use Rattle.std.specs.Prelude.{bytes_eq}
use Rattle.std.proofs.lemmas.List.Folds.{find-append}
use Rattle.mspec_tree.specs.declared.words.Op.{Op}
use Rattle.mspec_tree.specs.declared.exprs.Expr.{Expr, out-Expr}
use Rattle.mspec_tree.specs.declared.exprs.Shape.{Shape, out-Shape, out-roll-Shape, roll-Shape}
use Rattle.mspec_tree.specs.declared.exprs.Shape.TheOpen.{Shape-F}
use Rattle.mspec_tree.specs.declared.fields.Field.{Field, out-Field}
use Rattle.mspec_expr.specs.Kinds.{layer}
use Rattle.mspec_rules.specs.declared.wrongs.Wrong.{Wrong}
use Rattle.mspec_rules.specs.Wrongs.{earlier, found}
use Rattle.mspec_check.specs.Paddings.{field_before, parts_at, shape_parts}
use Rattle.mspec_check.specs.Scopes.{Around, is_named}
use Rattle.mspec_check.proofs.Told.{found_both}

pub before_some : (name : List ℕ) (xs ys : List Field) (field : Field) → field_before name xs ≡ Some field → field_before name (xs ++ ys) ≡ Some field
before_some name xs ys field e =
    let both = find-append (λ (f : Field). is_named (layer f) && bytes_eq (out-Field f).name name) xs ys in rw (both, e) refl

pub before_none : (name : List ℕ) (xs ys : List Field) → field_before name xs ≡ None → field_before name (xs ++ ys) ≡ field_before name ys
before_none name xs ys e =
    let both = find-append (λ (f : Field). is_named (layer f) && bytes_eq (out-Field f).name name) xs ys in rw (both, e) refl

pub shape_of : (e : Expr) (f : Shape-F Shape Expr) → (out-Expr e).shape ≡ roll-Shape f → out-Shape (out-Expr e).shape ≡ f
shape_of e f h = ap out-Shape h ∙ out-roll-Shape f

one_level : (levels : ℕ) (around : Around) (e : Expr) → (levels ≡ 0 → ⊥) → parts_at levels around e ≡ shape_parts (parts_at (levels - 1) around) around (out-Expr e).place (out-Shape (out-Expr e).shape)
one_level zero around e h = absurd (h refl)
one_level (suc n) around e h =
    let under : n ≡ suc n - 1 = omega arith in
    ap (λ k. shape_parts (parts_at k around) around (out-Expr e).place (out-Shape (out-Expr e).shape)) under

by_shape : (levels : ℕ) (around : Around) (e : Expr) (f : Shape-F Shape Expr) → (levels ≡ 0 → ⊥) → out-Shape (out-Expr e).shape ≡ f → parts_at levels around e ≡ shape_parts (parts_at (levels - 1) around) around (out-Expr e).place f
by_shape levels around e f h s =
    one_level levels around e h ∙ ap (shape_parts (parts_at (levels - 1) around) around (out-Expr e).place) s

pub two_parts : (levels : ℕ) (around : Around) (e x y a b : Expr) (o : Op) (left right told : Option Wrong)
    → (levels ≡ 0 → ⊥) → out-Shape (out-Expr e).shape ≡ Shape-F.Two o a b → x ≡ a → y ≡ b
    → left ≡ found (parts_at (levels - 1) around x) → right ≡ found (parts_at (levels - 1) around y) → told ≡ earlier left right
    → told ≡ found (parts_at levels around e)
two_parts levels around e x y a b o left right told h s p q l r t =
    let parts = parts_at (levels - 1) around in
    let first : left ≡ found (parts a) = l ∙ ap (λ z. found (parts z)) p in
    let second : right ≡ found (parts b) = r ∙ ap (λ z. found (parts z)) q in
    t ∙ ap (λ z. earlier z right) first ∙ ap (λ z. earlier (found (parts a)) z) second
    ∙ sym (found_both (parts a) (parts b)) ∙ sym (ap found (by_shape levels around e (Shape-F.Two o a b) h s))

pub if_parts : (levels : ℕ) (around : Around) (e w x y c a b : Expr) (condition left right first told : Option Wrong)
    → (levels ≡ 0 → ⊥) → out-Shape (out-Expr e).shape ≡ Shape-F.If c a b → w ≡ c → x ≡ a → y ≡ b
    → condition ≡ found (parts_at (levels - 1) around w) → left ≡ found (parts_at (levels - 1) around x) → right ≡ found (parts_at (levels - 1) around y)
    → first ≡ earlier condition left → told ≡ earlier first right
    → told ≡ found (parts_at levels around e)
if_parts levels around e w x y c a b condition left right first told h s o p q k l r f t =
    let parts = parts_at (levels - 1) around in
    let zeroth : condition ≡ found (parts c) = k ∙ ap (λ z. found (parts z)) o in
    let one : left ≡ found (parts a) = l ∙ ap (λ z. found (parts z)) p in
    let second : right ≡ found (parts b) = r ∙ ap (λ z. found (parts z)) q in
    let both : first ≡ found (parts c ++ parts a) =
    f ∙ ap (λ z. earlier z left) zeroth ∙ ap (λ z. earlier (found (parts c)) z) one ∙ sym (found_both (parts c) (parts a)) in
    t ∙ ap (λ z. earlier z right) both ∙ ap (λ z. earlier (found (parts c ++ parts a)) z) second
    ∙ sym (found_both (parts c ++ parts a) (parts b)) ∙ sym (ap found (by_shape levels around e (Shape-F.If c a b) h s))
