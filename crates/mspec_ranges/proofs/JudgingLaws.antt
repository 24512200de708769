-- An expression by its outermost form, with a level more than its parts.
use Rattle.std.proofs.Common.{◌≡◌, ℕ, zero, suc, ◌-◌, ◌∙◌, [], refl, sym, ap, arith}
use Rattle.mspec_tree.specs.declared.exprs.Expr.{Expr, out-Expr}
use Rattle.mspec_tree.specs.declared.exprs.Shape.{Shape, out-Shape, out-roll-Shape, roll-Shape}
use Rattle.mspec_tree.specs.declared.exprs.Shape.TheOpen.{Shape-F}
use Rattle.mspec_tree.specs.declared.defs.Description.{Description}
use Rattle.mspec_expr.specs.declared.scopes.Scope.{Scope}
use Rattle.mspec_expr.specs.Ranges.{judged_at, nothing, shape_judged}
use Rattle.mspec_expr.specs.declared.kinds.ExprWhy.TheVariants.{KindMismatch}
use Rattle.mspec_ranges.specs.declared.verdicts.Verdict.{Verdict}
use Rattle.mspec_ranges.specs.Verdicts.{Tells}

pub shape_of : (e : Expr) (f : Shape-F Shape Expr) → (out-Expr e).shape ≡ roll-Shape f → out-Shape (out-Expr e).shape ≡ f
shape_of e f h = ap out-Shape h ∙ out-roll-Shape f

one_level : (levels : ℕ) (d : Description) (scope : Scope) (e : Expr) → (levels ≡ 0 → ⊥) → judged_at levels d scope e ≡ shape_judged (judged_at (levels - 1) d scope) d scope (out-Expr e).place (out-Shape (out-Expr e).shape)
one_level zero d scope e h = absurd (h refl)
one_level (suc n) d scope e h =
    let under : n ≡ suc n - 1 = omega arith in
    ap (λ k. shape_judged (judged_at k d scope) d scope (out-Expr e).place (out-Shape (out-Expr e).shape)) under

pub by_shape : (levels : ℕ) (d : Description) (scope : Scope) (e : Expr) (f : Shape-F Shape Expr) (v : Verdict) → (levels ≡ 0 → ⊥) → out-Shape (out-Expr e).shape ≡ f → Tells v (shape_judged (judged_at (levels - 1) d scope) d scope (out-Expr e).place f) → Tells v (judged_at levels d scope e)
by_shape levels d scope e f v h s t =
    rw (one_level levels d scope e h, s) t

pub no_levels : (levels : ℕ) (d : Description) (scope : Scope) (e : Expr) (v : Verdict) → levels ≡ 0 → Tells v (nothing (out-Expr e).place KindMismatch []) → Tells v (judged_at levels d scope e)
no_levels levels d scope e v h t = rw h t

pub part : (levels : ℕ) (d : Description) (scope : Scope) (e a : Expr) (v : Verdict) → e ≡ a → Tells v (judged_at levels d scope e) → Tells v (judged_at levels d scope a)
part levels d scope e a v same t = rw (sym same) t
