-- How deep an expression is.
use Rattle.std.specs.Prelude.{ℕ, suc, max}
use Rattle.mspec_tree.specs.declared.exprs.Expr.{Expr, fold-Expr}
use Rattle.mspec_tree.specs.declared.exprs.Shape.TheOpen.{Shape-F, Dot, LengthOf, Count, Cast, Not, Neg, Two, If}

-- one more than the deepest operand; a number, a name and a word by itself have depth 1
abbrev pub shape_depth : Shape-F ℕ ℕ → ℕ
shape_depth (Dot of name) = suc of
shape_depth (LengthOf of) = suc of
shape_depth (Count of) = suc of
shape_depth (Cast of name) = suc of
shape_depth (Not of) = suc of
shape_depth (Neg of) = suc of
shape_depth (Two operator a b) = suc (max a b)
shape_depth (If condition a b) = suc (max condition (max a b))
shape_depth other = 1

abbrev pub depth : Expr → ℕ
depth e = fold-Expr ℕ ℕ shape_depth (λ layer. layer.shape) e

-- how deep an expression may be
abbrev pub depth_limit : ℕ
depth_limit = 32
