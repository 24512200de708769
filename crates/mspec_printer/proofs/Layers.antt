-- An expression by its outermost layer.
use Rattle.std.proofs.Common.{◌≡◌, ◌≤◌, ℕ, Bool, ◌∙◌, arith}
use Rattle.mspec_tree.specs.declared.exprs.Expr.{Expr, fold-Expr, fold_out-Expr}
use Rattle.mspec_tree.specs.declared.exprs.Shape.{Shape, Shape-F, out-Shape, fold-Shape, map-Shape, fold_out-Shape}
use Rattle.mspec_tree.specs.declared.exprs.Shape.TheOpen as layer
use Rattle.mspec_tree.specs.Depth.{depth, shape_depth}
use Rattle.mspec_tree.specs.Form.{is_layer}
use Rattle.mspec_printer.specs.Printed.{Form, form}
use Rattle.mspec_printer.specs.Printed as printed

abbrev pub has_form : Expr → Bool
has_form e = fold-Expr Bool Bool is_layer (λ l. l.shape) e

-- a fold over an expression by its outermost layer
pub by_layer : {X : Type 0} (step : Shape-F X X → X) (e : Expr) → fold-Expr X X step (λ l. l.shape) e ≡ step (map-Shape Shape Expr X X (fold-Shape X X step (λ l. l.shape)) (fold-Expr X X step (λ l. l.shape)) (out-Shape e.shape))
by_layer {X} step e = fold_out-Expr X X step (λ l. l.shape) e ∙ fold_out-Shape X X step (λ l. l.shape) e.shape

abbrev pub depths : Shape-F Shape Expr → ℕ
depths f = shape_depth (map-Shape Shape Expr ℕ ℕ (fold-Shape ℕ ℕ shape_depth (λ l. l.shape)) depth f)

abbrev pub forms : Shape-F Shape Expr → Bool
forms f = is_layer (map-Shape Shape Expr Bool Bool (fold-Shape Bool Bool is_layer (λ l. l.shape)) has_form f)

abbrev pub printed_layer : Shape-F Shape Expr → Form
printed_layer f = printed.layer (map-Shape Shape Expr Form Form (fold-Shape Form Form printed.layer (λ l. l.shape)) form f)

-- each layer has a depth
pub some_depth : (f : Shape-F Shape Expr) → 1 ≤ depths f
some_depth (layer.Two o a b) = omega arith
some_depth (layer.If c a b) = omega arith
some_depth (layer.Dot of name) = omega arith
some_depth (layer.LengthOf of) = omega arith
some_depth (layer.Count of) = omega arith
some_depth (layer.Cast of name) = omega arith
some_depth (layer.Not of) = omega arith
some_depth (layer.Neg of) = omega arith
some_depth other = omega arith
