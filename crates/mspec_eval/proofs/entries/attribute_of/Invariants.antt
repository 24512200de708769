use Rattle.std.proofs.Common.{◌≡◌, drop}
use Rattle.mspec_expr.specs.Values.{attribute_of}
use Rattle.mspec_eval.proofs.entries.attribute_of.Given as goal

abbrev pub invariant-loop-place : goal.invariant-loop-place
invariant-loop-place l =
    attribute_of l.d l.def l.number l.name l.param-items 0 ≡ attribute_of l.d l.def l.number l.name (drop l.place l.param-items) l.place
