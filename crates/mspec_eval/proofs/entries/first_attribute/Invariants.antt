use Rattle.std.proofs.Common.{◌≡◌, drop}
use Rattle.mspec_expr.specs.Values.{attributes}
use Rattle.mspec_eval.proofs.entries.first_attribute.Given as goal

abbrev pub invariant-loop-constant : goal.invariant-loop-constant
invariant-loop-constant l = attributes l.place l.number l.constants ≡ attributes l.place l.number (drop l.constant-index l.constants)
