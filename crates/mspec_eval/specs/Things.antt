-- What the program keeps of what an expression stands for.
use Rattle.std.specs.Prelude.{ℤ, Result, Ok, Err}
use Rattle.node_tree.specs.declared.faults.EvalFault.{EvalFault}
use Rattle.node_tree.specs.declared.nodes.Node.TheVariants.{Num, Flag as FlagNode}
use Rattle.mspec_expr.specs.declared.kinds.EvalRefusal.{EvalRefusal}
use Rattle.mspec_expr.specs.declared.kinds.EvalRefusal.TheVariants.{Fails}
use Rattle.mspec_expr.specs.Values as value
use Rattle.mspec_expr.specs.Counted.{◌>>=◌}
use Rattle.mspec_eval.specs.declared.things.Thing.{Thing}
use Rattle.mspec_eval.specs.declared.things.Thing.TheVariants.{Number, Entry, Given, GivenFlag, EnumName}

abbrev pub thing_of : Thing → value.Thing
thing_of (Number n) = value.Number n
thing_of (Entry meant node) = value.Entry meant node.now
thing_of (Given meant n) = value.Entry meant (Num n)
thing_of (GivenFlag meant flag) = value.Entry meant (FlagNode flag)
thing_of (EnumName def) = value.EnumName def

abbrev pub things : Result Thing EvalFault → Result value.Thing EvalFault
things (Ok thing) = Ok (thing_of thing)
things (Err fault) = Err fault

-- what an expression is worth, kept inside the widest range
abbrev pub kept_outcome : value.Worth value.Thing → Result value.Thing EvalFault
kept_outcome one = (one >>= value.kept).outcome

-- the answer, in the caller's words
abbrev pub told : Result ℤ EvalFault → Result ℤ EvalRefusal
told (Ok number) = Ok number
told (Err fault) = Err (Fails fault)
