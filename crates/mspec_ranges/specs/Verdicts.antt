-- What the code keeps of what an expression is: of all that is wrong, what is told.
use Rattle.std.specs.Prelude.{◌≡◌, Bool, false, List, [], ◌∷◌, ◌++◌, Option, Some, None, Result, Ok, Err, if◌then◌else◌}
use Rattle.mspec_tree.specs.declared.words.Place.{Place}
use Rattle.mspec_expr.specs.declared.kinds.Fault.{Fault}
use Rattle.mspec_expr.specs.declared.kinds.Range.{Range}
use Rattle.mspec_expr.specs.declared.kinds.RangeFault.{RangeFault}
use Rattle.mspec_expr.specs.declared.kinds.RangeFault.TheVariants.{At}
use Rattle.mspec_expr.specs.declared.kinds.Meant.{Meant}
use Rattle.mspec_expr.specs.declared.kinds.Meant.TheVariants.{Number, Flag as FlagKind}
use Rattle.mspec_expr.specs.Kinds.{no_range}
use Rattle.mspec_expr.specs.Ranges.{Judged, fault_before, first_fault, is, is_flag, is_kind, kind_wrong}
use Rattle.mspec_ranges.specs.declared.spans.Span.{Span}
use Rattle.mspec_ranges.specs.declared.spans.Span.TheVariants.{Within}
use Rattle.mspec_ranges.specs.declared.verdicts.Verdict.{Verdict}

-- the one of two that is told
abbrev pub earlier : Option Fault → Option Fault → Option Fault
earlier None other = other
earlier (Some a) None = Some a
earlier (Some a) (Some b) = Some (if fault_before b a then b else a)

-- the one of all that is told
abbrev pub earliest : List Fault → Option Fault
earliest [] = None
earliest (fault ∷ faults) = Some (first_fault fault faults)

-- a verdict is that of what an expression is
pub record Tells (verdict : Verdict) (judged : Judged) : Type 0 where
  pub meant : verdict.meant ≡ judged.meant
  pub optional : verdict.optional ≡ judged.optional
  pub fault : verdict.fault ≡ earliest judged.faults

-- a number, which has this range if nothing is wrong with it
abbrev pub ranged : Span → Option Fault → Range
ranged (Within r) None = r
ranged span own = no_range

pub record NumberIs (span : Span) (own under : Option Fault) (verdict : Verdict) : Type 0 where
  pub meant : verdict.meant ≡ Some (Number (ranged span own))
  pub optional : verdict.optional ≡ false
  pub fault : verdict.fault ≡ earlier own under

-- an operator that gives a flag, and is wrong unless its operands are right
abbrev pub tested : (right : Bool) → Place → Judged → Judged → Judged
tested right place a b = is FlagKind (kind_wrong right place ++ a.faults ++ b.faults)

abbrev pub denied : Place → Judged → Judged
denied place a = is FlagKind (kind_wrong (is_kind is_flag a.meant) place ++ a.faults)

-- the answer, in the caller's words
abbrev pub told : Result Meant Fault → Result Meant RangeFault
told (Ok meant) = Ok meant
told (Err fault) = Err (At fault.place fault.why)
