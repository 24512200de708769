-- Which kinds of expressions fit a place. Numbers and enum values take each other's place.
use Rattle.std.specs.Prelude.{Bool, true, false, ◌||◌}
use Rattle.mspec_expr.specs.declared.kinds.Meant.{Meant}
use Rattle.mspec_expr.specs.declared.kinds.Meant.TheVariants.{Number, EnumOf, Flag as FlagKind}
use Rattle.mspec_expr.specs.Ranges.{is_number, is_flag}
use Rattle.mspec_check.specs.declared.wants.Want.{Want}
use Rattle.mspec_check.specs.declared.wants.Want.TheVariants.{AnyKind, Numbers, Flags, Values}

-- what a type wants; one that is neither a number's nor a flag's is itself at fault
abbrev pub want_of : Meant → Want
want_of (Number range) = Numbers
want_of (EnumOf def) = Numbers
want_of FlagKind = Flags
want_of other = AnyKind

abbrev pub fits : Want → Meant → Bool
fits AnyKind meant = true
fits Numbers meant = is_number meant
fits Flags meant = is_flag meant
fits Values meant = is_number meant || is_flag meant

-- a flag where a number is wanted, or the reverse
abbrev pub is_reverse : Want → Meant → Bool
is_reverse Numbers meant = is_flag meant
is_reverse Flags meant = is_number meant
is_reverse other meant = false
