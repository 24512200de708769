-- The worked examples: each computes.
use Rattle.std.specs.Prelude.{refl}
use Rattle.mspec_expr.specs.Examples.{trees}
use Rattle.mspec_expr.specs.Worked.{Expressions, Greatest, Optionals, Numbers, Switches, CountArrays, LengthArrays, Arguments, Checksums, Paddings, Lengths, Depths, Casts, Refusals}

pub expressions : Expressions
unfolding trees
expressions = (refl, refl)

pub greatest : Greatest
unfolding trees
greatest = (refl, refl)

pub optionals : Optionals
unfolding trees
optionals = (refl, refl, refl)

pub numbers : Numbers
unfolding trees
numbers = (refl, refl, refl)

pub switches : Switches
unfolding trees
switches = (refl, refl, refl, refl)

pub count_arrays : CountArrays
unfolding trees
count_arrays = (refl, refl)

pub length_arrays : LengthArrays
unfolding trees
length_arrays = (refl, refl)

pub arguments : Arguments
unfolding trees
arguments = (refl, refl)

pub checksums : Checksums
unfolding trees
checksums = (refl, refl, refl)

pub paddings : Paddings
unfolding trees
paddings = (refl, refl, refl, refl)

pub lengths : Lengths
unfolding trees
lengths = (refl, refl)

pub depths : Depths
unfolding trees
depths = refl

pub casts : Casts
unfolding trees
casts = (refl, refl)

pub refusals : Refusals
unfolding trees
refusals = (refl, refl, refl)
