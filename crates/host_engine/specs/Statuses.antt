-- The numbers that the program answers.
use Rattle.std.specs.Prelude.{ℕ}
use Rattle.host_engine.specs.declared.faults.Cut.{Cut}
use Rattle.host_engine.specs.declared.faults.Cut.TheVariants as cuts
use Rattle.host_engine.specs.declared.statuses.Status.{Status}
use Rattle.host_engine.specs.declared.statuses.Status.TheVariants as statuses

-- the number of what a run came to
abbrev pub number_of : Status → ℕ
number_of statuses.Well = 0
number_of statuses.DescriptionRefused = 1
number_of statuses.WordsRefused = 2
number_of statuses.FileFault = 3
number_of statuses.ReadFault = 4
number_of statuses.ValueRefused = 6
number_of statuses.Truncated = 7
number_of statuses.LineRefused = 10
number_of statuses.TypeRefused = 12
number_of statuses.TooLong = 13

-- the number of a run that was cut off
abbrev pub cut_number : Cut → ℕ
cut_number cuts.WriteFault = 5
cut_number cuts.NoMemory = 8
