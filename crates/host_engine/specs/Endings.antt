-- How the values end, as the program keeps it.
use Rattle.mspec_meaning.specs.Stream.{Ending, End, TooFew, Refused, Why, Value, Unaligned}
use Rattle.std.specs.Prelude.{ℕ, ◌+◌, Result, Ok, Err}
use Rattle.node_tree.specs.declared.faults.ReadFault.{ReadFault}
use Rattle.node_tree.specs.declared.faults.ReadFault.TheVariants.{Short as ShortFault, Bad as BadFault, NoMemory as ReadNoMemory}
use Rattle.host_engine.specs.declared.faults.Cut.{Cut}
use Rattle.host_engine.specs.declared.faults.Cut.TheVariants.{NoMemory}
use Rattle.host_engine.specs.declared.values.Rest.{Rest}
use Rattle.host_engine.specs.declared.values.Rest.TheVariants.{Whole, Short, Bad}
use Rattle.host_engine.specs.declared.values.ValueWhy.{ValueWhy}
use Rattle.host_engine.specs.declared.values.ValueWhy.TheVariants.{Reading, PartOfByte}

abbrev pub why_of : ValueWhy → Why
why_of (Reading why) = Value why
why_of PartOfByte = Unaligned

abbrev pub ending_of : Rest → Ending
ending_of Whole = End
ending_of (Short left) = TooFew left
ending_of (Bad bit why) = Refused bit (why_of why)

-- how the values end at a fault in the value that begins at this bit, with so many bits left
abbrev pub fault_rest : ReadFault → (bit left : ℕ) → Result Rest Cut
fault_rest ShortFault bit left = Ok (Short left)
fault_rest (BadFault within why) bit left = Ok (Bad (bit + within) (Reading why))
fault_rest ReadNoMemory bit left = Err NoMemory
