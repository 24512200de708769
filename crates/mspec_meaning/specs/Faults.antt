-- The faults that a reader answers, as those that the meaning of the bits has.
use Rattle.node_tree.specs.declared.faults.ReadFault.{ReadFault}
use Rattle.node_tree.specs.declared.faults.ReadFault.TheVariants.{Short as ShortFault, Bad as BadFault, NoMemory}
use Rattle.mspec_meaning.specs.Reads.{Fault, Short, Bad}

-- P of the fault that was answered, unless memory ran out
abbrev pub OfFault : ReadFault → (Fault → Type 0) → Type 0
OfFault ShortFault P = P Short
OfFault (BadFault bit why) P = P (Bad bit why)
OfFault NoMemory P = Unit {0}
