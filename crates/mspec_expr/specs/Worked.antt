-- Worked examples of reading and writing: of each group of kinds one value that is there, and one that is refused.
use Rattle.std.specs.Prelude.{ℕ, ℤ, pos, negsuc, ◌≡◌, List, [], ◌∷◌, Result, Ok, Err, false}
use Rattle.node_tree.specs.Bits.{bits_of}
use Rattle.node_tree.specs.declared.nodes.Node.{Node}
use Rattle.node_tree.specs.declared.nodes.Node.TheVariants.{Num, Flag, Blob, Unset, Absent, List as ListNode, Group}
use Rattle.node_tree.specs.declared.readings.Reading.{Reading}
use Rattle.node_tree.specs.declared.faults.ReadWhy.TheVariants.{ConstMismatch, NoCase, CountRange, LengthOverrun, ValueRange, ChecksumMismatch, NullAccess, CastFails, TooDeep}
use Rattle.node_tree.specs.declared.faults.WriteWhy.TheVariants as write
use Rattle.mspec_tree.specs.declared.defs.Description.{Description}
use Rattle.mspec_expr.specs.Contexts.{Fault, Short, Bad}
use Rattle.mspec_expr.specs.Desks.{At}
use Rattle.mspec_expr.specs.Reads.{reads}
use Rattle.mspec_expr.specs.Writes.{writes, filled}
use Rattle.mspec_expr.specs.Examples.{quotients, one_more_and_one_less, maybe_one_more, little_number, one_const, modbus, numbers_by_count, numbers_by_length, items_with_arguments, one_argument, summed, from_inside_a_byte, padded_items, own_length, endless, taken_as}

-- ---- short forms

abbrev pub node_read : Result Reading Fault → Result Node Fault
node_read (Ok reading) = Ok reading.node
node_read (Err fault) = Err fault

-- the node that bytes are by the first definition, with these arguments
abbrev pub read : Description → List ℤ → (bytes : List ℕ) → Result Node Fault
read d args bytes = node_read (reads d 0 args (bits_of bytes))

-- a node is written by the first definition as these bytes
abbrev pub IsWritten : Description → List ℤ → Node → (bytes : List ℕ) → Type 0
IsWritten d args node bytes = writes d 0 args node ≡ Ok (bits_of bytes)

abbrev pub n : ℕ → Node
n number = Num (pos number)

-- the number below zero by so much
abbrev pub below_zero : ℕ → Node
below_zero number = Num (negsuc number)

abbrev pub group : List Node → Node
group entries = Group 0 entries

-- ---- the examples

-- division goes toward zero, and a remainder has the dividend's sign: -7 / 4 is -1, and -7 % 4 is -3
abbrev pub Expressions : Type 0
Expressions = (read quotients [] (249 ∷ []) ≡ Ok (group (below_zero 6 ∷ below_zero 0 ∷ below_zero 2 ∷ [])))
    × (read maybe_one_more [] (1 ∷ []) ≡ Err (Bad 8 NullAccess))

-- a number on the way, too, stays inside -2^63 to 2^64 - 1
abbrev pub Greatest : Type 0
Greatest = (read one_more_and_one_less [] (255 ∷ 255 ∷ 255 ∷ 255 ∷ 255 ∷ 255 ∷ 255 ∷ 254 ∷ [])
    ≡ Ok (group (n 18446744073709551614 ∷ n 18446744073709551614 ∷ [])))
    × (read one_more_and_one_less [] (255 ∷ 255 ∷ 255 ∷ 255 ∷ 255 ∷ 255 ∷ 255 ∷ 255 ∷ []) ≡ Err (Bad 64 NullAccess))

abbrev pub Optionals : Type 0
Optionals = (read maybe_one_more [] (2 ∷ 3 ∷ []) ≡ Ok (group (n 2 ∷ n 3 ∷ n 4 ∷ [])))
    × (read maybe_one_more [] (2 ∷ []) ≡ Err Short)
    × (writes maybe_one_more 0 [] (group (n 2 ∷ Absent ∷ Unset ∷ [])) ≡ Err (At 2 write.CountDisagrees))

-- bits that are missing come before a comparison
abbrev pub Numbers : Type 0
Numbers = (read little_number [] (1 ∷ 35 ∷ 69 ∷ []) ≡ Ok (group (n 0 ∷ n 13330 ∷ n 5 ∷ [])))
    × (read one_const [] (0 ∷ 2 ∷ []) ≡ Err (Bad 0 ConstMismatch))
    × (read one_const [] (2 ∷ []) ≡ Err Short)

abbrev pub Switches : Type 0
Switches = (read modbus (pos 1 ∷ []) (3 ∷ 2 ∷ 0 ∷ 42 ∷ []) ≡ Ok (Group 3 (Flag false ∷ n 3 ∷ n 2 ∷ Blob (0 ∷ 42 ∷ []) ∷ [])))
    × (read modbus (pos 0 ∷ []) (3 ∷ 0 ∷ 107 ∷ 0 ∷ 3 ∷ []) ≡ Ok (Group 2 (Flag false ∷ n 3 ∷ n 107 ∷ n 3 ∷ [])))
    × (read modbus (pos 0 ∷ []) (4 ∷ 0 ∷ 107 ∷ 0 ∷ 3 ∷ []) ≡ Err (Bad 8 NoCase))
    × (writes modbus 0 (pos 1 ∷ []) (Group 2 (Flag false ∷ n 3 ∷ n 107 ∷ n 3 ∷ [])) ≡ Err (At 0 write.CaseDisagrees))

abbrev pub CountArrays : Type 0
CountArrays = (read numbers_by_count [] (2 ∷ 0 ∷ 1 ∷ 255 ∷ 255 ∷ []) ≡ Ok (group (n 2 ∷ ListNode (n 1 ∷ n 65535 ∷ []) ∷ [])))
    × (read numbers_by_count [] (255 ∷ 0 ∷ []) ≡ Err (Bad 8 CountRange))

abbrev pub LengthArrays : Type 0
LengthArrays = (read numbers_by_length [] (4 ∷ 0 ∷ 1 ∷ 0 ∷ 2 ∷ []) ≡ Ok (group (n 4 ∷ ListNode (n 1 ∷ n 2 ∷ []) ∷ [])))
    × (read numbers_by_length [] (3 ∷ 0 ∷ 1 ∷ 0 ∷ 2 ∷ []) ≡ Err (Bad 24 LengthOverrun))

-- in an array they are evaluated before each item
abbrev pub Arguments : Type 0
Arguments = (read items_with_arguments [] (5 ∷ 1 ∷ 2 ∷ [])
    ≡ Ok (group (n 5 ∷ ListNode (group (n 1 ∷ n 6 ∷ n 1 ∷ []) ∷ group (n 2 ∷ n 7 ∷ n 2 ∷ []) ∷ []) ∷ [])))
    × (read one_argument [] (1 ∷ 0 ∷ []) ≡ Err (Bad 16 ValueRange))

-- sums and positions count from the first bit of the type, here inside a byte
abbrev pub Checksums : Type 0
Checksums = (read summed [] (1 ∷ 2 ∷ 3 ∷ []) ≡ Ok (group (n 1 ∷ n 2 ∷ n 3 ∷ [])))
    × (read summed [] (1 ∷ 2 ∷ 4 ∷ []) ≡ Err (Bad 16 ChecksumMismatch))
    × (read from_inside_a_byte [] (1 ∷ 35 ∷ 18 ∷ []) ≡ Ok (group (n 0 ∷ group (n 291 ∷ n 1 ∷ n 18 ∷ []) ∷ [])))

-- all items but the last one are padded
abbrev pub padded : (last : Node) → Node
padded last = group (Unset ∷ ListNode (group (Unset ∷ Blob (10 ∷ []) ∷ Unset ∷ []) ∷ group (Unset ∷ Blob (13 ∷ []) ∷ last ∷ []) ∷ []) ∷ [])

abbrev pub Paddings : Type 0
Paddings = IsWritten padded_items [] (padded Unset) (2 ∷ 1 ∷ 10 ∷ 0 ∷ 1 ∷ 13 ∷ [])
    × (filled padded_items 0 [] (padded Unset)
    ≡ Ok (group (n 2 ∷ ListNode (group (n 1 ∷ Blob (10 ∷ []) ∷ ListNode (n 0 ∷ []) ∷ []) ∷ group (n 1 ∷ Blob (13 ∷ []) ∷ ListNode [] ∷ []) ∷ []) ∷ [])))
    × (read padded_items [] (2 ∷ 1 ∷ 10 ∷ 0 ∷ 1 ∷ 13 ∷ [])
    ≡ Ok (group (n 2 ∷ ListNode (group (n 1 ∷ Blob (10 ∷ []) ∷ ListNode (n 0 ∷ []) ∷ []) ∷ group (n 1 ∷ Blob (13 ∷ []) ∷ ListNode [] ∷ []) ∷ []) ∷ [])))
    × (writes padded_items 0 [] (padded (ListNode (n 0 ∷ []))) ≡ Err (At 10 write.CountDisagrees))

-- the items of an unset padding count in the length
abbrev pub Lengths : Type 0
Lengths = IsWritten own_length [] (group (Unset ∷ Unset ∷ Unset ∷ [])) (7 ∷ 5 ∷ 0 ∷ 0 ∷ 0 ∷ [])
    × (writes own_length 0 [] (group (Unset ∷ n 4 ∷ Unset ∷ [])) ≡ Err (At 2 write.LocalDisagrees))

abbrev pub Depths : Type 0
Depths = read endless [] [] ≡ Err (Bad 0 TooDeep)

abbrev pub Casts : Type 0
Casts = (read taken_as [] (1 ∷ 5 ∷ []) ≡ Ok (group (Group 1 (n 1 ∷ n 5 ∷ []) ∷ n 5 ∷ [])))
    × (read taken_as [] (2 ∷ []) ≡ Err (Bad 8 CastFails))

-- each of these looks at the whole value before the next: a form, then a number out of its type, then the fields in order
abbrev pub Refusals : Type 0
Refusals = (writes modbus 0 (pos 1 ∷ []) (Group 3 (Flag false ∷ n 300 ∷ n 9 ∷ n 0 ∷ [])) ≡ Err (At 4 write.Shape))
    × (writes modbus 0 (pos 1 ∷ []) (Group 3 (Flag false ∷ n 300 ∷ n 9 ∷ Blob (0 ∷ []) ∷ [])) ≡ Err (At 2 write.ValueRange))
    × (writes modbus 0 (pos 1 ∷ []) (Group 3 (Flag false ∷ n 3 ∷ n 9 ∷ Blob (0 ∷ []) ∷ [])) ≡ Err (At 3 write.LocalDisagrees))
