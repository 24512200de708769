-- The number that bits spell in an order of bytes, the bits that spell a number, and bits in the place of others.
use Rattle.std.specs.Prelude.{ℕ, ◌+◌, Bool, List, ◌++◌, length, take, drop}
use Rattle.node_tree.specs.Bits.{number_bits, groups_reversed, big_number, little_number}
use Rattle.bit_base.specs.declared.orders.Order.{Order}
use Rattle.bit_base.specs.declared.orders.Order.TheVariants.{Big, Little}

-- the number that bits spell in this order of bytes
abbrev pub number : Order → List Bool → ℕ
number Big bits = big_number bits
number Little bits = little_number bits

-- the bits, so many, that spell a value in this order of bytes
abbrev pub spelling : Order → (width value : ℕ) → List Bool
spelling Big width value = number_bits width value
spelling Little width value = groups_reversed (number_bits width value)

-- these bits in the place of as many others, from the place `bit` on
abbrev pub put_bits : List Bool → (bit : ℕ) → List Bool → List Bool
put_bits old bit bits = take bit old ++ bits ++ drop (bit + length bits) old
