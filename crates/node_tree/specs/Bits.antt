-- The bits of bytes, and the numbers that bits spell.
use Rattle.std.specs.Prelude.{ℕ, zero, suc, ◌+◌, ◌*◌, ◌/◌, ◌%◌, ◌==◌, Bool, true, false, List, [], ◌∷◌, ◌++◌}

-- the bits of a number of so many bits, the most significant first
unfoldable pub number_bits : (width number : ℕ) → List Bool
number_bits zero number = []
number_bits (suc width) number = number_bits width (number / 2) ++ (number % 2 == 1) ∷ []

-- the bits of bytes, the most significant bit of each byte first
abbrev pub bits_of : List ℕ → List Bool
bits_of [] = []
bits_of (byte ∷ bytes) = number_bits 8 byte ++ bits_of bytes

-- a bit as a digit
abbrev pub digit : Bool → ℕ
digit true = 1
digit false = 0

-- the number that these bits spell, the most significant first, behind those that spell `above`
abbrev pub spelled_behind : (above : ℕ) → List Bool → ℕ
spelled_behind above [] = above
spelled_behind above (bit ∷ bits) = spelled_behind (2 * above + digit bit) bits

-- the number that bits spell, the most significant first
abbrev pub big_number : List Bool → ℕ
big_number bits = spelled_behind 0 bits

-- the groups of eight bits in reverse order; bits that are no whole group stand in front
abbrev pub groups_reversed : List Bool → List Bool
groups_reversed (a ∷ b ∷ c ∷ d ∷ e ∷ f ∷ g ∷ h ∷ bits) =
    groups_reversed bits ++ a ∷ b ∷ c ∷ d ∷ e ∷ f ∷ g ∷ h ∷ []
groups_reversed bits = bits

-- the number that bits spell in groups of eight, the least significant group first
abbrev pub little_number : List Bool → ℕ
little_number bits = big_number (groups_reversed bits)
