-- The values of a type one after another in bytes.
use Rattle.std.specs.Prelude.{ℕ, ℤ, ◌≡◌, ◌≢◌, ◌+◌, ◌%◌, ◌<◌, ◌⊎◌, Bool, List, [], ◌∷◌, length, drop, Result, Ok, Err}
use Rattle.node_tree.specs.Bits.{bits_of}
use Rattle.node_tree.specs.declared.readings.Reading.{Reading}
use Rattle.node_tree.specs.declared.faults.ReadWhy.{ReadWhy}
use Rattle.node_tree.specs.declared.faults.ReadWhy.TheVariants.{ZeroItem}
use Rattle.mspec_tree.specs.declared.defs.Description.{Description}
use Rattle.mspec_expr.specs.Contexts.{Fault, Short, Bad}
use Rattle.mspec_expr.specs.Reads.{reads}

-- why a value of a stream is refused: by its reading, or because it ends inside a byte
pub data Why : Type 0 where
  Value : (why : ReadWhy) → Why
  Unaligned : Why

-- How the values end: no bit is left; some are left that are too few for a value; or there is none from a bit on,
-- counted from the first byte of the stream.
pub data Ending : Type 0 where
  End : Ending
  TooFew : (left : ℕ) → Ending
  Refused : (bit : ℕ) (why : Why) → Ending

-- the outcome of reading bits, as a relation
abbrev pub Reads : Description → (def : ℕ) → (args : List ℤ) → List Bool → Result Reading Fault → Type 0
Reads d def args bits outcome = reads d def args bits ≡ outcome

-- a value without bits, while bits are left
abbrev pub ReadsNothing : Description → ℕ → List ℤ → List Bool → Type 0
ReadsNothing d def args bits = (reading : Reading) × Reads d def args bits (Ok reading) × (reading.bits ≡ 0)

-- the values end with these bits, of which the first is the stream's bit `at`
abbrev pub Ends : Description → ℕ → List ℤ → (at : ℕ) → List Bool → Ending → Type 0
Ends d def args at bits End = bits ≡ []
Ends d def args at bits (TooFew left) = (bits ≢ []) × Reads d def args bits (Err Short) × (left ≡ length bits)
Ends d def args at bits (Refused bit (Value why)) =
    (bits ≢ [])
    × (((within : ℕ) × Reads d def args bits (Err (Bad within why)) × (bit ≡ at + within))
    ⊎ (ReadsNothing d def args bits × (why ≡ ZeroItem) × (bit ≡ at)))
Ends d def args at bits (Refused bit Unaligned) =
    (bits ≢ [])
    × ((reading : Reading) × Reads d def args bits (Ok reading) × (reading.bits % 8 ≢ 0) × (bit ≡ at + reading.bits))

-- From the stream's bit `at` on stand these readings, each where the one before ended, and then this ending.
abbrev pub StreamFrom : Description → ℕ → List ℤ → (at : ℕ) → List Bool → List Reading → Ending → Type 0
StreamFrom d def args at bits [] ending = Ends d def args at bits ending
StreamFrom d def args at bits (reading ∷ readings) ending =
    (bits ≢ [])
    × Reads d def args bits (Ok reading)
    × (0 < reading.bits)
    × (reading.bits % 8 ≡ 0)
    × StreamFrom d def args (at + reading.bits) (drop reading.bits bits) readings ending

-- the readings in bytes, and how they end
abbrev pub Stream : Description → ℕ → List ℤ → (bytes : List ℕ) → List Reading → Ending → Type 0
Stream d def args bytes readings ending = StreamFrom d def args 0 (bits_of bytes) readings ending
