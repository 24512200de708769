-- Each value of a plain type, and each stream of them, has an outcome.
use Rattle.std.proofs.Common.{ℕ, ℤ, zero, suc, ◌+◌, ◌%◌, ◌<◌, ◌≤◌, Bool, List, [], ◌∷◌, length, drop, Option, Result, Ok, Err, refl, inl, inr, arith}
use Rattle.std.proofs.lemmas.Bool.{cases_eq, cases_lt}
use Rattle.std.proofs.lemmas.List.{length-drop}
use Rattle.node_tree.specs.declared.readings.Reading.{Reading}
use Rattle.node_tree.specs.declared.faults.ReadWhy.TheVariants.{ZeroItem}
use Rattle.mspec_tree.specs.declared.words.ByteOrder.{ByteOrder}
use Rattle.mspec_tree.specs.declared.fields.Field.{Field, out-Field}
use Rattle.mspec_tree.specs.declared.defs.DefBody.{DefBody}
use Rattle.mspec_tree.specs.declared.defs.DefBody.TheVariants.{Plain as PlainFields}
use Rattle.mspec_tree.specs.declared.defs.Description.{Description}
use Rattle.mspec_meaning.specs.Plain.{ArePlain, HasPlainFields, CanRead}
use Rattle.mspec_meaning.specs.Reads.{Reads, DefReads, FieldReads, FieldsRead, Part, Fault, Short, Bad, group_of, number_read, order_of}
use Rattle.mspec_meaning.specs.Stream.{StreamFrom, Ending, End, TooFew, Refused, Value, Unaligned}
use Rattle.mspec_meaning.proofs.FieldLemmas.{plain_reads}
use Rattle.mspec_meaning.proofs.OneStream.{not_nil}

-- a part that was read, and the outcome of the fields behind it
behind_part : (above : Option ByteOrder) (field : Field) (fields : List Field) (at : ℕ) (bits : List Bool) (part : Part) → FieldReads above field at bits (Ok part) → (outcome : Result (List Part) Fault) → FieldsRead above fields part.end bits outcome → (outcome : Result (List Part) Fault) × FieldsRead above (field ∷ fields) at bits outcome
behind_part above field fields at bits part read (Ok parts) rest = (Ok (part ∷ parts), (read, rest))
behind_part above field fields at bits part read (Err fault) rest = (Err fault, inr (part, read, rest))

-- the outcome of a field and that of the fields behind it make that of all
joined : (above : Option ByteOrder) (field : Field) (fields : List Field) (at : ℕ) (bits : List Bool) (first : Result Part Fault) → FieldReads above field at bits first → ((next : ℕ) → (outcome : Result (List Part) Fault) × FieldsRead above fields next bits outcome) → (outcome : Result (List Part) Fault) × FieldsRead above (field ∷ fields) at bits outcome
joined above field fields at bits (Err fault) read rest = (Err fault, inl read)
joined above field fields at bits (Ok part) read rest = behind_part above field fields at bits part read (rest part.end).0 (rest part.end).1

fields_outcome : (above : Option ByteOrder) (fields : List Field) → ArePlain fields → (at : ℕ) (bits : List Bool) → (outcome : Result (List Part) Fault) × FieldsRead above fields at bits outcome
fields_outcome above [] plain at bits = (Ok [], refl)
fields_outcome above (field ∷ fields) plain at bits =
    let width = plain.0.0 in
    let order = order_of (out-Field field).order above width in
    let read = number_read order width at bits in
    joined above field fields at bits read (plain_reads above field order width at bits read plain.0.1 refl refl)
    (λ next. fields_outcome above fields plain.1 next bits)

as_reading : (above : Option ByteOrder) (fields : List Field) (bits : List Bool) (outcome : Result (List Part) Fault) → FieldsRead above fields 0 bits outcome → (reading : Result Reading Fault) × DefReads above (PlainFields fields) bits reading
as_reading above fields bits (Ok parts) read = (Ok (group_of parts), (parts, read, refl))
as_reading above fields bits (Err fault) read = (Err fault, read)

def_outcome : (above : Option ByteOrder) (body : DefBody) → HasPlainFields body → (bits : List Bool) → (outcome : Result Reading Fault) × DefReads above body bits outcome
def_outcome above (PlainFields fields) plain bits =
    let read = fields_outcome above fields plain 0 bits in
    as_reading above fields bits read.0 read.1
def_outcome above other plain bits = absurd plain

pub some_outcome : (d : Description) (def : ℕ) (args : List ℤ) → CanRead d def args → (bits : List Bool) → (outcome : Result Reading Fault) × Reads d def args bits outcome
some_outcome d def args can bits =
    let read = def_outcome can.0.order can.0.body can.4 bits in
    (read.0, (can.0, can.1, can.2, can.3, read.1))

-- ---- streams

shorter : (n read : ℕ) (bits : List Bool) → length bits ≤ suc n → 0 < length bits → 0 < read → length (drop read bits) ≤ n
shorter n read bits h some pos = omega (arith, length-drop read bits)

-- what is to show of the bits that are left
abbrev SomeStream : Description → ℕ → List ℤ → ℕ → List Bool → Type 0
SomeStream d def args at bits = (readings : List Reading) × (ending : Ending) × StreamFrom d def args at bits readings ending

from_reading : (d : Description) (def : ℕ) (args : List ℤ) (at : ℕ) (bit : Bool) (bits : List Bool) (reading : Reading) → Reads d def args (bit ∷ bits) (Ok reading) → (0 < reading.bits → SomeStream d def args (at + reading.bits) (drop reading.bits (bit ∷ bits))) → SomeStream d def args at (bit ∷ bits)
from_reading d def args at bit bits reading read rest =
    elim (cases_lt 0 reading.bits) [
      | inr none ↦ ([], Refused at (Value ZeroItem), (not_nil bit bits, inr ((reading, read, omega arith), refl, refl)))
      | inl some ↦ elim (cases_eq (reading.bits % 8) 0) [
        | inl whole ↦ (reading ∷ (rest some).0, (rest some).1, (not_nil bit bits, read, some, whole, (rest some).2))
        | inr part ↦ ([], Refused (at + reading.bits) Unaligned, (not_nil bit bits, (reading, read, part, refl)))
      ]
    ]

from_outcome : (d : Description) (def : ℕ) (args : List ℤ) (at : ℕ) (bit : Bool) (bits : List Bool) (outcome : Result Reading Fault) → Reads d def args (bit ∷ bits) outcome → ((read : ℕ) → 0 < read → SomeStream d def args (at + read) (drop read (bit ∷ bits))) → SomeStream d def args at (bit ∷ bits)
from_outcome d def args at bit bits (Ok reading) read rest = from_reading d def args at bit bits reading read (rest reading.bits)
from_outcome d def args at bit bits (Err Short) read rest = ([], TooFew (length (bit ∷ bits)), (not_nil bit bits, read, refl))
from_outcome d def args at bit bits (Err (Bad within why)) read rest = ([], Refused (at + within) (Value why), (not_nil bit bits, inl (within, read, refl)))

stream_within : (d : Description) (def : ℕ) (args : List ℤ) → CanRead d def args → (most at : ℕ) (bits : List Bool) → length bits ≤ most → SomeStream d def args at bits
stream_within d def args can most at [] h = ([], End, refl)
stream_within d def args can zero at (bit ∷ bits) h = absurd (omega arith)
stream_within d def args can (suc most) at (bit ∷ bits) h =
    let read = some_outcome d def args can (bit ∷ bits) in
    from_outcome d def args at bit bits read.0 read.1 (λ used pos. stream_within d def args can most (at + used) (drop used (bit ∷ bits)) (shorter most used (bit ∷ bits) h (omega arith) pos))

pub some_stream : (d : Description) (def : ℕ) (args : List ℤ) → CanRead d def args → (at : ℕ) (bits : List Bool) → (readings : List Reading) × (ending : Ending) × StreamFrom d def args at bits readings ending
some_stream d def args can at bits = stream_within d def args can (length bits) at bits (omega arith)
