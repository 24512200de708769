use Rattle.std.proofs.Common.{◌≡◌, ◌*◌, ◌≤◌, List, ◌∷◌, drop, map, Result}
use Rattle.std.specs.List.{flat_map}
use Rattle.node_tree.specs.Bits.{bits_of}
use Rattle.mspec_meaning.specs.Plain.{ArePlain}
use Rattle.mspec_meaning.specs.Reads.{FieldsRead, Part, Fault, end_of}
use Rattle.mspec_meaning.proofs.FieldLemmas.{behind}
use Rattle.mspec_meaning.proofs.reading.read_fields.Given as goal

-- these parts were read, and whatever the fields that are left give goes on from them
abbrev pub invariant-loop-field : goal.invariant-loop-field
invariant-loop-field l =
    (parts : List Part)
    × (l.entries.items ≡ map (λ part. part.node) parts)
    × (l.spans.items ≡ record { from = 0; to = 0 } ∷ flat_map (λ part. part.spans) parts)
    × (end_of 0 parts ≡ 8 * l.from)
    × (8 * l.from ≤ 524280)
    × ArePlain (drop l.field-index l.fields)
    × ((outcome : Result (List Part) Fault) → FieldsRead l.above (drop l.field-index l.fields) (8 * l.from) (bits_of l.bytes) outcome → FieldsRead l.above l.fields 0 (bits_of l.bytes) (behind parts outcome))
