-- A reading of a plain type has a number for each field.
use Rattle.std.proofs.Common.{◌≡◌, ℕ, ℤ, Bool, true, false, List, [], ◌∷◌, length, map, Option, Some, Result, Ok, Err, refl, sym, ap, ◌∙◌, subst, suc}
use Rattle.std.specs.Prelude.{pos, if◌then◌else◌, slice_get}
use Rattle.node_tree.specs.declared.nodes.Node.{Node}
use Rattle.node_tree.specs.declared.nodes.Node.TheVariants.{Num, Group}
use Rattle.node_tree.specs.declared.readings.Reading.{Reading}
use Rattle.node_tree.specs.declared.faults.ReadWhy.TheVariants.{TooLong}
use Rattle.mspec_tree.specs.declared.words.ByteOrder.{ByteOrder}
use Rattle.mspec_tree.specs.declared.words.Simple.TheVariants.{Uint}
use Rattle.mspec_tree.specs.declared.exprs.Ref.TheVariants.{Plain}
use Rattle.mspec_tree.specs.declared.fields.Field.{Field, out-Field}
use Rattle.mspec_tree.specs.declared.fields.Body.{Body, out-Body}
use Rattle.mspec_tree.specs.declared.fields.Body.TheOpen.{Body-F, Simple}
use Rattle.mspec_tree.specs.declared.fields.Case.{Case}
use Rattle.mspec_tree.specs.declared.defs.Def.{Def}
use Rattle.mspec_tree.specs.declared.defs.DefBody.{DefBody}
use Rattle.mspec_tree.specs.declared.defs.DefBody.TheVariants.{Plain as PlainFields}
use Rattle.mspec_tree.specs.declared.defs.Description.{Description}
use Rattle.mspec_meaning.specs.Plain.{ArePlain, CanRead, HasPlainFields, HasWidth}
use Rattle.mspec_meaning.specs.Reads.{BodyReads, DefReads, Fault, Short, Bad, FieldsRead, Part, Reads, number_part}
use Rattle.mspec_meaning.specs.Shape.{HasNumbers}

-- a part that is a number
abbrev IsNumber : Part → Type 0
IsNumber part = (n : ℕ) × (part.node ≡ Num (pos n))

number_if : (long short : Bool) (value width at : ℕ) (part : Part) (outcome : Result Part Fault) → outcome ≡ (if long then Err (Bad at TooLong) else if short then Err Short else Ok (number_part value width at)) → outcome ≡ Ok part → IsNumber part
number_if true short value width at part outcome is read = absurd (cc)
number_if false true value width at part outcome is read = absurd (cc)
number_if false false value width at part outcome is read = let same : number_part value width at ≡ part = cc in (value, sym (ap (λ (p : Part). p.node) same))

body_number : (body : Body-F Body Case Field) (width : ℕ) → HasWidth body width → (own above : Option ByteOrder) (at : ℕ) (bits : List Bool) (part : Part) → BodyReads body own above at bits (Ok part) → IsNumber part
body_number (Simple (Plain (Uint written))) width plain own above at bits part read = number_if _ _ _ written at part (Ok part) read refl
body_number other width plain own above at bits part read = absurd plain

abbrev AreNumbers : List Field → List Part → Type 0
AreNumbers fields parts = (numbers : List ℕ) × (map (λ (part : Part). part.node) parts ≡ map (λ n. Num (pos n)) numbers) × (length numbers ≡ length fields)

no_parts : (parts : List Part) (outcome : Result (List Part) Fault) → outcome ≡ Ok parts → outcome ≡ Ok [] → AreNumbers [] parts
no_parts [] outcome is none = ([], refl, refl)
no_parts (part ∷ parts) outcome is none = absurd (cc)

fields_numbers : (fields : List Field) → ArePlain fields → (above : Option ByteOrder) (at : ℕ) (bits : List Bool) (parts : List Part) → FieldsRead above fields at bits (Ok parts) → AreNumbers fields parts
fields_numbers [] plain above at bits parts read = no_parts parts (Ok parts) refl read
fields_numbers (field ∷ fields) plain above at bits [] read = absurd read
fields_numbers (field ∷ fields) plain above at bits (part ∷ parts) read =
    let first = body_number (out-Body (out-Field field).body) plain.0.0 plain.0.1 (out-Field field).order above at bits part read.0 in
    let rest = fields_numbers fields plain.1 above part.end bits parts read.1 in (
      first.0 ∷ rest.0,
      ap (λ (node : Node). node ∷ map (λ (p : Part). p.node) parts) first.1 ∙ ap (λ (nodes : List Node). Num (pos first.0) ∷ nodes) rest.1,
      ap suc rest.2,
    )

def_numbers : (d : Description) (def : ℕ) (found : Def) (order : Option ByteOrder) (body : DefBody) (bits : List Bool) (reading : Reading) → slice_get d.defs def ≡ Some found → found.body ≡ body → HasPlainFields body → DefReads order body bits (Ok reading) → HasNumbers d def reading.node
def_numbers d def found order (PlainFields fields) bits reading at is plain read =
    let all = fields_numbers fields plain order 0 bits read.0 read.1 in
    record {
      found = found;
      fields = fields;
      numbers = all.0;
      at = at;
      plain = is;
      group = ap (λ (r : Reading). r.node) read.2 ∙ ap (λ (nodes : List Node). Group 0 nodes) all.1;
      each = all.2;
    }
def_numbers d def found order other bits reading at is plain read = absurd plain

pub numbers_read : (d : Description) (def : ℕ) (args : List ℤ) (bits : List Bool) (reading : Reading) → CanRead d def args → Reads d def args bits (Ok reading) → HasNumbers d def reading.node
numbers_read d def args bits reading can read =
    let same : can.0 ≡ read.0 = let here = can.1 in let there = read.1 in cc in
    let plain : HasPlainFields read.0.body = subst (λ (found : Def). HasPlainFields found.body) same can.4 in
    def_numbers d def read.0 read.0.order read.0.body bits reading read.1 refl plain read.4
