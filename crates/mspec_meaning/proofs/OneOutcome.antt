-- Bits have at most one outcome by a description, and bits behind them change no value and no refusal.
use Rattle.std.proofs.Common.{◌≡◌, ℕ, ℤ, ◌+◌, ◌≤◌, Bool, true, false, List, [], ◌∷◌, ◌++◌, length, take, drop, ltb, Option, Some, Result, Ok, Err, refl, sym, ap, ◌∙◌, subst, inl, inr, arith}
use Rattle.std.specs.Prelude.{if◌then◌else◌}
use Rattle.std.proofs.lemmas.Bool.{ltb-false, le-ltb}
use Rattle.std.proofs.lemmas.List.{length-append, length-drop, drop-append-le, take-append-le}
use Rattle.node_tree.specs.declared.readings.Reading.{Reading}
use Rattle.node_tree.specs.declared.faults.ReadWhy.{ReadWhy}
use Rattle.node_tree.specs.declared.faults.ReadWhy.TheVariants.{TooLong}
use Rattle.mspec_tree.specs.declared.words.ByteOrder.{ByteOrder}
use Rattle.mspec_tree.specs.declared.words.Simple.TheVariants.{Uint}
use Rattle.mspec_tree.specs.declared.exprs.Ref.TheVariants.{Plain}
use Rattle.mspec_tree.specs.declared.fields.Field.{Field, out-Field}
use Rattle.mspec_tree.specs.declared.fields.Body.{Body, out-Body}
use Rattle.mspec_tree.specs.declared.fields.Body.TheOpen.{Body-F, Simple}
use Rattle.mspec_tree.specs.declared.fields.Case.{Case}
use Rattle.mspec_tree.specs.declared.defs.Def.{Def}
use Rattle.mspec_tree.specs.declared.defs.DefBody.{DefBody}
use Rattle.mspec_tree.specs.declared.defs.DefBody.TheVariants.{Plain as PlainFields}
use Rattle.mspec_tree.specs.declared.defs.Description.{Description}
use Rattle.mspec_meaning.specs.Reads.{Reads, DefReads, BodyReads, FieldReads, FieldsRead, Part, Fault, group_of, order_of, Short, Bad, number, number_part, number_read, bit_limit}

-- ---- one outcome

one_body : (body : Body-F Body Case Field) (own above : Option ByteOrder) (at : ℕ) (bits : List Bool) (one other : Result Part Fault) → BodyReads body own above at bits one → BodyReads body own above at bits other → one ≡ other
one_body (Simple (Plain (Uint width))) own above at bits one other h k = h ∙ sym k
one_body rest own above at bits one other h k = absurd h

one_field : (above : Option ByteOrder) (field : Field) (at : ℕ) (bits : List Bool) (one other : Result Part Fault) → FieldReads above field at bits one → FieldReads above field at bits other → one ≡ other
one_field above field at bits one other h k =
    one_body (out-Body (out-Field field).body) (out-Field field).order above at bits one other h k

one_part : (above : Option ByteOrder) (field : Field) (at : ℕ) (bits : List Bool) (one other : Part) → FieldReads above field at bits (Ok one) → FieldReads above field at bits (Ok other) → one ≡ other
one_part above field at bits one other h k = cc (one_field above field at bits (Ok one) (Ok other) h k)

one_fault : (above : Option ByteOrder) (field : Field) (at : ℕ) (bits : List Bool) (one other : Fault) → FieldReads above field at bits (Err one) → FieldReads above field at bits (Err other) → one ≡ other
one_fault above field at bits one other h k = cc (one_field above field at bits (Err one) (Err other) h k)

not_both : (above : Option ByteOrder) (field : Field) (at : ℕ) (bits : List Bool) (part : Part) (fault : Fault) → FieldReads above field at bits (Ok part) → FieldReads above field at bits (Err fault) → ⊥
not_both above field at bits part fault h k = cc (one_field above field at bits (Ok part) (Err fault) h k)

-- two readings of the fields behind one part begin at the same bit
behind_one : (above : Option ByteOrder) (field : Field) (fields : List Field) (at : ℕ) (bits : List Bool) (one other : Part) → FieldReads above field at bits (Ok one) → FieldReads above field at bits (Ok other) → (outcome : Result (List Part) Fault) → FieldsRead above fields other.end bits outcome → FieldsRead above fields one.end bits outcome
behind_one above field fields at bits one other h k outcome rest =
    subst (λ (part : Part). FieldsRead above fields part.end bits outcome) (sym (one_part above field at bits one other h k)) rest

-- the fields were read as these parts
abbrev all_parts : List Part → Result (List Part) Fault
all_parts parts = Ok parts

abbrev no_parts : Fault → Result (List Part) Fault
no_parts fault = Err fault

abbrev read_as : Reading → Result Reading Fault
read_as reading = Ok reading

one_list : (one other : Part) (ones others : List Part) → one ≡ other → all_parts ones ≡ all_parts others → all_parts (one ∷ ones) ≡ all_parts (other ∷ others)
one_list one other ones others h k = cc

parts_or_fault : (parts : List Part) (fault : Fault) → all_parts parts ≡ no_parts fault → ⊥
parts_or_fault parts fault h = cc

one_fields : (above : Option ByteOrder) (fields : List Field) (at : ℕ) (bits : List Bool) (one other : Result (List Part) Fault) → FieldsRead above fields at bits one → FieldsRead above fields at bits other → one ≡ other
one_fields above [] at bits one other h k = h ∙ sym k
one_fields above (field ∷ fields) at bits (Ok []) other h k = absurd h
one_fields above (field ∷ fields) at bits (Ok (p ∷ ps)) (Ok []) h k = absurd k
one_fields above (field ∷ fields) at bits (Ok (p ∷ ps)) (Ok (q ∷ qs)) h k =
    one_list p q ps qs (one_part above field at bits p q h.0 k.0)
    (one_fields above fields p.end bits (Ok ps) (Ok qs) h.1 (behind_one above field fields at bits p q h.0 k.0 (Ok qs) k.1))
one_fields above (field ∷ fields) at bits (Ok (p ∷ ps)) (Err fault) h (inl k) =
    absurd (not_both above field at bits p fault h.0 k)
one_fields above (field ∷ fields) at bits (Ok (p ∷ ps)) (Err fault) h (inr k) =
    absurd (parts_or_fault ps fault
    (one_fields above fields p.end bits (Ok ps) (Err fault) h.1 (behind_one above field fields at bits p k.0 h.0 k.1 (Err fault) k.2)))
one_fields above (field ∷ fields) at bits (Err fault) (Ok []) h k = absurd k
one_fields above (field ∷ fields) at bits (Err fault) (Ok (q ∷ qs)) (inl h) k =
    absurd (not_both above field at bits q fault k.0 h)
one_fields above (field ∷ fields) at bits (Err fault) (Ok (q ∷ qs)) (inr h) k =
    absurd (parts_or_fault qs fault
    (sym (one_fields above fields h.0.end bits (Err fault) (Ok qs) h.2 (behind_one above field fields at bits h.0 q h.1 k.0 (Ok qs) k.1))))
one_fields above (field ∷ fields) at bits (Err fault) (Err other) (inl h) (inl k) =
    ap (λ f. Err f) (one_fault above field at bits fault other h k)
one_fields above (field ∷ fields) at bits (Err fault) (Err other) (inl h) (inr k) =
    absurd (not_both above field at bits k.0 fault k.1 h)
one_fields above (field ∷ fields) at bits (Err fault) (Err other) (inr h) (inl k) =
    absurd (not_both above field at bits h.0 other h.1 k)
one_fields above (field ∷ fields) at bits (Err fault) (Err other) (inr h) (inr k) =
    one_fields above fields h.0.end bits (Err fault) (Err other) h.2 (behind_one above field fields at bits h.0 k.0 h.1 k.1 (Err other) k.2)

one_group : (ones others : List Part) (one other : Reading) → all_parts ones ≡ all_parts others → one ≡ group_of ones → other ≡ group_of others → read_as one ≡ read_as other
one_group ones others one other h a b =
    let parts : ones ≡ others = cc in
    ap (λ r. Ok r) (a ∙ ap (λ (ps : List Part). group_of ps) parts ∙ sym b)

one_def : (order : Option ByteOrder) (body : DefBody) (bits : List Bool) (one other : Result Reading Fault) → DefReads order body bits one → DefReads order body bits other → one ≡ other
one_def order (PlainFields fields) bits (Ok one) (Ok other) h k =
    one_group h.0 k.0 one other (one_fields order fields 0 bits (Ok h.0) (Ok k.0) h.1 k.1) h.2 k.2
one_def order (PlainFields fields) bits (Ok one) (Err other) h k =
    absurd (parts_or_fault h.0 other (one_fields order fields 0 bits (Ok h.0) (Err other) h.1 k))
one_def order (PlainFields fields) bits (Err one) (Ok other) h k =
    absurd (parts_or_fault k.0 one (one_fields order fields 0 bits (Ok k.0) (Err one) k.1 h))
one_def order (PlainFields fields) bits (Err one) (Err other) h k =
    let same : no_parts one ≡ no_parts other = one_fields order fields 0 bits (Err one) (Err other) h k in
    cc
one_def order rest bits one other h k = absurd h

same_def : (found other : Def) → Some found ≡ Some other → found ≡ other
same_def found other h = cc

pub one_outcome : (d : Description) (def : ℕ) (args : List ℤ) (bits : List Bool) (one other : Result Reading Fault) → Reads d def args bits one → Reads d def args bits other → one ≡ other
one_outcome d def args bits one other h k =
    let same = same_def h.0 k.0 (sym h.1 ∙ k.1) in
    one_def h.0.order h.0.body bits one other h.4
    (subst (λ (found : Def). DefReads found.order found.body bits other) (sym same) k.4)

-- ---- more bits

-- what is read by the two tests of a number's place
abbrev tested : (far short : Bool) (at : ℕ) (part : Part) → Result Part Fault
tested far short at part = if far then Err (Bad at TooLong) else if short then Err Short else Ok part

is_read : (far short : Bool) (at : ℕ) (part got : Part) → Ok part ≡ tested far short at got → (far ≡ false) × (short ≡ false) × (part ≡ got)
is_read true short at part got h = absurd cc
is_read false true at part got h = absurd cc
is_read false false at part got h = (refl, refl, cc)

is_refused : (far short : Bool) (at : ℕ) (got : Part) (bit : ℕ) (why : ReadWhy) → Err (Bad bit why) ≡ tested far short at got → (far ≡ true) × (bit ≡ at) × (why ≡ TooLong)
is_refused true short at got bit why h = (refl, cc, cc)
is_refused false true at got bit why h = absurd cc
is_refused false false at got bit why h = absurd cc

same_slice : (width at : ℕ) (bits more : List Bool) → at + width ≤ length bits → take width (drop at (bits ++ more)) ≡ take width (drop at bits)
same_slice width at bits more h =
    ap (λ (rest : List Bool). take width rest) (drop-append-le at bits more (omega arith))
    ∙ take-append-le width (drop at bits) more (omega (arith, length-drop at bits))

number_more : (order : ByteOrder) (width at : ℕ) (bits more : List Bool) (part : Part) → Ok part ≡ number_read order width at bits → Ok part ≡ number_read order width at (bits ++ more)
number_more order width at bits more part h =
    let is = is_read (ltb bit_limit (at + width)) (ltb (length bits) (at + width)) at part (number_part (number order (take width (drop at bits))) width at) h in
    let fits : at + width ≤ length bits = ltb-false (length bits) (at + width) is.1 in
    let there : ltb (length (bits ++ more)) (at + width) ≡ false = le-ltb (length (bits ++ more)) (at + width) (omega (arith, length-append bits more)) in
    rw (is.0, there) (ap (λ (p : Part). Ok p) (is.2 ∙ ap (λ (slice : List Bool). number_part (number order slice) width at) (sym (same_slice width at bits more fits))))

number_refused : (order : ByteOrder) (width at : ℕ) (bits more : List Bool) (bit : ℕ) (why : ReadWhy) → Err (Bad bit why) ≡ number_read order width at bits → Err (Bad bit why) ≡ number_read order width at (bits ++ more)
number_refused order width at bits more bit why h =
    let is = is_refused (ltb bit_limit (at + width)) (ltb (length bits) (at + width)) at (number_part (number order (take width (drop at bits))) width at) bit why h in
    rw (is.0, is.1, is.2) refl

body_more : (body : Body-F Body Case Field) (own above : Option ByteOrder) (at : ℕ) (bits more : List Bool) (part : Part) → BodyReads body own above at bits (Ok part) → BodyReads body own above at (bits ++ more) (Ok part)
body_more (Simple (Plain (Uint width))) own above at bits more part h =
    number_more (order_of own above width) width at bits more part h
body_more rest own above at bits more part h = absurd h

body_refused : (body : Body-F Body Case Field) (own above : Option ByteOrder) (at : ℕ) (bits more : List Bool) (bit : ℕ) (why : ReadWhy) → BodyReads body own above at bits (Err (Bad bit why)) → BodyReads body own above at (bits ++ more) (Err (Bad bit why))
body_refused (Simple (Plain (Uint width))) own above at bits more bit why h =
    number_refused (order_of own above width) width at bits more bit why h
body_refused rest own above at bits more bit why h = absurd h

field_more : (above : Option ByteOrder) (field : Field) (at : ℕ) (bits more : List Bool) (part : Part) → FieldReads above field at bits (Ok part) → FieldReads above field at (bits ++ more) (Ok part)
field_more above field at bits more part h =
    body_more (out-Body (out-Field field).body) (out-Field field).order above at bits more part h

field_refused : (above : Option ByteOrder) (field : Field) (at : ℕ) (bits more : List Bool) (bit : ℕ) (why : ReadWhy) → FieldReads above field at bits (Err (Bad bit why)) → FieldReads above field at (bits ++ more) (Err (Bad bit why))
field_refused above field at bits more bit why h =
    body_refused (out-Body (out-Field field).body) (out-Field field).order above at bits more bit why h

fields_more : (above : Option ByteOrder) (fields : List Field) (at : ℕ) (bits more : List Bool) (parts : List Part) → FieldsRead above fields at bits (Ok parts) → FieldsRead above fields at (bits ++ more) (Ok parts)
fields_more above [] at bits more parts h = h
fields_more above (field ∷ fields) at bits more [] h = absurd h
fields_more above (field ∷ fields) at bits more (part ∷ parts) h =
    (field_more above field at bits more part h.0, fields_more above fields part.end bits more parts h.1)

fields_refused : (above : Option ByteOrder) (fields : List Field) (at : ℕ) (bits more : List Bool) (bit : ℕ) (why : ReadWhy) → FieldsRead above fields at bits (Err (Bad bit why)) → FieldsRead above fields at (bits ++ more) (Err (Bad bit why))
fields_refused above [] at bits more bit why h = absurd (parts_or_fault [] (Bad bit why) (sym h))
fields_refused above (field ∷ fields) at bits more bit why (inl h) = inl (field_refused above field at bits more bit why h)
fields_refused above (field ∷ fields) at bits more bit why (inr h) =
    inr (h.0, field_more above field at bits more h.0 h.1, fields_refused above fields h.0.end bits more bit why h.2)

def_more : (order : Option ByteOrder) (body : DefBody) (bits more : List Bool) (reading : Reading) → DefReads order body bits (Ok reading) → DefReads order body (bits ++ more) (Ok reading)
def_more order (PlainFields fields) bits more reading h = (h.0, fields_more order fields 0 bits more h.0 h.1, h.2)
def_more order rest bits more reading h = absurd h

def_refused : (order : Option ByteOrder) (body : DefBody) (bits more : List Bool) (bit : ℕ) (why : ReadWhy) → DefReads order body bits (Err (Bad bit why)) → DefReads order body (bits ++ more) (Err (Bad bit why))
def_refused order (PlainFields fields) bits more bit why h = fields_refused order fields 0 bits more bit why h
def_refused order rest bits more bit why h = absurd h

pub same_reading : (d : Description) (def : ℕ) (args : List ℤ) (bits more : List Bool) (reading : Reading) → Reads d def args bits (Ok reading) → Reads d def args (bits ++ more) (Ok reading)
same_reading d def args bits more reading h =
    (h.0, h.1, h.2, h.3, def_more h.0.order h.0.body bits more reading h.4)

pub same_refusal : (d : Description) (def : ℕ) (args : List ℤ) (bits more : List Bool) (bit : ℕ) (why : ReadWhy) → Reads d def args bits (Err (Bad bit why)) → Reads d def args (bits ++ more) (Err (Bad bit why))
same_refusal d def args bits more bit why h =
    (h.0, h.1, h.2, h.3, def_refused h.0.order h.0.body bits more bit why h.4)
