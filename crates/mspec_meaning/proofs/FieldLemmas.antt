-- Fields that are read one after another.
use Rattle.std.proofs.Common.{◌≡◌, ℕ, suc, ◌+◌, ◌<◌, ◌≤◌, Bool, List, [], ◌∷◌, ◌++◌, length, get_or, drop, map, Option, Result, Ok, Err, refl, sym, ap, ◌∙◌, subst, append_assoc, add-one, inl, inr}
use Rattle.std.specs.List.{flat_map}
use Rattle.std.proofs.Math.Seq.{drop-cons}
use Rattle.std.proofs.Math.ListN.{drop_of_length-le}
use Rattle.std.proofs.lemmas.List.{append-nil}
use Rattle.node_tree.specs.declared.nodes.Node.{Node}
use Rattle.node_tree.specs.declared.nodes.Node.TheVariants.{Group}
use Rattle.node_tree.specs.declared.readings.Reading.{Reading}
use Rattle.node_tree.specs.declared.readings.Span.{Span}
use Rattle.mspec_tree.specs.declared.words.Simple.TheVariants.{Uint}
use Rattle.mspec_tree.specs.declared.exprs.Ref.TheVariants.{Plain}
use Rattle.mspec_tree.specs.declared.fields.Field.{out-Field}
use Rattle.mspec_tree.specs.declared.fields.Body.{Body, out-Body}
use Rattle.mspec_tree.specs.declared.fields.Body.TheOpen.{Body-F, Simple}
use Rattle.mspec_tree.specs.declared.fields.Case.{Case}
use Rattle.node_tree.specs.declared.faults.ReadFault.{ReadFault}
use Rattle.node_tree.specs.declared.faults.ReadFault.TheVariants.{Short as ShortFault, Bad as BadFault, NoMemory}
use Rattle.mspec_meaning.specs.Plain.{IsWidth, HasWidth}
use Rattle.mspec_meaning.specs.Faults.{OfFault}
use Rattle.mspec_tree.specs.declared.words.ByteOrder.{ByteOrder}
use Rattle.mspec_tree.specs.declared.fields.Field.{Field}
use Rattle.mspec_meaning.specs.Reads.{BodyReads, FieldReads, FieldsRead, Part, Fault, end_of, group_of, number_read, order_of}

-- an outcome behind parts that were read before
abbrev pub behind : List Part → Result (List Part) Fault → Result (List Part) Fault
behind parts (Ok more) = Ok (parts ++ more)
behind parts (Err fault) = Err fault

pub behind_more : (parts : List Part) (part : Part) (outcome : Result (List Part) Fault) → behind parts (behind (part ∷ []) outcome) ≡ behind (parts ++ part ∷ []) outcome
behind_more parts part (Ok more) = ap (λ all. Ok all) (sym (append_assoc parts (part ∷ []) more))
behind_more parts part (Err fault) = refl

-- what the fields behind one give goes on from its part
pub one_more : (above : Option ByteOrder) (field : Field) (fields : List Field) (at : ℕ) (bits : List Bool) (part : Part) → FieldReads above field at bits (Ok part) → (outcome : Result (List Part) Fault) → FieldsRead above fields part.end bits outcome → FieldsRead above (field ∷ fields) at bits (behind (part ∷ []) outcome)
one_more above field fields at bits part read (Ok more) rest = (read, rest)
one_more above field fields at bits part read (Err fault) rest = inr (part, read, rest)

pub end_of-more : (at : ℕ) (parts : List Part) (part : Part) → end_of at (parts ++ part ∷ []) ≡ part.end
end_of-more at [] part = refl
end_of-more at (p ∷ parts) part = end_of-more p.end parts part

pub next_field : (fields : List Field) (i : ℕ) (field : Field) → i < length fields → field ≡ get_or fields i field → drop i fields ≡ field ∷ drop (i + 1) fields
next_field fields i field h e =
    drop-cons fields i field h ∙ ap (λ f. f ∷ drop (suc i) fields) (sym e) ∙ ap (λ n. field ∷ drop n fields) (sym (add-one i))

pub goes_on : (above : Option ByteOrder) (fields : List Field) (i : ℕ) (field : Field) (at : ℕ) (bits : List Bool) (parts : List Part) (part : Part) → drop i fields ≡ field ∷ drop (i + 1) fields → FieldReads above field at bits (Ok part) → ((outcome : Result (List Part) Fault) → FieldsRead above (drop i fields) at bits outcome → FieldsRead above fields 0 bits (behind parts outcome)) → (outcome : Result (List Part) Fault) → FieldsRead above (drop (i + 1) fields) part.end bits outcome → FieldsRead above fields 0 bits (behind (parts ++ part ∷ []) outcome)
goes_on above fields i field at bits parts part next read before outcome rest =
    subst (λ (o : Result (List Part) Fault). FieldsRead above fields 0 bits o) (behind_more parts part outcome)
    (before (behind (part ∷ []) outcome)
    (subst (λ (fs : List Field). FieldsRead above fs at bits (behind (part ∷ []) outcome)) (sym next)
    (one_more above field (drop (i + 1) fields) at bits part read outcome rest)))

pub fails_at : (above : Option ByteOrder) (fields : List Field) (i : ℕ) (field : Field) (at : ℕ) (bits : List Bool) (parts : List Part) (fault : Fault) → drop i fields ≡ field ∷ drop (i + 1) fields → FieldReads above field at bits (Err fault) → ((outcome : Result (List Part) Fault) → FieldsRead above (drop i fields) at bits outcome → FieldsRead above fields 0 bits (behind parts outcome)) → FieldsRead above fields 0 bits (Err fault)
fails_at above fields i field at bits parts fault next read before =
    before (Err fault) (subst (λ (fs : List Field). FieldsRead above fs at bits (Err fault)) (sym next) (inl read))

width_reads : (body : Body-F Body Case Field) (own above : Option ByteOrder) (width at : ℕ) (bits : List Bool) (outcome : Result Part Fault) → HasWidth body width → number_read (order_of own above width) width at bits ≡ outcome → BodyReads body own above at bits outcome
width_reads (Simple (Plain (Uint written))) own above width at bits outcome h e =
    sym e ∙ ap (λ w. number_read (order_of own above w) w at bits) (sym h.0)
width_reads other own above width at bits outcome h e = absurd h

-- what stands in a plain field is the number of its width, in its order of bytes
pub plain_reads : (above : Option ByteOrder) (field : Field) (order : ByteOrder) (width at : ℕ) (bits : List Bool) (outcome : Result Part Fault) → HasWidth (out-Body (out-Field field).body) width → order ≡ order_of (out-Field field).order above width → number_read order width at bits ≡ outcome → FieldReads above field at bits outcome
plain_reads above field order width at bits outcome h same e =
    width_reads (out-Body (out-Field field).body) (out-Field field).order above width at bits outcome h
    (ap (λ o. number_read o width at bits) (sym same) ∙ e)

pub is_width : (body : Body-F Body Case Field) (width : ℕ) → HasWidth body width → IsWidth width
is_width (Simple (Plain (Uint written))) width h = h.1
is_width other width h = absurd h

pub of_fault : (e : ReadFault) (P Q : Fault → Type 0) → ((fault : Fault) → P fault → Q fault) → OfFault e P → OfFault e Q
of_fault ShortFault P Q f h = f _ h
of_fault (BadFault bit why) P Q f h = f _ h
of_fault NoMemory P Q f h = tt

pub grouped : (parts : List Part) (entries : List Node) (bits : ℕ) (spans : List Span) → entries ≡ map (λ part. part.node) parts → end_of 0 parts ≡ bits → spans ≡ record { from = 0; to = bits } ∷ flat_map (λ part. part.spans) parts → (let reading : Reading = record { node = Group 0 entries; bits = bits; spans = spans } in reading ≡ group_of parts)
grouped parts entries bits spans nodes end all = rw (nodes, all, ← end) refl

-- all fields were read
pub all_read : (above : Option ByteOrder) (fields : List Field) (i at : ℕ) (bits : List Bool) (parts : List Part) → length fields ≤ i → ((outcome : Result (List Part) Fault) → FieldsRead above (drop i fields) at bits outcome → FieldsRead above fields 0 bits (behind parts outcome)) → FieldsRead above fields 0 bits (Ok parts)
all_read above fields i at bits parts h before =
    subst (λ (all : List Part). FieldsRead above fields 0 bits (Ok all)) (append-nil parts)
    (before (Ok []) (subst (λ (fs : List Field). FieldsRead above fs at bits (Ok [])) (sym (drop_of_length-le fields h)) refl))
