-- No value of a description in the first form is refused.
use Rattle.std.proofs.Common.{◌≡◌, ◌≢◌, ℕ, ◌+◌, ◌*◌, ◌%◌, ◌≤◌, Bool, true, false, List, [], ◌∷◌, length, take, drop, Option, Some, None, Result, Ok, Err, refl, inl, inr, ap, sym, ◌∙◌, subst, arith}
use Rattle.std.specs.Prelude.{if◌then◌else◌}
use Rattle.std.proofs.lemmas.Bool.{le-ltb}
use Rattle.node_tree.specs.Bits.{bits_of}
use Rattle.node_tree.specs.declared.readings.Reading.{Reading}
use Rattle.node_tree.specs.declared.faults.ReadWhy.{ReadWhy}
use Rattle.node_tree.specs.declared.faults.ReadWhy.TheVariants.{TooLong}
use Rattle.mspec_tree.specs.declared.words.ByteOrder.{ByteOrder}
use Rattle.mspec_tree.specs.declared.words.Simple.TheVariants.{Uint}
use Rattle.mspec_tree.specs.declared.exprs.Ref.TheVariants.{Plain as PlainRef, Named}
use Rattle.mspec_tree.specs.declared.fields.Field.{Field, out-Field}
use Rattle.mspec_tree.specs.declared.fields.Case.{Case}
use Rattle.mspec_tree.specs.declared.fields.Body.{Body, out-Body}
use Rattle.mspec_tree.specs.declared.fields.Body.TheOpen.{Body-F}
use Rattle.mspec_tree.specs.declared.fields.Body.TheOpen as body
use Rattle.mspec_tree.specs.declared.defs.Def.{Def}
use Rattle.mspec_tree.specs.declared.defs.DefBody.{DefBody}
use Rattle.mspec_tree.specs.declared.defs.DefBody.TheVariants.{Plain as PlainFields}
use Rattle.mspec_tree.specs.declared.defs.Description.{Description}
use Rattle.mspec_meaning.specs.Plain.{ArePlain, HasWidth, IsPlainField, IsWidth}
use Rattle.mspec_meaning.specs.Reads.{Reads, BodyReads, FieldReads, FieldsRead, DefReads, Part, Fault, Short, Bad, bit_limit, end_of, number_part, number_read, order_of}
use Rattle.mspec_meaning.specs.Stream.{Stream, StreamFrom, Ends, Ending, End, TooFew, Refused, Why, Value, Unaligned}
use Rattle.host_engine.specs.declared.inputs.How.{How}
use Rattle.host_engine.specs.declared.inputs.How.TheVariants.{Ended, Failed, Over}
use Rattle.host_engine.specs.FirstForm.{FirstForm}
use Rattle.host_engine.proofs.FormLaws.{OnePlain, found_def, one_plain}
use Rattle.host_engine.proofs.StatusLemmas.{not_script}
use Rattle.host_engine.specs.Tool.{ComesTo, Course, WordsRefused, FileFault, TextRefused, NotBuilt, TypeRefused, Values, Answers, Described, Taken, input_limit, last_said, said}

-- ---- numbers

-- a width is one to eight bytes
sized : (w : ℕ) → IsWidth w → (8 ≤ w) × (w ≤ 64) × (w % 8 ≡ 0)
sized w (inl e) = (omega (arith, e), omega (arith, e), ap (λ (n : ℕ). n % 8) e)
sized w (inr (inl e)) = (omega (arith, e), omega (arith, e), ap (λ (n : ℕ). n % 8) e)
sized w (inr (inr (inl e))) = (omega (arith, e), omega (arith, e), ap (λ (n : ℕ). n % 8) e)
sized w (inr (inr (inr e))) = (omega (arith, e), omega (arith, e), ap (λ (n : ℕ). n % 8) e)

-- what two tests leave of a number's reading
abbrev tested : (long short : Bool) (value width at : ℕ) → Result Part Fault
tested long short value width at =
    if long then Err (Bad at TooLong) else if short then Err Short else Ok (number_part value width at)

tested_end : (long short : Bool) (value width at : ℕ) (part : Part) → Ok part ≡ tested long short value width at → part.end ≡ at + width
tested_end true short value width at part e = absurd cc
tested_end false true value width at part e = absurd cc
tested_end false false value width at part e =
    let same : part ≡ number_part value width at = cc in
    ap (λ (p : Part). p.end) same

tested_bad : (long short : Bool) (value width at bit : ℕ) (why : ReadWhy) → long ≡ false → Err (Bad bit why) ≡ tested long short value width at → ⊥
tested_bad true short value width at bit why test e = cc
tested_bad false true value width at bit why test e = cc
tested_bad false false value width at bit why test e = cc

-- ---- fields

-- what a field of a plain width reads is what its number reads
abbrev ReadsNumber : (at : ℕ) → List Bool → Result Part Fault → Type 0
ReadsNumber at all outcome =
    (width : ℕ) × (order : ByteOrder) × IsWidth width × (outcome ≡ number_read order width at all)

number_of_body : (b : Body-F Body Case Field) (width : ℕ) (own above : Option ByteOrder) (at : ℕ) (all : List Bool) (outcome : Result Part Fault) → HasWidth b width → BodyReads b own above at all outcome → ReadsNumber at all outcome
number_of_body (body.Simple (PlainRef (Uint written))) width own above at all outcome has read =
    (written, order_of own above written, subst IsWidth (sym has.0) has.1, read)
number_of_body (body.Simple (PlainRef other)) width own above at all outcome has read = absurd has
number_of_body (body.Simple (Named place name args)) width own above at all outcome has read = absurd has
number_of_body other width own above at all outcome has read = absurd has

number_of_field : (f : Field) (above : Option ByteOrder) (at : ℕ) (all : List Bool) (outcome : Result Part Fault) → IsPlainField f → FieldReads above f at all outcome → ReadsNumber at all outcome
number_of_field f above at all outcome plain read =
    number_of_body (out-Body (out-Field f).body) plain.0 (out-Field f).order above at all outcome plain.1 read

field_ends : (f : Field) (above : Option ByteOrder) (at : ℕ) (all : List Bool) (part : Part) → IsPlainField f → FieldReads above f at all (Ok part) → (width : ℕ) × IsWidth width × (part.end ≡ at + width)
field_ends f above at all part plain read =
    let n = number_of_field f above at all (Ok part) plain read in
    (n.0, n.2, tested_end _ _ _ n.0 at part n.3)

field_bad : (f : Field) (above : Option ByteOrder) (at : ℕ) (all : List Bool) (bit : ℕ) (why : ReadWhy) → IsPlainField f → at + 64 ≤ bit_limit → FieldReads above f at all (Err (Bad bit why)) → ⊥
field_bad f above at all bit why plain fits read =
    let n = number_of_field f above at all (Err (Bad bit why)) plain read in
    let here : at + n.0 ≤ bit_limit = omega (arith, (sized n.0 n.2).1, fits) in
    tested_bad _ _ _ n.0 at bit why (le-ltb bit_limit (at + n.0) here) n.3

-- fields are whole bytes, at least one each
fields_end : (fields : List Field) (above : Option ByteOrder) (at : ℕ) (all : List Bool) (parts : List Part) → ArePlain fields → FieldsRead above fields at all (Ok parts) → at % 8 ≡ 0 → (at + 8 * length fields ≤ end_of at parts) × (end_of at parts % 8 ≡ 0)
fields_end [] above at all [] plain read whole = (omega arith, whole)
fields_end [] above at all (part ∷ parts) plain read whole = absurd cc
fields_end (f ∷ fields) above at all [] plain read whole = absurd read
fields_end (f ∷ fields) above at all (part ∷ parts) plain read whole =
    let end = field_ends f above at all part plain.0 read.0 in
    let size = sized end.0 end.1 in
    let next : part.end % 8 ≡ 0 = omega (arith, end.2, size.2, whole) in
    let rest = fields_end fields above part.end all parts plain.1 read.1 next in
    (omega (arith, end.2, size.0, rest.0), rest.1)

fields_bad : (fields : List Field) (above : Option ByteOrder) (at : ℕ) (all : List Bool) (bit : ℕ) (why : ReadWhy) → ArePlain fields → at + 64 * length fields ≤ bit_limit → FieldsRead above fields at all (Err (Bad bit why)) → ⊥
fields_bad [] above at all bit why plain fits read = cc
fields_bad (f ∷ fields) above at all bit why plain fits read =
    let here : at + 64 ≤ bit_limit = omega (arith, fits) in
    elim read [
      | inl first ↦ field_bad f above at all bit why plain.0 here first
      | inr later ↦
          let end = field_ends f above at all later.0 plain.0 later.1 in
          let next : later.0.end + 64 * length fields ≤ bit_limit = omega (arith, end.2, (sized end.0 end.1).1, fits) in
          fields_bad fields above later.0.end all bit why plain.1 next later.2
    ]

-- ---- values

-- what a value of the one definition reads is what its fields read
def_reads : (d : Description) (one : OnePlain d.defs) (def : ℕ) (all : List Bool) (outcome : Result Reading Fault) → Reads d def [] all outcome → (order : Option ByteOrder) × DefReads order (PlainFields one.fields) all outcome
def_reads d one def all outcome read =
    let same = (found_def d one def read.0 read.1).1 in
    let form = ap (λ (found : Def). found.body) (sym same) ∙ one.form in
    (read.0.order, subst (λ (b : DefBody). DefReads read.0.order b all outcome) form read.4)

value_size : (d : Description) (one : OnePlain d.defs) (def : ℕ) (all : List Bool) (reading : Reading) → Reads d def [] all (Ok reading) → (8 ≤ reading.bits) × (reading.bits % 8 ≡ 0)
value_size d one def all reading read =
    let parts = def_reads d one def all (Ok reading) read in
    let end = fields_end one.fields parts.0 0 all parts.1.0 one.plain parts.1.1 refl in
    let size : reading.bits ≡ end_of 0 parts.1.0 = ap (λ (r : Reading). r.bits) parts.1.2 in
    (omega (arith, end.0, size, one.some), ap (λ n. n % 8) size ∙ end.1)

value_bad : (d : Description) (one : OnePlain d.defs) (def : ℕ) (all : List Bool) (bit : ℕ) (why : ReadWhy) → Reads d def [] all (Err (Bad bit why)) → ⊥
value_bad d one def all bit why read =
    let fields = def_reads d one def all (Err (Bad bit why)) read in
    fields_bad one.fields fields.0 0 all bit why one.plain (omega (arith, one.few)) fields.1

-- ---- streams

not_refused : (d : Description) (one : OnePlain d.defs) (def at : ℕ) (all : List Bool) (bit : ℕ) (why : Why) → Ends d def [] at all (Refused bit why) → ⊥
not_refused d one def at all bit (Value why) end =
    elim end.1 [
      | inl bad ↦ value_bad d one def all bad.0 why bad.1
      | inr nothing ↦
          let size = value_size d one def all nothing.0.0 nothing.0.1 in
          absurd (omega (arith, size.0, nothing.0.2))
    ]
not_refused d one def at all bit Unaligned end = end.1.2 (value_size d one def all end.1.0 end.1.1).1

none_refused : (d : Description) (one : OnePlain d.defs) (def at : ℕ) (all : List Bool) (readings : List Reading) (bit : ℕ) (why : Why) → StreamFrom d def [] at all readings (Refused bit why) → ⊥
none_refused d one def at all [] bit why from = not_refused d one def at all bit why from
none_refused d one def at all (reading ∷ readings) bit why from = none_refused d one def (at + reading.bits) (drop reading.bits all) readings bit why from.4

pub no_refusal : (text : List ℕ) (d : Description) (def : ℕ) (bytes : List ℕ) (readings : List Reading) (bit : ℕ) (why : Why) → FirstForm text d → Stream d def [] bytes readings (Refused bit why) → ⊥
no_refusal text d def bytes readings bit why form stream =
    none_refused d (one_plain d form.1) def 0 (bits_of bytes) readings bit why stream

-- so no run over the first form has the status 6
pub never_6 : (text : List ℕ) (d : Description) (def : ℕ) (bytes : List ℕ) (readings : List Reading) (how : Option How) (ending : Ending) → FirstForm text d → Stream d def [] bytes readings ending → (last_said how ending).status ≢ 6
never_6 text d def bytes readings how (Refused bit why) form stream e = no_refusal text d def bytes readings bit why form stream
never_6 text d def bytes readings None End form stream e = absurd (omega (arith, e))
never_6 text d def bytes readings None (TooFew left) form stream e = absurd (omega (arith, e))
never_6 text d def bytes readings (Some Ended) End form stream e = absurd (omega (arith, e))
never_6 text d def bytes readings (Some Ended) (TooFew left) form stream e = absurd (omega (arith, e))
never_6 text d def bytes readings (Some Failed) End form stream e = absurd (omega (arith, e))
never_6 text d def bytes readings (Some Failed) (TooFew left) form stream e = absurd (omega (arith, e))
never_6 text d def bytes readings (Some Over) End form stream e = absurd (omega (arith, e))
never_6 text d def bytes readings (Some Over) (TooFew left) form stream e = absurd (omega (arith, e))

-- no run by a description in the first form has the status of a refused value
pub no_status_6 : (words : List (List ℕ)) (t : Taken) (course : Course) → ComesTo words t course → (said t.how course).status ≢ 6
no_status_6 words t WordsRefused comes e = absurd (omega (arith, e))
no_status_6 words t FileFault comes e = absurd (omega (arith, e))
no_status_6 words t (TextRefused place why) comes e = absurd (omega (arith, e))
no_status_6 words t NotBuilt comes e = absurd (omega (arith, e))
no_status_6 words t TypeRefused comes e = absurd (omega (arith, e))
no_status_6 words t (Values d def readings ending) comes e =
    never_6 comes.2 d def (take input_limit t.bytes) readings t.how ending comes.5 comes.7 e
no_status_6 words t (Answers text end) comes e = not_script t.how end 6 refl (sym e)
no_status_6 words t (Described command d) comes e = absurd (omega (arith, e))
