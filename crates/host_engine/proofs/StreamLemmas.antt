-- The values of a type in bytes, one after another.
use Rattle.std.proofs.Common.{◌≡◌, ◌≢◌, ℕ, ◌+◌, ◌*◌, ◌-◌, ◌/◌, ◌%◌, ◌<◌, ◌≤◌, List, [], ◌∷◌, ◌++◌, length, drop, Ok, Err, refl, inl, inr, sym, ap, ◌∙◌, subst, append_assoc, arith}
use Rattle.std.proofs.Math.ListN.{drop_of_length-le}
use Rattle.std.proofs.lemmas.Grind.{flat_map-append}
use Rattle.std.proofs.lemmas.List.{append-nil, length-drop, drop-drop}
use Rattle.node_tree.specs.Bits.{bits_of}
use Rattle.node_tree.proofs.BitsLemmas.{length_bits_of, bits_behind}
use Rattle.node_tree.specs.declared.readings.Reading.{Reading}
use Rattle.node_tree.specs.declared.faults.ReadWhy.{ReadWhy}
use Rattle.node_tree.specs.declared.faults.ReadWhy.TheVariants.{ZeroItem}
use Rattle.mspec_tree.specs.declared.defs.Description.{Description}
use Rattle.mspec_meaning.specs.Plain.{CanRead}
use Rattle.mspec_meaning.specs.Reads.{Reads, Short, Bad}
use Rattle.mspec_meaning.specs.Stream.{Stream, StreamFrom, Ending, End, TooFew, Refused, Value, Unaligned}
use Rattle.mspec_meaning.proofs.TotalLaws.{some_stream}
use Rattle.host_engine.specs.Listing.{listing, fields_at}
use Rattle.host_engine.specs.Tool.{listings}
use Rattle.mspec_meaning.specs.Faults.{OfFault}
use Rattle.node_tree.specs.declared.faults.ReadFault.{ReadFault}
use Rattle.node_tree.specs.declared.faults.ReadFault.TheVariants.{Short as ShortFault, Bad as BadFault, NoMemory as ReadNoMemory}
use Rattle.std.specs.Result.{IfOk}
use Rattle.host_engine.specs.Endings.{ending_of, fault_rest}

-- whatever stream the bytes from here on give goes on from these readings
abbrev pub GoesOn : Description → ℕ → (bytes : List ℕ) → (at : ℕ) → List Reading → Type 0
GoesOn d def bytes at readings =
    (more : List Reading) (ending : Ending) → StreamFrom d def [] (8 * at) (bits_of (drop at bytes)) more ending → Stream d def [] bytes (readings ++ more) ending

some_bits : (bytes : List ℕ) (at : ℕ) → at < length bytes → bits_of (drop at bytes) ≢ []
some_bits bytes at h e =
    absurd (omega (arith, ap length e, length_bits_of (drop at bytes), length-drop at bytes))

ends_here : (d : Description) (def : ℕ) (bytes : List ℕ) (at : ℕ) (readings : List Reading) (ending : Ending) → GoesOn d def bytes at readings → StreamFrom d def [] (8 * at) (bits_of (drop at bytes)) [] ending → Stream d def [] bytes readings ending
ends_here d def bytes at readings ending goes end =
    subst (λ (all : List Reading). Stream d def [] bytes all ending) (append-nil readings) (goes [] ending end)

pub ends_whole : (d : Description) (def : ℕ) (bytes : List ℕ) (at : ℕ) (readings : List Reading) → length bytes ≤ at → GoesOn d def bytes at readings → Stream d def [] bytes readings End
ends_whole d def bytes at readings h goes =
    ends_here d def bytes at readings End goes (ap bits_of (drop_of_length-le bytes h))

pub ends_short : (d : Description) (def : ℕ) (bytes : List ℕ) (at left : ℕ) (readings : List Reading) → at < length bytes → left ≡ 8 * (length bytes - at) → Reads d def [] (bits_of (drop at bytes)) (Err Short) → GoesOn d def bytes at readings → Stream d def [] bytes readings (TooFew left)
ends_short d def bytes at left readings h count read goes =
    ends_here d def bytes at readings (TooFew left) goes
    (some_bits bytes at h, read, omega (arith, count, length_bits_of (drop at bytes), length-drop at bytes))

pub ends_bad : (d : Description) (def : ℕ) (bytes : List ℕ) (at within : ℕ) (why : ReadWhy) (readings : List Reading) → at < length bytes → Reads d def [] (bits_of (drop at bytes)) (Err (Bad within why)) → GoesOn d def bytes at readings → Stream d def [] bytes readings (Refused (8 * at + within) (Value why))
ends_bad d def bytes at within why readings h read goes =
    ends_here d def bytes at readings (Refused (8 * at + within) (Value why)) goes (some_bits bytes at h, inl (within, read, refl))

pub ends_nothing : (d : Description) (def : ℕ) (bytes : List ℕ) (at : ℕ) (reading : Reading) (readings : List Reading) → at < length bytes → Reads d def [] (bits_of (drop at bytes)) (Ok reading) → reading.bits ≡ 0 → GoesOn d def bytes at readings → Stream d def [] bytes readings (Refused (8 * at) (Value ZeroItem))
ends_nothing d def bytes at reading readings h read none goes =
    ends_here d def bytes at readings (Refused (8 * at) (Value ZeroItem)) goes (some_bits bytes at h, inr ((reading, read, none), refl, refl))

pub ends_unaligned : (d : Description) (def : ℕ) (bytes : List ℕ) (at : ℕ) (reading : Reading) (readings : List Reading) → at < length bytes → Reads d def [] (bits_of (drop at bytes)) (Ok reading) → reading.bits % 8 ≢ 0 → GoesOn d def bytes at readings → Stream d def [] bytes readings (Refused (8 * at + reading.bits) Unaligned)
ends_unaligned d def bytes at reading readings h read part goes =
    ends_here d def bytes at readings (Refused (8 * at + reading.bits) Unaligned) goes (some_bits bytes at h, (reading, read, part, refl))

-- a reading more
pub one_more_reading : (d : Description) (def : ℕ) (bytes : List ℕ) (at : ℕ) (reading : Reading) (readings : List Reading) → at < length bytes → Reads d def [] (bits_of (drop at bytes)) (Ok reading) → 0 < reading.bits → reading.bits % 8 ≡ 0 → GoesOn d def bytes at readings → GoesOn d def bytes (at + reading.bits / 8) (readings ++ reading ∷ [])
one_more_reading d def bytes at reading readings h read some whole goes more ending rest =
    let size = reading.bits / 8 in
    let bits : reading.bits ≡ 8 * size = omega (arith, whole) in
    let behind : drop reading.bits (bits_of (drop at bytes)) ≡ bits_of (drop (at + size) bytes) = ap (λ n. drop n (bits_of (drop at bytes))) bits ∙ bits_behind size (drop at bytes) ∙ ap bits_of (drop-drop size at bytes) in
    let next : 8 * (at + size) ≡ 8 * at + reading.bits = omega (arith, bits) in
    let from : StreamFrom d def [] (8 * at + reading.bits) (drop reading.bits (bits_of (drop at bytes))) more ending = rw behind (subst (λ (n : ℕ). StreamFrom d def [] n (bits_of (drop (at + size) bytes)) more ending) next rest) in
    subst (λ (all : List Reading). Stream d def [] bytes all ending) (sym (append_assoc readings (reading ∷ []) more))
    (goes (reading ∷ more) ending (some_bits bytes at h, read, some, whole, from))

-- there is a stream from here on
pub some_rest : (d : Description) (def : ℕ) (bytes : List ℕ) (at : ℕ) (readings : List Reading) → CanRead d def [] → GoesOn d def bytes at readings → (more : List Reading) × (ending : Ending) × Stream d def [] bytes (readings ++ more) ending
some_rest d def bytes at readings can goes =
    let rest = some_stream d def [] can (8 * at) (bits_of (drop at bytes)) in
    (rest.0, rest.1, goes rest.0 rest.1 rest.2)

pub listings_more : (d : Description) (def : ℕ) (readings : List Reading) (reading : Reading) → listings d def (readings ++ reading ∷ []) ≡ listings d def readings ++ listing (fields_at d def) reading.node
listings_more d def readings reading =
    flat_map-append (λ (r : Reading). listing (fields_at d def) r.node) readings (reading ∷ [])
    ∙ ap (λ (xs : List ℕ). listings d def readings ++ xs) (append-nil (listing (fields_at d def) reading.node))

-- the values end as the fault says
pub ends_faulty : (d : Description) (def : ℕ) (bytes : List ℕ) (at : ℕ) (readings : List Reading) (e : ReadFault) → at < length bytes → OfFault e (λ fault. Reads d def [] (bits_of (drop at bytes)) (Err fault)) → GoesOn d def bytes at readings → IfOk (fault_rest e (8 * at) (8 * (length bytes - at))) (λ rest. Stream d def [] bytes readings (ending_of rest))
ends_faulty d def bytes at readings ShortFault h fault goes = ends_short d def bytes at _ readings h refl fault goes
ends_faulty d def bytes at readings (BadFault within why) h fault goes = ends_bad d def bytes at within why readings h fault goes
ends_faulty d def bytes at readings ReadNoMemory h fault goes = tt
