-- Bits have one list of readings by a description, and one ending.
use Rattle.std.proofs.Common.{◌≡◌, ◌≢◌, ℕ, ℤ, zero, suc, ◌+◌, ◌%◌, ◌<◌, ◌≤◌, ◌⊎◌, Bool, List, [], ◌∷◌, length, drop, Result, Ok, Err, refl, sym, ap, ◌∙◌, subst, inl, inr, arith}
use Rattle.std.proofs.lemmas.Bool.{cases_eq, cases_lt}
use Rattle.std.proofs.lemmas.List.{length-drop}
use Rattle.node_tree.specs.Bits.{bits_of}
use Rattle.node_tree.specs.declared.readings.Reading.{Reading}
use Rattle.node_tree.specs.declared.faults.ReadWhy.TheVariants.{ZeroItem}
use Rattle.mspec_tree.specs.declared.defs.Description.{Description}
use Rattle.mspec_expr.specs.Contexts.{Fault, Short, Bad}
use Rattle.mspec_expr.specs.Reads.{reads}
use Rattle.mspec_expr.specs.Stream.{Reads, Stream, StreamFrom, Ends, Ending, End, TooFew, Refused, Value, Unaligned}

one_outcome : (d : Description) (def : ℕ) (args : List ℤ) (bits : List Bool) (one other : Result Reading Fault) → Reads d def args bits one → Reads d def args bits other → one ≡ other
one_outcome d def args bits one other h k = sym h ∙ k

-- what the outcome of the bits that are left makes the ending
abbrev EndsBy : (at : ℕ) → List Bool → Result Reading Fault → Ending → Type 0
EndsBy at bits (Ok reading) ending =
    ((reading.bits ≡ 0) × (ending ≡ Refused at (Value ZeroItem)))
    ⊎ ((reading.bits % 8 ≢ 0) × (ending ≡ Refused (at + reading.bits) Unaligned))
EndsBy at bits (Err Short) ending = ending ≡ TooFew (length bits)
EndsBy at bits (Err (Bad within why)) ending = ending ≡ Refused (at + within) (Value why)

ends_by : (d : Description) (def : ℕ) (args : List ℤ) (at : ℕ) (bits : List Bool) (ending : Ending) → bits ≢ [] → Ends d def args at bits ending → (outcome : Result Reading Fault) × Reads d def args bits outcome × EndsBy at bits outcome ending
ends_by d def args at bits End some end = absurd (some end)
ends_by d def args at bits (TooFew left) some end = (Err Short, end.1, ap (λ n. TooFew n) end.2)
ends_by d def args at bits (Refused bit (Value why)) some end =
    elim end.1 [
      | inl bad ↦ (Err (Bad bad.0 why), bad.1, ap (λ b. Refused b (Value why)) bad.2)
      | inr nothing ↦ (Ok nothing.0.0, nothing.0.1, inl (nothing.0.2, cc))
    ]
ends_by d def args at bits (Refused bit Unaligned) some end =
    (Ok end.1.0, end.1.1, inr (end.1.2, ap (λ b. Refused b Unaligned) end.1.3))

no_bits : (n : ℕ) → n ≡ 0 → n % 8 ≡ 0
no_bits n h = omega arith

same_ending : (at : ℕ) (bits : List Bool) (outcome : Result Reading Fault) (one other : Ending) → EndsBy at bits outcome one → EndsBy at bits outcome other → one ≡ other
same_ending at bits (Ok reading) one other (inl h) (inl k) = h.1 ∙ sym k.1
same_ending at bits (Ok reading) one other (inl h) (inr k) = absurd (k.0 (no_bits reading.bits h.0))
same_ending at bits (Ok reading) one other (inr h) (inl k) = absurd (h.0 (no_bits reading.bits k.0))
same_ending at bits (Ok reading) one other (inr h) (inr k) = h.1 ∙ sym k.1
same_ending at bits (Err Short) one other h k = h ∙ sym k
same_ending at bits (Err (Bad within why)) one other h k = h ∙ sym k

-- a value that the next may follow makes no ending
goes_on : (at : ℕ) (bits : List Bool) (reading : Reading) (ending : Ending) → EndsBy at bits (Ok reading) ending → 0 < reading.bits → reading.bits % 8 ≡ 0 → ⊥
goes_on at bits reading ending (inl h) some whole = absurd (omega (arith, h.0))
goes_on at bits reading ending (inr h) some whole = h.0 whole

end_or_next : (d : Description) (def : ℕ) (args : List ℤ) (at : ℕ) (bits : List Bool) (ending : Ending) (reading : Reading) → Ends d def args at bits ending → bits ≢ [] → Reads d def args bits (Ok reading) → 0 < reading.bits → reading.bits % 8 ≡ 0 → ⊥
end_or_next d def args at bits ending reading end some read pos whole =
    let by = ends_by d def args at bits ending some end in
    goes_on at bits reading ending
    (subst (λ (outcome : Result Reading Fault). EndsBy at bits outcome ending) (one_outcome d def args bits by.0 (Ok reading) by.1 read) by.2)
    pos whole

end_of_none : (d : Description) (def : ℕ) (args : List ℤ) (at : ℕ) (ending : Ending) → Ends d def args at [] ending → ending ≡ End
end_of_none d def args at End end = refl
end_of_none d def args at (TooFew left) end = absurd (end.0 refl)
end_of_none d def args at (Refused bit (Value why)) end = absurd (end.0 refl)
end_of_none d def args at (Refused bit Unaligned) end = absurd (end.0 refl)

pub not_nil : {A : Type 0} (x : A) (xs : List A) → x ∷ xs ≢ []
not_nil x xs h = cc

one_ending : (d : Description) (def : ℕ) (args : List ℤ) (at : ℕ) (bits : List Bool) (one other : Ending) → Ends d def args at bits one → Ends d def args at bits other → one ≡ other
one_ending d def args at [] one other h k = end_of_none d def args at one h ∙ sym (end_of_none d def args at other k)
one_ending d def args at (bit ∷ bits) one other h k =
    let all = bit ∷ bits in
    let by = ends_by d def args at all one (not_nil bit bits) h in
    let so = ends_by d def args at all other (not_nil bit bits) k in
    same_ending at all by.0 one other by.2
    (subst (λ (outcome : Result Reading Fault). EndsBy at all outcome other) (one_outcome d def args all so.0 by.0 so.1 by.1) so.2)

same_read : (one other : Reading) → (let first : Result Reading Fault = Ok one in first ≡ Ok other) → one ≡ other
same_read one other h = cc

both : (one other : Reading) (ones others : List Reading) (end last : Ending) → one ≡ other → (ones ≡ others) × (end ≡ last) → (one ∷ ones ≡ other ∷ others) × (end ≡ last)
both one other ones others end last h k = (cc, k.1)

one_from : (d : Description) (def : ℕ) (args : List ℤ) (at : ℕ) (bits : List Bool) (one other : List Reading) (end last : Ending) → StreamFrom d def args at bits one end → StreamFrom d def args at bits other last → (one ≡ other) × (end ≡ last)
one_from d def args at bits [] [] end last h k = (refl, one_ending d def args at bits end last h k)
one_from d def args at bits [] (reading ∷ others) end last h k =
    absurd (end_or_next d def args at bits end reading h k.0 k.1 k.2 k.3)
one_from d def args at bits (reading ∷ ones) [] end last h k =
    absurd (end_or_next d def args at bits last reading k h.0 h.1 h.2 h.3)
one_from d def args at bits (reading ∷ ones) (next ∷ others) end last h k =
    let same = same_read reading next (one_outcome d def args bits (Ok reading) (Ok next) h.1 k.1) in
    both reading next ones others end last same
    (one_from d def args (at + reading.bits) (drop reading.bits bits) ones others end last h.4
    (subst (λ (r : Reading). StreamFrom d def args (at + r.bits) (drop r.bits bits) others last) (sym same) k.4))

pub one_list : (d : Description) (def : ℕ) (args : List ℤ) (bytes : List ℕ) (one other : List Reading) (end last : Ending) → Stream d def args bytes one end → Stream d def args bytes other last → (one ≡ other) × (end ≡ last)
one_list d def args bytes one other end last h k = one_from d def args 0 (bits_of bytes) one other end last h k

-- ---- each has one

shorter : (n read : ℕ) (bits : List Bool) → length bits ≤ suc n → 0 < length bits → 0 < read → length (drop read bits) ≤ n
shorter n read bits h some pos = omega (arith, length-drop read bits)

-- what is to show of the bits that are left
abbrev SomeStream : Description → ℕ → List ℤ → ℕ → List Bool → Type 0
SomeStream d def args at bits = (readings : List Reading) × (ending : Ending) × StreamFrom d def args at bits readings ending

from_reading : (d : Description) (def : ℕ) (args : List ℤ) (at : ℕ) (bit : Bool) (bits : List Bool) (reading : Reading) → Reads d def args (bit ∷ bits) (Ok reading) → (0 < reading.bits → SomeStream d def args (at + reading.bits) (drop reading.bits (bit ∷ bits))) → SomeStream d def args at (bit ∷ bits)
from_reading d def args at bit bits reading read rest =
    elim (cases_lt 0 reading.bits) [
      | inr none ↦ ([], Refused at (Value ZeroItem), (not_nil bit bits, inr ((reading, read, omega arith), refl, refl)))
      | inl some ↦ elim (cases_eq (reading.bits % 8) 0) [
        | inl whole ↦ (reading ∷ (rest some).0, (rest some).1, (not_nil bit bits, read, some, whole, (rest some).2))
        | inr part ↦ ([], Refused (at + reading.bits) Unaligned, (not_nil bit bits, (reading, read, part, refl)))
      ]
    ]

from_outcome : (d : Description) (def : ℕ) (args : List ℤ) (at : ℕ) (bit : Bool) (bits : List Bool) (outcome : Result Reading Fault) → Reads d def args (bit ∷ bits) outcome → ((read : ℕ) → 0 < read → SomeStream d def args (at + read) (drop read (bit ∷ bits))) → SomeStream d def args at (bit ∷ bits)
from_outcome d def args at bit bits (Ok reading) read rest = from_reading d def args at bit bits reading read (rest reading.bits)
from_outcome d def args at bit bits (Err Short) read rest = ([], TooFew (length (bit ∷ bits)), (not_nil bit bits, read, refl))
from_outcome d def args at bit bits (Err (Bad within why)) read rest = ([], Refused (at + within) (Value why), (not_nil bit bits, inl (within, read, refl)))

stream_within : (d : Description) (def : ℕ) (args : List ℤ) (most at : ℕ) (bits : List Bool) → length bits ≤ most → SomeStream d def args at bits
stream_within d def args most at [] h = ([], End, refl)
stream_within d def args zero at (bit ∷ bits) h = absurd (omega arith)
stream_within d def args (suc most) at (bit ∷ bits) h =
    from_outcome d def args at bit bits (reads d def args (bit ∷ bits)) refl
    (λ used pos. stream_within d def args most (at + used) (drop used (bit ∷ bits)) (shorter most used (bit ∷ bits) h (omega arith) pos))

pub some_list : (d : Description) (def : ℕ) (args : List ℤ) (bytes : List ℕ) → (readings : List Reading) × (ending : Ending) × Stream d def args bytes readings ending
some_list d def args bytes = stream_within d def args (length (bits_of bytes)) 0 (bits_of bytes) (omega arith)
