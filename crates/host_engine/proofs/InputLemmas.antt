-- What was taken from an input, piece by piece.
use Rattle.std.proofs.Common.{◌≡◌, ◌≢◌, ℕ, ◌+◌, ◌≤◌, List, ◌++◌, length, Option, Some, None, inl, inr, sym, ap, ◌∙◌, subst, arith}
use Rattle.std.proofs.lemmas.Bool.{cases_eq}
use Rattle.link_io.specs.Streams.{SourceSeen, Tape, after_giving, AreNext, after_giving-append, AreNext-append}
use Rattle.host_engine.specs.declared.inputs.How.{How}
use Rattle.host_engine.specs.declared.inputs.How.TheVariants.{Ended, Over}
use Rattle.host_engine.specs.Runs.{InputTaken}

-- one more piece
pub given_more : (t0 t1 t2 : Option Tape) (bytes piece : List ℕ) → t1 ≡ after_giving bytes t0 → t2 ≡ after_giving piece t1 → t2 ≡ after_giving (bytes ++ piece) t0
given_more t0 t1 t2 bytes piece a b = b ∙ ap (after_giving piece) a ∙ sym (after_giving-append bytes piece t0)

pub next_more : (t0 t1 : Option Tape) (bytes piece : List ℕ) → t1 ≡ after_giving bytes t0 → AreNext bytes t0 → AreNext piece t1 → AreNext (bytes ++ piece) t0
next_more t0 t1 bytes piece a next more =
    AreNext-append bytes piece t0 next (subst (λ (t : Option Tape). AreNext piece t) a more)

pub taken_over : (s0 s1 : SourceSeen) (bytes : List ℕ) → s1.tape ≡ after_giving bytes s0.tape → AreNext bytes s0.tape → s1.ends ≡ s0.ends → s1.faults ≡ s0.faults → length bytes ≡ 16777217 → InputTaken s0 s1 bytes (Some Over)
taken_over s0 s1 bytes a next ends faults long =
    record { given = a; next = next; at_end = λ e. absurd (let h : Some Over ≡ Some Ended = e in cc); left = (ends, faults, long) }

-- bytes that memory was wanting for
below : (n m : ℕ) → n ≤ m + 1 → n ≢ m + 1 → n ≤ m
below n m most other = omega (arith, most, other)

pub taken_so_far : (s0 s1 : SourceSeen) (bytes : List ℕ) → s1.tape ≡ after_giving bytes s0.tape → AreNext bytes s0.tape → s1.ends ≡ s0.ends → s1.faults ≡ s0.faults → length bytes ≤ 16777217 → (taken : List ℕ) × (how : Option How) × InputTaken s0 s1 taken how
taken_so_far s0 s1 bytes a next ends faults most =
    elim (cases_eq (length bytes) 16777217) [
      | inl long ↦ (bytes, Some Over, taken_over s0 s1 bytes a next ends faults long)
      | inr other ↦ (bytes, None, record { given = a; next = next; at_end = λ e. absurd (let h : None ≡ Some Ended = e in cc); left = (ends, faults, below (length bytes) 16777216 most other) })
    ]
