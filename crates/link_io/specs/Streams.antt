-- What a source gave and has left, and what a sink holds, where they tell it.
use Rattle.std.specs.Prelude.{ℕ, Bool, ◌≡◌, ◌≤◌, List, [], ◌++◌, length, take, drop, Option, Some, None, IfSome}
use Rattle.std.proofs.Common.{refl, sym, ◌∙◌, ap, append_assoc, append-nil, take-add, length-take-le}
use Rattle.std.proofs.lemmas.List.{length-append, drop-drop, take-append-drop}

-- the bytes that a source gave so far, and those that it has left
pub record Tape : Type 0 where
  pub given : List ℕ
  pub left : List ℕ

-- What a source shows at one moment: its tape, where it tells it, and how often a read has met its end and has failed.
pub record SourceSeen : Type 0 where
  pub tape : Option Tape
  pub ends : ℕ
  pub faults : ℕ

-- What a sink shows at one moment: the bytes that it holds, where it tells them, and how often a call has failed or a write
-- has taken no byte.
pub record SinkSeen : Type 0 where
  pub held : Option (List ℕ)
  pub faults : ℕ

-- What a shelf shows at one moment: the bytes of the file of each name, where it tells them; whether it tells that there is no
-- file of this name; and how often a call that gave this name has failed.
pub record ShelfSeen : Type 0 where
  pub file : List ℕ → Option (List ℕ)
  pub lacks : List ℕ → Bool
  pub faults : List ℕ → ℕ

-- no file has changed, as the shelf tells them
abbrev pub LeavesFiles : (before after : ShelfSeen) → Type 0
LeavesFiles before after = (name : List ℕ) → (after.file name ≡ before.file name) × (after.lacks name ≡ before.lacks name)

-- the tape after these bytes were given; a source that doesn't tell goes on so
abbrev pub after_giving : List ℕ → Option Tape → Option Tape
after_giving bytes None = None
after_giving bytes (Some tape) =
    Some (record { given = tape.given ++ bytes; left = drop (length bytes) tape.left })

-- these bytes are the next that the source has, where it tells
abbrev pub AreNext : List ℕ → Option Tape → Type 0
AreNext bytes None = Unit {0}
AreNext bytes (Some tape) = take (length bytes) tape.left ≡ bytes

-- the source has no byte left, where it tells
abbrev pub IsAtEnd : Option Tape → Type 0
IsAtEnd None = Unit {0}
IsAtEnd (Some tape) = tape.left ≡ []

-- these bytes are all that the source has left, where it tells
abbrev pub AreAllLeft : List ℕ → Option Tape → Type 0
AreAllLeft bytes None = Unit {0}
AreAllLeft bytes (Some tape) = tape.left ≡ bytes

-- what a sink holds after these bytes went out; a sink that doesn't tell goes on so
abbrev pub after_taking : List ℕ → Option (List ℕ) → Option (List ℕ)
after_taking bytes None = None
after_taking bytes (Some held) = Some (held ++ bytes)

-- giving nothing leaves the tape
pub after_giving-nil : (tape : Option Tape) → after_giving [] tape ≡ tape
after_giving-nil None = refl
after_giving-nil (Some tape) = ap (λ (given : List ℕ). Some (record { given = given; left = tape.left })) (append-nil tape.given)

-- giving bytes and then more is giving them in one
pub after_giving-append : (first second : List ℕ) (tape : Option Tape)
    → after_giving (first ++ second) tape ≡ after_giving second (after_giving first tape)
after_giving-append first second None = refl
after_giving-append first second (Some tape) =
    rw (length-append, drop-drop, append_assoc)

-- bytes that are next, and those that are next after them, are next in one
pub AreNext-append : (first second : List ℕ) (tape : Option Tape)
    → AreNext first tape → AreNext second (after_giving first tape) → AreNext (first ++ second) tape
AreNext-append first second None one two = tt
AreNext-append first second (Some tape) one two = rw (length-append, take-add, one, two)

-- bytes after which the source is at its end are all that it has left
pub AreNext-all : (bytes : List ℕ) (tape : Option Tape)
    → AreNext bytes tape → IsAtEnd (after_giving bytes tape) → AreAllLeft bytes tape
AreNext-all bytes None next done = tt
AreNext-all bytes (Some tape) next done =
    sym (take-append-drop (length bytes) tape.left) ∙ rw (next, done) (append-nil bytes)

-- putting nothing leaves what a sink holds
pub after_taking-nil : (held : Option (List ℕ)) → after_taking [] held ≡ held
after_taking-nil None = refl
after_taking-nil (Some held) = ap (λ (bytes : List ℕ). Some bytes) (append-nil held)

-- putting bytes and then more is putting them in one
pub after_taking-append : (first second : List ℕ) (held : Option (List ℕ))
    → after_taking (first ++ second) held ≡ after_taking second (after_taking first held)
after_taking-append first second None = refl
after_taking-append first second (Some held) = rw append_assoc

-- these bytes are the first of the file, where it is told
abbrev pub AreFirst : List ℕ → Option (List ℕ) → Type 0
AreFirst bytes None = Unit {0}
AreFirst bytes (Some file) = take (length bytes) file ≡ bytes

-- the first bytes of a file and what a read from there took, are its first bytes
pub AreFirst-append : (file : Option (List ℕ)) (bytes taken : List ℕ) (count : ℕ)
    → count ≤ length taken
    → AreFirst bytes file
    → IfSome file (λ whole. take count taken ≡ take count (drop (length bytes) whole))
    → AreFirst (bytes ++ take count taken) file
AreFirst-append None bytes taken count within first next = tt
AreFirst-append (Some file) bytes taken count within first next =
    rw (length-append, length-take-le count taken within, take-add, first, ← next)
