-- Which call a line's first word names.
use Rattle.std.proofs.Common.{◌≡◌, ◌≢◌, ℕ, true, false, List, length, codes, None}
use Rattle.std.specs.Str.{bytes_eq}
use Rattle.std.proofs.lemmas.Bool.{false_from_ne_true}
use Rattle.std.proofs.lemmas.Slice.Eq.{HasBytesAt, bytes_eq-Decides, text_from_reads}
use Rattle.script_lines.specs.ReaderParts.{call_of}

-- a word with a name's length and bytes is the name
pub same_name : (word name : List ℕ) → length word ≡ length name → HasBytesAt word 0 name → (bytes_eq word name ≡ true) × (word ≡ name)
same_name word name long reads =
    let same = text_from_reads word name long reads in
    ((bytes_eq-Decides word name).1 same, same)

other_name : (word name : List ℕ) → word ≢ name → bytes_eq word name ≡ false
other_name word name other = false_from_ne_true (bytes_eq word name) (λ test. other ((bytes_eq-Decides word name).0 test))

-- a word that is none of the names
pub no_call : (word : List ℕ) (words : List (List ℕ)) → word ≢ codes "ask" → word ≢ codes "poll" → word ≢ codes "release" → word ≢ codes "submit" → word ≢ codes "send" → word ≢ codes "frame" → word ≢ codes "cancel" → word ≢ codes "collect" → word ≢ codes "tick" → word ≢ codes "shutdown" → call_of word words ≡ None
unfolding call_of
no_call word words ask poll release submit send frame cancel collect tick shutdown = simp (other_name, ask, poll, release, submit, send, frame, cancel, collect, tick, shutdown)
