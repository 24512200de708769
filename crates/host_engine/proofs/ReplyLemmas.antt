-- The answers of a script's lines, one after another.
use Rattle.std.proofs.Common.{◌≡◌, ℕ, ◌+◌, ◌-◌, ◌^◌, ◌≤◌, min, List, [], ◌∷◌, ◌++◌, Bool, Option, Some, None, refl, inl, inr, sym, ap, subst, append_assoc, arith}
use Rattle.std.proofs.lemmas.List.{append-nil}
use Rattle.wire_frames.specs.declared.raw.RawWire.{RawWire}
use Rattle.conn_core.specs.States.{State}
use Rattle.script_lines.specs.Scripts.{IsLine}
use Rattle.script_lines.specs.declared.commands.Command.{Command}
use Rattle.host_engine.specs.declared.inputs.How.{How}
use Rattle.host_engine.specs.Lines.{has_ended, lines_in, lines_of}
use Rattle.script_replay.proofs.ReplyLaws.{some_replies}
use Rattle.script_replay.specs.Replays.{AreAnswered, Position, Script, after_command, entries, command_text, in_64_bits}
use Rattle.script_replay.specs.declared.replays.ScriptEnd.{ScriptEnd}
use Rattle.script_replay.specs.declared.replays.ScriptEnd.TheVariants.{Answered, Refused}

-- a number that 64 bits hold stays
pub in_range : (p : Position) → p.next ≤ 2 ^ 64 - 1 → in_64_bits p ≡ p
in_range p small =
    let same : min p.next (2 ^ 64 - 1) ≡ p.next = omega (arith, small) in
    ap (λ n. record { next = n; conn = p.conn }) same

-- Behind what was answered so far, a script goes on as its next lines do, from this number and this connection on.
abbrev pub GoesOn : (all : List (List ℕ)) → (n : ℕ) → Option (State RawWire) → (lines : List (List ℕ)) → (text : List ℕ) → Type 0
GoesOn all n at lines text = (more : List ℕ) (end : ScriptEnd) → AreAnswered n at lines more end → Script all (text ++ more) end

pub goes_first : (all : List (List ℕ)) → GoesOn all 1 None all []
goes_first all = λ more end replies. replies

pub one_more_answer : (all : List (List ℕ)) (n : ℕ) (at : Option (State RawWire)) (line : List ℕ) (lines rest : List (List ℕ)) (text : List ℕ) (command : Command) → lines ≡ line ∷ rest → IsLine n line command → GoesOn all n at lines text → GoesOn all (n + 1) (after_command at command) rest (text ++ command_text at command)
one_more_answer all n at line lines rest text command e is goes =
    λ more end replies.
    let here : AreAnswered n at lines (command_text at command ++ more) end =
    subst (λ (ls : List (List ℕ)). AreAnswered n at ls (command_text at command ++ more) end) (sym e) (inl (command, more, is, refl, replies)) in
    subst (λ (all_text : List ℕ). Script all all_text end) (sym (append_assoc text (command_text at command) more)) (goes (command_text at command ++ more) end here)

pub ends_answered : (all : List (List ℕ)) (n : ℕ) (at : Option (State RawWire)) (lines : List (List ℕ)) (text : List ℕ) → lines ≡ [] → GoesOn all n at lines text → Script all text (Answered n (entries at))
ends_answered all n at lines text e goes =
    subst (λ (t : List ℕ). Script all t (Answered n (entries at))) (append-nil text)
    (goes [] (Answered n (entries at)) (subst (λ (ls : List (List ℕ)). AreAnswered n at ls [] (Answered n (entries at))) (sym e) (refl, refl)))

pub ends_refused : (all : List (List ℕ)) (n : ℕ) (at : Option (State RawWire)) (line : List ℕ) (lines rest : List (List ℕ)) (text : List ℕ) → lines ≡ line ∷ rest → ((command : Command) → IsLine n line command → ⊥) → GoesOn all n at lines text → Script all text (Refused n)
ends_refused all n at line lines rest text e none goes =
    subst (λ (t : List ℕ). Script all t (Refused n)) (append-nil text)
    (goes [] (Refused n) (subst (λ (ls : List (List ℕ)). AreAnswered n at ls [] (Refused n)) (sym e) (inr (none, refl, refl))))

-- the script goes on somehow
pub some_answers : (all : List (List ℕ)) (n : ℕ) (at : Option (State RawWire)) (lines : List (List ℕ)) (text : List ℕ) → GoesOn all n at lines text → (rest : List ℕ) × (end : ScriptEnd) × Script all (text ++ rest) end
some_answers all n at lines text goes = let some = some_replies n at lines in (some.0, some.1, goes some.0 some.1 some.2)

-- the lines of the bytes that count are those of the input
pub script_of : (how : How) (ended : Bool) (bytes counted text : List ℕ) (end : ScriptEnd) → ended ≡ has_ended (Some how) → bytes ≡ counted → Script (lines_in ended bytes) text end → Script (lines_of (Some how) counted) text end
script_of how ended bytes counted text end e same script =
    subst (λ (bs : List ℕ). Script (lines_in (has_ended (Some how)) bs) text end) same
    (subst (λ (v : Bool). Script (lines_in v bytes) text end) e script)
