-- What is put out where memory ran out is whole lines.
use Rattle.std.proofs.Common.{ℕ, List, [], ◌∷◌, ◌++◌, codes, Option, Some, None, refl, inl, inr, sym, ap, ◌∙◌, subst, append_assoc}
use Rattle.std.specs.List.{flat_map}
use Rattle.std.proofs.lemmas.List.{append-nil}
use Rattle.node_tree.specs.declared.readings.Reading.{Reading}
use Rattle.mspec_tree.specs.declared.defs.Description.{Description}
use Rattle.wire_frames.specs.declared.raw.RawWire.{RawWire}
use Rattle.conn_core.specs.States.{State}
use Rattle.script_lines.specs.declared.commands.Command.{Command}
use Rattle.script_lines.specs.declared.commands.Command.TheVariants.{Table, Calls}
use Rattle.script_replay.proofs.LineByLine.{line_by_line}
use Rattle.script_replay.specs.Replays.{Script, answer_text, command_text}
use Rattle.script_replay.specs.declared.replays.ScriptEnd.{ScriptEnd}
use Rattle.host_engine.specs.Lines.{AreWholeLines}
use Rattle.host_engine.specs.Listing.{entries_of, fields_at, lines}
use Rattle.host_engine.specs.Tool.{listings}

whole_append : (xs ys : List ℕ) → AreWholeLines xs → AreWholeLines ys → AreWholeLines (xs ++ ys)
whole_append xs ys first second =
    elim second [
      | inl none ↦ subst AreWholeLines (sym (ap (λ (zs : List ℕ). xs ++ zs) none ∙ append-nil xs)) first
      | inr more ↦ inr (xs ++ more.0, ap (λ (zs : List ℕ). xs ++ zs) more.1 ∙ sym (append_assoc xs more.0 (codes "\n")))
    ]

reply_whole : (at : Option (State RawWire)) (command : Command) → AreWholeLines (command_text at command)
reply_whole at (Table settings) = inl refl
reply_whole (Some state) (Calls call) = inr (answer_text state call, refl)
reply_whole None (Calls call) = inl refl

-- one answer more
pub one_more_whole : (text : List ℕ) (at : Option (State RawWire)) (command : Command) → AreWholeLines text → AreWholeLines (text ++ command_text at command)
one_more_whole text at command whole = whole_append text (command_text at command) whole (reply_whole at command)

-- each with its line feed
fed_whole : (all : List (List ℕ)) → AreWholeLines (flat_map (λ answer. answer ++ codes "\n") all)
fed_whole [] = inl refl
fed_whole (answer ∷ rest) = whole_append (answer ++ codes "\n") (flat_map (λ a. a ++ codes "\n") rest) (inr (answer, refl)) (fed_whole rest)

pub script_whole : (all : List (List ℕ)) (text : List ℕ) (end : ScriptEnd) → Script all text end → AreWholeLines text
script_whole all text end script = let answers = line_by_line all text end script in subst AreWholeLines (sym answers.2) (fed_whole answers.0)

-- each value's listing ends with an empty line
pub listings_whole : (d : Description) (def : ℕ) (readings : List Reading) → AreWholeLines (listings d def readings)
listings_whole d def [] = inl refl
listings_whole d def (reading ∷ readings) =
    let first = lines (fields_at d def) (entries_of reading.node) in
    whole_append (first ++ codes "\n") (listings d def readings) (inr (first, refl)) (listings_whole d def readings)
