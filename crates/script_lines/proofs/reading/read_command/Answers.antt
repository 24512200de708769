use Rattle.std.proofs.Common.{rules, ◌≡◌, List, ℕ, map, take, None, sym, ◌∙◌}
use Rattle.script_lines.specs.ReaderParts.{command_of}
use Rattle.script_lines.specs.Scripts.{words_of}
use Rattle.script_lines.proofs.LineLaws.{line-read, no_spelling, not_here}
use Rattle.script_lines.proofs.reading.read_command.Goals as goal

pub returns-in_err-command-clause-refused : goal.returns-in_err-command-clause-refused
returns-in_err-command-clause-refused c =
    let words : List (List ℕ) = map (λ w. w.now) c.as_slice.result.now in
    let front : words ≡ take 8 (words_of c.args.line.now) = search rules in
    λ refused command line.
    let none : command_of words ≡ None = search rules in
    no_spelling c.args.number c.args.line.now words command front none line

pub returns-then-is_at-clause-read : goal.returns-then-is_at-clause-read
returns-then-is_at-clause-read c =
    let words : List (List ℕ) = map (λ w. w.now) c.as_slice.result.now in
    let front : words ≡ take 8 (words_of c.args.line.now) = search rules in
    line-read c.args.number c.args.line.now words c.in_ok-command.command front c.in_ok-command.ensures (sym c.is_at.ensures ∙ c.if-is_at.true)

pub returns-clause-refused : goal.returns-clause-refused
returns-clause-refused c =
    let words : List (List ℕ) = map (λ w. w.now) c.as_slice.result.now in
    let front : words ≡ take 8 (words_of c.args.line.now) = search rules in
    λ refused command line.
    not_here c.args.number c.args.line.now words c.in_ok-command.command command front c.in_ok-command.ensures (sym c.is_at.ensures ∙ c.if-is_at.false) line
