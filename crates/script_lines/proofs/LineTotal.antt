-- Each line is a command's, or no command's.
use Rattle.std.proofs.Common.{◌≡◌, ◌⊎◌, ℕ, Bool, true, false, List, Option, Some, None, inl, inr, refl, sym, ap, ◌∙◌}
use Rattle.std.proofs.lemmas.Bool.{false≢true}
use Rattle.script_lines.specs.declared.commands.Command.{Command}
use Rattle.script_lines.specs.ReaderParts.{command_of, is_at}
use Rattle.script_lines.specs.Scripts.{words_of, IsLine}
use Rattle.script_lines.proofs.PlaceLaws.{at-Decides}
use Rattle.script_lines.proofs.SpellingLaws.{spelling-complete, spelling-sound}

abbrev pub IsDecided : ℕ → List ℕ → Type 0
IsDecided n line = ((command : Command) × IsLine n line command) ⊎ ((command : Command) → IsLine n line command → ⊥)

by_place : (n : ℕ) (line : List ℕ) (command : Command) (here : Bool) → command_of (words_of line) ≡ Some command → is_at n command ≡ here → IsDecided n line
by_place n line command true found here =
    inl (command, (spelling-sound (words_of line) command found, (at-Decides n command).0 here))
by_place n line command false found here =
    inr (λ other h.
    let both : ◌≡◌ {A = Option Command} (Some command) (Some other) = sym found ∙ spelling-complete (words_of line) other h.0 in
    let same : command ≡ other = cc in
    false≢true (sym here ∙ ap (is_at n) same ∙ (at-Decides n other).1 h.1))

by_spelling : (n : ℕ) (line : List ℕ) (read : Option Command) → command_of (words_of line) ≡ read → IsDecided n line
by_spelling n line (Some command) e = by_place n line command (is_at n command) e refl
by_spelling n line None e =
    inr (λ other h.
    let both : ◌≡◌ {A = Option Command} None (Some other) = sym e ∙ spelling-complete (words_of line) other h.0 in
    cc)

pub line_decided : (n : ℕ) (line : List ℕ) → IsDecided n line
line_decided n line = by_spelling n line (command_of (words_of line)) refl
