-- The line's words and its number tell its command.
use Rattle.std.proofs.Common.{◌≡◌, ℕ, true, false, List, take, Option, Some, None, sym, ap, ◌∙◌}
use Rattle.std.proofs.lemmas.Bool.{false≢true}
use Rattle.script_lines.specs.declared.commands.Command.{Command}
use Rattle.script_lines.specs.ReaderParts.{command_of, is_at}
use Rattle.script_lines.specs.Scripts.{words_of, IsLine}
use Rattle.script_lines.proofs.PlaceLaws.{at-Decides}
use Rattle.script_lines.proofs.SpellingLaws.{eight_tell, spelling-complete, spelling-sound}

-- the words as the code has them
abbrev pub AreFront : List ℕ → List (List ℕ) → Type 0
AreFront line words = words ≡ take 8 (words_of line)

whole : (line : List ℕ) (words : List (List ℕ)) → AreFront line words → command_of words ≡ command_of (words_of line)
whole line words front = ap command_of front ∙ eight_tell (words_of line)

pub line-read : (n : ℕ) (line : List ℕ) (words : List (List ℕ)) (command : Command) → AreFront line words → command_of words ≡ Some command → is_at n command ≡ true → IsLine n line command
line-read n line words command front found here =
    (spelling-sound (words_of line) command (sym (whole line words front) ∙ found), (at-Decides n command).0 here)

pub no_spelling : (n : ℕ) (line : List ℕ) (words : List (List ℕ)) (command : Command) → AreFront line words → command_of words ≡ None → IsLine n line command → ⊥
no_spelling n line words command front none h =
    let found : command_of words ≡ Some command = whole line words front ∙ spelling-complete (words_of line) command h.0 in
    let both : ◌≡◌ {A = Option Command} None (Some command) = sym none ∙ found in
    cc

pub not_here : (n : ℕ) (line : List ℕ) (words : List (List ℕ)) (other command : Command) → AreFront line words → command_of words ≡ Some other → is_at n other ≡ false → IsLine n line command → ⊥
not_here n line words other command front found here h =
    let spelled : command_of words ≡ Some command = whole line words front ∙ spelling-complete (words_of line) command h.0 in
    let both : ◌≡◌ {A = Option Command} (Some other) (Some command) = sym found ∙ spelled in
    let same : other ≡ command = cc in
    false≢true (sym here ∙ ap (is_at n) same ∙ (at-Decides n command).1 h.1)

pub same_command : (n : ℕ) (line : List ℕ) (command other : Command) → IsLine n line command → IsLine n line other → command ≡ other
same_command n line command other h k =
    let one = spelling-complete (words_of line) command h.0 in
    let two = spelling-complete (words_of line) other k.0 in
    let both : ◌≡◌ {A = Option Command} (Some command) (Some other) = sym one ∙ two in
    cc
