use Rattle.std.proofs.Common.{rules, ◌≡◌, ℕ, List, [], ◌∷◌, ap, ◌∙◌, arith}
use Rattle.host_engine.specs.Tool.{command_word}
use Rattle.host_engine.proofs.WordLemmas.{of_two}
use Rattle.host_engine.proofs.words.file_words.Goals as goal

pub returns-then-is_positional : goal.returns-then-is_positional
returns-then-is_positional c =
    let word = c.in_ok-word.word.now in
    let file_name = c.in_ok-file_name.file_name.now in
    let two = of_two c.args.words.now word file_name (omega (arith, c.len.ensures, c.if-len-ne2.false)) c.in_ok-word.ensures.text c.in_ok-file_name.ensures.text in
    let same : word ≡ command_word c.in_ok-command.command = c.in_ok-command.ensures in
    record {
      spelled = two ∙ ap (λ (w : List ℕ). w ∷ file_name ∷ []) same;
      file_word = search rules;
    }
