use Rattle.std.proofs.Common.{rules, ◌≡◌, [], ◌∷◌, codes, ap, ◌∙◌, sym, arith}
use Rattle.host_engine.proofs.WordLemmas.{of_three}
use Rattle.host_engine.proofs.words.decode_words.Goals as goal

pub returns-then-is_positional-2 : goal.returns-then-is_positional-2
returns-then-is_positional-2 c =
    let command = c.in_ok-command.command.now in
    let file_name = c.in_ok-file_name.file_name.now in
    let type_name = c.in_ok-type_name.type_name.now in
    let three = of_three c.args.words.now command file_name type_name (omega (arith, c.len.ensures, c.if-len-ne3.false)) c.in_ok-command.ensures.text c.in_ok-file_name.ensures.text c.in_ok-type_name.ensures.text in
    let same : command ≡ codes "decode" = search rules in
    record {
      spelled = three ∙ ap (λ word. word ∷ file_name ∷ type_name ∷ []) same ∙ ap (λ word. codes "decode" ∷ file_name ∷ word ∷ []) (sym c.as_bytes.ensures.value);
      file_word = search rules;
      type_word = search rules;
    }
