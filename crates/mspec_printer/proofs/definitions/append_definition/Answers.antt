use Rattle.std.proofs.Common.{arith}
use Rattle.std.proofs.lemmas.Grind.{common_steps}
use Rattle.mspec_printer.proofs.TextLaws.{definition_text}
use Rattle.mspec_printer.proofs.definitions.append_definition.Goals as goal

pub returns : goal.returns
returns c =
    let text = definition_text c.args.d.now in
    grind (arith, common_steps, text)
