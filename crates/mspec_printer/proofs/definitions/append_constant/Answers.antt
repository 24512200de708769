use Rattle.std.proofs.Common.{arith}
use Rattle.std.proofs.lemmas.Grind.{common_steps}
use Rattle.mspec_printer.proofs.TextLaws.{constant_text}
use Rattle.mspec_printer.proofs.definitions.append_constant.Goals as goal

pub returns : goal.returns
returns c =
    let text = constant_text c.args.c.now in
    grind (arith, common_steps, text)
