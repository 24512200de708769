use Rattle.std.proofs.Common.{arith}
use Rattle.std.proofs.lemmas.Grind.{common_steps}
use Rattle.mspec_printer.proofs.TextLaws.{case_text}
use Rattle.mspec_printer.proofs.fields.append_case.Goals as goal

pub returns : goal.returns
returns c =
    let text = case_text c.args.c.now in
    grind (arith, common_steps, text)
