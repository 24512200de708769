use Rattle.std.proofs.Common.{arith}
use Rattle.std.proofs.lemmas.Grind.{common_steps}
use Rattle.mspec_printer.proofs.TextLaws.{switch_block_text}
use Rattle.mspec_printer.proofs.fields.append_switch.Goals as goal

pub returns : goal.returns
returns c =
    let text = switch_block_text c.args.f.now c.args.cases.now in
    grind (arith, common_steps, text)
