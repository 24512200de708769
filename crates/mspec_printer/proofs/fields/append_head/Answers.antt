use Rattle.std.proofs.Common.{arith}
use Rattle.std.proofs.lemmas.Grind.{common_steps}
use Rattle.mspec_printer.proofs.TextLaws.{head_text}
use Rattle.mspec_printer.proofs.fields.append_head.Goals as goal

pub returns : goal.returns
returns c =
    let text = head_text c.args.f.now in
    grind (arith, common_steps, text)
