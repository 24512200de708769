use Rattle.std.proofs.Common.{arith}
use Rattle.std.proofs.lemmas.Grind.{common_steps}
use Rattle.mspec_printer.proofs.TextLaws.{padding_text}
use Rattle.mspec_printer.proofs.fields.append_padding.Goals as goal

pub returns : goal.returns
returns c =
    let text = padding_text c.args.name.now c.args.of c.args.value c.args.e.now in
    grind (arith, common_steps, text)
