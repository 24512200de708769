use Rattle.std.proofs.Common.{arith}
use Rattle.std.proofs.lemmas.Grind.{common_steps}
use Rattle.mspec_printer.specs.Printed.{expr}
use Rattle.mspec_printer.proofs.TextLaws.{quoted_text}
use Rattle.mspec_printer.proofs.exprs.append_quoted.Goals as goal

pub returns : goal.returns
returns c =
    let text = quoted_text (expr c.args.e.now) in
    grind (arith, common_steps, text)
