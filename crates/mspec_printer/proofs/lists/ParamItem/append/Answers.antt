use Rattle.std.proofs.Common.{arith}
use Rattle.std.proofs.lemmas.Grind.{common_steps}
use Rattle.mspec_printer.proofs.TextLaws.{param_text}
use Rattle.mspec_printer.proofs.lists.ParamItem.append.Goals as goal

pub returns : goal.returns
returns c =
    let text = param_text c.args.self.now in
    grind (arith, common_steps, text)
