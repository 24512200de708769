use Rattle.std.proofs.Common.{arith, sym, ◌∙◌}
use Rattle.std.proofs.lemmas.Grind.{common_steps}
use Rattle.mspec_printer.proofs.TextLaws.{parentheses_by}
use Rattle.mspec_printer.proofs.lists.append_in_parentheses.Goals as goal

pub returns : goal.returns
returns g c =
    let text = parentheses_by g.T.Item.pieces c.args.items.now (sym c.is_empty.ensures ∙ c.if-is_empty.false) in
    grind (arith, common_steps, text)
