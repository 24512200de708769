use Rattle.std.proofs.Common.{arith, sym, ◌∙◌}
use Rattle.std.proofs.lemmas.Grind.{common_steps}
use Rattle.mspec_printer.proofs.TextLaws.{attributes_by}
use Rattle.mspec_printer.proofs.lists.append_attributes.Goals as goal

pub returns : goal.returns
returns c =
    let text = attributes_by c.args.items.now (sym c.is_empty.ensures ∙ c.if-is_empty.false) in
    grind (arith, common_steps, text)
