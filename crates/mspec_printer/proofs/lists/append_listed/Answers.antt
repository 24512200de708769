use Rattle.std.proofs.Common.{arith}
use Rattle.std.proofs.lemmas.Grind.{common_steps}
use Rattle.mspec_printer.proofs.TextLaws.{listed_by}
use Rattle.mspec_printer.proofs.lists.append_listed.Goals as goal

pub returns-in_ok-append-in-len1-up : goal.returns-in_ok-append-in-len1-up
returns-in_ok-append-in-len1-up g c =
    let text = listed_by g.T.Item.pieces c.args.items.now c.first-item.result c.in-len1-up.len_at_least in
    grind (arith, common_steps, text)
