use Rattle.std.proofs.Common.{arith, ◌∙◌}
use Rattle.tag_address.proofs.PrintLaws.{drop_later}
use Rattle.tag_address.proofs.printing.put_count.Goals as goal

pub returns-clause-rest : goal.returns-clause-rest
returns-clause-rest c =
    let opened = c.put-open.ensures in
    let close = c.put_number-close.ensures in
    let last = c.put.ensures in
    last.rest
    ∙ drop_later c.put_number-close.result c.put.result _ _ (omega (arith, last.end)) close.rest
    ∙ drop_later c.put-open.result c.put.result _ _ (omega (arith, last.end, close.end)) opened.rest
