use Rattle.std.proofs.Common.{◌∙◌, [], arith, inl, refl}
use Rattle.tag_address.specs.Tags.{in_brackets}
use Rattle.tag_address.proofs.PrintLaws.{drop_later}
use Rattle.tag_address.proofs.TagLaws.{count_length, item_of_tag, text_length}
use Rattle.tag_address.proofs.printing.print_tag.Goals as goal

pub put_count-requires : goal.put_count-requires
put_count-requires c =
    let item = c.args.item.now in
    let is = item_of_tag c.requires.0 c.requires.1 item c.requires.2 in
    let tail = count_length item.count (in_brackets item.count) is.most (inl refl) in
    let whole = text_length item [] is in
    omega (arith, tail, whole, c.put_head-head.ensures.end)

pub returns-else-item-eq1-clause-rest : goal.returns-else-item-eq1-clause-rest
returns-else-item-eq1-clause-rest c =
    let head = c.put_head-head.ensures in
    let last = c.put_count.ensures in
    last.rest ∙ drop_later c.put_head-head.result c.put_count.result _ _ (omega (arith, last.end)) head.rest
