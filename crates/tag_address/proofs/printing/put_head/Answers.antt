use Rattle.std.proofs.Common.{◌+◌, ◌∙◌, arith, ap, length}
use Rattle.tag_address.proofs.PrintLaws.{drop_later}
use Rattle.tag_address.proofs.TagLaws.{area_length, number_length, start_below, type_length}
use Rattle.tag_address.proofs.printing.put_head.Goals as goal

pub put_number-colon-requires : goal.put_number-colon-requires
put_number-colon-requires c =
    let area = area_length c.args.item.now.area in
    let word = ap length c.spelling_bytes.ensures in
    let start = start_below c.args.item.now c.requires.item in
    let digits = number_length (c.from.result + 1) (omega (arith, start, c.from.ensures)) in
    omega (arith, area, word, digits, c.put-place.ensures.end, c.requires.room)

pub put-kind-requires : goal.put-kind-requires
put-kind-requires c =
    let area = area_length c.args.item.now.area in
    let word = ap length c.spelling_bytes.ensures in
    let start = start_below c.args.item.now c.requires.item in
    let digits = number_length (c.from.result + 1) (omega (arith, start, c.from.ensures)) in
    omega (arith, area, word, digits, c.put-place.ensures.end, c.put_number-colon.ensures.end, c.requires.room)

pub put-requires : goal.put-requires
put-requires c =
    let area = area_length c.args.item.now.area in
    let word = ap length c.spelling_bytes.ensures in
    let start = start_below c.args.item.now c.requires.item in
    let digits = number_length (c.from.result + 1) (omega (arith, start, c.from.ensures)) in
    let kind = type_length c.args.item.now.kind in
    let name = ap length c.spelling_bytes-2.ensures in
    omega (arith, area, word, digits, kind, name, c.put-place.ensures.end, c.put_number-colon.ensures.end, c.put-kind.ensures.end, c.requires.room)

pub returns-clause-rest : goal.returns-clause-rest
returns-clause-rest c =
    let place = c.put-place.ensures in
    let number = c.put_number-colon.ensures in
    let colon = c.put-kind.ensures in
    let last = c.put.ensures in
    last.rest
    ∙ drop_later c.put-kind.result c.put.result _ _ (omega (arith, last.end)) colon.rest
    ∙ drop_later c.put_number-colon.result c.put.result _ _ (omega (arith, last.end, colon.end)) number.rest
    ∙ drop_later c.put-place.result c.put.result _ _ (omega (arith, last.end, colon.end, number.end)) place.rest
