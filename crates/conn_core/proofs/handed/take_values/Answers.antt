use Rattle.std.proofs.Common.{◌≡◌, ◌∙◌, Some, length, ap, rules}
use Rattle.std.specs.List.{position}
use Rattle.conn_core.specs.HandedItems.{item_has}
use Rattle.conn_core.specs.declared.handed.HandedIn.{HandedIn}
use Rattle.conn_core.proofs.HandedLemmas.{item_at, place_at, remove_at}
use Rattle.conn_core.proofs.handed.take_values.Goals as goal

pub unwrap-at-requires : goal.unwrap-at-requires
unwrap-at-requires c =
    let has = c.requires in
    let placed : c.place_of.result ≡ Some (length has.before) = c.place_of.ensures ∙ ap (position (item_has c.args.id)) c.deref.ensures.value ∙ place_at c.args.handed.now.items c.args.id has.before has.item has.after has.at in
    rw placed (search rules)

pub returns : goal.returns
returns c = λ before item after is.
    let placed : c.place_of.result ≡ Some (length before) = c.place_of.ensures ∙ ap (position (item_has c.args.id)) c.deref.ensures.value ∙ place_at c.args.handed.now.items c.args.id before item after is in
    let at : c.unwrap-at.result ≡ length before = cc in
    let found = item_at c.args.handed.now.items c.args.id before item after c.unwrap-at.result c.remove-values.result is at c.remove-values.ensures.value in
    (c.remove-values.ensures.items ∙ remove_at c.args.handed.now.items c.args.id before item after c.unwrap-at.result is at, ap (λ (i : HandedIn). i.values) found)
