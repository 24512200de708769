use Rattle.std.proofs.Common.{◌≡◌, ◌∙◌, Some, length, sym, ap, rules}
use Rattle.conn_core.specs.declared.handed.HandedIn.{HandedIn}
use Rattle.conn_core.proofs.HandedLemmas.{item_at, place_at}
use Rattle.conn_core.proofs.handed.submit_place.Goals as goal

pub unwrap-at-requires : goal.unwrap-at-requires
unwrap-at-requires c =
    let has = c.requires in
    let placed : c.place_of.result ≡ Some (length has.before) = c.place_of.ensures ∙ place_at c.args.handed.now c.args.id has.before has.item has.after has.at in
    rw placed (search rules)

pub returns : goal.returns
returns c = λ before item after is.
    let placed : c.place_of.result ≡ Some (length before) = c.place_of.ensures ∙ place_at c.args.handed.now c.args.id before item after is in
    let at : c.unwrap-at.result ≡ length before = cc in
    let found = item_at c.args.handed.now c.args.id before item after c.unwrap-at.result c.index-handed-at.result is at c.index-handed-at.is in
    ap (λ (i : HandedIn). i.place) (sym c.index-handed-at.is ∙ found)
