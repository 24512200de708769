use Rattle.std.proofs.Common.{◌≡◌, ◌∙◌, ℕ, List, Option, Some, length, set, ap, rules}
use Rattle.std.specs.List.{position}
use Rattle.conn_core.specs.HandedItems.{item_has, sent_item}
use Rattle.conn_core.specs.declared.handed.HandedIn.{HandedIn}
use Rattle.conn_core.proofs.HandedLemmas.{item_at, place_at, sending_same, set_at}
use Rattle.conn_core.proofs.handed.hand_out.Goals as goal

pub unwrap-at-requires : goal.unwrap-at-requires
unwrap-at-requires c =
    let placed : c.place_of.result ≡ Some (length c.requires.0) = c.place_of.ensures ∙ ap (position (item_has c.args.id)) c.deref.ensures.value ∙ place_at c.args.handed.now.items c.args.id c.requires.0 c.requires.1 c.requires.2 c.requires.4 in
    rw placed (search rules)

pub unwrap-frame-requires : goal.unwrap-frame-requires
unwrap-frame-requires c =
    let placed : c.place_of.result ≡ Some (length c.requires.0) = c.place_of.ensures ∙ ap (position (item_has c.args.id)) c.deref.ensures.value ∙ place_at c.args.handed.now.items c.args.id c.requires.0 c.requires.1 c.requires.2 c.requires.4 in
    let at : c.unwrap-at.result ≡ length c.requires.0 = cc in
    let found = item_at c.args.handed.now.items c.args.id c.requires.0 c.requires.1 c.requires.2 c.unwrap-at.result c.index_mut-item.result.now c.requires.4 at c.index_mut-item.ensures.value in
    let has : c.take.result ≡ Some c.requires.3 = c.take.ensures.value ∙ ap (λ (i : HandedIn). i.frame) found ∙ c.requires.5 in
    rw has (search rules)

pub returns : goal.returns
returns c = λ before item after frame is has.
    let placed : c.place_of.result ≡ Some (length before) = c.place_of.ensures ∙ ap (position (item_has c.args.id)) c.deref.ensures.value ∙ place_at c.args.handed.now.items c.args.id before item after is in
    let at : c.unwrap-at.result ≡ length before = cc in
    let found = item_at c.args.handed.now.items c.args.id before item after c.unwrap-at.result c.index_mut-item.result.now is at c.index_mut-item.ensures.value in
    let taken : c.take.result ≡ Some frame = c.take.ensures.value ∙ ap (λ (i : HandedIn). i.frame) found ∙ has in
    let given : c.unwrap-frame.result ≡ frame = cc in
    let changed = ap (λ (f : Option (List ℕ)). record c.index_mut-item.result.now { frame = f }) c.take.ensures.after ∙ ap sent_item found in (
      ap (set c.args.handed.now.items c.unwrap-at.result) changed ∙ set_at c.args.handed.now.items c.args.id before item after c.unwrap-at.result (sent_item item) is at,
      sending_same c.args.id _ _ _ _ (ap (λ (i : HandedIn). i.reference) found) given,
    )
