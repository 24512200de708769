use Rattle.std.proofs.Common.{List, refl, sym, subst}
use Rattle.wire_frames.specs.declared.ends.Outcome.{Outcome}
use Rattle.conn_core.specs.HandedItems.{HasItem}
use Rattle.conn_core.specs.declared.handed.HandedIn.{HandedIn}
use Rattle.conn_core.specs.declared.table.KeptTable.{KeptTable}
use Rattle.conn_core.proofs.KeepLemmas.{answered_keeps}
use Rattle.conn_core.proofs.MoveLemmas.{answered_arrives, asks_admitted, awaits_item, found_at_place, has_item, late_arrives, stray_arrives}
use Rattle.conn_core.proofs.MoveNeeds.{replied_needs}
use Rattle.conn_core.proofs.table.KeptTable.arrive.Goals as goal

pub submit_place-place-requires : goal.submit_place-place-requires
submit_place-place-requires g c =
    let k = c.args.self.now in
    let s = awaits_item c.args.journal.now k c.requires.standing.0 c.args.reply.now.reference c.in-Row.id c.requires.table c.requires.standing.1 (sym c.in-Row.ensures.answer) in
    let P : List HandedIn → Type 0 = λ items. HasItem items c.in-Row.id in
    subst P (sym c.deref.ensures.value) (has_item k.handed.items c.in-Row.id s.split.items_before s.split.item s.split.items_after s.at)

pub ask_at-requires : goal.ask_at-requires
ask_at-requires g c =
    let k = c.args.self.now in
    let s = awaits_item c.args.journal.now k c.requires.standing.0 c.args.reply.now.reference c.in-Row.id c.requires.table c.requires.standing.1 (sym c.in-Row.ensures.answer) in
    let found = found_at_place c.args.journal.now k c.requires.standing.0 c.args.reply.now.reference c.in-Row.id s c.deref.result.now c.submit_place-place.result c.deref.ensures.value c.submit_place-place.ensures in
    (s.split.here.entry, s.row.row.what.ask, found, s.asks)

pub fit-requires-clause-admitted : goal.fit-requires-clause-admitted
fit-requires-clause-admitted g c =
    let k = c.args.self.now in
    let s = awaits_item c.args.journal.now k c.requires.standing.0 c.args.reply.now.reference c.in-Row.id c.requires.table c.requires.standing.1 (sym c.in-Row.ensures.answer) in
    let found = found_at_place c.args.journal.now k c.requires.standing.0 c.args.reply.now.reference c.in-Row.id s c.deref.result.now c.submit_place-place.result c.deref.ensures.value c.submit_place-place.ensures in
    let e = s.split.here.entry in
    asks_admitted (g.W.Wire.meaning c.args.wire.now) e.event c.ask_at.result.now (c.requires.admitted c.submit_place-place.result e found) (c.ask_at.ensures e found)

pub keep_values-requires : goal.keep_values-requires
keep_values-requires g c =
    let k = c.args.self.now in
    let s = awaits_item c.args.journal.now k c.requires.standing.0 c.args.reply.now.reference c.in-Row.id c.requires.table c.requires.standing.1 (sym c.in-Row.ensures.answer) in
    has_item k.handed.items c.in-Row.id s.split.items_before s.split.item s.split.items_after s.at

pub returns-in-Stray-clause-moved : goal.returns-in-Stray-clause-moved
returns-in-Stray-clause-moved g c = λ t stands.
    let k = c.args.self.now in
    stray_arrives (g.W.Wire.meaning c.args.wire.now) c.args.journal.now k k t c.args.reply.now.reference c.args.reply.now.reading stands (sym c.in-Stray.ensures.answer) refl

pub returns-in-Late-clause-moved : goal.returns-in-Late-clause-moved
returns-in-Late-clause-moved g c = λ t stands.
    let k = c.args.self.now in
    let m : KeptTable = record k { requests = c.settle.new.self } in
    late_arrives (g.W.Wire.meaning c.args.wire.now) c.args.journal.now k m t c.args.reply.now.reference c.args.reply.now.reading stands (sym c.in-Late.ensures.answer) c.settle.ensures.rows refl refl refl refl refl

pub returns-in_ok-kind-in-Row-clause-moved : goal.returns-in_ok-kind-in-Row-clause-moved
returns-in_ok-kind-in-Row-clause-moved g c = λ t stands.
    let k = c.args.self.now in
    let m : KeptTable = record k { requests = c.end.new.self; handed = c.keep_values.new.handed } in
    let outcome : Outcome = c.in_ok-kind-in-Row.field-0 in
    let s = awaits_item c.args.journal.now k t c.args.reply.now.reference c.in-Row.id c.requires.table stands (sym c.in-Row.ensures.answer) in
    let found = found_at_place c.args.journal.now k t c.args.reply.now.reference c.in-Row.id s c.deref.result.now c.submit_place-place.result c.deref.ensures.value c.submit_place-place.ensures in
    answered_arrives (g.W.Wire.meaning c.args.wire.now) c.args.journal.now k m t c.args.reply.now.reference c.in-Row.id c.args.reply.now.reading c.ask_at.result.now outcome.kind outcome.values s stands (c.ask_at.ensures s.split.here.entry found) c.in_ok-kind-in-Row.ensures c.end.ensures.rows (c.keep_values.ensures s.split.items_before s.split.item s.split.items_after s.at) refl refl refl refl

pub returns-in_ok-kind-in-Row-clause-kept : goal.returns-in_ok-kind-in-Row-clause-kept
returns-in_ok-kind-in-Row-clause-kept g c = λ s entries was.
    let k = c.args.self.now in
    let m : KeptTable = record k { requests = c.end.new.self; handed = c.keep_values.new.handed } in
    answered_keeps s entries k m c.in-Row.id c.in_ok-kind-in-Row.field-0.kind was c.end.ensures.rows c.end.ensures.table refl refl refl

pub returns-in_ok-kind-in-Row-clause-needs : goal.returns-in_ok-kind-in-Row-clause-needs
returns-in_ok-kind-in-Row-clause-needs g c =
    let k = c.args.self.now in
    let m : KeptTable = record k { requests = c.end.new.self; handed = c.keep_values.new.handed } in
    replied_needs k m c.in-Row.id c.in_ok-kind-in-Row.field-0.kind c.end.ensures.rows refl refl
