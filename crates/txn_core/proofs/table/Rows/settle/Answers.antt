use Rattle.std.proofs.Common.{◌≡◌, ◌<◌, ◌≤◌, ◌++◌, ◌∷◌, [], true, arith, ap, rules, set, subst, sym}
use Rattle.std.specs.VecDeque.{deque_capacity, deque_len}
use Rattle.txn_core.specs.KeptRows.{table_of}
use Rattle.txn_core.specs.RowTables.{is_quarantined}
use Rattle.txn_core.proofs.KeptLemmas.{kept_by, settles, settles_room, sound_by}
use Rattle.txn_core.proofs.table.Rows.settle.Goals as goal

pub unwrap-requires : goal.unwrap-requires
unwrap-requires g c =
    let a = c.self.inside in
    let is : is_quarantined c.args.reference (table_of a) ≡ true = subst (λ t. is_quarantined c.args.reference t ≡ true) (sym c.self.view_is) c.requires in
    let room = settles_room a c.args.reference c.self.invariant is in
    let len = a.free.ok.0 in
    let fewer : deque_len a.free < deque_capacity a.free = omega arith in search rules

pub invariant_of-self : goal.invariant_of-self
invariant_of-self g c =
    let a = c.self.inside in
    let is : is_quarantined c.args.reference (table_of a) ≡ true = subst (λ t. is_quarantined c.args.reference t ≡ true) (sym c.self.view_is) c.requires in
    let pushed : c.push_back.new.self.items ≡ a.free.items ++ c.args.reference ∷ [] = search rules in
    let room : a.references ≤ deque_capacity c.push_back.new.self = omega arith in
    kept_by _ _ (settles a c.args.reference _ _ c.self.invariant is pushed (ap (λ r. set a.quarantined.items r _) c.from.ensures)) c.self.invariant.room room

pub returns-clause-table : goal.returns-clause-table
returns-clause-table g c =
    let a = c.self.inside in
    let is : is_quarantined c.args.reference (table_of a) ≡ true = subst (λ t. is_quarantined c.args.reference t ≡ true) (sym c.self.view_is) c.requires in
    let pushed : c.push_back.new.self.items ≡ a.free.items ++ c.args.reference ∷ [] = search rules in
    sound_by _ _ _ (settles a c.args.reference _ _ c.self.invariant is pushed (ap (λ r. set a.quarantined.items r _) c.from.ensures))
