use Rattle.std.proofs.Common.{◌≡◌, [], ◌∷◌, ◌++◌, List, sym, ap, ◌∙◌, subst}
use Rattle.node_tree.specs.declared.nodes.Node.{Node}
use Rattle.node_tree.specs.declared.nodes.Node.TheVariants as nodes
use Rattle.wire_frames.specs.declared.kinds.PlcValue.{PlcValue}
use Rattle.wire_frames.specs.declared.kinds.PlcValue.TheVariants as values
use Rattle.std.proofs.lemmas.Bool.{iff_false}
use Rattle.data_io.specs.Data.{IsReading}
use Rattle.data_io.proofs.Readings.{flag_reading, same_entries, two_entries}
use Rattle.data_io.proofs.values.flag_values.Goals as goal
use Rattle.data_io.proofs.values.flag_values.Goals.{in_default-via-in-Flag+else-is_reserved, in_default-via-in_default}

pub returns-in-Ok-clause-read : goal.returns-in-Ok-clause-read
returns-in-Ok-clause-read c =
    let p = c.is_reserved.ensures.0 c.if-is_reserved.true in
    let list : c.push.new.self ≡ values.Bool c.in-Flag.value ∷ [] = c.in-Ok.ensures.ok ∙ ap (λ (vs : List PlcValue). vs ++ (values.Bool c.in-Flag.value ∷ [])) c.new-values.ensures in
    let group : nodes.Group c.args.case (c.args.reserved.now ∷ c.args.flag.now ∷ []) ≡ nodes.Group c.args.case (nodes.Num p.1 ∷ nodes.Flag c.in-Flag.value ∷ []) =
    ap (λ (n : Node). nodes.Group c.args.case (n ∷ c.args.flag.now ∷ [])) p.4 ∙ ap (λ (n : Node). nodes.Group c.args.case (nodes.Num p.1 ∷ n ∷ [])) c.in-Flag.is in
    subst (IsReading (nodes.Group c.args.case (c.args.reserved.now ∷ c.args.flag.now ∷ []))) (sym list)
    (subst (λ (n : Node). IsReading n (values.Bool c.in-Flag.value ∷ [])) (sym group) (flag_reading c.args.case p.0 c.in-Flag.value p.1 p.2 p.3))

pub returns-in_default-clause-shape : goal.returns-in_default-clause-shape
returns-in_default-clause-shape c =
    λ _ list h.
    let f = two_entries c.args.case c.args.reserved.now c.args.flag.now list h in
    let same = same_entries c.args.reserved.now c.args.flag.now (nodes.Num f.reserved) (nodes.Flag f.flag) f.entries_are in
    elim c.in_default.branch [
      | in_default-via-in-Flag+else-is_reserved w ↦ iff_false w.is_reserved.ensures w.if-is_reserved.false (f.registers, f.reserved, sym f.case_is, f.reserved_is, same.0)
      | in_default-via-in_default w ↦ w.in_default.not-Flag f.flag same.1
    ]
