use Rattle.std.proofs.Common.{◌≡◌, [], ◌∷◌, arith, sym, ap, ◌∙◌, subst}
use Rattle.node_tree.specs.declared.nodes.Node.{Node}
use Rattle.node_tree.specs.declared.nodes.Node.TheVariants as nodes
use Rattle.data_io.specs.Data.{IsReading}
use Rattle.data_io.proofs.Readings.{one_item, two_items}
use Rattle.data_io.proofs.values.values_of.Goals as goal

pub returns-in-len1-clause-shape : goal.returns-in-len1-clause-shape
returns-in-len1-clause-shape c =
    λ e list h.
    let entries : c.in-Group.entries ≡ c.list-item.result ∷ [] = sym c.as_slice.ensures ∙ one_item c.as_slice.result.now c.list-item.result (omega arith) c.list-item.is in
    let node : c.args.node.now ≡ nodes.Group c.in-Group.case (c.list-item.result ∷ []) = c.in-Group.is ∙ ap (nodes.Group c.in-Group.case) entries in
    c.list_values.ensures.shape e list (subst (λ (n : Node). IsReading n list) node h)

pub returns-in-len2-clause-shape : goal.returns-in-len2-clause-shape
returns-in-len2-clause-shape c =
    λ e list h.
    let entries : c.in-Group.entries ≡ c.reserved-item.result ∷ c.flag-item.result ∷ [] = sym c.as_slice.ensures ∙ two_items c.as_slice.result.now c.reserved-item.result c.flag-item.result (omega arith) c.reserved-item.is c.flag-item.is in
    let node : c.args.node.now ≡ nodes.Group c.in-Group.case (c.reserved-item.result ∷ c.flag-item.result ∷ []) = c.in-Group.is ∙ ap (nodes.Group c.in-Group.case) entries in
    c.flag_values.ensures.shape e list (subst (λ (n : Node). IsReading n list) node h)
