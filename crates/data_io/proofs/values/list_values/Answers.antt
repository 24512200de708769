use Rattle.std.proofs.Common.{◌≡◌, ◌≤◌, ◌*◌, [], ◌∷◌, length, map, sym, ap, ◌∙◌, subst}
use Rattle.std.specs.List.{All}
use Rattle.std.proofs.lemmas.List.{length-map}
use Rattle.node_tree.specs.declared.nodes.Node.{Node}
use Rattle.node_tree.specs.declared.nodes.Node.TheVariants as nodes
use Rattle.wire_frames.specs.declared.kinds.PlcType.{PlcType}
use Rattle.data_io.specs.Data.{IsOf, IsReading, bytes_of, value_node}
use Rattle.data_io.proofs.Readings.{has_room, list_reading, no_room, one_entry, same_entry, same_kind, same_list, then_ok}
use Rattle.data_io.proofs.values.list_values.Goals as goal
use Rattle.data_io.proofs.values.list_values.Goals.{in_default-list-via-in-List+else-len-byte_width, in_default-list-via-in_default-list}

pub returns-in_default-clause-shape : goal.returns-in_default-clause-shape
returns-in_default-clause-shape c =
    λ _ list h.
    let l = one_entry c.args.case c.args.list.now list h in
    c.in_default.ensures.none l.kind l.other (sym l.case_is)

pub returns-in-List-clause-read : goal.returns-in-List-clause-read
returns-in-List-clause-read c =
    let kind = c.in-Some.kind in
    let found = c.in-Some.ensures.found in
    then_ok c.item_values.result _ _ (λ list read.
    let items : c.in-List.items ≡ map value_node list = sym c.as_slice.ensures ∙ read.1 in
    let long : c.len.result ≡ length list = c.len.ensures ∙ ap length items ∙ length-map list value_node in
    let room : length list * bytes_of kind ≤ 65535 = has_room kind (length list) c.len.result c.byte_width.result found.0 c.byte_width.ensures long c.if-len-byte_width.true in
    let node : nodes.List (map value_node list) ≡ c.args.list.now = ap nodes.List (sym items) ∙ sym c.in-List.is in
    subst (λ (n : Node). IsReading (nodes.Group c.args.case (n ∷ [])) list) node
    (list_reading c.args.case kind list found.0 found.1 read.0 room)) c.item_values.ensures.read

pub returns-in-List-clause-shape : goal.returns-in-List-clause-shape
returns-in-List-clause-shape c =
    λ e list h.
    let l = one_entry c.args.case c.args.list.now list h in
    let kind : l.kind ≡ c.in-Some.kind = same_kind l.kind c.in-Some.kind l.other c.in-Some.ensures.found.0 (sym l.case_is ∙ sym c.in-Some.ensures.found.1) in
    let same = same_entry c.args.list.now (nodes.List (map value_node list)) l.entries_are in
    let items = same_list c.in-List.items (map value_node list) (sym c.in-List.is ∙ same) in
    c.item_values.ensures.shape e list (subst (λ (k : PlcType). All (IsOf k) list) kind l.data_are.each) (c.as_slice.ensures ∙ items)

pub returns-in_default-list-clause-shape : goal.returns-in_default-list-clause-shape
returns-in_default-list-clause-shape c =
    λ _ list h.
    let l = one_entry c.args.case c.args.list.now list h in
    let kind : l.kind ≡ c.in-Some.kind = same_kind l.kind c.in-Some.kind l.other c.in-Some.ensures.found.0 (sym l.case_is ∙ sym c.in-Some.ensures.found.1) in
    let same = same_entry c.args.list.now (nodes.List (map value_node list)) l.entries_are in
    elim c.in_default-list.branch [
      | in_default-list-via-in-List+else-len-byte_width w ↦
          let items = same_list w.in-List.items (map value_node list) (sym w.in-List.is ∙ same) in
          let long : w.len.result ≡ length list = w.len.ensures ∙ ap length items ∙ length-map list value_node in
          no_room c.in-Some.kind (length list) w.len.result w.byte_width.result c.in-Some.ensures.found.0 w.byte_width.ensures long w.if-len-byte_width.false (subst (λ (k : PlcType). length list * bytes_of k ≤ 65535) kind l.data_are.room)
      | in_default-list-via-in_default-list w ↦ w.in_default-list.not-List (map value_node list) same
    ]
