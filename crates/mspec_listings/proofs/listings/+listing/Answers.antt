use Rattle.std.proofs.Common.{rules, ◌≡◌, ◌≤◌, ℕ, ◌+◌, List, ◌++◌, length, map, drop, ap, sym, ◌∙◌, arith}
use Rattle.std.proofs.lemmas.List.{length-map}
use Rattle.std.specs.List.{flat_map}
use Rattle.node_tree.specs.declared.nodes.Node.{Node}
use Rattle.mspec_tree.specs.declared.fields.Field.{Field}
use Rattle.mspec_expr.specs.InTurn.{from_item}
use Rattle.mspec_expr.specs.Kinds.{entry_fields_in, layer}
use Rattle.mspec_listings.specs.Listings.{Listed, entry_lines, fields_lines, group_lines, item_path, items_lines, lines, text_of}
use Rattle.mspec_listings.proofs.AppendLemmas.{breaks_behind}
use Rattle.mspec_listings.proofs.LineLemmas.{behind_entries, behind_fields, field_step, fields_step, item_step, more_lines, some_left}
use Rattle.mspec_listings.proofs.listings.+listing.Goals as goal

pub add_fields-returns-then-next-entries-clause-behind : goal.add_fields-returns-then-next-entries-clause-behind
add_fields-returns-then-next-entries-clause-behind t c =
    let f : Node → Listed = λ entry. lines c.args.d.now entry in
    let all : List Listed = map f c.args.entries.now in
    let ended : length all ≤ c.loop-field.next = omega (arith, length-map c.args.entries.now f) in
    behind_entries c.args.d.now c.args.path.now.items c.args.place c.loop-field.next c.args.fields.now all ended (omega (arith, c.loop-field.invariant.3))

pub add_fields-returns-in_err-add_entry-clause-lines : goal.add_fields-returns-in_err-add_entry-clause-lines
add_fields-returns-in_err-add_entry-clause-lines t c =
    let inv = c.loop-field.invariant in
    let begins = breaks_behind c.args.out.now.items c.loop-field.out.items c.add_entry.new.out.items (text_of inv.0) inv.1 c.in_err-add_entry.ensures.lines in
    search rules

pub add_fields-loop-field-preserved : goal.add_fields-loop-field-preserved
add_fields-loop-field-preserved t c =
    let inv = c.loop-field.invariant in
    let d = c.args.d.now in
    let path = c.args.path.now.items in
    let f : Node → Listed = λ entry. lines d entry in
    let all : List Listed = map f c.args.entries.now in
    let fields = c.args.fields.now in
    let i = c.loop-field.field-index in
    let next = c.loop-field.next in
    let field = c.field-item.result in
    let entry = c.index-entries-next.result in
    let left = from_item fields i field c.loop-field-test.true c.field-item.is in
    let nodes = some_left f next c.args.entries.now entry c.if-next-entries.false c.index-entries-next.is in
    let step = field_step d path next field (drop i fields) (drop (i + 1) fields) (f entry) all inv.0 (fields_lines d path c.args.place fields (drop c.args.place all)) left nodes inv.2 in
    let told = c.in_ok-add_entry.ensures.lines ∙ ap (λ (p : List ℕ). c.loop-field.out.items ++ text_of (entry_lines d p next field (f entry))) inv.4 in
    let text = more_lines c.args.out.now.items c.loop-field.out.items c.add_entry.new.out.items inv.0 (entry_lines d path next field (f entry)) inv.1 told in
    let at = inv.3 in
    (inv.0 ++ entry_lines d path next field (f entry), text, step, omega arith, c.in_ok-add_entry.ensures.path ∙ inv.4)

pub add_fields-returns-clause-behind : goal.add_fields-returns-clause-behind
add_fields-returns-clause-behind t c =
    let f : Node → Listed = λ entry. lines c.args.d.now entry in
    let at = c.loop-field.invariant.3 in
    behind_fields c.args.d.now c.args.path.now.items c.args.place c.loop-field.next c.args.fields.now (map f c.args.entries.now) (omega arith)

pub add_group-returns-in_err-place-clause-lines : goal.add_group-returns-in_err-place-clause-lines
add_group-returns-in_err-place-clause-lines t c =
    let inv = c.loop-field.invariant in
    let begins = breaks_behind c.args.out.now.items c.loop-field.out.items c.add_fields.new.out.items (text_of inv.0) inv.1 c.in_err-place.ensures.lines in
    search rules

pub add_group-loop-field-preserved : goal.add_group-loop-field-preserved
add_group-loop-field-preserved t c =
    let inv = c.loop-field.invariant in
    let d = c.args.d.now in
    let case = c.args.case in
    let path = c.args.path.now.items in
    let f : Node → Listed = λ entry. lines d entry in
    let all : List Listed = map f c.args.entries.now in
    let fields = c.fields_of-fields.result.now in
    let i = c.loop-field.field-index in
    let field = c.field-item.result in
    let place = c.loop-field.place in
    let next = c.in_ok-place.place in
    let here = c.entry_fields.result.now in
    let flat : List Field → List Field = λ fs. flat_map (λ one. entry_fields_in case one (layer one)) fs in
    let parts : flat (drop i fields) ≡ here ++ flat (drop (i + 1) fields) =
    ap flat (from_item fields i field c.loop-field-test.true c.field-item.is) ∙ ap (λ fs. fs ++ flat (drop (i + 1) fields)) (sym c.entry_fields.ensures) in
    let step = fields_step d c.loop-field.path.items path place next here (flat (drop i fields)) (flat (drop (i + 1) fields)) all inv.0 (group_lines d c.args.def case path all) inv.3 parts c.in_ok-place.ensures.behind inv.2 in
    let more = fields_lines d path place here (drop place all) in
    let told = c.in_ok-place.ensures.lines ∙ ap (λ (p : List ℕ). c.loop-field.out.items ++ text_of (fields_lines d p place here (drop place all))) inv.3 in
    let text = more_lines c.args.out.now.items c.loop-field.out.items c.add_fields.new.out.items inv.0 more inv.1 told in
    (inv.0 ++ more, text, step, c.in_ok-place.ensures.path ∙ inv.3)

pub add_list-returns-in_err-add_item-clause-lines : goal.add_list-returns-in_err-add_item-clause-lines
add_list-returns-in_err-add_item-clause-lines t c =
    let inv = c.loop-place.invariant in
    let begins = breaks_behind c.args.out.now.items c.loop-place.out.items c.add_item.new.out.items (text_of inv.0) inv.1 c.in_err-add_item.ensures.lines in
    search rules

pub add_list-loop-place-preserved : goal.add_list-loop-place-preserved
add_list-loop-place-preserved t c =
    let inv = c.loop-place.invariant in
    let d = c.args.d.now in
    let def = c.args.def in
    let path = c.args.path.now.items in
    let f : Node → Listed = λ item. lines d item in
    let all : List Listed = map f c.args.items.now in
    let place = c.loop-place.place in
    let item = c.index-items-place.result in
    let nodes = some_left f place c.args.items.now item c.loop-place-test.true c.index-items-place.is in
    let step = item_step def path place (f item) all inv.0 (items_lines def path 0 all) nodes inv.2 in
    let told = c.in_ok-add_item.ensures.lines ∙ ap (λ (p : List ℕ). c.loop-place.out.items ++ text_of (f item def (item_path p place))) inv.3 in
    let text = more_lines c.args.out.now.items c.loop-place.out.items c.add_item.new.out.items inv.0 (f item def (item_path path place)) inv.1 told in
    (inv.0 ++ f item def (item_path path place), text, step, c.in_ok-add_item.ensures.path ∙ inv.3)
