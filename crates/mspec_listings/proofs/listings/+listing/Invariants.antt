use Rattle.std.proofs.Common.{◌≡◌, List, ◌++◌, map, drop, ◌+◌}
use Rattle.std.specs.List.{flat_map}
use Rattle.mspec_expr.specs.Kinds.{entry_fields_in, layer}
use Rattle.mspec_listings.specs.Listings.{Line, Listed, fields_lines, group_lines, items_lines, lines, text_of}
use Rattle.mspec_listings.proofs.listings.+listing.Given as goal

-- the lines so far, and those of what is left, are all
abbrev pub invariant-add_list-loop-place : goal.invariant-add_list-loop-place
invariant-add_list-loop-place l =
    let all : List Listed = map (λ item. lines l.d item) l.items in
    let path = l.fn.path.items in
    (so_far : List Line)
    × (l.out.items ≡ l.fn.out.items ++ text_of so_far)
    × (so_far ++ items_lines l.def path l.place (drop l.place all) ≡ items_lines l.def path 0 all)
    × (l.path.items ≡ path)

abbrev pub invariant-add_fields-loop-field : goal.invariant-add_fields-loop-field
invariant-add_fields-loop-field l =
    let all : List Listed = map (λ entry. lines l.d entry) l.entries in
    let path = l.fn.path.items in
    (so_far : List Line)
    × (l.out.items ≡ l.fn.out.items ++ text_of so_far)
    × (so_far ++ fields_lines l.d path l.next (drop l.field-index l.fields) (drop l.next all) ≡ fields_lines l.d path l.place l.fields (drop l.place all))
    × (l.next ≡ l.place + l.field-index)
    × (l.path.items ≡ path)

abbrev pub invariant-add_group-loop-field : goal.invariant-add_group-loop-field
invariant-add_group-loop-field l =
    let all : List Listed = map (λ entry. lines l.d entry) l.entries in
    let path = l.fn.path.items in
    (so_far : List Line)
    × (l.out.items ≡ l.fn.out.items ++ text_of so_far)
    × (so_far ++ fields_lines l.d path l.place (flat_map (λ field. entry_fields_in l.case field (layer field)) (drop l.field-index l.fields)) (drop l.place all) ≡ group_lines l.d l.def l.case path all)
    × (l.path.items ≡ path)
