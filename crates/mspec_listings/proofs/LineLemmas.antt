-- The lines of items and of fields, one after another.
use Rattle.std.proofs.Common.{◌≡◌, ℕ, suc, ◌+◌, ◌<◌, ◌≤◌, List, [], ◌∷◌, ◌++◌, length, map, drop, get_or, refl, sym, ap, subst, ◌∙◌, append_assoc, arith}
use Rattle.std.proofs.Math.ListN.{drop_of_length-le, get_or-map}
use Rattle.std.proofs.Math.Seq.{drop-cons, drop-nil}
use Rattle.std.proofs.lemmas.List.{drop-drop, length-map}
use Rattle.std.proofs.lemmas.List.Concat.{flat_map-append}
use Rattle.node_tree.specs.declared.nodes.Node.{Node}
use Rattle.mspec_tree.specs.declared.fields.Field.{Field}
use Rattle.mspec_tree.specs.declared.defs.Description.{Description}
use Rattle.mspec_listings.specs.Listings.{Line, Listed, entry_lines, fields_lines, item_path, items_lines, line_text, text_of}

pub text_of-append : (xs ys : List Line) → text_of (xs ++ ys) ≡ text_of xs ++ text_of ys
text_of-append xs ys = flat_map-append line_text xs ys

-- lines behind those so far
pub more_lines : (old middle new : List ℕ) (so_far more : List Line) → middle ≡ old ++ text_of so_far → new ≡ middle ++ text_of more → new ≡ old ++ text_of (so_far ++ more)
more_lines old middle new so_far more h g =
    g ∙ ap (λ (xs : List ℕ). xs ++ text_of more) h ∙ append_assoc old (text_of so_far) (text_of more) ∙ ap (λ (xs : List ℕ). old ++ xs) (sym (text_of-append so_far more))

-- ---- what is left of the nodes

pub some_left : (f : Node → Listed) (n : ℕ) (nodes : List Node) (node : Node) → n < length nodes → node ≡ get_or nodes n node → drop n (map f nodes) ≡ f node ∷ drop (n + 1) (map f nodes)
some_left f n nodes node h e =
    let inside : n < length (map f nodes) = omega (arith, length-map nodes f) in
    let here : f node ≡ get_or (map f nodes) n (f node) = ap f e ∙ sym (get_or-map f nodes n node) in
    let next : suc n ≡ n + 1 = omega arith in
    drop-cons (map f nodes) n (f node) inside ∙ ap (λ x. x ∷ drop (suc n) (map f nodes)) (sym here) ∙ ap (λ k. f node ∷ drop k (map f nodes)) next

pub none_left : (f : Node → Listed) (n : ℕ) (nodes : List Node) → length nodes ≤ n → drop n (map f nodes) ≡ []
none_left f n nodes h = drop_of_length-le (map f nodes) (omega (arith, length-map nodes f))

-- ---- fields

pub no_entries : (d : Description) (path : List ℕ) (place : ℕ) (fields : List Field) → fields_lines d path place fields [] ≡ []
no_entries d path place [] = refl
no_entries d path place (field ∷ fields) = refl

-- fields, and then more of them
pub fields_apart : (d : Description) (path : List ℕ) (place : ℕ) (fields more : List Field) (entries : List Listed)
    → fields_lines d path place (fields ++ more) entries
    ≡ fields_lines d path place fields entries ++ fields_lines d path (place + length fields) more (drop (length fields) entries)
fields_apart d path place [] more entries =
    ap (λ k. fields_lines d path k more entries) (omega arith)
fields_apart d path place (field ∷ fields) more [] =
    sym (ap (λ es. fields_lines d path (place + length (field ∷ fields)) more es) (drop-nil (length (field ∷ fields))) ∙ no_entries d path (place + length (field ∷ fields)) more)
fields_apart d path place (field ∷ fields) more (entry ∷ entries) =
    let next : (place + 1) + length fields ≡ place + length (field ∷ fields) = omega arith in
    ap (λ ls. entry_lines d path place field entry ++ ls)
    (fields_apart d path (place + 1) fields more entries
    ∙ ap (λ k. fields_lines d path (place + 1) fields entries ++ fields_lines d path k more (drop (length fields) entries)) next)
    ∙ sym (append_assoc (entry_lines d path place field entry) (fields_lines d path (place + 1) fields entries) (fields_lines d path (place + length (field ∷ fields)) more (drop (length fields) entries)))

-- behind all of them
pub behind_fields : (d : Description) (path : List ℕ) (place next : ℕ) (fields : List Field) (all : List Listed) → next ≡ place + length fields
    → (more : List Field) → fields_lines d path place (fields ++ more) (drop place all)
    ≡ fields_lines d path place fields (drop place all) ++ fields_lines d path next more (drop next all)
behind_fields d path place next fields all e more =
    fields_apart d path place fields more (drop place all)
    ∙ ap (λ es. fields_lines d path place fields (drop place all) ++ fields_lines d path (place + length fields) more es) (drop-drop (length fields) place all)
    ∙ ap (λ k. fields_lines d path place fields (drop place all) ++ fields_lines d path k more (drop k all)) (sym e)

-- where the entries end before them
pub behind_entries : (d : Description) (path : List ℕ) (place next : ℕ) (fields : List Field) (all : List Listed) → length all ≤ next → next ≤ place + length fields
    → (more : List Field) → fields_lines d path place (fields ++ more) (drop place all)
    ≡ fields_lines d path place fields (drop place all) ++ fields_lines d path next more (drop next all)
behind_entries d path place next fields all h g more =
    let last = place + length fields in
    let here = fields_lines d path place fields (drop place all) in
    let gone : drop (length fields) (drop place all) ≡ [] = drop-drop (length fields) place all ∙ drop_of_length-le all (omega arith) in
    let none : drop next all ≡ [] = drop_of_length-le all h in
    fields_apart d path place fields more (drop place all)
    ∙ ap (λ es. here ++ fields_lines d path last more es) gone
    ∙ ap (λ ls. here ++ ls) (no_entries d path last more ∙ sym (no_entries d path next more))
    ∙ ap (λ es. here ++ fields_lines d path next more es) (sym none)

-- fields of a group, and what is left behind them
pub fields_step : (d : Description) (kept path : List ℕ) (place next : ℕ) (here fields left : List Field) (all : List Listed) (so_far whole : List Line)
    → kept ≡ path
    → fields ≡ here ++ left
    → ((more : List Field) → fields_lines d kept place (here ++ more) (drop place all) ≡ fields_lines d kept place here (drop place all) ++ fields_lines d kept next more (drop next all))
    → so_far ++ fields_lines d path place fields (drop place all) ≡ whole
    → (so_far ++ fields_lines d path place here (drop place all)) ++ fields_lines d path next left (drop next all) ≡ whole
fields_step d kept path place next here fields left all so_far whole e f behind h =
    let parts : fields_lines d path place (here ++ left) (drop place all) ≡ fields_lines d path place here (drop place all) ++ fields_lines d path next left (drop next all) =
    subst (λ (p : List ℕ). fields_lines d p place (here ++ left) (drop place all) ≡ fields_lines d p place here (drop place all) ++ fields_lines d p next left (drop next all)) e (behind left) in
    append_assoc so_far (fields_lines d path place here (drop place all)) (fields_lines d path next left (drop next all))
    ∙ ap (λ ls. so_far ++ ls) (sym (ap (λ fs. fields_lines d path place fs (drop place all)) f ∙ parts))
    ∙ h

-- a field with its entry, and what is left behind both
pub field_step : (d : Description) (path : List ℕ) (place : ℕ) (field : Field) (fields fields' : List Field) (entry : Listed) (all : List Listed) (so_far whole : List Line)
    → fields ≡ field ∷ fields'
    → drop place all ≡ entry ∷ drop (place + 1) all
    → so_far ++ fields_lines d path place fields (drop place all) ≡ whole
    → (so_far ++ entry_lines d path place field entry) ++ fields_lines d path (place + 1) fields' (drop (place + 1) all) ≡ whole
field_step d path place field fields fields' entry all so_far whole f e h =
    append_assoc so_far (entry_lines d path place field entry) (fields_lines d path (place + 1) fields' (drop (place + 1) all))
    ∙ ap (λ ls. so_far ++ ls) (sym (ap (λ fs. fields_lines d path place fs (drop place all)) f ∙ ap (λ es. fields_lines d path place (field ∷ fields') es) e))
    ∙ h

-- an item, and what is left behind it
pub item_step : (def : ℕ) (path : List ℕ) (place : ℕ) (item : Listed) (all : List Listed) (so_far whole : List Line)
    → drop place all ≡ item ∷ drop (place + 1) all
    → so_far ++ items_lines def path place (drop place all) ≡ whole
    → (so_far ++ item def (item_path path place)) ++ items_lines def path (place + 1) (drop (place + 1) all) ≡ whole
item_step def path place item all so_far whole e h =
    append_assoc so_far (item def (item_path path place)) (items_lines def path (place + 1) (drop (place + 1) all))
    ∙ ap (λ ls. so_far ++ ls) (sym (ap (λ es. items_lines def path place es) e))
    ∙ h
