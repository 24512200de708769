-- Where an environment fits, each number of an expression in which nothing is wrong stays inside the widest range.
use Rattle.std.proofs.Common.{◌≡◌, ℕ, zero, suc, Bool, true, false, ◌&&◌, List, [], ◌∷◌, ◌++◌, Option, Some, None, refl, sym, ap, ◌∙◌, subst, arith}
use Rattle.std.proofs.lemmas.Int.{ints, clamps}
use Rattle.std.specs.Prelude.{if◌then◌else◌, IsSome, is_some, ℤ, neg_ℤ, ◌≤ℤ◌, int_le, slice_get, ◌==◌}
use Rattle.mspec_tree.specs.declared.words.Place.{Place}
use Rattle.mspec_tree.specs.declared.words.Lit.{Lit}
use Rattle.mspec_tree.specs.declared.words.Lit.TheVariants.{Num, Flag}
use Rattle.mspec_tree.specs.declared.words.Op.{Op}
use Rattle.mspec_tree.specs.declared.words.Op.TheVariants as op
use Rattle.mspec_tree.specs.declared.exprs.Expr.{Expr, out-Expr}
use Rattle.mspec_tree.specs.declared.exprs.Shape.{Shape, out-Shape}
use Rattle.mspec_tree.specs.declared.exprs.Shape.TheOpen.{Shape-F}
use Rattle.mspec_tree.specs.declared.defs.Description.{Description}
use Rattle.mspec_expr.specs.declared.kinds.Fault.{Fault}
use Rattle.mspec_expr.specs.declared.kinds.ExprWhy.TheVariants.{KindMismatch, TooWide}
use Rattle.mspec_expr.specs.declared.kinds.Range.{Range}
use Rattle.mspec_expr.specs.declared.kinds.Meant.{Meant}
use Rattle.mspec_expr.specs.declared.kinds.Meant.TheVariants.{Number, Flag as FlagKind, EnumOf, GroupOf, ListOf, Bytes, Raw, Null}
use Rattle.mspec_expr.specs.declared.scopes.Scope.{Scope}
use Rattle.mspec_expr.specs.Kinds.{base_of, cases_of, literal, own_range}
use Rattle.mspec_expr.specs.Ranges.{Judged, Judges, both_numbers, branches, branches_joined, case_from, case_is, cast_group, cast_meant, chosen, def_is_switched, hull, hull_of, is_kind, is_number, is_proper, joined, judged_at, judged_numbers, kind_wrong, leaves, lies_in, literal_is, negated as negates, negated_range, number_is, proper, range, reckoned as reckons, reckoned_ranges, same_item, shape_judged, two_judged, two_range, two_wrong, widest, wrong_if}
use Rattle.mspec_expr.specs.Fits.{AskedRanged, IsIn, is_asked_shape, values_of, values_of_all}
use Rattle.mspec_expr.proofs.RangeFine.{Fine, fine}
use Rattle.mspec_expr.proofs.RangeKnown.{IsReckoning, and_true, both_none, chosen_faults, chosen_parts, cons_none, false_true, none_some, not_not, not_wrong, number_faults, right, two_has}
use Rattle.mspec_expr.proofs.RangeSound.{some_same, two_in}

same_le : (x : ℤ) → x ≤ℤ x
same_le x = omega (arith, ints)

turned : (a b : ℤ) → a ≤ℤ b → neg_ℤ b ≤ℤ neg_ℤ a
turned a b h = omega (arith, ints)

order_of : (r : Range) (n : ℤ) → IsIn r n → r.low ≤ℤ r.high
order_of r n h = omega (arith, ints, h.above, h.below)

hull_order : (a b : Range) → a.low ≤ℤ a.high → b.low ≤ℤ b.high → (hull a b).low ≤ℤ (hull a b).high
hull_order a b h k = omega (arith, ints, clamps)

hull_within : (a b : Range) → lies_in widest a ≡ true → lies_in widest b ≡ true → leaves (Some (hull a b)) ≡ false
hull_within a b h k = grind (arith, ints, clamps)

no_number : {X : Type 0} (d : Description) (test : Bool) (meant joint : Meant) → is_number meant ≡ false → (if test then Some meant else None) ≡ Some joint → is_number joint ≡ true → X
no_number d true meant joint n j k = false_true (sym n ∙ ap is_number (some_same j) ∙ k)
no_number d false meant joint n j k = none_some j

-- ---- numbers have ranges

-- what is a number without a fault has a range
abbrev Ranged : Description → Judged → Type 0
Ranged d j = j.faults ≡ [] → is_kind is_number j.meant ≡ true → IsSome (values_of_all d j.meant)

proper_some : (r : Range) → r.low ≤ℤ r.high → leaves (Some r) ≡ false → IsSome (proper r)
proper_some r h e =
    let within : lies_in widest r ≡ true = not_not (lies_in widest r) e in
    ap (λ (t : Bool). is_some (if t then Some r else None)) (ordered (int_le r.low r.high) (int_test r h) within)
  where
    int_test : (r : Range) → r.low ≤ℤ r.high → int_le r.low r.high ≡ true
    int_test r h = grind (arith, ints)

    ordered : (a : Bool) → a ≡ true → lies_in widest r ≡ true → (a && lies_in widest r) ≡ true
    ordered true p q = q
    ordered false p q = p

-- a proper range holds its ends
pub proper_parts : (x r : Range) → proper x ≡ Some r → (r.low ≤ℤ r.high) × (lies_in widest r ≡ true)
proper_parts x r e = go (is_proper x) refl e
  where
    order : (a : ℤ) (b : ℤ) → int_le a b ≡ true → a ≤ℤ b
    order a b e = grind (arith, ints)

    go : (test : Bool) → is_proper x ≡ test → (if test then Some x else None) ≡ Some r → (r.low ≤ℤ r.high) × (lies_in widest r ≡ true)
    go true t e =
        let same : x ≡ r = some_same e in
        let both = and_true (int_le x.low x.high) (lies_in widest x) t in
        subst (λ (q : Range). (q.low ≤ℤ q.high) × (lies_in widest q ≡ true)) same (order x.low x.high both.0, both.1)
    go false t e = none_some e

numbers_parts : (d : Description) (meant : Option Meant) (r : Range) → values_of_all d meant ≡ Some r → r.low ≤ℤ r.high
numbers_parts d (Some (Number x)) r e = (proper_parts x r e).0
numbers_parts d (Some (EnumOf def)) r e = (proper_parts (own_range (base_of d def)) r e).0
numbers_parts d (Some FlagKind) r e = subst (λ (q : Range). q.low ≤ℤ q.high) (some_same e) (omega (arith, ints))
numbers_parts d (Some (GroupOf def case)) r e = none_some e
numbers_parts d (Some (ListOf item)) r e = none_some e
numbers_parts d (Some Bytes) r e = none_some e
numbers_parts d (Some Raw) r e = none_some e
numbers_parts d (Some Null) r e = none_some e
numbers_parts d None r e = none_some e

-- the range itself
pub the_range : (o : Option Range) → IsSome o → (r : Range) × (o ≡ Some r)
the_range (Some r) h = (r, refl)
the_range None h = false_true h

-- a number's own range is that of its values
own_numbers : (d : Description) (meant : Option Meant) (r : Range) → is_kind is_number meant ≡ true → values_of_all d meant ≡ Some r → (let j : Judged = record { meant = meant; optional = false; faults = [] } in judged_numbers d j ≡ Some r)
own_numbers d (Some (Number x)) r k e = e
own_numbers d (Some (EnumOf def)) r k e = e
own_numbers d (Some FlagKind) r k e = false_true k
own_numbers d (Some (GroupOf def case)) r k e = none_some e
own_numbers d (Some (ListOf item)) r k e = none_some e
own_numbers d (Some Bytes) r k e = none_some e
own_numbers d (Some Raw) r k e = none_some e
own_numbers d (Some Null) r k e = none_some e
own_numbers d None r k e = none_some e

operand : (d : Description) (j : Judged) → Ranged d j → j.faults ≡ [] → is_kind is_number j.meant ≡ true → (r : Range) × (judged_numbers d j ≡ Some r) × (r.low ≤ℤ r.high)
operand d j h f k =
    let r = the_range (values_of_all d j.meant) (h f k) in
    (r.0, own_numbers d j.meant r.0 k r.1, numbers_parts d j.meant r.0 r.1)

number_ranged : (d : Description) (defined : Option Range) (own faults : List Fault) (r : Range) → defined ≡ Some r → own ≡ [] → r.low ≤ℤ r.high → leaves defined ≡ false → IsSome (values_of_all d (number_is defined own faults).meant)
number_ranged d (Some x) [] faults r p q h e = proper_some x (subst (λ (y : Range). y.low ≤ℤ y.high) (sym (some_same p)) h) e
number_ranged d (Some x) (f ∷ own) faults r p q h e = cons_none q
number_ranged d None own faults r p q h e = none_some p

reckoned_ranged : (d : Description) (place : Place) (o : Op) (a b : Judged) → IsReckoning o → Ranged d a → Ranged d b → Ranged d (reckons d place o a b)
reckoned_ranged d place o a b i ra rb f k = go (judged_numbers d a) (judged_numbers d b) refl refl f
  where
    wrong : List Fault
    wrong = kind_wrong (both_numbers a b) place

    below : List Fault
    below = a.faults ++ b.faults

    kinds : wrong ≡ [] → (is_kind is_number a.meant ≡ true) × (is_kind is_number b.meant ≡ true)
    kinds e = and_true _ _ (not_not _ (not_wrong _ place KindMismatch e))

    go : (x y : Option Range) → judged_numbers d a ≡ x → judged_numbers d b ≡ y → (reckoned_ranges place o wrong below x y).faults ≡ [] → IsSome (values_of_all d (reckoned_ranges place o wrong below x y).meant)
    go (Some x) (Some y) p q e =
        let all : (wrong ++ two_wrong o x y place) ++ below ≡ [] = sym (number_faults (two_range o x y) (wrong ++ two_wrong o x y place) below) ∙ e in
        let parts = both_none (wrong ++ two_wrong o x y place) below all in
        let own = both_none wrong (two_wrong o x y place) parts.0 in
        let under = both_none a.faults b.faults parts.1 in
        let kind = kinds own.0 in
        let left = operand d a ra under.0 kind.0 in
        let fair = right o x y place own.1 in
        let has = two_has o x y i fair in
        let one = operand d b rb under.1 kind.1 in
        let first : x.low ≤ℤ x.high = subst (λ (r : Range). r.low ≤ℤ r.high) (some_same (sym left.1 ∙ p)) left.2 in
        let second : y.low ≤ℤ y.high = subst (λ (r : Range). r.low ≤ℤ r.high) (some_same (sym one.1 ∙ q)) one.2 in
        let held = two_in o x y has.0 x.low y.low i fair has.1 (record { above = same_le x.low; below = first }) (record { above = same_le y.low; below = second }) in
        number_ranged d (two_range o x y) (wrong ++ two_wrong o x y place) below has.0 has.1 parts.0 (order_of has.0 _ held) fair.stays
    go None y p q e =
        let parts = both_none wrong below (sym (number_faults None wrong below) ∙ e) in
        let under = both_none a.faults b.faults parts.1 in
        none_some (sym p ∙ (operand d a ra under.0 (kinds parts.0).0).1)
    go (Some x) None p q e =
        let parts = both_none wrong below (sym (number_faults None wrong below) ∙ e) in
        let under = both_none a.faults b.faults parts.1 in
        none_some (sym q ∙ (operand d b rb under.1 (kinds parts.0).1).1)

negated_ranged : (d : Description) (place : Place) (a : Judged) → Ranged d a → Ranged d (negates d place a)
negated_ranged d place a ra f k = go (judged_numbers d a) refl f
  where
    wrong : List Fault
    wrong = kind_wrong (is_kind is_number a.meant) place

    go : (x : Option Range) → judged_numbers d a ≡ x → (number_is (negated_range x) (wrong ++ wrong_if (leaves (negated_range x)) place TooWide) a.faults).faults ≡ [] → IsSome (values_of_all d (number_is (negated_range x) (wrong ++ wrong_if (leaves (negated_range x)) place TooWide) a.faults).meant)
    go (Some x) p e =
        let own : List Fault = wrong ++ wrong_if (leaves (negated_range (Some x))) place TooWide in
        let all = both_none own a.faults (sym (number_faults (negated_range (Some x)) own a.faults) ∙ e) in
        let parts = both_none wrong (wrong_if (leaves (negated_range (Some x))) place TooWide) all.0 in
        let kind = not_not _ (not_wrong _ place KindMismatch parts.0) in
        let one = operand d a ra all.1 kind in
        let ordered : x.low ≤ℤ x.high = subst (λ (r : Range). r.low ≤ℤ r.high) (some_same (sym one.1 ∙ p)) one.2 in
        number_ranged d (negated_range (Some x)) own a.faults (range (neg_ℤ x.high) (neg_ℤ x.low)) refl all.0 (turned x.low x.high ordered) (not_wrong _ place TooWide parts.1)
    go None p e =
        let all = both_none (wrong ++ []) a.faults (sym (number_faults None (wrong ++ []) a.faults) ∙ e) in
        let kind = not_not _ (not_wrong _ place KindMismatch (both_none wrong [] all.0).0) in
        none_some (sym p ∙ (operand d a ra all.1 kind).1)

literal_ranged : (d : Description) (place : Place) (given : Lit) → Ranged d (literal_is place given)
literal_ranged d place (Num negative size) f k =
    let x : ℤ = literal (Num negative size) in
    let own : List Fault = wrong_if (leaves (Some (range x x))) place TooWide in
    let all = both_none own [] (sym (number_faults (Some (range x x)) own []) ∙ f) in
    number_ranged d (Some (range x x)) own [] (range x x) refl all.0 (same_le x) (not_wrong (leaves (Some (range x x))) place TooWide all.0)
literal_ranged d place (Flag given) f k = refl

-- ---- branches

hull_some : (a b : Option Range) → ((r : Range) → a ≡ Some r → (r.low ≤ℤ r.high) × (lies_in widest r ≡ true)) → ((r : Range) → b ≡ Some r → (r.low ≤ℤ r.high) × (lies_in widest r ≡ true)) → IsSome a → IsSome b → IsSome (proper (hull_of a b))
hull_some (Some x) (Some y) h k p q =
    let hx = h x refl in
    let hy = k y refl in
    proper_some (hull x y) (hull_order x y hx.0 hy.0) (hull_within x y hx.1 hy.1)
hull_some None b h k p q = false_true p
hull_some (Some x) None h k p q = false_true q

joined_ranged : (d : Description) (a b joint : Meant) → joined a b ≡ Some joint → is_number joint ≡ true → (is_number a ≡ true → IsSome (values_of d a)) → (is_number b ≡ true → IsSome (values_of d b)) → IsSome (values_of d joint)
joined_ranged d (Number a) (Number b) joint j k h g =
    subst (λ (m : Meant). IsSome (values_of d m)) (some_same j)
    (hull_some (proper a) (proper b) (proper_parts a) (proper_parts b) (h refl) (g refl))
joined_ranged d (EnumOf a) (EnumOf b) joint j k h g = enums (a == b) j
  where
    enums : (same : Bool) → (if same then Some (EnumOf a) else None) ≡ Some joint → IsSome (values_of d joint)
    enums true e = subst (λ (m : Meant). IsSome (values_of d m)) (some_same e) (h refl)
    enums false e = none_some e
joined_ranged d FlagKind FlagKind joint j k h g = false_true (ap is_number (some_same j) ∙ k)
joined_ranged d (GroupOf a case) (GroupOf b other) joint j k h g = no_number d (a == b) _ joint refl j k
joined_ranged d (ListOf a) (ListOf b) joint j k h g = no_number d (same_item a b) _ joint refl j k
joined_ranged d Bytes Bytes joint j k h g = false_true (ap is_number (some_same j) ∙ k)
joined_ranged d Raw Raw joint j k h g = false_true (ap is_number (some_same j) ∙ k)
joined_ranged d (Number a) b joint j k h g = none_some j
joined_ranged d FlagKind b joint j k h g = none_some j
joined_ranged d (EnumOf a) b joint j k h g = none_some j
joined_ranged d (GroupOf a case) b joint j k h g = none_some j
joined_ranged d (ListOf a) b joint j k h g = none_some j
joined_ranged d Bytes b joint j k h g = none_some j
joined_ranged d Raw b joint j k h g = none_some j
joined_ranged d Null b joint j k h g = none_some j

branches_ranged : (d : Description) (place : Place) (faults : List Fault) (a b : Option Meant) → (branches place faults a b).faults ≡ [] → is_kind is_number (branches place faults a b).meant ≡ true → (is_kind is_number a ≡ true → IsSome (values_of_all d a)) → (is_kind is_number b ≡ true → IsSome (values_of_all d b)) → ((m : Meant) × (a ≡ Some m)) → ((m : Meant) × (b ≡ Some m)) → IsSome (values_of_all d (branches place faults a b).meant)
branches_ranged d place faults (Some a) (Some b) f k h g p q = go (joined a b) refl f k
  where
    go : (joint : Option Meant) → joined a b ≡ joint → (branches_joined place faults joint).faults ≡ [] → is_kind is_number (branches_joined place faults joint).meant ≡ true → IsSome (values_of_all d (branches_joined place faults joint).meant)
    go (Some joint) j e n = joined_ranged d a b joint j n h g
    go None j e n = cons_none e
branches_ranged d place faults None b f k h g p q = none_some p.1
branches_ranged d place faults (Some a) None f k h g p q = none_some q.1

chosen_ranged : (d : Description) (place : Place) (c a b : Judged) → Fine a → Fine b → Ranged d a → Ranged d b → Ranged d (chosen place c a b)
chosen_ranged d place c a b fa fb ra rb f k =
    let parts = chosen_parts place c a b (chosen_faults place c a b f) in
    let ka = fa parts.fine_a in
    let kb = fb parts.fine_b in
    branches_ranged d place _ a.meant b.meant f k (ra parts.fine_a) (rb parts.fine_b) (ka.meant, ka.is) (kb.meant, kb.is)

two_ranged : (d : Description) (place : Place) (o : Op) (a b : Judged) → Ranged d a → Ranged d b → Ranged d (two_judged d place o a b)
two_ranged d place op.Or a b ra rb f k = false_true k
two_ranged d place op.And a b ra rb f k = false_true k
two_ranged d place op.Eq a b ra rb f k = false_true k
two_ranged d place op.Ne a b ra rb f k = false_true k
two_ranged d place op.Lt a b ra rb f k = false_true k
two_ranged d place op.Le a b ra rb f k = false_true k
two_ranged d place op.Gt a b ra rb f k = false_true k
two_ranged d place op.Ge a b ra rb f k = false_true k
two_ranged d place op.Add a b ra rb f k = reckoned_ranged d place op.Add a b tt ra rb f k
two_ranged d place op.Sub a b ra rb f k = reckoned_ranged d place op.Sub a b tt ra rb f k
two_ranged d place op.Mul a b ra rb f k = reckoned_ranged d place op.Mul a b tt ra rb f k
two_ranged d place op.Div a b ra rb f k = reckoned_ranged d place op.Div a b tt ra rb f k
two_ranged d place op.Rem a b ra rb f k = reckoned_ranged d place op.Rem a b tt ra rb f k
two_ranged d place op.BitAnd a b ra rb f k = reckoned_ranged d place op.BitAnd a b tt ra rb f k
two_ranged d place op.BitOr a b ra rb f k = reckoned_ranged d place op.BitOr a b tt ra rb f k
two_ranged d place op.Shl a b ra rb f k = reckoned_ranged d place op.Shl a b tt ra rb f k
two_ranged d place op.Shr a b ra rb f k = reckoned_ranged d place op.Shr a b tt ra rb f k

cast_ranged : (d : Description) (place : Place) (name : List ℕ) (a : Judged) → Fine a → Ranged d (cast_meant d place name a.faults a.meant)
cast_ranged d place name a fa = go a.meant (λ f. let k = fa f in (k.meant, k.is))
  where
    of : (def : ℕ) (found : Option ℕ) → Ranged d (case_is place def a.faults found)
    of def (Some case) f k = false_true k
    of def None f k = cons_none f

    group : (def : ℕ) (switched : Bool) → Ranged d (cast_group d place name a.faults def switched)
    group def true f k = of def (case_from 1 name (cases_of d def)) f k
    group def false f k = cons_none f

    go : (meant : Option Meant) → (a.faults ≡ [] → (m : Meant) × (meant ≡ Some m)) → Ranged d (cast_meant d place name a.faults meant)
    go (Some (GroupOf def case)) has f k = group def (def_is_switched (slice_get d.defs def)) f k
    go (Some (EnumOf def)) has f k = cons_none f
    go (Some (Number x)) has f k = cons_none f
    go (Some FlagKind) has f k = cons_none f
    go (Some (ListOf item)) has f k = cons_none f
    go (Some Bytes) has f k = cons_none f
    go (Some Raw) has f k = cons_none f
    go (Some Null) has f k = cons_none f
    go None has f k = none_some (has f).1

-- ---- an expression, by its outermost form

shape_ranged : (d : Description) (scope : Scope) (place : Place) (shape : Shape-F Shape Expr) (judges : Judges) → ((e : Expr) → Fine (judges e)) → ((e : Expr) → Ranged d (judges e)) → (is_asked_shape shape ≡ true → Ranged d (shape_judged judges d scope place shape)) → Ranged d (shape_judged judges d scope place shape)
shape_ranged d scope place (Shape-F.Lit given) judges fine ranged asked f k = literal_ranged d place given f k
shape_ranged d scope place Shape-F.Null judges fine ranged asked f k = false_true k
shape_ranged d scope place (Shape-F.Name name) judges fine ranged asked f k = asked refl f k
shape_ranged d scope place Shape-F.CurPos judges fine ranged asked f k = asked refl f k
shape_ranged d scope place Shape-F.Length judges fine ranged asked f k = asked refl f k
shape_ranged d scope place Shape-F.LastItem judges fine ranged asked f k = false_true k
shape_ranged d scope place Shape-F.SumBytes judges fine ranged asked f k = asked refl f k
shape_ranged d scope place Shape-F.XorBytes judges fine ranged asked f k = asked refl f k
shape_ranged d scope place (Shape-F.Dot a name) judges fine ranged asked f k = asked refl f k
shape_ranged d scope place (Shape-F.LengthOf a) judges fine ranged asked f k = asked refl f k
shape_ranged d scope place (Shape-F.Count a) judges fine ranged asked f k = asked refl f k
shape_ranged d scope place (Shape-F.Cast a name) judges fine ranged asked f k = cast_ranged d place name (judges a) (fine a) f k
shape_ranged d scope place (Shape-F.Not a) judges fine ranged asked f k = false_true k
shape_ranged d scope place (Shape-F.Neg a) judges fine ranged asked f k = negated_ranged d place (judges a) (ranged a) f k
shape_ranged d scope place (Shape-F.Two o a b) judges fine ranged asked f k = two_ranged d place o (judges a) (judges b) (ranged a) (ranged b) f k
shape_ranged d scope place (Shape-F.If c a b) judges fine ranged asked f k =
    chosen_ranged d place (judges c) (judges a) (judges b) (fine a) (fine b) (ranged a) (ranged b) f k

pub ranged_at : (depth : ℕ) (d : Description) (scope : Scope) → AskedRanged d scope → (e : Expr) → Ranged d (judged_at depth d scope e)
ranged_at zero d scope asked e f k = cons_none f
ranged_at (suc depth) d scope asked e f k =
    shape_ranged d scope (out-Expr e).place (out-Shape (out-Expr e).shape) (judged_at depth d scope)
    (fine depth d scope) (ranged_at depth d scope asked) (λ is g n. asked (suc depth) e is g n) f k
