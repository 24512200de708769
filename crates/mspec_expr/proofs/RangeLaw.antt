-- Every value of an expression in which nothing is wrong lies in its range.
use Rattle.std.proofs.Common.{◌≡◌, ℕ, zero, suc, Bool, true, false, not, List, [], ◌∷◌, ◌++◌, Option, Some, None, Result, Ok, Err, inl, inr, refl, sym, ap, ◌∙◌, subst, arith}
use Rattle.std.proofs.lemmas.Bool.{eqb-true}
use Rattle.std.proofs.lemmas.Int.{ints, clamps}
use Rattle.std.specs.Prelude.{if◌then◌else◌, ◌⊎◌, ℤ, pos, neg_ℤ, slice_get, ◌==◌}
use Rattle.node_tree.specs.Bits.{digit}
use Rattle.node_tree.specs.declared.nodes.Node.{Node}
use Rattle.node_tree.specs.declared.faults.EvalFault.{EvalFault}
use Rattle.mspec_tree.specs.declared.words.Place.{Place}
use Rattle.mspec_tree.specs.declared.words.Lit.{Lit}
use Rattle.mspec_tree.specs.declared.words.Lit.TheVariants.{Num, Flag}
use Rattle.mspec_tree.specs.declared.words.Op.{Op}
use Rattle.mspec_tree.specs.declared.words.Op.TheVariants as op
use Rattle.mspec_tree.specs.declared.exprs.Expr.{Expr, out-Expr}
use Rattle.mspec_tree.specs.declared.exprs.Shape.{Shape, out-Shape}
use Rattle.mspec_tree.specs.declared.exprs.Shape.TheOpen.{Shape-F}
use Rattle.mspec_tree.specs.declared.defs.Description.{Description}
use Rattle.mspec_expr.specs.declared.kinds.Range.{Range}
use Rattle.mspec_expr.specs.declared.kinds.ExprWhy.TheVariants.{TooWide}
use Rattle.mspec_expr.specs.declared.kinds.Meant.{Meant}
use Rattle.mspec_expr.specs.declared.kinds.Meant.TheVariants.{Number, Flag as FlagKind, EnumOf, GroupOf, ListOf, Bytes, Raw, Null}
use Rattle.mspec_expr.specs.declared.scopes.Scope.{Scope}
use Rattle.mspec_expr.specs.Counted.{Counted, done, continued, ◌>>=◌}
use Rattle.mspec_expr.specs.Kinds.{literal, cases_of}
use Rattle.mspec_expr.specs.Sizes.{entry_bits, value}
use Rattle.mspec_expr.specs.Values.{Thing, Number as NumberThing, Sight, Worth, Worths, number, truth, flag, reckoned, both, or_second, and_second, equal, two, branch, shape_worth, worth_at, is_null, thing_number, deepest}
use Rattle.mspec_expr.specs.declared.kinds.Fault.{Fault}
use Rattle.mspec_expr.specs.Ranges.{proper, is_proper, hull_of, Judged, Judges, range, judged_numbers, meant_numbers, number_is, two_range, reckoned_ranges, reckoned as reckons, two_wrong, two_judged, negated_range, joined, hull, same_item, chosen, branches, branches_joined, cast_meant, cast_group, case_is, shape_judged, judged_at, judged, answer, range_found, both_numbers, kind_wrong, wrong_if, leaves, negated as negates, is_kind, is_number, literal_is, def_is_switched, case_from}
use Rattle.mspec_expr.specs.Fits.{IsIn, values_of, values_of_all, is_asked_shape, AskedFit}
use Rattle.mspec_expr.proofs.RangeLemmas.{negated}
use Rattle.mspec_expr.proofs.RangeKnown.{no_number, cons_none, none_some, both_none, IsReckoning, Reckoning, reckoning, two_has, chosen_parts, chosen_faults, Chosen, number_faults}
use Rattle.mspec_expr.proofs.RangeSound.{some_same, lies, two_in}

-- ---- outcomes

abbrev IsErr' : {A F : Type 0} → Result A F → Type 0
IsErr' (Ok x) = ⊥
IsErr' (Err f) = Unit {0}

pub err_ok : {A F X : Type 0} {x : A} {f : F} → Err f ≡ Ok x → X
err_ok {A} {F} {X} {x} {f} e = absurd (subst (IsErr' {A = A} {F = F}) e tt)

pub ok_same : {A F : Type 0} {a b : A} → (let one : Result A F = Ok a in one ≡ Ok b) → a ≡ b
ok_same {A} {F} {a} {b} e = ap (value_or a) e
  where
    value_or : A → Result A F → A
    value_or x (Ok y) = y
    value_or x (Err f) = x

-- what went well before
pub went_well : {A B F : Type 0} (one : Result A F) (next : A → Counted B F) (b : B) → (continued one next).outcome ≡ Ok b → (a : A) × (one ≡ Ok a) × ((next a).outcome ≡ Ok b)
went_well (Ok a) next b e = (a, refl, e)
went_well (Err f) next b e = err_ok e

pub number_well : {A : Type 0} (one : Worth A) (next : A → Worth Thing) (n : ℤ) → (number (one >>= next)).outcome ≡ Ok n → (a : A) × (one.outcome ≡ Ok a) × ((number (next a)).outcome ≡ Ok n)
number_well {A} one next n e = go one.outcome refl e
  where
    go : (r : Result A EvalFault) → one.outcome ≡ r → (continued (continued r next).outcome thing_number).outcome ≡ Ok n → (a : A) × (one.outcome ≡ Ok a) × ((number (next a)).outcome ≡ Ok n)
    go (Ok a) p f = (a, p, f)
    go (Err x) p f = err_ok f

-- ---- flags

flags : Range
flags = range (pos 0) (pos 1)

-- it gives a flag
abbrev Flags : Worth Thing → Type 0
Flags one = (n : ℤ) → (number one).outcome ≡ Ok n → IsIn (range (pos 0) (pos 1)) n

a_flag : (holds : Bool) → Flags (flag holds)
a_flag true n e = subst (λ (m : ℤ). IsIn (range (pos 0) (pos 1)) m) (ok_same {F = EvalFault} e) (record { above = omega (arith, ints); below = omega (arith, ints) })
a_flag false n e = subst (λ (m : ℤ). IsIn (range (pos 0) (pos 1)) m) (ok_same {F = EvalFault} e) (record { above = omega (arith, ints); below = omega (arith, ints) })

then_flag : {A : Type 0} (one : Worth A) (next : A → Worth Thing) → ((a : A) → Flags (next a)) → Flags (one >>= next)
then_flag one next h n e = let w = number_well one next n e in h w.0 n w.2

or_flags : (worth : Worths) (first : Bool) (b : Expr) (sight : Sight) → Flags (or_second worth first b sight)
or_flags worth true b sight = a_flag true
or_flags worth false b sight = then_flag (truth (worth b sight)) flag a_flag

and_flags : (worth : Worths) (first : Bool) (b : Expr) (sight : Sight) → Flags (and_second worth first b sight)
and_flags worth true b sight = then_flag (truth (worth b sight)) flag a_flag
and_flags worth false b sight = a_flag false

compared_flags : (worth : Worths) (o : Op) (a b : Expr) (sight : Sight) → ((x y : ℤ) → (holds : Bool) × (reckoned o x y ≡ pos (digit holds))) → Flags (both worth o a b sight)
compared_flags worth o a b sight h =
    then_flag (number (worth a sight)) _ (λ x. then_flag (number (worth b sight)) _ (λ y n e.
    a_flag (h x y).0 n (subst (λ (m : ℤ). (let one : Result ℤ EvalFault = Ok m in one ≡ Ok n)) (h x y).1 e)))

-- ---- numbers

-- where its range is its own, what an operand is lies in that range
own_values : (d : Description) (j : Judged) (r : Range) → judged_numbers d j ≡ Some r → values_of_all d j.meant ≡ Some r
own_values d j r = go j.meant
  where
    go : (meant : Option Meant) → meant_numbers d meant ≡ Some r → values_of_all d meant ≡ Some r
    go (Some (Number x)) e = e
    go (Some (EnumOf def)) e = e
    go (Some FlagKind) e = none_some e
    go (Some (GroupOf def case)) e = none_some e
    go (Some (ListOf item)) e = none_some e
    go (Some Bytes) e = none_some e
    go (Some Raw) e = none_some e
    go (Some Null) e = none_some e
    go None e = none_some e

-- a proper range is what it is of
pub proper_same : (x r : Range) → proper x ≡ Some r → x ≡ r
proper_same x r = go (is_proper x)
  where
    go : (test : Bool) → (if test then Some x else None) ≡ Some r → x ≡ r
    go true e = some_same e
    go false e = none_some e

-- a number in which nothing is wrong has the range that was defined for it
pub number_range : (d : Description) (defined : Option Range) (own faults : List Fault) (x r : Range) → defined ≡ Some x → (number_is defined own faults).faults ≡ [] → values_of_all d (number_is defined own faults).meant ≡ Some r → x ≡ r
number_range d (Some y) [] faults x r p e v = sym (some_same p) ∙ proper_same y r v
number_range d (Some y) (f ∷ own) faults x r p e v = cons_none e
number_range d None own faults x r p e v = none_some p

-- ---- an expression, by its outermost form

-- the values of an expression lie in its range
abbrev Hold : Description → Judged → Worth Thing → Type 0
Hold d j one = (r : Range) (n : ℤ) → j.faults ≡ [] → values_of_all d j.meant ≡ Some r → (number one).outcome ≡ Ok n → IsIn r n

at_range : (x r : Range) (n : ℤ) → x ≡ r → IsIn x n → IsIn r n
at_range x r n e h = subst (λ (q : Range). IsIn q n) e h

of_flag : (d : Description) (j : Judged) (one : Worth Thing) → j.meant ≡ Some FlagKind → Flags one → Hold d j one
of_flag d j one m h r n f v e =
    at_range (range (pos 0) (pos 1)) r n
    (some_same (subst (λ (k : Option Meant). values_of_all d k ≡ Some r) m v)) (h n e)

-- the range of an operator of numbers is the one of the table
pub given_range : (d : Description) (place : Place) (o : Op) (a b : Judged) (parts : Reckoning d o a b) → IsReckoning o → (r : Range) → (reckons d place o a b).faults ≡ [] → values_of_all d (reckons d place o a b).meant ≡ Some r → two_range o parts.left parts.right ≡ Some r
given_range d place o a b parts i r = go (judged_numbers d a) (judged_numbers d b) parts.left_is parts.right_is
  where
    wrong : List Fault
    wrong = kind_wrong (both_numbers a b) place

    below : List Fault
    below = a.faults ++ b.faults

    go : (x y : Option Range) → x ≡ Some parts.left → y ≡ Some parts.right → (reckoned_ranges place o wrong below x y).faults ≡ [] → values_of_all d (reckoned_ranges place o wrong below x y).meant ≡ Some r → two_range o parts.left parts.right ≡ Some r
    go (Some x) (Some y) p q f v =
        let has = two_has o parts.left parts.right i parts.fair in
        let same : two_range o x y ≡ two_range o parts.left parts.right = ap (λ s. two_range o s y) (some_same p) ∙ ap (λ s. two_range o parts.left s) (some_same q) in
        has.1 ∙ ap (λ s. Some s) (number_range d (two_range o x y) (wrong ++ two_wrong o x y place) below has.0 r (same ∙ has.1) f v)
    go None y p q f v = none_some p
    go (Some x) None p q f v = none_some q

reckoned_hold : (d : Description) (place : Place) (o : Op) (a b : Expr) (judges : Judges) (worth : Worths) (sight : Sight) → IsReckoning o → ((e : Expr) → Hold d (judges e) (worth e sight)) → Hold d (reckons d place o (judges a) (judges b)) (both worth o a b sight)
reckoned_hold d place o a b judges worth sight i hold r n f v e =
    let parts = reckoning d place o (judges a) (judges b) r f v in
    let first = number_well (number (worth a sight)) (λ x. number (worth b sight) >>= (λ y. done (NumberThing (reckoned o x y)))) n e in
    let second = number_well (number (worth b sight)) (λ y. done (NumberThing (reckoned o first.0 y))) n first.2 in
    let left = hold a parts.left first.0 parts.fine_left (own_values d (judges a) parts.left parts.left_is) first.1 in
    let right = hold b parts.right second.0 parts.fine_right (own_values d (judges b) parts.right parts.right_is) second.1 in
    subst (λ (m : ℤ). IsIn r m) (ok_same {F = EvalFault} second.2)
    (two_in o parts.left parts.right r first.0 second.0 i parts.fair (given_range d place o (judges a) (judges b) parts i r f v) left right)

two_hold : (d : Description) (place : Place) (o : Op) (a b : Expr) (judges : Judges) (worth : Worths) (sight : Sight) → ((e : Expr) → Hold d (judges e) (worth e sight)) → Hold d (two_judged d place o (judges a) (judges b)) (two worth o a b sight)
two_hold d place op.Or a b judges worth sight hold =
    of_flag d (two_judged d place op.Or (judges a) (judges b)) (two worth op.Or a b sight) refl (then_flag (truth (worth a sight)) _ (λ first. or_flags worth first b sight))
two_hold d place op.And a b judges worth sight hold =
    of_flag d (two_judged d place op.And (judges a) (judges b)) (two worth op.And a b sight) refl (then_flag (truth (worth a sight)) _ (λ first. and_flags worth first b sight))
two_hold d place op.Eq a b judges worth sight hold =
    of_flag d (two_judged d place op.Eq (judges a) (judges b)) (two worth op.Eq a b sight) refl (then_flag (equal worth (is_null a) (is_null b) a b sight) flag a_flag)
two_hold d place op.Ne a b judges worth sight hold =
    of_flag d (two_judged d place op.Ne (judges a) (judges b)) (two worth op.Ne a b sight) refl (then_flag (equal worth (is_null a) (is_null b) a b sight) _ (λ same. a_flag (not same)))
two_hold d place op.Lt a b judges worth sight hold =
    of_flag d (two_judged d place op.Lt (judges a) (judges b)) (two worth op.Lt a b sight) refl (compared_flags worth op.Lt a b sight (λ x y. (_, refl)))
two_hold d place op.Le a b judges worth sight hold =
    of_flag d (two_judged d place op.Le (judges a) (judges b)) (two worth op.Le a b sight) refl (compared_flags worth op.Le a b sight (λ x y. (_, refl)))
two_hold d place op.Gt a b judges worth sight hold =
    of_flag d (two_judged d place op.Gt (judges a) (judges b)) (two worth op.Gt a b sight) refl (compared_flags worth op.Gt a b sight (λ x y. (_, refl)))
two_hold d place op.Ge a b judges worth sight hold =
    of_flag d (two_judged d place op.Ge (judges a) (judges b)) (two worth op.Ge a b sight) refl (compared_flags worth op.Ge a b sight (λ x y. (_, refl)))
two_hold d place op.Add a b judges worth sight hold = reckoned_hold d place op.Add a b judges worth sight tt hold
two_hold d place op.Sub a b judges worth sight hold = reckoned_hold d place op.Sub a b judges worth sight tt hold
two_hold d place op.Mul a b judges worth sight hold = reckoned_hold d place op.Mul a b judges worth sight tt hold
two_hold d place op.Div a b judges worth sight hold = reckoned_hold d place op.Div a b judges worth sight tt hold
two_hold d place op.Rem a b judges worth sight hold = reckoned_hold d place op.Rem a b judges worth sight tt hold
two_hold d place op.BitAnd a b judges worth sight hold =
    reckoned_hold d place op.BitAnd a b judges worth sight tt hold
two_hold d place op.BitOr a b judges worth sight hold = reckoned_hold d place op.BitOr a b judges worth sight tt hold
two_hold d place op.Shl a b judges worth sight hold = reckoned_hold d place op.Shl a b judges worth sight tt hold
two_hold d place op.Shr a b judges worth sight hold = reckoned_hold d place op.Shr a b judges worth sight tt hold

-- ---- branches

-- a branch's values lie in its range
abbrev BranchIn : Description → Meant → ℤ → Type 0
BranchIn d meant n = (x : Range) → values_of d meant ≡ Some x → IsIn x n

enums_in : (d : Description) (a b : ℕ) (joint : Meant) (r : Range) (n : ℤ) → (same : Bool) → (a == b) ≡ same → (if same then Some (EnumOf a) else None) ≡ Some joint → values_of d joint ≡ Some r → BranchIn d (EnumOf a) n ⊎ BranchIn d (EnumOf b) n → IsIn r n
enums_in d a b joint r n true s j v (inl h) = h r (ap (λ m. values_of d m) (some_same j) ∙ v)
enums_in d a b joint r n true s j v (inr h) =
    h r (ap (λ def. values_of d (EnumOf def)) (sym (eqb-true a b s)) ∙ ap (λ m. values_of d m) (some_same j) ∙ v)
enums_in d a b joint r n false s j v h = none_some j

pub no_values : {X : Type 0} (d : Description) (test : Bool) (meant joint : Meant) (r : Range) → values_of d meant ≡ None → (if test then Some meant else None) ≡ Some joint → values_of d joint ≡ Some r → X
no_values d true meant joint r none j v = none_some (sym none ∙ ap (λ m. values_of d m) (some_same j) ∙ v)
no_values d false meant joint r none j v = none_some j

hulled_in : (d : Description) (a b r : Range) (n : ℤ) → proper (hull_of (proper a) (proper b)) ≡ Some r → BranchIn d (Number a) n ⊎ BranchIn d (Number b) n → IsIn r n
hulled_in d a b r n = go (proper a) (proper b) refl refl
  where
    go : (p q : Option Range) → proper a ≡ p → proper b ≡ q → proper (hull_of p q) ≡ Some r → BranchIn d (Number a) n ⊎ BranchIn d (Number b) n → IsIn r n
    go (Some x) (Some y) p q v (inl h) =
        let m = h x p in
        at_range (hull x y) r n (proper_same (hull x y) r v) (record { above = omega (arith, ints, clamps, m.above); below = omega (arith, ints, clamps, m.below) })
    go (Some x) (Some y) p q v (inr h) =
        let m = h y q in
        at_range (hull x y) r n (proper_same (hull x y) r v) (record { above = omega (arith, ints, clamps, m.above); below = omega (arith, ints, clamps, m.below) })
    go None y p q v h = none_some v
    go (Some x) None p q v h = none_some v

joined_in : (d : Description) (a b joint : Meant) (r : Range) (n : ℤ) → joined a b ≡ Some joint → values_of d joint ≡ Some r → BranchIn d a n ⊎ BranchIn d b n → IsIn r n
joined_in d (Number a) (Number b) joint r n j v h = hulled_in d a b r n (ap (λ m. values_of d m) (some_same j) ∙ v) h
joined_in d FlagKind FlagKind joint r n j v (inl h) = h r (ap (λ m. values_of d m) (some_same j) ∙ v)
joined_in d FlagKind FlagKind joint r n j v (inr h) = h r (ap (λ m. values_of d m) (some_same j) ∙ v)
joined_in d (EnumOf a) (EnumOf b) joint r n j v h = enums_in d a b joint r n (a == b) refl j v h
joined_in d (GroupOf a case) (GroupOf b other) joint r n j v h = no_values d (a == b) _ joint r refl j v
joined_in d (ListOf a) (ListOf b) joint r n j v h = no_values d (same_item a b) _ joint r refl j v
joined_in d Bytes Bytes joint r n j v h = no_values d true _ joint r refl j v
joined_in d Raw Raw joint r n j v h = no_values d true _ joint r refl j v
joined_in d (Number a) b joint r n j v h = none_some j
joined_in d FlagKind b joint r n j v h = none_some j
joined_in d (EnumOf a) b joint r n j v h = none_some j
joined_in d (GroupOf a case) b joint r n j v h = none_some j
joined_in d (ListOf a) b joint r n j v h = none_some j
joined_in d Bytes b joint r n j v h = none_some j
joined_in d Raw b joint r n j v h = none_some j
joined_in d Null b joint r n j v h = none_some j

-- what both branches are holds what either gives
branches_in : (d : Description) (place : Place) (faults : List Fault) (a b : Option Meant) (r : Range) (n : ℤ) → (branches place faults a b).faults ≡ [] → values_of_all d (branches place faults a b).meant ≡ Some r → ((x : Range) → values_of_all d a ≡ Some x → IsIn x n) ⊎ ((x : Range) → values_of_all d b ≡ Some x → IsIn x n) → IsIn r n
branches_in d place faults (Some a) (Some b) r n f v h = go (joined a b) refl v
  where
    go : (joint : Option Meant) → joined a b ≡ joint → values_of_all d (branches_joined place faults joint).meant ≡ Some r → IsIn r n
    go (Some joint) j w = joined_in d a b joint r n j w h
    go None j w = none_some w
branches_in d place faults (Some a) None r n f v h = none_some v
branches_in d place faults None b r n f v h = none_some v

branch_hold : (d : Description) (place : Place) (c a b : Expr) (judges : Judges) (worth : Worths) (sight : Sight) → ((e : Expr) → Hold d (judges e) (worth e sight)) → Hold d (chosen place (judges c) (judges a) (judges b)) (truth (worth c sight) >>= (λ holds. branch worth holds a b sight))
branch_hold d place c a b judges worth sight hold r n f v e =
    let whole = chosen_faults place (judges c) (judges a) (judges b) f in
    let parts = chosen_parts place (judges c) (judges a) (judges b) whole in
    let taken = number_well (truth (worth c sight)) (λ holds. branch worth holds a b sight) n e in
    branches_in d place _ (judges a).meant (judges b).meant r n f v (go taken.0 taken.2 parts)
  where
    go : (holds : Bool) → (number (branch worth holds a b sight)).outcome ≡ Ok n → Chosen (judges c) (judges a) (judges b) → ((x : Range) → values_of_all d (judges a).meant ≡ Some x → IsIn x n) ⊎ ((x : Range) → values_of_all d (judges b).meant ≡ Some x → IsIn x n)
    go true e parts = inl (λ x w. hold a x n parts.fine_a w e)
    go false e parts = inr (λ x w. hold b x n parts.fine_b w e)

-- ---- the other forms

negated_hold : (d : Description) (place : Place) (a : Expr) (judges : Judges) (worth : Worths) (sight : Sight) → ((e : Expr) → Hold d (judges e) (worth e sight)) → Hold d (negates d place (judges a)) (number (worth a sight) >>= (λ n. done (NumberThing (neg_ℤ n))))
negated_hold d place a judges worth sight hold r n f v e = go (judged_numbers d (judges a)) refl f v
  where
    wrong : List Fault
    wrong = kind_wrong (is_kind is_number (judges a).meant) place

    taken : (x : ℤ) × ((number (worth a sight)).outcome ≡ Ok x) × ((number (done {F = EvalFault} (NumberThing (neg_ℤ x)))).outcome ≡ Ok n)
    taken = number_well (number (worth a sight)) (λ n. done (NumberThing (neg_ℤ n))) n e

    go : (x : Option Range) → judged_numbers d (judges a) ≡ x → (number_is (negated_range x) (wrong ++ wrong_if (leaves (negated_range x)) place TooWide) (judges a).faults).faults ≡ [] → values_of_all d (number_is (negated_range x) (wrong ++ wrong_if (leaves (negated_range x)) place TooWide) (judges a).faults).meant ≡ Some r → IsIn r n
    go (Some x) p f v =
        let own : List Fault = wrong ++ wrong_if (leaves (negated_range (Some x))) place TooWide in
        let all = both_none own (judges a).faults (sym (number_faults (negated_range (Some x)) own (judges a).faults) ∙ f) in
        let inner = hold a x taken.0 all.1 (own_values d (judges a) x p) taken.1 in
        let turned = negated x.low x.high taken.0 (lies x taken.0 inner) in
        subst (λ (m : ℤ). IsIn r m) (ok_same {F = EvalFault} taken.2)
        (at_range (range (neg_ℤ x.high) (neg_ℤ x.low)) r (neg_ℤ taken.0) (number_range d (negated_range (Some x)) own (judges a).faults (range (neg_ℤ x.high) (neg_ℤ x.low)) r refl f v) (record { above = turned.above; below = turned.below }))
    go None p f v = none_some (sym (no_number d (wrong ++ []) (judges a).faults) ∙ v)

literal_hold : (d : Description) (place : Place) (given : Lit) → Hold d (literal_is place given) (done (NumberThing (literal given)))
literal_hold d place (Num negative size) r n f v e =
    let x : ℤ = literal (Num negative size) in
    let own : List Fault = wrong_if (leaves (Some (range x x))) place TooWide in
    subst (λ (m : ℤ). IsIn r m) (ok_same {F = EvalFault} e)
    (at_range (range x x) r x (number_range d (Some (range x x)) own [] (range x x) r refl f v) (record { above = omega (arith, ints); below = omega (arith, ints) }))
literal_hold d place (Flag given) r n f v e =
    of_flag d (literal_is place (Flag given)) (flag given) refl (a_flag given) r n f v e

-- what is no number and no flag has no values to lie anywhere
cast_hold : (d : Description) (place : Place) (name : List ℕ) (faults : List Fault) (meant : Option Meant) (one : Worth Thing) → Hold d (cast_meant d place name faults meant) one
cast_hold d place name faults (Some (GroupOf def case)) one r n f v e = go (def_is_switched (slice_get d.defs def)) v
  where
    found : (case : Option ℕ) → values_of_all d (case_is place def faults case).meant ≡ Some r → IsIn r n
    found (Some case) w = none_some w
    found None w = none_some w

    go : (switched : Bool) → values_of_all d (cast_group d place name faults def switched).meant ≡ Some r → IsIn r n
    go true w = found (case_from 1 name (cases_of d def)) w
    go false w = none_some w
cast_hold d place name faults (Some (EnumOf def)) one r n f v e = none_some v
cast_hold d place name faults (Some (Number x)) one r n f v e = none_some v
cast_hold d place name faults (Some FlagKind) one r n f v e = none_some v
cast_hold d place name faults (Some (ListOf item)) one r n f v e = none_some v
cast_hold d place name faults (Some Bytes) one r n f v e = none_some v
cast_hold d place name faults (Some Raw) one r n f v e = none_some v
cast_hold d place name faults (Some Null) one r n f v e = none_some v
cast_hold d place name faults None one r n f v e = none_some v

-- an expression, where what it asks for lies in its range
shape_hold : (d : Description) (scope : Scope) (place : Place) (shape : Shape-F Shape Expr) (sizes : Meant → Node → ℕ) (judges : Judges) (worth : Worths) (sight : Sight) → ((e : Expr) → Hold d (judges e) (worth e sight)) → (is_asked_shape shape ≡ true → Hold d (shape_judged judges d scope place shape) (shape_worth d sizes worth shape sight)) → Hold d (shape_judged judges d scope place shape) (shape_worth d sizes worth shape sight)
shape_hold d scope place (Shape-F.Lit given) sizes judges worth sight hold asked r n f v e = literal_hold d place given r n f v e
shape_hold d scope place Shape-F.Null sizes judges worth sight hold asked r n f v e = err_ok e
shape_hold d scope place (Shape-F.Name name) sizes judges worth sight hold asked r n f v e = asked refl r n f v e
shape_hold d scope place Shape-F.CurPos sizes judges worth sight hold asked r n f v e = asked refl r n f v e
shape_hold d scope place Shape-F.Length sizes judges worth sight hold asked r n f v e = asked refl r n f v e
shape_hold d scope place Shape-F.LastItem sizes judges worth sight hold asked r n f v e =
    of_flag d (shape_judged judges d scope place Shape-F.LastItem) (flag sight.last) refl (a_flag sight.last) r n f v e
shape_hold d scope place Shape-F.SumBytes sizes judges worth sight hold asked r n f v e = asked refl r n f v e
shape_hold d scope place Shape-F.XorBytes sizes judges worth sight hold asked r n f v e = asked refl r n f v e
shape_hold d scope place (Shape-F.Dot a name) sizes judges worth sight hold asked r n f v e = asked refl r n f v e
shape_hold d scope place (Shape-F.LengthOf a) sizes judges worth sight hold asked r n f v e = asked refl r n f v e
shape_hold d scope place (Shape-F.Count a) sizes judges worth sight hold asked r n f v e = asked refl r n f v e
shape_hold d scope place (Shape-F.Cast a name) sizes judges worth sight hold asked r n f v e =
    cast_hold d place name (judges a).faults (judges a).meant (shape_worth d sizes worth (Shape-F.Cast a name) sight) r n f v e
shape_hold d scope place (Shape-F.Not a) sizes judges worth sight hold asked r n f v e =
    of_flag d (shape_judged judges d scope place (Shape-F.Not a)) (shape_worth d sizes worth (Shape-F.Not a) sight) refl
    (then_flag (truth (worth a sight)) (λ holds. flag (not holds)) (λ holds. a_flag (not holds))) r n f v e
shape_hold d scope place (Shape-F.Neg a) sizes judges worth sight hold asked r n f v e =
    negated_hold d place a judges worth sight hold r n f v e
shape_hold d scope place (Shape-F.Two o a b) sizes judges worth sight hold asked r n f v e =
    two_hold d place o a b judges worth sight hold r n f v e
shape_hold d scope place (Shape-F.If c a b) sizes judges worth sight hold asked r n f v e =
    branch_hold d place c a b judges worth sight hold r n f v e

pub holds_at : (depth : ℕ) (d : Description) (scope : Scope) (sight : Sight) → AskedFit d scope sight → (e : Expr) → Hold d (judged_at depth d scope e) (worth_at depth d (entry_bits d) e sight)
holds_at zero d scope sight asked e r n f v o = cons_none f
holds_at (suc depth) d scope sight asked e r n f v o =
    shape_hold d scope (out-Expr e).place (out-Shape (out-Expr e).shape) (entry_bits d) (judged_at depth d scope) (worth_at depth d (entry_bits d)) sight
    (holds_at depth d scope sight asked)
    (λ is q m g w x. asked (suc depth) e q m is g w x) r n f v o

-- what was accepted has no fault
pub accepted : (place : Place) (found meant : Meant) (all : Option Meant) (faults : List Fault) → answer place all faults ≡ Ok meant → (faults ≡ []) × (all ≡ Some meant)
accepted place found meant (Some m) [] e = (refl, ap (λ k. Some k) (ok_same {F = Fault} e))
accepted place found meant None [] e = err_ok e
accepted place found meant (Some m) (f ∷ faults) e = err_ok e
accepted place found meant None (f ∷ faults) e = err_ok e

pub in_range : (d : Description) (scope : Scope) (sight : Sight) (e : Expr) (meant : Meant) (r : Range) (n : ℤ) → AskedFit d scope sight → range_found d scope e ≡ Ok meant → values_of d meant ≡ Some r → (value d e sight).outcome ≡ Ok n → IsIn r n
in_range d scope sight e meant r n asked found v o =
    let j = judged d scope e in
    let fine = accepted (out-Expr e).place meant meant j.meant j.faults found in
    holds_at deepest d scope sight asked e r n fine.0 (ap (λ m. values_of_all d m) fine.1 ∙ v) o
