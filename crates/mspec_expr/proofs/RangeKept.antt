-- Where an environment fits, no number of an expression in which nothing is wrong leaves the widest range, so its value is the
-- one that a program has.
use Rattle.std.proofs.Common.{◌≡◌, ℕ, zero, suc, Bool, true, false, List, [], ◌∷◌, ◌++◌, Option, Some, None, Result, Ok, Err, inl, inr, refl, sym, ap, ◌∙◌, subst, arith}
use Rattle.std.proofs.lemmas.Int.{ints}
use Rattle.std.specs.Prelude.{if◌then◌else◌, ◌⊎◌, IsSome, find, bytes_eq, ℤ, slice_get, ◌==◌}
use Rattle.node_tree.specs.declared.nodes.Node.{Node, out-Node}
use Rattle.node_tree.specs.declared.nodes.Node.TheOpen.{Node-F}
use Rattle.node_tree.specs.declared.faults.EvalFault.{EvalFault}
use Rattle.node_tree.specs.declared.faults.EvalFault.TheVariants.{CastFails, NullAccess}
use Rattle.mspec_tree.specs.declared.words.Place.{Place}
use Rattle.mspec_tree.specs.declared.words.Lit.TheVariants.{Num, Flag}
use Rattle.mspec_tree.specs.declared.words.Op.{Op}
use Rattle.mspec_tree.specs.declared.words.Op.TheVariants as op
use Rattle.mspec_tree.specs.declared.exprs.Expr.{Expr, out-Expr}
use Rattle.mspec_tree.specs.declared.exprs.Shape.{Shape, out-Shape}
use Rattle.mspec_tree.specs.declared.exprs.Shape.TheOpen.{Shape-F}
use Rattle.mspec_tree.specs.declared.fields.Field.{Field}
use Rattle.mspec_tree.specs.declared.defs.Param.{Param}
use Rattle.mspec_tree.specs.declared.defs.Description.{Description}
use Rattle.mspec_expr.specs.declared.kinds.Fault.{Fault}
use Rattle.mspec_expr.specs.declared.kinds.ExprWhy.TheVariants.{TooWide}
use Rattle.mspec_expr.specs.declared.kinds.Range.{Range}
use Rattle.mspec_expr.specs.declared.kinds.Target.{Target}
use Rattle.mspec_expr.specs.declared.kinds.Meant.{Meant}
use Rattle.mspec_expr.specs.declared.kinds.Meant.TheVariants.{Number, Flag as FlagKind, EnumOf, GroupOf, ListOf, Bytes, Raw, Null}
use Rattle.mspec_expr.specs.declared.scopes.Scope.{Scope}
use Rattle.mspec_expr.specs.declared.scopes.Env.{Env}
use Rattle.mspec_expr.specs.declared.scopes.MeantName.{MeantName}
use Rattle.mspec_expr.specs.declared.scopes.NodeName.{NodeName}
use Rattle.mspec_expr.specs.Counted.{Counted, done, fails, continued, required, ◌>>=◌, ◌>>◌}
use Rattle.mspec_expr.specs.Kinds.{case_name, cases_of, def_named, in_range, literal, params_of, target_named}
use Rattle.mspec_expr.specs.Sizes.{entry_bits, kept_value, value, worth}
use Rattle.mspec_expr.specs.Values.{Thing, Number as NumberThing, Entry, EnumName, Sight, Worth, Worths, number, truth, flag, kept, kept_if, kept_at, node_number, thing_count, seen_or_enum, both, or_second, and_second, equal, absent, two, branch, shape_worth, worth_at, is_null, thing_number, cast, cast_entry, deepest, enum_named}
use Rattle.mspec_expr.specs.Ranges.{Judged, Judges, attribute_is, both_numbers, field_named, found_field, seen_fields, range, branches, branches_joined, case_from, case_is, cast_group, cast_meant, def_is_switched, dotted, dotted_meant, enum_of_shape, enum_unless, is_kind, is_number, joined, judged, judged_at, judged_numbers, kind_wrong, leaves, lies_in, name_in, negated as negates, negated_range, number_is, range_found, reckoned as reckons, reckoned_ranges, shape_judged, two_judged, two_range, two_wrong, widest, wrong_if}
use Rattle.mspec_expr.specs.Fits.{AskedFit, AskedFormed, AskedRanged, Fits, IsIn, is_asked_shape, seen_in, sight_in, values_of, values_of_all}
use Rattle.mspec_expr.proofs.RangeFine.{Fine, fine}
use Rattle.mspec_expr.proofs.RangeInside.{inside}
use Rattle.mspec_expr.proofs.RangeKnown.{both_none, chosen_faults, chosen_parts, cons_none, false_true, none_some, number_faults}
use Rattle.mspec_expr.proofs.RangeLaw.{accepted, err_ok, holds_at, number_well}
use Rattle.mspec_expr.proofs.RangeSound.{some_same}
use Rattle.mspec_expr.proofs.RangeWhole.{ranged_at, the_range}

-- ---- a number stands only for what is one

abbrev Formed : Description → Judged → Worth Thing → Type 0
Formed d j one = (n : ℤ) → j.faults ≡ [] → (number one).outcome ≡ Ok n → IsSome (values_of_all d j.meant)

number_kind : (defined : Option Range) (own faults : List Fault) → is_kind is_number (number_is defined own faults).meant ≡ true
number_kind (Some r) [] faults = refl
number_kind (Some r) (f ∷ own) faults = refl
number_kind None [] faults = refl
number_kind None (f ∷ own) faults = refl

reckoned_kind : (d : Description) (place : Place) (o : Op) (a b : Judged) → is_kind is_number (reckons d place o a b).meant ≡ true
reckoned_kind d place o a b = go (judged_numbers d a) (judged_numbers d b)
  where
    wrong : List Fault
    wrong = kind_wrong (both_numbers a b) place

    below : List Fault
    below = a.faults ++ b.faults

    go : (x y : Option Range) → is_kind is_number (reckoned_ranges place o wrong below x y).meant ≡ true
    go (Some x) (Some y) = number_kind (two_range o x y) (wrong ++ two_wrong o x y place) below
    go None y = number_kind None wrong below
    go (Some x) None = number_kind None wrong below

-- a cast gives no number
no_cast : (d : Description) (name : List ℕ) (thing : Thing) (n : ℤ) → (number (cast d name thing)).outcome ≡ Ok n → ⊥
no_cast d name (NumberThing x) n e = err_ok e
no_cast d name (EnumName def) n e = err_ok e
no_cast d name (Entry (GroupOf def taken) node) n e = go (out-Node node) refl e
  where
    by_name : (case : ℕ) (entries : List Node) (same : Bool) → out-Node node ≡ Node-F.Group case entries → (number (required same CastFails >> done (Entry (GroupOf def case) node))).outcome ≡ Ok n → ⊥
    by_name case entries true p e = err_ok (ap (λ l. (node_number l).outcome) (sym p) ∙ e)
    by_name case entries false p e = err_ok e

    go : (layer : Node-F Node) → out-Node node ≡ layer → (number (cast_entry d def node layer name)).outcome ≡ Ok n → ⊥
    go (Node-F.Group case entries) p e = by_name case entries (bytes_eq (case_name case (cases_of d def)) name) p e
    go other p e = err_ok e
no_cast d name (Entry other node) n e = err_ok e

-- what both branches are, where one of them is a value
joined_formed : (d : Description) (a b joint : Meant) → joined a b ≡ Some joint → (is_number joint ≡ true → IsSome (values_of d joint)) → IsSome (values_of d a) ⊎ IsSome (values_of d b) → IsSome (values_of d joint)
joined_formed d (Number a) (Number b) joint j k h = k (ap is_number (sym (some_same j)))
joined_formed d FlagKind FlagKind joint j k h = subst (λ (m : Meant). IsSome (values_of d m)) (some_same j) refl
joined_formed d (EnumOf a) (EnumOf b) joint j k h = enums (a == b) j
  where
    enums : (same : Bool) → (if same then Some (EnumOf a) else None) ≡ Some joint → IsSome (values_of d joint)
    enums true e = k (ap is_number (sym (some_same e)))
    enums false e = none_some e
joined_formed d (GroupOf a case) (GroupOf b other) joint j k (inl h) = false_true h
joined_formed d (GroupOf a case) (GroupOf b other) joint j k (inr h) = false_true h
joined_formed d (ListOf a) (ListOf b) joint j k (inl h) = false_true h
joined_formed d (ListOf a) (ListOf b) joint j k (inr h) = false_true h
joined_formed d Bytes Bytes joint j k (inl h) = false_true h
joined_formed d Bytes Bytes joint j k (inr h) = false_true h
joined_formed d Raw Raw joint j k (inl h) = false_true h
joined_formed d Raw Raw joint j k (inr h) = false_true h
joined_formed d (Number a) b joint j k h = none_some j
joined_formed d FlagKind b joint j k h = none_some j
joined_formed d (EnumOf a) b joint j k h = none_some j
joined_formed d (GroupOf a case) b joint j k h = none_some j
joined_formed d (ListOf a) b joint j k h = none_some j
joined_formed d Bytes b joint j k h = none_some j
joined_formed d Raw b joint j k h = none_some j
joined_formed d Null b joint j k h = none_some j

branches_formed : (d : Description) (place : Place) (faults : List Fault) (a b : Option Meant) → (branches place faults a b).faults ≡ [] → (is_kind is_number (branches place faults a b).meant ≡ true → IsSome (values_of_all d (branches place faults a b).meant)) → IsSome (values_of_all d a) ⊎ IsSome (values_of_all d b) → ((m : Meant) × (a ≡ Some m)) → ((m : Meant) × (b ≡ Some m)) → IsSome (values_of_all d (branches place faults a b).meant)
branches_formed d place faults (Some a) (Some b) f k h p q = go (joined a b) refl f k
  where
    go : (joint : Option Meant) → joined a b ≡ joint → (branches_joined place faults joint).faults ≡ [] → (is_kind is_number (branches_joined place faults joint).meant ≡ true → IsSome (values_of_all d (branches_joined place faults joint).meant)) → IsSome (values_of_all d (branches_joined place faults joint).meant)
    go (Some joint) j e n = joined_formed d a b joint j n h
    go None j e n = cons_none e
branches_formed d place faults None b f k h p q = none_some p.1
branches_formed d place faults (Some a) None f k h p q = none_some q.1

shape_formed : (d : Description) (scope : Scope) (place : Place) (shape : Shape-F Shape Expr) (sizes : Meant → Node → ℕ) (judges : Judges) (worth : Worths) (sight : Sight) → ((e : Expr) → Fine (judges e)) → ((e : Expr) → Formed d (judges e) (worth e sight)) → ((shape_judged judges d scope place shape).faults ≡ [] → is_kind is_number (shape_judged judges d scope place shape).meant ≡ true → IsSome (values_of_all d (shape_judged judges d scope place shape).meant)) → (is_asked_shape shape ≡ true → Formed d (shape_judged judges d scope place shape) (shape_worth d sizes worth shape sight)) → Formed d (shape_judged judges d scope place shape) (shape_worth d sizes worth shape sight)
shape_formed d scope place (Shape-F.Lit (Num negative size)) sizes judges worth sight fine formed ranged asked n f e =
    ranged f (number_kind (Some (range (literal (Num negative size)) (literal (Num negative size)))) (wrong_if (leaves (Some (range (literal (Num negative size)) (literal (Num negative size))))) place TooWide) [])
shape_formed d scope place (Shape-F.Lit (Flag given)) sizes judges worth sight fine formed ranged asked n f e = refl
shape_formed d scope place Shape-F.Null sizes judges worth sight fine formed ranged asked n f e = err_ok e
shape_formed d scope place (Shape-F.Name name) sizes judges worth sight fine formed ranged asked n f e = asked refl n f e
shape_formed d scope place Shape-F.CurPos sizes judges worth sight fine formed ranged asked n f e = asked refl n f e
shape_formed d scope place Shape-F.Length sizes judges worth sight fine formed ranged asked n f e = asked refl n f e
shape_formed d scope place Shape-F.LastItem sizes judges worth sight fine formed ranged asked n f e = refl
shape_formed d scope place Shape-F.SumBytes sizes judges worth sight fine formed ranged asked n f e = asked refl n f e
shape_formed d scope place Shape-F.XorBytes sizes judges worth sight fine formed ranged asked n f e = asked refl n f e
shape_formed d scope place (Shape-F.Dot a name) sizes judges worth sight fine formed ranged asked n f e = asked refl n f e
shape_formed d scope place (Shape-F.LengthOf a) sizes judges worth sight fine formed ranged asked n f e = asked refl n f e
shape_formed d scope place (Shape-F.Count a) sizes judges worth sight fine formed ranged asked n f e = asked refl n f e
shape_formed d scope place (Shape-F.Cast a name) sizes judges worth sight fine formed ranged asked n f e =
    let w = number_well (worth a sight) (cast d name) n e in absurd (no_cast d name w.0 n w.2)
shape_formed d scope place (Shape-F.Not a) sizes judges worth sight fine formed ranged asked n f e = refl
shape_formed d scope place (Shape-F.Neg a) sizes judges worth sight fine formed ranged asked n f e =
    ranged f (number_kind (negated_range (judged_numbers d (judges a))) (kind_wrong (is_kind is_number (judges a).meant) place ++ wrong_if (leaves (negated_range (judged_numbers d (judges a)))) place TooWide) (judges a).faults)
shape_formed d scope place (Shape-F.Two op.Or a b) sizes judges worth sight fine formed ranged asked n f e = refl
shape_formed d scope place (Shape-F.Two op.And a b) sizes judges worth sight fine formed ranged asked n f e = refl
shape_formed d scope place (Shape-F.Two op.Eq a b) sizes judges worth sight fine formed ranged asked n f e = refl
shape_formed d scope place (Shape-F.Two op.Ne a b) sizes judges worth sight fine formed ranged asked n f e = refl
shape_formed d scope place (Shape-F.Two op.Lt a b) sizes judges worth sight fine formed ranged asked n f e = refl
shape_formed d scope place (Shape-F.Two op.Le a b) sizes judges worth sight fine formed ranged asked n f e = refl
shape_formed d scope place (Shape-F.Two op.Gt a b) sizes judges worth sight fine formed ranged asked n f e = refl
shape_formed d scope place (Shape-F.Two op.Ge a b) sizes judges worth sight fine formed ranged asked n f e = refl
shape_formed d scope place (Shape-F.Two op.Add a b) sizes judges worth sight fine formed ranged asked n f e = ranged f (reckoned_kind d place op.Add (judges a) (judges b))
shape_formed d scope place (Shape-F.Two op.Sub a b) sizes judges worth sight fine formed ranged asked n f e = ranged f (reckoned_kind d place op.Sub (judges a) (judges b))
shape_formed d scope place (Shape-F.Two op.Mul a b) sizes judges worth sight fine formed ranged asked n f e = ranged f (reckoned_kind d place op.Mul (judges a) (judges b))
shape_formed d scope place (Shape-F.Two op.Div a b) sizes judges worth sight fine formed ranged asked n f e = ranged f (reckoned_kind d place op.Div (judges a) (judges b))
shape_formed d scope place (Shape-F.Two op.Rem a b) sizes judges worth sight fine formed ranged asked n f e = ranged f (reckoned_kind d place op.Rem (judges a) (judges b))
shape_formed d scope place (Shape-F.Two op.BitAnd a b) sizes judges worth sight fine formed ranged asked n f e = ranged f (reckoned_kind d place op.BitAnd (judges a) (judges b))
shape_formed d scope place (Shape-F.Two op.BitOr a b) sizes judges worth sight fine formed ranged asked n f e = ranged f (reckoned_kind d place op.BitOr (judges a) (judges b))
shape_formed d scope place (Shape-F.Two op.Shl a b) sizes judges worth sight fine formed ranged asked n f e = ranged f (reckoned_kind d place op.Shl (judges a) (judges b))
shape_formed d scope place (Shape-F.Two op.Shr a b) sizes judges worth sight fine formed ranged asked n f e = ranged f (reckoned_kind d place op.Shr (judges a) (judges b))
shape_formed d scope place (Shape-F.If c a b) sizes judges worth sight fine formed ranged asked n f e =
    let parts = chosen_parts place (judges c) (judges a) (judges b) (chosen_faults place (judges c) (judges a) (judges b) f) in
    let ka = fine a parts.fine_a in
    let kb = fine b parts.fine_b in
    let taken = number_well (truth (worth c sight)) (λ holds. branch worth holds a b sight) n e in
    branches_formed d place _ (judges a).meant (judges b).meant f (ranged f) (go taken.0 parts.fine_a parts.fine_b taken.2) (ka.meant, ka.is) (kb.meant, kb.is)
  where
    go : (holds : Bool) → (judges a).faults ≡ [] → (judges b).faults ≡ [] → (number (branch worth holds a b sight)).outcome ≡ Ok n → IsSome (values_of_all d (judges a).meant) ⊎ IsSome (values_of_all d (judges b).meant)
    go true p q o = inl (formed a n p o)
    go false p q o = inr (formed b n q o)

formed_at : (depth : ℕ) (d : Description) (scope : Scope) (sight : Sight) → AskedRanged d scope → AskedFormed d scope sight → (e : Expr) → Formed d (judged_at depth d scope e) (worth_at depth d (entry_bits d) e sight)
formed_at zero d scope sight ranged asked e n f o = cons_none f
formed_at (suc depth) d scope sight ranged asked e n f o =
    shape_formed d scope (out-Expr e).place (out-Shape (out-Expr e).shape) (entry_bits d) (judged_at depth d scope) (worth_at depth d (entry_bits d)) sight
    (fine depth d scope) (formed_at depth d scope sight ranged asked) (ranged_at (suc depth) d scope ranged e) (λ is m g x. asked (suc depth) e m is g x) n f o

-- ---- numbers stay inside

in_widest : (r : Range) (n : ℤ) → lies_in widest r ≡ true → IsIn r n → in_range widest n ≡ true
in_widest r n h k = let low = k.above in let high = k.below in grind (arith, ints)

all_inside : (d : Description) (meant : Option Meant) (r : Range) → values_of_all d meant ≡ Some r → lies_in widest r ≡ true
all_inside d (Some meant) r e = inside d meant r e
all_inside d None r e = none_some e

pub inside_at : (depth : ℕ) (d : Description) (scope : Scope) (sight : Sight) → AskedRanged d scope → AskedFormed d scope sight → AskedFit d scope sight → (e : Expr) (n : ℤ) → (judged_at depth d scope e).faults ≡ [] → (number (worth_at depth d (entry_bits d) e sight)).outcome ≡ Ok n → in_range widest n ≡ true
inside_at depth d scope sight ranged formed fit e n f o =
    let r = the_range (values_of_all d (judged_at depth d scope e).meant) (formed_at depth d scope sight ranged formed e n f o) in
    in_widest r.0 n (all_inside d (judged_at depth d scope e).meant r.0 r.1) (holds_at depth d scope sight fit e r.0 n f r.1 o)

-- ---- the same outcomes

bind_same : {A B F : Type 0} (one two : Counted A F) (next after : A → Counted B F) → one.outcome ≡ two.outcome → ((x : A) → (next x).outcome ≡ (after x).outcome) → (one >>= next).outcome ≡ (two >>= after).outcome
bind_same {A} {B} {F} one two next after e h = ap (λ r. (continued r next).outcome) e ∙ same two.outcome
  where
    same : (r : Result A F) → (continued r next).outcome ≡ (continued r after).outcome
    same (Ok x) = h x
    same (Err f) = refl

number_same : (one two : Worth Thing) → one.outcome ≡ two.outcome → (number one).outcome ≡ (number two).outcome
number_same one two e = bind_same one two thing_number thing_number e (λ x. refl)

truth_same : (one two : Worth Thing) → one.outcome ≡ two.outcome → (truth one).outcome ≡ (truth two).outcome
truth_same one two e = bind_same (number one) (number two) _ _ (number_same one two e) (λ x. refl)

-- these give the same, as far as they are asked
abbrev Same : Worths → Worths → Sight → Expr → Type 0
Same one other sight e = (one e sight).outcome ≡ (other e sight).outcome

or_same : (one other : Worths) (b : Expr) (sight : Sight) → Same one other sight b → (first : Bool) → (or_second one first b sight).outcome ≡ (or_second other first b sight).outcome
or_same one other b sight e true = refl
or_same one other b sight e false = bind_same (truth (one b sight)) (truth (other b sight)) flag flag (truth_same (one b sight) (other b sight) e) (λ x. refl)

and_same : (one other : Worths) (b : Expr) (sight : Sight) → Same one other sight b → (first : Bool) → (and_second one first b sight).outcome ≡ (and_second other first b sight).outcome
and_same one other b sight e true = bind_same (truth (one b sight)) (truth (other b sight)) flag flag (truth_same (one b sight) (other b sight) e) (λ x. refl)
and_same one other b sight e false = refl

both_same : (one other : Worths) (o : Op) (a b : Expr) (sight : Sight) → Same one other sight a → Same one other sight b → (both one o a b sight).outcome ≡ (both other o a b sight).outcome
both_same one other o a b sight p q =
    bind_same (number (one a sight)) (number (other a sight)) _ _ (number_same (one a sight) (other a sight) p)
    (λ x. bind_same (number (one b sight)) (number (other b sight)) _ _ (number_same (one b sight) (other b sight) q) (λ y. refl))

absent_same : (one other : Worths) (a : Expr) (sight : Sight) → Same one other sight a → (absent one a sight).outcome ≡ (absent other a sight).outcome
absent_same one other a sight e = bind_same (one a sight) (other a sight) _ _ e (λ x. refl)

equal_same : (one other : Worths) (left right : Bool) (a b : Expr) (sight : Sight) → Same one other sight a → Same one other sight b → (equal one left right a b sight).outcome ≡ (equal other left right a b sight).outcome
equal_same one other true right a b sight p q = absent_same one other b sight q
equal_same one other false true a b sight p q = absent_same one other a sight p
equal_same one other false false a b sight p q =
    bind_same (number (one a sight)) (number (other a sight)) _ _ (number_same (one a sight) (other a sight) p)
    (λ x. bind_same (number (one b sight)) (number (other b sight)) _ _ (number_same (one b sight) (other b sight) q) (λ y. refl))

two_same : (one other : Worths) (o : Op) (a b : Expr) (sight : Sight) → Same one other sight a → Same one other sight b → (two one o a b sight).outcome ≡ (two other o a b sight).outcome
two_same one other op.Or a b sight p q =
    bind_same (truth (one a sight)) (truth (other a sight)) _ _ (truth_same (one a sight) (other a sight) p) (or_same one other b sight q)
two_same one other op.And a b sight p q =
    bind_same (truth (one a sight)) (truth (other a sight)) _ _ (truth_same (one a sight) (other a sight) p) (and_same one other b sight q)
two_same one other op.Eq a b sight p q =
    bind_same (equal one (is_null a) (is_null b) a b sight) (equal other (is_null a) (is_null b) a b sight) _ _ (equal_same one other (is_null a) (is_null b) a b sight p q) (λ x. refl)
two_same one other op.Ne a b sight p q =
    bind_same (equal one (is_null a) (is_null b) a b sight) (equal other (is_null a) (is_null b) a b sight) _ _ (equal_same one other (is_null a) (is_null b) a b sight p q) (λ x. refl)
two_same one other o a b sight p q = both_same one other o a b sight p q

branch_same : (one other : Worths) (a b : Expr) (sight : Sight) → Same one other sight a → Same one other sight b → (holds : Bool) → (branch one holds a b sight).outcome ≡ (branch other holds a b sight).outcome
branch_same one other a b sight p q true = p
branch_same one other a b sight p q false = q

-- ---- an expression in which nothing is wrong has parts in which nothing is wrong

path_faults : (d : Description) (scope : Scope) (place : Place) (name : List ℕ) (faults : List Fault) (meant : Option Meant) → (dotted_meant d scope place name faults meant).faults ≡ [] → faults ≡ []
path_faults d scope place name faults (Some (GroupOf def case)) e = found (field_named scope.words.length name (seen_fields d def case)) e
  where
    found : (field : Option Field) → (found_field d place faults field).faults ≡ [] → faults ≡ []
    found (Some field) e = e
    found None e = cons_none e
path_faults d scope place name faults (Some (EnumOf def)) e = found (find (λ param. bytes_eq param.name name) (params_of d def)) e
  where
    found : (param : Option Param) → (attribute_is d place faults param).faults ≡ [] → faults ≡ []
    found (Some param) e = e
    found None e = cons_none e
path_faults d scope place name faults (Some (Number r)) e = cons_none e
path_faults d scope place name faults (Some FlagKind) e = cons_none e
path_faults d scope place name faults (Some (ListOf item)) e = cons_none e
path_faults d scope place name faults (Some Bytes) e = cons_none e
path_faults d scope place name faults (Some Raw) e = cons_none e
path_faults d scope place name faults (Some Null) e = cons_none e
path_faults d scope place name faults None e = e

cast_faults : (d : Description) (place : Place) (name : List ℕ) (faults : List Fault) (meant : Option Meant) → (cast_meant d place name faults meant).faults ≡ [] → faults ≡ []
cast_faults d place name faults (Some (GroupOf def case)) e = group (def_is_switched (slice_get d.defs def)) e
  where
    found : (case : Option ℕ) → (case_is place def faults case).faults ≡ [] → faults ≡ []
    found (Some case) e = e
    found None e = cons_none e

    group : (switched : Bool) → (cast_group d place name faults def switched).faults ≡ [] → faults ≡ []
    group true e = found (case_from 1 name (cases_of d def)) e
    group false e = cons_none e
cast_faults d place name faults (Some (EnumOf def)) e = cons_none e
cast_faults d place name faults (Some (Number r)) e = cons_none e
cast_faults d place name faults (Some FlagKind) e = cons_none e
cast_faults d place name faults (Some (ListOf item)) e = cons_none e
cast_faults d place name faults (Some Bytes) e = cons_none e
cast_faults d place name faults (Some Raw) e = cons_none e
cast_faults d place name faults (Some Null) e = cons_none e
cast_faults d place name faults None e = e

reckoned_faults : (d : Description) (place : Place) (o : Op) (a b : Judged) → (reckons d place o a b).faults ≡ [] → (a.faults ≡ []) × (b.faults ≡ [])
reckoned_faults d place o a b = go (judged_numbers d a) (judged_numbers d b)
  where
    wrong : List Fault
    wrong = kind_wrong (both_numbers a b) place

    below : List Fault
    below = a.faults ++ b.faults

    go : (x y : Option Range) → (reckoned_ranges place o wrong below x y).faults ≡ [] → (a.faults ≡ []) × (b.faults ≡ [])
    go (Some x) (Some y) e =
        both_none a.faults b.faults (both_none (wrong ++ two_wrong o x y place) below (sym (number_faults (two_range o x y) (wrong ++ two_wrong o x y place) below) ∙ e)).1
    go None y e = both_none a.faults b.faults (both_none wrong below (sym (number_faults None wrong below) ∙ e)).1
    go (Some x) None e = both_none a.faults b.faults (both_none wrong below (sym (number_faults None wrong below) ∙ e)).1

flag_faults : (wrong xs ys : List Fault) → wrong ++ xs ++ ys ≡ [] → (xs ≡ []) × (ys ≡ [])
flag_faults wrong xs ys e =
    let last = both_none (wrong ++ xs) ys e in
    ((both_none wrong xs last.0).1, last.1)

two_faults : (d : Description) (place : Place) (o : Op) (a b : Judged) → (two_judged d place o a b).faults ≡ [] → (a.faults ≡ []) × (b.faults ≡ [])
two_faults d place op.Or a b e = flag_faults _ a.faults b.faults e
two_faults d place op.And a b e = flag_faults _ a.faults b.faults e
two_faults d place op.Eq a b e = flag_faults _ a.faults b.faults e
two_faults d place op.Ne a b e = flag_faults _ a.faults b.faults e
two_faults d place op.Lt a b e = flag_faults _ a.faults b.faults e
two_faults d place op.Le a b e = flag_faults _ a.faults b.faults e
two_faults d place op.Gt a b e = flag_faults _ a.faults b.faults e
two_faults d place op.Ge a b e = flag_faults _ a.faults b.faults e
two_faults d place op.Add a b e = reckoned_faults d place op.Add a b e
two_faults d place op.Sub a b e = reckoned_faults d place op.Sub a b e
two_faults d place op.Mul a b e = reckoned_faults d place op.Mul a b e
two_faults d place op.Div a b e = reckoned_faults d place op.Div a b e
two_faults d place op.Rem a b e = reckoned_faults d place op.Rem a b e
two_faults d place op.BitAnd a b e = reckoned_faults d place op.BitAnd a b e
two_faults d place op.BitOr a b e = reckoned_faults d place op.BitOr a b e
two_faults d place op.Shl a b e = reckoned_faults d place op.Shl a b e
two_faults d place op.Shr a b e = reckoned_faults d place op.Shr a b e

negated_faults : (d : Description) (place : Place) (a : Judged) → (negates d place a).faults ≡ [] → a.faults ≡ []
negated_faults d place a e =
    let own : List Fault = kind_wrong (is_kind is_number a.meant) place ++ wrong_if (leaves (negated_range (judged_numbers d a))) place TooWide in
    (both_none own a.faults (sym (number_faults (negated_range (judged_numbers d a)) own a.faults) ∙ e)).1

shape_same : (d : Description) (scope : Scope) (place : Place) (shape : Shape-F Shape Expr) (sizes : Meant → Node → ℕ) (judges : Judges) (one other : Worths) (sight : Sight) → ((e : Expr) → (judges e).faults ≡ [] → Same one other sight e) → ((a : Expr) (def : ℕ) → enum_of_shape d scope (out-Shape (out-Expr a).shape) ≡ Some def → Same one other sight a) → (shape_judged judges d scope place shape).faults ≡ [] → (shape_worth d sizes one shape sight).outcome ≡ (shape_worth d sizes other shape sight).outcome
shape_same d scope place (Shape-F.Lit given) sizes judges one other sight same names f = refl
shape_same d scope place Shape-F.Null sizes judges one other sight same names f = refl
shape_same d scope place (Shape-F.Name name) sizes judges one other sight same names f = refl
shape_same d scope place Shape-F.CurPos sizes judges one other sight same names f = refl
shape_same d scope place Shape-F.Length sizes judges one other sight same names f = refl
shape_same d scope place Shape-F.LastItem sizes judges one other sight same names f = refl
shape_same d scope place Shape-F.SumBytes sizes judges one other sight same names f = refl
shape_same d scope place Shape-F.XorBytes sizes judges one other sight same names f = refl
shape_same d scope place (Shape-F.Dot a name) sizes judges one other sight same names f =
    bind_same (one a sight) (other a sight) _ _ (go (enum_of_shape d scope (out-Shape (out-Expr a).shape)) refl f) (λ x. refl)
  where
    go : (enum : Option ℕ) → enum_of_shape d scope (out-Shape (out-Expr a).shape) ≡ enum → (dotted judges d scope place a name enum).faults ≡ [] → Same one other sight a
    go (Some def) p e = names a def p
    go None p e = same a (path_faults d scope place name (judges a).faults (judges a).meant e)
shape_same d scope place (Shape-F.LengthOf a) sizes judges one other sight same names f =
    bind_same (one a sight) (other a sight) _ _ (same a (both_none _ (judges a).faults f).1) (λ x. refl)
shape_same d scope place (Shape-F.Count a) sizes judges one other sight same names f =
    bind_same (one a sight >>= thing_count) (other a sight >>= thing_count) _ _ (bind_same (one a sight) (other a sight) thing_count thing_count (same a (both_none _ (judges a).faults f).1) (λ x. refl)) (λ x. refl)
shape_same d scope place (Shape-F.Cast a name) sizes judges one other sight same names f =
    bind_same (one a sight) (other a sight) _ _ (same a (cast_faults d place name (judges a).faults (judges a).meant f)) (λ x. refl)
shape_same d scope place (Shape-F.Not a) sizes judges one other sight same names f =
    bind_same (truth (one a sight)) (truth (other a sight)) _ _ (truth_same (one a sight) (other a sight) (same a (both_none _ (judges a).faults f).1)) (λ x. refl)
shape_same d scope place (Shape-F.Neg a) sizes judges one other sight same names f =
    bind_same (number (one a sight)) (number (other a sight)) _ _ (number_same (one a sight) (other a sight) (same a (negated_faults d place (judges a) f))) (λ x. refl)
shape_same d scope place (Shape-F.Two o a b) sizes judges one other sight same names f =
    let parts = two_faults d place o (judges a) (judges b) f in
    two_same one other o a b sight (same a parts.0) (same b parts.1)
shape_same d scope place (Shape-F.If c a b) sizes judges one other sight same names f =
    let parts = chosen_parts place (judges c) (judges a) (judges b) (chosen_faults place (judges c) (judges a) (judges b) f) in
    bind_same (truth (one c sight)) (truth (other c sight)) _ _ (truth_same (one c sight) (other c sight) (same c parts.fine_c))
    (branch_same one other a b sight (same a parts.fine_a) (same b parts.fine_b))

-- ---- names of enums

-- a name that a scope lacks isn't seen
seen_none : (name : List ℕ) (names : List MeantName) (more : List NodeName) → find (λ seen. bytes_eq seen.name name) names ≡ None → find (λ seen. bytes_eq seen.name name) (seen_in names more) ≡ None
seen_none name [] more e = refl
seen_none name (x ∷ names) [] e = refl
seen_none name (x ∷ names) (y ∷ more) e = go (bytes_eq x.name name) refl e (seen_none name names more)
  where
    go : (test : Bool) → bytes_eq x.name name ≡ test → (if test then Some x else find (λ seen. bytes_eq seen.name name) names) ≡ None → (find (λ seen. bytes_eq seen.name name) names ≡ None → find (λ seen. bytes_eq seen.name name) (seen_in names more) ≡ None) → (if bytes_eq x.name name then Some (record { name = x.name; meant = x.meant; node = y.node }) else find (λ seen. bytes_eq seen.name name) (seen_in names more)) ≡ None
    go true p e rest = absurd (cc)
    go false p e rest = rw p (rest e)

enum_name : (d : Description) (sizes : Meant → Node → ℕ) (scope : Scope) (env : Env) (depth : ℕ) (a : Expr) (def : ℕ) → enum_of_shape d scope (out-Shape (out-Expr a).shape) ≡ Some def → Same (kept_at depth d sizes) (worth_at depth d sizes) (sight_in scope env) a
enum_name d sizes scope env zero a def e = refl
enum_name d sizes scope env (suc depth) a def e = go (out-Shape (out-Expr a).shape) e
  where
    sight : Sight
    sight = sight_in scope env

    enum : (found : Option ℕ) → ((enum_named found) >>= kept).outcome ≡ (enum_named found).outcome
    enum (Some def) = refl
    enum None = refl

    unseen : (name : List ℕ) (found : Option MeantName) (target : Target) → enum_unless found target ≡ Some def → found ≡ None
    unseen name None target e = refl
    unseen name (Some one) target e = none_some e

    go : (shape : Shape-F Shape Expr) → enum_of_shape d scope shape ≡ Some def → (shape_worth d sizes (kept_at depth d sizes) shape sight >>= kept).outcome ≡ (shape_worth d sizes (worth_at depth d sizes) shape sight).outcome
    go (Shape-F.Name name) e =
        let none = seen_none name scope.names env.names (unseen name (name_in scope name) (target_named d name) e) in
        ap (λ found. ((seen_or_enum d name found) >>= kept).outcome) none ∙ enum (def_named d name) ∙ sym (ap (λ found. (seen_or_enum d name found).outcome) none)
    go other e = none_some e

-- ---- the value is the one that a program has

kept_step : (one other : Worth Thing) → one.outcome ≡ other.outcome → ((n : ℤ) → (number other).outcome ≡ Ok n → in_range widest n ≡ true) → (one >>= kept).outcome ≡ other.outcome
kept_step one other e h = ap (λ r. (continued r kept).outcome) e ∙ go other.outcome refl
  where
    thing_same : (thing : Thing) (r : Result ℤ EvalFault) → (thing_number thing).outcome ≡ r → ((n : ℤ) → r ≡ Ok n → in_range widest n ≡ true) → (kept_if r thing).outcome ≡ Ok thing
    thing_same thing (Ok n) p k = ap (λ t. (if t then done {F = EvalFault} thing else fails NullAccess).outcome) (k n refl)
    thing_same thing (Err f) p k = refl

    go : (r : Result Thing EvalFault) → other.outcome ≡ r → (continued r kept).outcome ≡ r
    go (Ok thing) p = thing_same thing (thing_number thing).outcome refl (λ n q. h n (ap (λ r. (continued r thing_number).outcome) p ∙ q))
    go (Err f) p = refl

pub kept_same : (depth : ℕ) (d : Description) (scope : Scope) (env : Env) → Fits d scope env → (e : Expr) → (judged_at depth d scope e).faults ≡ [] → Same (kept_at depth d (entry_bits d)) (worth_at depth d (entry_bits d)) (sight_in scope env) e
kept_same zero d scope env fits e f = refl
kept_same (suc depth) d scope env fits e f =
    kept_step (shape_worth d (entry_bits d) (kept_at depth d (entry_bits d)) (out-Shape (out-Expr e).shape) (sight_in scope env)) (worth_at (suc depth) d (entry_bits d) e (sight_in scope env))
    (shape_same d scope (out-Expr e).place (out-Shape (out-Expr e).shape) (entry_bits d) (judged_at depth d scope) (kept_at depth d (entry_bits d)) (worth_at depth d (entry_bits d)) (sight_in scope env)
    (kept_same depth d scope env fits) (enum_name d (entry_bits d) scope env depth) f)
    (λ n o. inside_at (suc depth) d scope (sight_in scope env) fits.ranged fits.formed fits.inside e n f o)

pub same_worth : (d : Description) (scope : Scope) (env : Env) (e : Expr) (meant : Meant) → Fits d scope env → range_found d scope e ≡ Ok meant → (kept_at deepest d (entry_bits d) e (sight_in scope env)).outcome ≡ (worth d e (sight_in scope env)).outcome
same_worth d scope env e meant fits found =
    let j = judged d scope e in
    kept_same deepest d scope env fits e (accepted (out-Expr e).place meant meant j.meant j.faults found).0

pub same_value : (d : Description) (scope : Scope) (env : Env) (e : Expr) (meant : Meant) → Fits d scope env → range_found d scope e ≡ Ok meant → (kept_value d e (sight_in scope env)).outcome ≡ (value d e (sight_in scope env)).outcome
same_value d scope env e meant fits found = ap (λ r. (continued r thing_number).outcome) (same_worth d scope env e meant fits found)
