-- An expression in which nothing is wrong is something.
use Rattle.std.proofs.Common.{◌≡◌, ℕ, zero, suc, Bool, true, false, List, [], ◌∷◌, ◌++◌, Option, Some, None, refl}
use Rattle.mspec_tree.specs.declared.words.Place.{Place}
use Rattle.mspec_tree.specs.declared.words.Lit.{Lit}
use Rattle.mspec_tree.specs.declared.words.Lit.TheVariants.{Num, Flag}
use Rattle.mspec_tree.specs.declared.words.Op.{Op}
use Rattle.mspec_tree.specs.declared.words.Op.TheVariants as op
use Rattle.mspec_tree.specs.declared.exprs.Expr.{Expr, out-Expr}
use Rattle.mspec_tree.specs.declared.exprs.Shape.{Shape, out-Shape}
use Rattle.mspec_tree.specs.declared.exprs.Shape.TheOpen.{Shape-F}
use Rattle.mspec_tree.specs.declared.fields.Field.{Field}
use Rattle.mspec_tree.specs.declared.defs.Param.{Param}
use Rattle.mspec_tree.specs.declared.defs.Description.{Description}
use Rattle.mspec_expr.specs.declared.kinds.Fault.{Fault}
use Rattle.mspec_expr.specs.declared.kinds.ExprWhy.TheVariants.{TooWide}
use Rattle.mspec_expr.specs.declared.kinds.Range.{Range}
use Rattle.mspec_expr.specs.declared.kinds.Meant.{Meant}
use Rattle.mspec_expr.specs.declared.kinds.Meant.TheVariants.{Number, Flag as FlagKind, EnumOf, GroupOf, ListOf, Bytes, Raw, Null}
use Rattle.mspec_expr.specs.declared.scopes.Scope.{Scope}
use Rattle.mspec_expr.specs.declared.scopes.MeantName.{MeantName}
use Rattle.mspec_expr.specs.Kinds.{literal}
use Rattle.mspec_expr.specs.Ranges.{Judged, Judges, number_is, judged_numbers, negated, negated_range, reckoned, reckoned_ranges, two_range, two_judged, two_wrong, both_numbers, is_kind, is_number, kind_wrong, leaves, range, wrong_if, found_name, constant_is, found_field, attribute_is, dotted_meant, dotted, case_is, cast_group, cast_meant, branches_joined, branches, joined, chosen, literal_is, shape_judged, judged_at, name_in}
use Rattle.mspec_expr.proofs.RangeKnown.{chosen_parts, cons_none, none_some}

-- what nothing is wrong with is something
pub record Known (j : Judged) : Type 0 where
  pub meant : Meant
  pub is : j.meant ≡ Some meant

abbrev pub Fine : Judged → Type 0
Fine j = j.faults ≡ [] → Known j

fine_number : (defined : Option Range) (own faults : List Fault) → Fine (number_is defined own faults)
fine_number (Some r) [] faults e = record { meant = _; is = refl }
fine_number (Some r) (x ∷ own) faults e = record { meant = _; is = refl }
fine_number None [] faults e = record { meant = _; is = refl }
fine_number None (x ∷ own) faults e = record { meant = _; is = refl }

fine_reckoned : (d : Description) (place : Place) (o : Op) (a b : Judged) → Fine (reckoned d place o a b)
fine_reckoned d place o a b = go (judged_numbers d a) (judged_numbers d b)
  where
    wrong : List Fault
    wrong = kind_wrong (both_numbers a b) place

    below : List Fault
    below = a.faults ++ b.faults

    go : (x y : Option Range) → Fine (reckoned_ranges place o wrong below x y)
    go (Some x) (Some y) = fine_number (two_range o x y) (wrong ++ two_wrong o x y place) below
    go None y = fine_number None wrong below
    go (Some x) None = fine_number None wrong below

fine_negated : (d : Description) (place : Place) (a : Judged) → Fine (negated d place a)
fine_negated d place a =
    fine_number (negated_range (judged_numbers d a)) (kind_wrong (is_kind is_number a.meant) place ++ wrong_if (leaves (negated_range (judged_numbers d a))) place TooWide) a.faults

fine_literal : (place : Place) (value : Lit) → Fine (literal_is place value)
fine_literal place (Num negative size) e =
    fine_number (Some (range (literal (Num negative size)) (literal (Num negative size)))) (wrong_if (leaves (Some (range (literal (Num negative size)) (literal (Num negative size))))) place TooWide) [] e
fine_literal place (Flag flag) e = record { meant = FlagKind; is = refl }

fine_name : (place : Place) (found : Option MeantName) → Fine (found_name place found)
fine_name place (Some found) e = record { meant = found.meant; is = refl }
fine_name place None e = cons_none e

fine_constant : (place : Place) (def : ℕ) (has : Bool) → Fine (constant_is place def has)
fine_constant place def true e = record { meant = EnumOf def; is = refl }
fine_constant place def false e = cons_none e

fine_field : (d : Description) (place : Place) (faults : List Fault) (found : Option Field) → Fine (found_field d place faults found)
fine_field d place faults (Some field) e = record { meant = _; is = refl }
fine_field d place faults None e = cons_none e

fine_attribute : (d : Description) (place : Place) (faults : List Fault) (found : Option Param) → Fine (attribute_is d place faults found)
fine_attribute d place faults (Some param) e = record { meant = _; is = refl }
fine_attribute d place faults None e = cons_none e

fine_path : (d : Description) (scope : Scope) (place : Place) (name : List ℕ) (faults : List Fault) (meant : Option Meant) → (faults ≡ [] → (m : Meant) × (meant ≡ Some m)) → Fine (dotted_meant d scope place name faults meant)
fine_path d scope place name faults (Some (GroupOf def case)) has e = fine_field d place faults _ e
fine_path d scope place name faults (Some (EnumOf def)) has e = fine_attribute d place faults _ e
fine_path d scope place name faults (Some (Number r)) has e = cons_none e
fine_path d scope place name faults (Some FlagKind) has e = cons_none e
fine_path d scope place name faults (Some (ListOf item)) has e = cons_none e
fine_path d scope place name faults (Some Bytes) has e = cons_none e
fine_path d scope place name faults (Some Raw) has e = cons_none e
fine_path d scope place name faults (Some Null) has e = cons_none e
fine_path d scope place name faults None has e = none_some (has e).1

fine_case : (place : Place) (def : ℕ) (faults : List Fault) (found : Option ℕ) → Fine (case_is place def faults found)
fine_case place def faults (Some case) e = record { meant = _; is = refl }
fine_case place def faults None e = cons_none e

fine_group : (d : Description) (place : Place) (name : List ℕ) (faults : List Fault) (def : ℕ) (switched : Bool) → Fine (cast_group d place name faults def switched)
fine_group d place name faults def true e = fine_case place def faults _ e
fine_group d place name faults def false e = cons_none e

fine_cast : (d : Description) (place : Place) (name : List ℕ) (faults : List Fault) (meant : Option Meant) → (faults ≡ [] → (m : Meant) × (meant ≡ Some m)) → Fine (cast_meant d place name faults meant)
fine_cast d place name faults (Some (GroupOf def case)) has e = fine_group d place name faults def _ e
fine_cast d place name faults (Some (EnumOf def)) has e = cons_none e
fine_cast d place name faults (Some (Number r)) has e = cons_none e
fine_cast d place name faults (Some FlagKind) has e = cons_none e
fine_cast d place name faults (Some (ListOf item)) has e = cons_none e
fine_cast d place name faults (Some Bytes) has e = cons_none e
fine_cast d place name faults (Some Raw) has e = cons_none e
fine_cast d place name faults (Some Null) has e = cons_none e
fine_cast d place name faults None has e = none_some (has e).1

fine_joined : (place : Place) (faults : List Fault) (both : Option Meant) → Fine (branches_joined place faults both)
fine_joined place faults (Some meant) e = record { meant = meant; is = refl }
fine_joined place faults None e = cons_none e

fine_branches : (place : Place) (faults : List Fault) (a b : Option Meant) → (faults ≡ [] → ((m : Meant) × (a ≡ Some m)) × ((m : Meant) × (b ≡ Some m))) → Fine (branches place faults a b)
fine_branches place faults (Some a) (Some b) has e = fine_joined place faults (joined a b) e
fine_branches place faults None b has e = none_some (has e).0.1
fine_branches place faults (Some a) None has e = none_some (has e).1.1

fine_chosen : (place : Place) (c a b : Judged) → Fine a → Fine b → Fine (chosen place c a b)
fine_chosen place c a b fine-a fine-b = fine_branches place _ a.meant b.meant (λ e.
    let parts = chosen_parts place c a b e in
    let ka = fine-a parts.fine_a in
    let kb = fine-b parts.fine_b in
    ((ka.meant, ka.is), (kb.meant, kb.is)))

fine_dotted : (judges : Judges) (d : Description) (scope : Scope) (place : Place) (a : Expr) (name : List ℕ) (enum : Option ℕ) → Fine (judges a) → Fine (dotted judges d scope place a name enum)
fine_dotted judges d scope place a name (Some def) fine-a e = fine_constant place def _ e
fine_dotted judges d scope place a name None fine-a e =
    fine_path d scope place name (judges a).faults (judges a).meant (λ f. ((fine-a f).meant, (fine-a f).is)) e

fine_two : (d : Description) (place : Place) (o : Op) (a b : Judged) → Fine a → Fine b → Fine (two_judged d place o a b)
fine_two d place op.Or a b fine-a fine-b e = record { meant = FlagKind; is = refl }
fine_two d place op.And a b fine-a fine-b e = record { meant = FlagKind; is = refl }
fine_two d place op.Eq a b fine-a fine-b e = record { meant = FlagKind; is = refl }
fine_two d place op.Ne a b fine-a fine-b e = record { meant = FlagKind; is = refl }
fine_two d place op.Lt a b fine-a fine-b e = record { meant = FlagKind; is = refl }
fine_two d place op.Le a b fine-a fine-b e = record { meant = FlagKind; is = refl }
fine_two d place op.Gt a b fine-a fine-b e = record { meant = FlagKind; is = refl }
fine_two d place op.Ge a b fine-a fine-b e = record { meant = FlagKind; is = refl }
fine_two d place op.Add a b fine-a fine-b e = fine_reckoned d place op.Add a b e
fine_two d place op.Sub a b fine-a fine-b e = fine_reckoned d place op.Sub a b e
fine_two d place op.Mul a b fine-a fine-b e = fine_reckoned d place op.Mul a b e
fine_two d place op.Div a b fine-a fine-b e = fine_reckoned d place op.Div a b e
fine_two d place op.Rem a b fine-a fine-b e = fine_reckoned d place op.Rem a b e
fine_two d place op.BitAnd a b fine-a fine-b e = fine_reckoned d place op.BitAnd a b e
fine_two d place op.BitOr a b fine-a fine-b e = fine_reckoned d place op.BitOr a b e
fine_two d place op.Shl a b fine-a fine-b e = fine_reckoned d place op.Shl a b e
fine_two d place op.Shr a b fine-a fine-b e = fine_reckoned d place op.Shr a b e

fine_shape : (judges : Judges) (d : Description) (scope : Scope) (place : Place) (shape : Shape-F Shape Expr) → ((e : Expr) → Fine (judges e)) → Fine (shape_judged judges d scope place shape)
fine_shape judges d scope place (Shape-F.Lit value) fine e = fine_literal place value e
fine_shape judges d scope place Shape-F.Null fine e = record { meant = Null; is = refl }
fine_shape judges d scope place (Shape-F.Name name) fine e = fine_name place (name_in scope name) e
fine_shape judges d scope place Shape-F.CurPos fine e = record { meant = _; is = refl }
fine_shape judges d scope place Shape-F.Length fine e = record { meant = _; is = refl }
fine_shape judges d scope place Shape-F.LastItem fine e = record { meant = _; is = refl }
fine_shape judges d scope place Shape-F.SumBytes fine e = record { meant = _; is = refl }
fine_shape judges d scope place Shape-F.XorBytes fine e = record { meant = _; is = refl }
fine_shape judges d scope place (Shape-F.Dot a name) fine e = fine_dotted judges d scope place a name _ (fine a) e
fine_shape judges d scope place (Shape-F.LengthOf a) fine e = record { meant = _; is = refl }
fine_shape judges d scope place (Shape-F.Count a) fine e = record { meant = _; is = refl }
fine_shape judges d scope place (Shape-F.Cast a name) fine e =
    fine_cast d place name (judges a).faults (judges a).meant (λ f. ((fine a f).meant, (fine a f).is)) e
fine_shape judges d scope place (Shape-F.Not a) fine e = record { meant = FlagKind; is = refl }
fine_shape judges d scope place (Shape-F.Neg a) fine e = fine_negated d place (judges a) e
fine_shape judges d scope place (Shape-F.Two o a b) fine e =
    fine_two d place o (judges a) (judges b) (fine a) (fine b) e
fine_shape judges d scope place (Shape-F.If c a b) fine e =
    fine_chosen place (judges c) (judges a) (judges b) (fine a) (fine b) e

-- an expression in which nothing is wrong is something
pub fine : (depth : ℕ) (d : Description) (scope : Scope) (e : Expr) → Fine (judged_at depth d scope e)
fine zero d scope e f = cons_none f
fine (suc depth) d scope e f =
    fine_shape (judged_at depth d scope) d scope (out-Expr e).place (out-Shape (out-Expr e).shape) (fine depth d scope) f
