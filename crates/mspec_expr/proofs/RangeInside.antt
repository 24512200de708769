-- No range of what has values leaves the widest.
use Rattle.std.proofs.Common.{◌≡◌, Bool, true, false, Some, None, refl, ap, sym, ◌∙◌}
use Rattle.std.specs.Prelude.{if◌then◌else◌, int_le}
use Rattle.mspec_tree.specs.declared.defs.Description.{Description}
use Rattle.mspec_expr.specs.declared.kinds.Range.{Range}
use Rattle.mspec_expr.specs.declared.kinds.Meant.{Meant}
use Rattle.mspec_expr.specs.declared.kinds.Meant.TheVariants.{Number, Flag, EnumOf, GroupOf, ListOf, Bytes, Raw, Null}
use Rattle.mspec_expr.specs.Kinds.{base_of, own_range}
use Rattle.mspec_expr.specs.Fits.{values_of}
use Rattle.mspec_expr.specs.Ranges.{is_proper, lies_in, proper, widest}
use Rattle.mspec_expr.proofs.RangeKnown.{and_true, none_some}
use Rattle.mspec_expr.proofs.RangeSound.{some_same}

proper_inside : (x r : Range) → proper x ≡ Some r → lies_in widest r ≡ true
proper_inside x r = go (is_proper x) refl
  where
    go : (test : Bool) → is_proper x ≡ test → (if test then Some x else None) ≡ Some r → lies_in widest r ≡ true
    go true t e = ap (λ q. lies_in widest q) (sym (some_same e)) ∙ (and_true (int_le x.low x.high) (lies_in widest x) t).1
    go false t e = none_some e

pub inside : (d : Description) (meant : Meant) (r : Range) → values_of d meant ≡ Some r → lies_in widest r ≡ true
inside d (Number x) r e = proper_inside x r e
inside d (EnumOf def) r e = proper_inside (own_range (base_of d def)) r e
inside d Flag r e = ap (λ q. lies_in widest q) (sym (some_same e))
inside d (GroupOf def case) r e = none_some e
inside d (ListOf item) r e = none_some e
inside d Bytes r e = none_some e
inside d Raw r e = none_some e
inside d Null r e = none_some e
