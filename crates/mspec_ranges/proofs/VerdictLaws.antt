-- What the code keeps of an operator is what is kept of its operands.
use Rattle.std.proofs.Common.{◌≡◌, ℕ, Bool, true, false, ◌&&◌, ◌||◌, not, List, [], ◌∷◌, ◌++◌, Option, Some, None, refl, sym, ap, ◌∙◌, subst, arith, append-nil, to_z, of_z}
use Rattle.std.specs.Prelude.{if◌then◌else◌, IsTrue, ℤ, pos, int_lt}
use Rattle.std.specs.Int.{w128}
use Rattle.mspec_tree.specs.declared.words.Place.{Place}
use Rattle.mspec_tree.specs.declared.words.Op.{Op}
use Rattle.mspec_tree.specs.declared.words.Lit.TheVariants.{Num}
use Rattle.mspec_tree.specs.declared.defs.Description.{Description}
use Rattle.mspec_expr.specs.declared.kinds.Fault.{Fault}
use Rattle.mspec_expr.specs.declared.kinds.Range.{Range}
use Rattle.mspec_expr.specs.declared.kinds.ExprWhy.TheVariants.{TooWide, DivisorMayBeZero, OperandRange}
use Rattle.mspec_expr.specs.declared.kinds.Meant.{Meant}
use Rattle.mspec_expr.specs.declared.kinds.Meant.TheVariants.{Number, EnumOf, Flag, GroupOf, ListOf, Bytes, Raw, Null}
use Rattle.mspec_expr.specs.Kinds.{base_of, literal, no_range, own_range}
use Rattle.mspec_expr.specs.Ranges.{Judged, both_numbers, branches, branches_joined, divides, holds_zero, is, is_negative, is_kind, is_number, is_proper, joined, judged_numbers, kind_wrong, leaves, lies_in, literal_is, meant_numbers, negated, negated_range, number_is, proper, range, reckoned, reckoned_ranges, shifts, takes_no_negative, two_range, two_wrong, unknown, widest, wrong_if}
use Rattle.mspec_ranges.specs.declared.spans.Span.{Span}
use Rattle.mspec_ranges.specs.declared.spans.Span.TheVariants.{Leaves, Undefined, Within}
use Rattle.mspec_ranges.specs.declared.verdicts.Verdict.{Verdict}
use Rattle.mspec_ranges.specs.Spans.{contained, is_leaves, span, span_of}
use Rattle.mspec_ranges.specs.Verdicts.{NumberIs, Tells, earlier, earliest, ranged}
use Rattle.mspec_ranges.proofs.FaultLaws.{earlier_assoc, earliest-append}
use Rattle.mspec_ranges.proofs.SpanLaws.{contained_in, contained_is, in_if}

-- ---- faults of the parts

pub own_one : (own xs : List Fault) (o a : Option Fault) → o ≡ earliest own → a ≡ earliest xs → earlier o a ≡ earliest (own ++ xs)
own_one own xs o a p q = ap (λ m. earlier m a) p ∙ ap (λ m. earlier (earliest own) m) q ∙ sym (earliest-append own xs)

pub own_two : (own xs ys : List Fault) (o a b : Option Fault) → o ≡ earliest own → a ≡ earliest xs → b ≡ earliest ys → earlier o (earlier a b) ≡ earliest (own ++ xs ++ ys)
own_two own xs ys o a b p q r = sym (earlier_assoc o a b) ∙ own_one (own ++ xs) ys (earlier o a) b (own_one own xs o a p q) r

pub own_three : (own xs ys zs : List Fault) (o a b c : Option Fault) → o ≡ earliest own → a ≡ earliest xs → b ≡ earliest ys → c ≡ earliest zs → earlier (earlier (earlier o a) b) c ≡ earliest (own ++ xs ++ ys ++ zs)
own_three own xs ys zs o a b c p q r s =
    own_one (own ++ xs ++ ys) zs _ c (own_one (own ++ xs) ys _ b (own_one own xs o a p q) r) s

-- ---- numbers

pub leaves_is : (r : Option Range) → is_leaves (span_of r) ≡ leaves r
leaves_is None = refl
leaves_is (Some r) = go (lies_in widest r)
  where
    go : (test : Bool) → is_leaves (if test then Within r else Leaves) ≡ not test
    go true = refl
    go false = refl

some_fault : (span : Span) (fault : Fault) → ranged span (Some fault) ≡ no_range
some_fault Undefined fault = refl
some_fault Leaves fault = refl
some_fault (Within r) fault = refl

ranged_of : (r : Range) (test : Bool) → (not test ≡ true → ⊥) → ranged (if test then Within r else Leaves) None ≡ r
ranged_of r true h = refl
ranged_of r false h = absurd (h refl)

-- what the code keeps of a number is that of the number
pub number_tells : (defined : Option Range) (own' faults : List Fault) (s : Span) (own under : Option Fault) (v : Verdict)
    → s ≡ span_of defined → own ≡ earliest own' → under ≡ earliest faults → (leaves defined ≡ true → own' ≡ [] → ⊥) → NumberIs s own under v → Tells v (number_is defined own' faults)
number_tells (Some r) [] faults s own under v p q u h n = record {
  meant = n.meant ∙ ap (λ x. Some (Number (ranged x own))) p ∙ ap (λ x. Some (Number (ranged (span r) x))) q ∙ ap (λ x. Some (Number x)) (ranged_of r (lies_in widest r) (λ e. h e refl));
  optional = n.optional;
  fault = n.fault ∙ ap (λ x. earlier x under) q ∙ u;
}
number_tells (Some r) (f ∷ own') faults s own under v p q u h n = record {
  meant = n.meant ∙ ap (λ x. Some (Number (ranged s x))) q ∙ ap (λ x. Some (Number x)) (some_fault s _);
  optional = n.optional;
  fault = n.fault ∙ own_one (f ∷ own') faults own under q u;
}
number_tells None own' faults s own under v p q u h n = record {
  meant = n.meant ∙ ap (λ x. Some (Number (ranged x own))) p;
  optional = n.optional;
  fault = n.fault ∙ own_one own' faults own under q u;
}

-- a range that leaves is a fault
wide_some : (wrong : List Fault) (o : Op) (a b : Range) (place : Place) → leaves (two_range o a b) ≡ true → wrong ++ two_wrong o a b place ≡ [] → ⊥
wide_some wrong o a b place e = go wrong (leaves (two_range o a b)) e
  where
    go : (wrong : List Fault) (test : Bool) → test ≡ true → wrong ++ (wrong_if test place TooWide ++ wrong_if (divides o && holds_zero b) place DivisorMayBeZero ++ wrong_if (takes_no_negative o && (is_negative a || is_negative b) || shifts o && int_lt (pos 63) b.high) place OperandRange) ≡ [] → ⊥
    go [] true e f = absurd (cc)
    go [] false e f = absurd (cc)
    go (x ∷ wrong) test e f = absurd (cc)

-- an operand's range is proper
pub numbers_proper : (d : Description) (meant : Option Meant) (r : Range) → meant_numbers d meant ≡ Some r → IsTrue (is_proper r)
numbers_proper d meant r = go meant
  where
    of : (x : Range) → proper x ≡ Some r → IsTrue (is_proper r)
    of x = by_test (is_proper x) refl
      where
        by_test : (test : Bool) → is_proper x ≡ test → (if test then Some x else None) ≡ Some r → IsTrue (is_proper r)
        by_test true t e = let same : x ≡ r = cc in grind (arith)
        by_test false t e = absurd (cc)

    go : (meant : Option Meant) → meant_numbers d meant ≡ Some r → IsTrue (is_proper r)
    go (Some (Number x)) e = of x e
    go (Some (EnumOf def)) e = of (own_range (base_of d def)) e
    go (Some Flag) e = absurd (cc)
    go (Some (GroupOf def case)) e = absurd (cc)
    go (Some (ListOf item)) e = absurd (cc)
    go (Some Bytes) e = absurd (cc)
    go (Some Raw) e = absurd (cc)
    go (Some Null) e = absurd (cc)
    go None e = absurd (cc)

-- ---- operators

pub reckoned_none : (d : Description) (place : Place) (o : Op) (x y : Judged) (wrong under : Option Fault) (v : Verdict)
    → judged_numbers d x ≡ None → wrong ≡ earliest (kind_wrong (both_numbers x y) place) → under ≡ earliest (x.faults ++ y.faults) → NumberIs Undefined wrong under v → Tells v (reckoned d place o x y)
reckoned_none d place o x y wrong under v e w u n =
    subst (λ (m : Option Range). Tells v (reckoned_ranges place o (kind_wrong (both_numbers x y) place) (x.faults ++ y.faults) m (judged_numbers d y))) (sym e)
    (number_tells None (kind_wrong (both_numbers x y) place) (x.faults ++ y.faults) Undefined wrong under v refl w u (λ l. absurd (cc)) n)

pub reckoned_half : (d : Description) (place : Place) (o : Op) (x y : Judged) (left : Range) (wrong under : Option Fault) (v : Verdict)
    → judged_numbers d x ≡ Some left → judged_numbers d y ≡ None → wrong ≡ earliest (kind_wrong (both_numbers x y) place) → under ≡ earliest (x.faults ++ y.faults) → NumberIs Undefined wrong under v → Tells v (reckoned d place o x y)
reckoned_half d place o x y left wrong under v p e w u n =
    rw (p, e) (number_tells None (kind_wrong (both_numbers x y) place) (x.faults ++ y.faults) Undefined wrong under v refl w u (λ l. absurd (cc)) n)

pub reckoned_whole : (d : Description) (place : Place) (o : Op) (x y : Judged) (left right : Range) (s : Span) (own under : Option Fault) (v : Verdict)
    → judged_numbers d x ≡ Some left → judged_numbers d y ≡ Some right → s ≡ span_of (two_range o left right) → own ≡ earliest (kind_wrong (both_numbers x y) place ++ two_wrong o left right place) → under ≡ earliest (x.faults ++ y.faults) → NumberIs s own under v → Tells v (reckoned d place o x y)
reckoned_whole d place o x y left right s own under v p q r w u n =
    rw (p, q)
    (number_tells (two_range o left right) (kind_wrong (both_numbers x y) place ++ two_wrong o left right place) (x.faults ++ y.faults) s own under v r w u
    (wide_some (kind_wrong (both_numbers x y) place) o left right place) n)

-- ---- a minus

negated_some : (wrong : List Fault) (r : Range) (place : Place) → leaves (negated_range (Some r)) ≡ true → wrong ++ wrong_if (leaves (negated_range (Some r))) place TooWide ≡ [] → ⊥
negated_some wrong r place e = go wrong (leaves (negated_range (Some r))) e
  where
    go : (wrong : List Fault) (test : Bool) → test ≡ true → wrong ++ wrong_if test place TooWide ≡ [] → ⊥
    go [] true e f = absurd (cc)
    go [] false e f = absurd (cc)
    go (x ∷ wrong) test e f = absurd (cc)

pub negated_none : (d : Description) (place : Place) (x : Judged) (wrong under : Option Fault) (v : Verdict)
    → judged_numbers d x ≡ None → wrong ≡ earliest (kind_wrong (is_kind is_number x.meant) place) → under ≡ earliest x.faults → NumberIs Undefined wrong under v → Tells v (negated d place x)
negated_none d place x wrong under v e w u n =
    rw e
    (number_tells None (kind_wrong (is_kind is_number x.meant) place ++ []) x.faults Undefined wrong under v refl (w ∙ ap earliest (sym (append-nil (kind_wrong (is_kind is_number x.meant) place)))) u (λ l. absurd (cc)) n)

pub negated_whole : (d : Description) (place : Place) (x : Judged) (r : Range) (s : Span) (own under : Option Fault) (v : Verdict)
    → judged_numbers d x ≡ Some r → s ≡ span_of (negated_range (Some r)) → own ≡ earliest (kind_wrong (is_kind is_number x.meant) place ++ wrong_if (leaves (negated_range (Some r))) place TooWide) → under ≡ earliest x.faults → NumberIs s own under v → Tells v (negated d place x)
negated_whole d place x r s own under v e p w u n =
    rw e
    (number_tells (negated_range (Some r)) (kind_wrong (is_kind is_number x.meant) place ++ wrong_if (leaves (negated_range (Some r))) place TooWide) x.faults s own under v p w u
    (negated_some (kind_wrong (is_kind is_number x.meant) place) r place) n)

-- ---- literals

pub literal_stays : (place : Place) (negative : Bool) (size : ℕ) (n : ℤ) → contained (literal (Num negative size)) ≡ Some n → (let code : Range = range (to_z w128 (of_z w128 n)) (to_z w128 (of_z w128 n)) in literal_is place (Num negative size) ≡ is (Number code) [])
literal_stays place negative size n e =
    let x : ℤ = literal (Num negative size) in
    let inside : lies_in widest (range x x) ≡ true = (contained_is x n e).0 in
    ap (λ t. number_is (Some (range x x)) (wrong_if (not t) place TooWide) []) inside
    ∙ ap (λ k. is (Number (range k k)) []) (sym (contained_in x n e))

pub literal_leaves : (place : Place) (negative : Bool) (size : ℕ) → contained (literal (Num negative size)) ≡ None → literal_is place (Num negative size) ≡ is (Number no_range) (wrong_if true place TooWide)
literal_leaves place negative size e =
    let x : ℤ = literal (Num negative size) in
    ap (λ t. number_is (Some (range x x)) (wrong_if (not t) place TooWide) []) (in_if x e)

-- ---- branches

pub branches_none : (place : Place) (faults : List Fault) (a b : Option Meant) → a ≡ None → branches place faults a b ≡ unknown faults
branches_none place faults a b e = ap (λ m. branches place faults m b) e

pub branches_half : (place : Place) (faults : List Fault) (a b : Option Meant) (m : Meant) → a ≡ Some m → b ≡ None → branches place faults a b ≡ unknown faults
branches_half place faults a b m p e = ap (λ k. branches place faults k b) p ∙ ap (λ k. branches place faults (Some m) k) e

pub branches_some : (place : Place) (faults : List Fault) (a b : Option Meant) (m n : Meant) (joint : Option Meant) → a ≡ Some m → b ≡ Some n → joint ≡ joined m n → branches place faults a b ≡ branches_joined place faults joint
branches_some place faults a b m n joint p q e =
    ap (λ k. branches place faults k b) p ∙ ap (λ k. branches place faults (Some m) k) q ∙ ap (λ k. branches_joined place faults k) (sym e)
