-- What follows where nothing is wrong with an expression.
use Rattle.std.proofs.Common.{◌≡◌, Bool, true, false, ◌&&◌, ◌||◌, not, List, [], ◌∷◌, ◌++◌, Option, Some, None, refl, sym, ap, ◌∙◌, subst}
use Rattle.std.specs.Prelude.{if◌then◌else◌, pos, int_lt, int_div}
use Rattle.mspec_tree.specs.declared.words.Place.{Place}
use Rattle.mspec_tree.specs.declared.words.Op.{Op}
use Rattle.mspec_tree.specs.declared.words.Op.TheVariants as op
use Rattle.mspec_tree.specs.declared.defs.Description.{Description}
use Rattle.mspec_expr.specs.declared.kinds.Range.{Range}
use Rattle.mspec_expr.specs.declared.kinds.ExprWhy.{ExprWhy}
use Rattle.mspec_expr.specs.declared.kinds.ExprWhy.TheVariants.{KindMismatch, TooWide, OperandRange, DivisorMayBeZero}
use Rattle.mspec_expr.specs.declared.kinds.Meant.{Meant}
use Rattle.mspec_expr.specs.Fits.{values_of_all}
use Rattle.mspec_expr.specs.declared.kinds.Fault.{Fault}
use Rattle.mspec_expr.specs.Ranges.{Judged, two_range, two_wrong, wrong_if, is_negative, holds_zero, number_is, judged_numbers, is_kind, is_number, both_numbers, kind_wrong, reckoned, reckoned_ranges, branches_joined, branches, joined, chosen, leaves, is_flag, quotients, unless_negative, divides, takes_no_negative, shifts}

abbrev IsNil : {A : Type 0} → List A → Type 0
IsNil [] = Unit {0}
IsNil (x ∷ xs) = ⊥

abbrev IsNothing : {A : Type 0} → Option A → Type 0
IsNothing None = Unit {0}
IsNothing (Some x) = ⊥

abbrev Holds : Bool → Type 0
Holds true = Unit {0}
Holds false = ⊥

pub cons_none : {A X : Type 0} {x : A} {xs : List A} → x ∷ xs ≡ [] → X
cons_none {A} {X} {x} {xs} e = absurd (subst (IsNil {A = A}) (sym e) tt)

pub none_some : {A X : Type 0} {x : A} → None ≡ Some x → X
none_some {A} {X} {x} e = absurd (subst (IsNothing {A = A}) e tt)

pub false_true : {X : Type 0} → false ≡ true → X
false_true e = absurd (subst Holds (sym e) tt)

pub both_none : {A : Type 0} (xs ys : List A) → xs ++ ys ≡ [] → (xs ≡ []) × (ys ≡ [])
both_none [] ys e = (refl, e)
both_none (x ∷ xs) ys e = cons_none e

pub not_wrong : (wrong : Bool) (place : Place) (why : ExprWhy) → wrong_if wrong place why ≡ [] → wrong ≡ false
not_wrong true place why e = cons_none e
not_wrong false place why e = refl

pub not_not : (b : Bool) → not b ≡ false → b ≡ true
not_not true e = refl
not_not false e = false_true (sym e)

pub or_false : (a b : Bool) → (a || b) ≡ false → (a ≡ false) × (b ≡ false)
or_false true b e = false_true (sym e)
or_false false b e = (refl, e)

pub and_true : (a b : Bool) → (a && b) ≡ true → (a ≡ true) × (b ≡ true)
and_true true b e = (refl, e)
and_true false b e = false_true e

-- ---- numbers

-- an operator of numbers with which nothing is wrong has a range
unless_has : (a b r : Range) → (is_negative a || is_negative b) ≡ false → (x : Range) × (unless_negative a b r ≡ Some x)
unless_has a b r e = (r, ap (λ n. if n then None else Some r) e)

quotients_have : (n : Bool) (a b : Range) → holds_zero b ≡ false → (x : Range) × (quotients n a b ≡ Some x)
quotients_have true a b e = (_, refl)
quotients_have false a b e =
    let r : Range = record { low = int_div a.low b.high; high = int_div a.high b.low } in
    (r, ap (λ z. if z then None else Some r) e)

-- the operators of numbers
abbrev pub IsReckoning : Op → Type 0
IsReckoning op.Add = Unit {0}
IsReckoning op.Sub = Unit {0}
IsReckoning op.Mul = Unit {0}
IsReckoning op.Div = Unit {0}
IsReckoning op.Rem = Unit {0}
IsReckoning op.BitAnd = Unit {0}
IsReckoning op.BitOr = Unit {0}
IsReckoning op.Shl = Unit {0}
IsReckoning op.Shr = Unit {0}
IsReckoning other = ⊥

-- what a fault would deny
pub record Right (o : Op) (a b : Range) : Type 0 where
  pub stays : leaves (two_range o a b) ≡ false
  pub divides_well : (divides o && holds_zero b) ≡ false
  pub takes_well : (takes_no_negative o && (is_negative a || is_negative b) || shifts o && int_lt (pos 63) b.high) ≡ false

pub right : (o : Op) (a b : Range) (place : Place) → two_wrong o a b place ≡ [] → Right o a b
right o a b place e =
    let wide : List Fault = wrong_if (leaves (two_range o a b)) place TooWide in
    let zero : List Fault = wrong_if (divides o && holds_zero b) place DivisorMayBeZero in
    let last = both_none (wide ++ zero) _ e in
    let first = both_none wide zero last.0 in
    record {
      stays = not_wrong _ place TooWide first.0;
      divides_well = not_wrong _ place DivisorMayBeZero first.1;
      takes_well = not_wrong _ place OperandRange last.1;
    }

pub not_negative : (o : Op) (a b : Range) → Right o a b → takes_no_negative o ≡ true → (is_negative a || is_negative b) ≡ false
not_negative o a b h t =
    subst (λ (k : Bool). (k && (is_negative a || is_negative b)) ≡ false) t (or_false _ _ h.takes_well).0

pub two_has : (o : Op) (a b : Range) → IsReckoning o → Right o a b → (x : Range) × (two_range o a b ≡ Some x)
two_has op.Add a b i h = (_, refl)
two_has op.Sub a b i h = (_, refl)
two_has op.Mul a b i h = (_, refl)
two_has op.Div a b i h = quotients_have (is_negative a || is_negative b) a b h.divides_well
two_has op.Rem a b i h = (_, refl)
two_has op.BitAnd a b i h = unless_has a b _ (not_negative op.BitAnd a b h refl)
two_has op.BitOr a b i h = unless_has a b _ (not_negative op.BitOr a b h refl)
two_has op.Shl a b i h = unless_has a b _ (not_negative op.Shl a b h refl)
two_has op.Shr a b i h = unless_has a b _ (not_negative op.Shr a b h refl)
two_has other a b i h = absurd i

-- ---- operators

pub number_faults : (defined : Option Range) (own faults : List Fault) → (number_is defined own faults).faults ≡ own ++ faults
number_faults (Some r) [] faults = refl
number_faults (Some r) (x ∷ own) faults = refl
number_faults None [] faults = refl
number_faults None (x ∷ own) faults = refl

-- an operand that isn't a number is a fault of the operator
numbers_right : (a b : Judged) (place : Place) → kind_wrong (both_numbers a b) place ≡ [] → (is_kind is_number a.meant ≡ true) × (is_kind is_number b.meant ≡ true)
numbers_right a b place e = and_true _ _ (not_not _ (not_wrong _ place KindMismatch e))

-- the ranges of an operator's operands, where nothing is wrong
pub record Reckoning (d : Description) (o : Op) (a b : Judged) : Type 0 where
  pub left : Range
  pub left_is : judged_numbers d a ≡ Some left
  pub right : Range
  pub right_is : judged_numbers d b ≡ Some right
  pub fair : Right o left right
  pub fine_left : a.faults ≡ []
  pub fine_right : b.faults ≡ []

-- a number without a range has no values to lie anywhere
pub no_number : (d : Description) (own faults : List Fault) → values_of_all d (number_is None own faults).meant ≡ None
no_number d [] faults = refl
no_number d (x ∷ own) faults = refl

-- what has a range has operands that have theirs
pub reckoning : (d : Description) (place : Place) (o : Op) (a b : Judged) (r : Range) → (reckoned d place o a b).faults ≡ [] → values_of_all d (reckoned d place o a b).meant ≡ Some r → Reckoning d o a b
reckoning d place o a b r = go (judged_numbers d a) (judged_numbers d b) refl refl
  where
    wrong : List Fault
    wrong = kind_wrong (both_numbers a b) place

    below : List Fault
    below = a.faults ++ b.faults

    go : (x y : Option Range) → judged_numbers d a ≡ x → judged_numbers d b ≡ y → (reckoned_ranges place o wrong below x y).faults ≡ [] → values_of_all d (reckoned_ranges place o wrong below x y).meant ≡ Some r → Reckoning d o a b
    go (Some x) (Some y) p q e v =
        let all : (wrong ++ two_wrong o x y place) ++ below ≡ [] = sym (number_faults (two_range o x y) (wrong ++ two_wrong o x y place) below) ∙ e in
        let parts = both_none (wrong ++ two_wrong o x y place) below all in
        let own = both_none wrong (two_wrong o x y place) parts.0 in
        let under = both_none a.faults b.faults parts.1 in
        record { left = x; left_is = p; right = y; right_is = q; fair = right o x y place own.1; fine_left = under.0; fine_right = under.1 }
    go None y p q e v = none_some (sym (no_number d wrong below) ∙ v)
    go (Some x) None p q e v = none_some (sym (no_number d wrong below) ∙ v)

-- the faults of a condition and its branches
pub record Chosen (c a b : Judged) : Type 0 where
  pub fine_c : c.faults ≡ []
  pub fine_a : a.faults ≡ []
  pub fine_b : b.faults ≡ []

pub chosen_parts : (place : Place) (c a b : Judged) → (kind_wrong (is_kind is_flag c.meant) place ++ c.faults ++ a.faults ++ b.faults) ≡ [] → Chosen c a b
chosen_parts place c a b e =
    let first = both_none (kind_wrong (is_kind is_flag c.meant) place ++ c.faults ++ a.faults) b.faults e in
    let second = both_none (kind_wrong (is_kind is_flag c.meant) place ++ c.faults) a.faults first.0 in
    let third = both_none (kind_wrong (is_kind is_flag c.meant) place) c.faults second.0 in
    record { fine_c = third.1; fine_a = second.1; fine_b = first.1 }

-- nothing is wrong with a choice only where nothing is wrong with its parts
pub chosen_faults : (place : Place) (c a b : Judged) → (chosen place c a b).faults ≡ [] → (kind_wrong (is_kind is_flag c.meant) place ++ c.faults ++ a.faults ++ b.faults) ≡ []
chosen_faults place c a b e = go a.meant b.meant e
  where
    all : List Fault
    all = kind_wrong (is_kind is_flag c.meant) place ++ c.faults ++ a.faults ++ b.faults

    joint : (m : Option Meant) → (branches_joined place all m).faults ≡ [] → all ≡ []
    joint (Some m) f = f
    joint None f = cons_none f

    go : (x y : Option Meant) → (branches place all x y).faults ≡ [] → all ≡ []
    go (Some x) (Some y) f = joint (joined x y) f
    go (Some x) None f = f
    go None y f = f
