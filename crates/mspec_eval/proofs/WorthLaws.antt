-- An expression by its outermost form, kept inside the widest range.
use Rattle.std.proofs.Common.{◌≡◌, ℕ, zero, suc, ◌-◌, Bool, true, false, Result, Ok, Err, refl, sym, ap, ◌∙◌, subst, arith}
use Rattle.std.proofs.lemmas.Int.{ints}
use Rattle.std.specs.Int.{w128}
use Rattle.std.specs.Prelude.{if◌then◌else◌, FitsSigned, ℤ, pos, negsuc, not, IfOk}
use Rattle.std.specs.Ordering.{int_eq}
use Rattle.node_tree.specs.declared.nodes.Node.{Node}
use Rattle.node_tree.specs.declared.faults.EvalFault.{EvalFault}
use Rattle.node_tree.specs.declared.faults.EvalFault.TheVariants.{NullAccess}
use Rattle.mspec_tree.specs.declared.exprs.Expr.{Expr, out-Expr}
use Rattle.mspec_tree.specs.declared.exprs.Shape.{Shape, out-Shape, out-roll-Shape, roll-Shape}
use Rattle.mspec_tree.specs.declared.exprs.Shape.TheOpen.{Shape-F}
use Rattle.mspec_tree.specs.declared.defs.Description.{Description}
use Rattle.mspec_expr.specs.declared.kinds.Meant.{Meant}
use Rattle.mspec_expr.specs.Counted.{continued, done, fails, ◌>>=◌}
use Rattle.mspec_expr.specs.Kinds.{in_range, widest}
use Rattle.mspec_expr.specs.Values.{Sight, Thing, Worth, Worths, branch, kept, kept_at, kept_if, number, shape_worth, thing_number, truth}
use Rattle.mspec_eval.specs.Things.{kept_outcome}

-- ---- what is kept

ok_same : {A F : Type 0} {a b : A} → (let one : Result A F = Ok a in one ≡ Ok b) → a ≡ b
ok_same {A} {F} {a} {b} e = cc

number_kept : (thing : Thing) (r : Result ℤ EvalFault) (n : ℤ) → (thing_number thing).outcome ≡ r → (continued (kept_if r thing).outcome thing_number).outcome ≡ Ok n → in_range widest n ≡ true
number_kept thing (Ok m) n p e = go (in_range widest m) refl e
  where
    go : (test : Bool) → in_range widest m ≡ test → (continued (if test then done {F = EvalFault} thing else fails NullAccess).outcome thing_number).outcome ≡ Ok n → in_range widest n ≡ true
    go true t e = let same : m ≡ n = ok_same {F = EvalFault} (sym p ∙ e) in subst (λ (k : ℤ). in_range widest k ≡ true) same t
    go false t e = absurd (cc)
number_kept thing (Err f) n p e = absurd (cc)

kept_number : (one : Result Thing EvalFault) (n : ℤ) → (continued (continued one kept).outcome thing_number).outcome ≡ Ok n → in_range widest n ≡ true
kept_number (Ok thing) n e = number_kept thing (thing_number thing).outcome n refl e
kept_number (Err f) n e = absurd (cc)

-- a number of an expression stays inside
number_inside : (levels : ℕ) (d : Description) (sizes : Meant → Node → ℕ) (e : Expr) (sight : Sight) (n : ℤ) → (number (kept_at levels d sizes e sight)).outcome ≡ Ok n → in_range widest n ≡ true
number_inside zero d sizes e sight n o = absurd (cc)
number_inside (suc levels) d sizes e sight n o =
    kept_number (shape_worth d sizes (kept_at levels d sizes) (out-Shape (out-Expr e).shape) sight).outcome n o

pub numbers_inside : (levels : ℕ) (d : Description) (sizes : Meant → Node → ℕ) (e : Expr) (sight : Sight) (found : Result ℤ EvalFault) → found ≡ (number (kept_at levels d sizes e sight)).outcome → IfOk found (λ n. in_range widest n ≡ true)
numbers_inside levels d sizes e sight (Ok n) p = number_inside levels d sizes e sight n (sym p)
numbers_inside levels d sizes e sight (Err f) p = tt

-- what is kept stays so
kept_again : (thing : Thing) (r : Result ℤ EvalFault) → (thing_number thing).outcome ≡ r → (continued (kept_if r thing).outcome kept).outcome ≡ (kept_if r thing).outcome
kept_again thing (Ok n) p = go (in_range widest n) refl
  where
    again : in_range widest n ≡ true → (kept_if (thing_number thing).outcome thing).outcome ≡ Ok thing
    again t = ap (λ r. (kept_if r thing).outcome) p ∙ ap (λ b. (if b then done {F = EvalFault} thing else fails NullAccess).outcome) t

    go : (test : Bool) → in_range widest n ≡ test → (continued (if test then done {F = EvalFault} thing else fails NullAccess).outcome kept).outcome ≡ (if test then done {F = EvalFault} thing else fails NullAccess).outcome
    go true t = again t
    go false t = refl
kept_again thing (Err f) p = ap (λ r. (kept_if r thing).outcome) p

twice : (one : Result Thing EvalFault) → (continued (continued one kept).outcome kept).outcome ≡ (continued one kept).outcome
twice (Ok thing) = kept_again thing (thing_number thing).outcome refl
twice (Err f) = refl

kept_twice : (levels : ℕ) (d : Description) (sizes : Meant → Node → ℕ) (e : Expr) (sight : Sight) → kept_outcome (kept_at levels d sizes e sight) ≡ (kept_at levels d sizes e sight).outcome
kept_twice zero d sizes e sight = refl
kept_twice (suc levels) d sizes e sight = twice (shape_worth d sizes (kept_at levels d sizes) (out-Shape (out-Expr e).shape) sight).outcome

-- a number inside fits the code's numbers
pub inside_fits : (z : ℤ) → in_range widest z ≡ true → FitsSigned w128 z
inside_fits (pos n) h = grind (arith, ints)
inside_fits (negsuc n) h = grind (arith, ints)

-- ---- by the outermost form

one_level : (levels : ℕ) (d : Description) (sizes : Meant → Node → ℕ) (e : Expr) (sight : Sight) → (levels ≡ 0 → ⊥) → (kept_at levels d sizes e sight).outcome ≡ kept_outcome (shape_worth d sizes (kept_at (levels - 1) d sizes) (out-Shape (out-Expr e).shape) sight)
one_level zero d sizes e sight h = absurd (h refl)
one_level (suc n) d sizes e sight h =
    let under : n ≡ suc n - 1 = omega arith in
    ap (λ k. kept_outcome (shape_worth d sizes (kept_at k d sizes) (out-Shape (out-Expr e).shape) sight)) under

pub by_level : (levels : ℕ) (d : Description) (sizes : Meant → Node → ℕ) (e : Expr) (sight : Sight) (f : Shape-F Shape Expr) (found : Result Thing EvalFault) → (levels ≡ 0 → ⊥) → (out-Expr e).shape ≡ roll-Shape f → found ≡ kept_outcome (shape_worth d sizes (kept_at (levels - 1) d sizes) f sight) → found ≡ (kept_at levels d sizes e sight).outcome
by_level levels d sizes e sight f found h s p =
    p
    ∙ ap (λ x. kept_outcome (shape_worth d sizes (kept_at (levels - 1) d sizes) x sight)) (sym (ap out-Shape s ∙ out-roll-Shape f))
    ∙ sym (one_level levels d sizes e sight h)

-- a part that has a value, and what is made of it
pub part_ok : (one : Worth Thing) (thing : Thing) (next : Thing → Worth Thing) → Ok thing ≡ one.outcome → kept_outcome (next thing) ≡ kept_outcome (one >>= next)
part_ok one thing next e = ap (λ r. (continued (continued r next).outcome kept).outcome) e

-- the branch that is taken
pub branch_ok : (worth : Worths) (c a b : Expr) (sight : Sight) (n : ℤ) (holds : Bool) (found : Result Thing EvalFault) → Ok n ≡ (number (worth c sight)).outcome → holds ≡ not (int_eq n (pos 0)) → found ≡ kept_outcome (branch worth holds a b sight) → found ≡ kept_outcome (truth (worth c sight) >>= (λ holds. branch worth holds a b sight))
branch_ok worth c a b sight n holds found e t p =
    p
    ∙ ap (λ k. kept_outcome (branch worth k a b sight)) t
    ∙ ap (λ (r : Result ℤ EvalFault). (continued (continued (continued r (λ n. done (not (int_eq n (pos 0))))).outcome (λ holds. branch worth holds a b sight)).outcome kept).outcome) e

pub taken : (levels : ℕ) (d : Description) (sizes : Meant → Node → ℕ) (e : Expr) (sight : Sight) (found : Result Thing EvalFault) → found ≡ (kept_at levels d sizes e sight).outcome → found ≡ kept_outcome (kept_at levels d sizes e sight)
taken levels d sizes e sight found p = p ∙ sym (kept_twice levels d sizes e sight)
