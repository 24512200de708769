-- An expression is worth the same at each depth that is enough for it.
use Rattle.std.proofs.Common.{◌≡◌, ℕ, zero, suc, ◌≤◌, max, Bool, true, false, not, Result, Ok, Err, refl, ap, ◌∙◌, arith}
use Rattle.std.specs.Prelude.{pos, neg_ℤ}
use Rattle.std.specs.Ordering.{int_eq}
use Rattle.node_tree.specs.declared.nodes.Node.{Node}
use Rattle.mspec_tree.specs.declared.words.Op.{Op}
use Rattle.mspec_tree.specs.declared.words.Op.TheVariants as op
use Rattle.mspec_tree.specs.declared.defs.Description.{Description}
use Rattle.mspec_expr.specs.declared.kinds.Meant.{Meant}
use Rattle.mspec_expr.specs.Counted.{Counted, counted, continued, done, ◌>>=◌}
use Rattle.mspec_expr.specs.Values.{Thing, Number as NumberThing, Sight, Worth, Worths, number, truth, flag, reckoned, both, or_second, and_second, equal, two, branch, is_null, thing_is_absent, thing_count, thing_bits, bytes_over, dotted, cast, shape_worth, worth_at}
use Rattle.mspec_tree.specs.Depth.{depth, shape_depth}
use Rattle.mspec_tree.specs.declared.exprs.Expr.{Expr, out-Expr, fold-Expr, fold_out-Expr}
use Rattle.mspec_tree.specs.declared.exprs.Shape.{Shape, out-Shape, fold-Shape, fold_out-Shape}
use Rattle.mspec_tree.specs.declared.exprs.Shape.TheOpen.{Shape-F}

-- the depth of one layer, by those of its operands
layer_depth : Shape-F Shape Expr → ℕ
layer_depth (Shape-F.Dot of name) = suc (depth of)
layer_depth (Shape-F.LengthOf of) = suc (depth of)
layer_depth (Shape-F.Count of) = suc (depth of)
layer_depth (Shape-F.Cast of name) = suc (depth of)
layer_depth (Shape-F.Not of) = suc (depth of)
layer_depth (Shape-F.Neg of) = suc (depth of)
layer_depth (Shape-F.Two o a b) = suc (max (depth a) (depth b))
layer_depth (Shape-F.If c a b) = suc (max (depth c) (max (depth a) (depth b)))
layer_depth other = 1

depth_is : (e : Expr) → depth e ≡ layer_depth (out-Shape (out-Expr e).shape)
unfolding layer_depth
depth_is e =
    fold_out-Expr ℕ ℕ shape_depth (λ layer. layer.shape) e
    ∙ fold_out-Shape ℕ ℕ shape_depth (λ layer. layer.shape) (out-Expr e).shape
    ∙ go (out-Shape (out-Expr e).shape)
  where
    go : (s : Shape-F Shape Expr) → shape_depth (Rattle.mspec_tree.specs.declared.exprs.Shape.map-Shape Shape Expr ℕ ℕ (fold-Shape ℕ ℕ shape_depth (λ layer. layer.shape)) (fold-Expr ℕ ℕ shape_depth (λ layer. layer.shape)) s) ≡ layer_depth s
    go (Shape-F.Dot of name) = refl
    go (Shape-F.LengthOf of) = refl
    go (Shape-F.Count of) = refl
    go (Shape-F.Cast of name) = refl
    go (Shape-F.Not of) = refl
    go (Shape-F.Neg of) = refl
    go (Shape-F.Two o a b) = refl
    go (Shape-F.If c a b) = refl
    go (Shape-F.Lit value) = refl
    go (Shape-F.Name name) = refl
    go Shape-F.Null = refl
    go Shape-F.CurPos = refl
    go Shape-F.Length = refl
    go Shape-F.LastItem = refl
    go Shape-F.SumBytes = refl
    go Shape-F.XorBytes = refl

some_depth : (s : Shape-F Shape Expr) → 1 ≤ layer_depth s
unfolding layer_depth
some_depth (Shape-F.Dot of name) = omega arith
some_depth (Shape-F.LengthOf of) = omega arith
some_depth (Shape-F.Count of) = omega arith
some_depth (Shape-F.Cast of name) = omega arith
some_depth (Shape-F.Not of) = omega arith
some_depth (Shape-F.Neg of) = omega arith
some_depth (Shape-F.Two o a b) = omega arith
some_depth (Shape-F.If c a b) = omega arith
some_depth (Shape-F.Lit value) = omega arith
some_depth (Shape-F.Name name) = omega arith
some_depth Shape-F.Null = omega arith
some_depth Shape-F.CurPos = omega arith
some_depth Shape-F.Length = omega arith
some_depth Shape-F.LastItem = omega arith
some_depth Shape-F.SumBytes = omega arith
some_depth Shape-F.XorBytes = omega arith

not_none : {X : Type 0} (e : Expr) → depth e ≤ 0 → X
not_none e h = absurd (omega (arith, h, depth_is e, some_depth (out-Shape (out-Expr e).shape)))

-- ---- operators over operands that are worth the same

both_same : (one other : Worths) (o : Op) (a b : Expr) (sight : Sight) → one a sight ≡ other a sight → one b sight ≡ other b sight → both one o a b sight ≡ both other o a b sight
both_same one other o a b sight p q =
    ap (λ (w : Worth Thing). number w >>= (λ x. number (one b sight) >>= (λ y. done (NumberThing (reckoned o x y))))) p
    ∙ ap (λ (w : Worth Thing). number (other a sight) >>= (λ x. number w >>= (λ y. done (NumberThing (reckoned o x y))))) q

or_same : (one other : Worths) (first : Bool) (b : Expr) (sight : Sight) → one b sight ≡ other b sight → or_second one first b sight ≡ or_second other first b sight
or_same one other true b sight q = refl
or_same one other false b sight q = ap (λ (w : Worth Thing). truth w >>= flag) q

and_same : (one other : Worths) (first : Bool) (b : Expr) (sight : Sight) → one b sight ≡ other b sight → and_second one first b sight ≡ and_second other first b sight
and_same one other true b sight q = ap (λ (w : Worth Thing). truth w >>= flag) q
and_same one other false b sight q = refl

-- what comes behind is the same
behind : {A B F : Type 0} (one : Counted A F) (next after : A → Counted B F) → ((x : A) → next x ≡ after x) → one >>= next ≡ one >>= after
behind {A} {B} {F} one next after h = go one.outcome
  where
    go : (r : Result A F) → counted one.parts (continued r next) ≡ counted one.parts (continued r after)
    go (Ok x) = ap (counted one.parts) (h x)
    go (Err f) = refl

equal_same : (one other : Worths) (left right : Bool) (a b : Expr) (sight : Sight) → one a sight ≡ other a sight → one b sight ≡ other b sight → equal one left right a b sight ≡ equal other left right a b sight
equal_same one other true right a b sight p q = ap (λ (w : Worth Thing). counted 1 (w >>= (λ thing. done (thing_is_absent thing)))) q
equal_same one other false true a b sight p q = ap (λ (w : Worth Thing). counted 1 (w >>= (λ thing. done (thing_is_absent thing)))) p
equal_same one other false false a b sight p q =
    ap (λ (w : Worth Thing). number w >>= (λ x. number (one b sight) >>= (λ y. done (int_eq x y)))) p
    ∙ ap (λ (w : Worth Thing). number (other a sight) >>= (λ x. number w >>= (λ y. done (int_eq x y)))) q

two_same : (one other : Worths) (o : Op) (a b : Expr) (sight : Sight) → one a sight ≡ other a sight → one b sight ≡ other b sight → two one o a b sight ≡ two other o a b sight
two_same one other op.Or a b sight p q =
    ap (λ (w : Worth Thing). truth w >>= (λ first. or_second one first b sight)) p
    ∙ behind (truth (other a sight)) (λ first. or_second one first b sight) (λ first. or_second other first b sight) (λ first. or_same one other first b sight q)
two_same one other op.And a b sight p q =
    ap (λ (w : Worth Thing). truth w >>= (λ first. and_second one first b sight)) p
    ∙ behind (truth (other a sight)) (λ first. and_second one first b sight) (λ first. and_second other first b sight) (λ first. and_same one other first b sight q)
two_same one other op.Eq a b sight p q = ap (λ (w : Worth Bool). w >>= flag) (equal_same one other (is_null a) (is_null b) a b sight p q)
two_same one other op.Ne a b sight p q =
    ap (λ (w : Worth Bool). w >>= (λ same. flag (not same))) (equal_same one other (is_null a) (is_null b) a b sight p q)
two_same one other op.Lt a b sight p q = both_same one other op.Lt a b sight p q
two_same one other op.Le a b sight p q = both_same one other op.Le a b sight p q
two_same one other op.Gt a b sight p q = both_same one other op.Gt a b sight p q
two_same one other op.Ge a b sight p q = both_same one other op.Ge a b sight p q
two_same one other op.Add a b sight p q = both_same one other op.Add a b sight p q
two_same one other op.Sub a b sight p q = both_same one other op.Sub a b sight p q
two_same one other op.Mul a b sight p q = both_same one other op.Mul a b sight p q
two_same one other op.Div a b sight p q = both_same one other op.Div a b sight p q
two_same one other op.Rem a b sight p q = both_same one other op.Rem a b sight p q
two_same one other op.BitAnd a b sight p q = both_same one other op.BitAnd a b sight p q
two_same one other op.BitOr a b sight p q = both_same one other op.BitOr a b sight p q
two_same one other op.Shl a b sight p q = both_same one other op.Shl a b sight p q
two_same one other op.Shr a b sight p q = both_same one other op.Shr a b sight p q

branch_same : (one other : Worths) (holds : Bool) (a b : Expr) (sight : Sight) → one a sight ≡ other a sight → one b sight ≡ other b sight → branch one holds a b sight ≡ branch other holds a b sight
branch_same one other true a b sight p q = p
branch_same one other false a b sight p q = q

shape_same : (d : Description) (sizes : Meant → Node → ℕ) (one other : Worths) (s : Shape-F Shape Expr) (sight : Sight) (n m : ℕ) → layer_depth s ≤ suc n → layer_depth s ≤ suc m → ((a : Expr) → depth a ≤ n → depth a ≤ m → one a sight ≡ other a sight) → shape_worth d sizes one s sight ≡ shape_worth d sizes other s sight
unfolding layer_depth
shape_same d sizes one other (Shape-F.Dot a name) sight n m h k same =
    ap (λ (w : Worth Thing). w >>= dotted d name) (same a (omega (arith, h)) (omega (arith, k)))
shape_same d sizes one other (Shape-F.LengthOf a) sight n m h k same =
    ap (λ (w : Worth Thing). w >>= (λ thing. done (NumberThing (pos (bytes_over (thing_bits sizes thing)))))) (same a (omega (arith, h)) (omega (arith, k)))
shape_same d sizes one other (Shape-F.Count a) sight n m h k same =
    ap (λ (w : Worth Thing). w >>= thing_count >>= (λ c. done (NumberThing (pos c)))) (same a (omega (arith, h)) (omega (arith, k)))
shape_same d sizes one other (Shape-F.Cast a name) sight n m h k same =
    ap (λ (w : Worth Thing). w >>= cast d name) (same a (omega (arith, h)) (omega (arith, k)))
shape_same d sizes one other (Shape-F.Not a) sight n m h k same =
    ap (λ (w : Worth Thing). truth w >>= (λ holds. flag (not holds))) (same a (omega (arith, h)) (omega (arith, k)))
shape_same d sizes one other (Shape-F.Neg a) sight n m h k same =
    ap (λ (w : Worth Thing). number w >>= (λ x. done (NumberThing (neg_ℤ x)))) (same a (omega (arith, h)) (omega (arith, k)))
shape_same d sizes one other (Shape-F.Two o a b) sight n m h k same =
    two_same one other o a b sight (same a (omega (arith, h)) (omega (arith, k))) (same b (omega (arith, h)) (omega (arith, k)))
shape_same d sizes one other (Shape-F.If c a b) sight n m h k same =
    let p = same a (omega (arith, h)) (omega (arith, k)) in
    let q = same b (omega (arith, h)) (omega (arith, k)) in
    ap (λ (w : Worth Thing). truth w >>= (λ holds. branch one holds a b sight)) (same c (omega (arith, h)) (omega (arith, k)))
    ∙ behind (truth (other c sight)) (λ holds. branch one holds a b sight) (λ holds. branch other holds a b sight) (λ holds. branch_same one other holds a b sight p q)
shape_same d sizes one other (Shape-F.Lit value) sight n m h k same = refl
shape_same d sizes one other (Shape-F.Name name) sight n m h k same = refl
shape_same d sizes one other Shape-F.Null sight n m h k same = refl
shape_same d sizes one other Shape-F.CurPos sight n m h k same = refl
shape_same d sizes one other Shape-F.Length sight n m h k same = refl
shape_same d sizes one other Shape-F.LastItem sight n m h k same = refl
shape_same d sizes one other Shape-F.SumBytes sight n m h k same = refl
shape_same d sizes one other Shape-F.XorBytes sight n m h k same = refl

pub same_worth : (d : Description) (sizes : Meant → Node → ℕ) (e : Expr) (sight : Sight) (n m : ℕ) → depth e ≤ n → depth e ≤ m → worth_at n d sizes e sight ≡ worth_at m d sizes e sight
same_worth d sizes e sight zero m h k = not_none e h
same_worth d sizes e sight (suc n) zero h k = not_none e k
same_worth d sizes e sight (suc n) (suc m) h k =
    ap (counted 1)
    (shape_same d sizes (worth_at n d sizes) (worth_at m d sizes) (out-Shape (out-Expr e).shape) sight n m
    (omega (arith, h, depth_is e)) (omega (arith, k, depth_is e)) (λ a p q. same_worth d sizes a sight n m p q))
