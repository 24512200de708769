-- The one that is told is the first of all, and the only first one.
use Rattle.std.proofs.Common.{◌≡◌, ℕ, ◌+◌, ◌*◌, ◌<◌, Bool, true, false, ◌&&◌, ◌||◌, not, ◌⊎◌, inl, inr, List, [], ◌∷◌, Option, Some, None, refl, sym, ap, subst, ◌∙◌, arith, lit<}
use Rattle.std.proofs.lemmas.Bool.Decides.{nat_tests}
use Rattle.std.specs.Prelude.{if◌then◌else◌, nat_lt, slice_get}
use Rattle.mspec_tree.specs.declared.words.Place.{Place}
use Rattle.mspec_expr.specs.declared.kinds.ExprWhy.{ExprWhy}
use Rattle.mspec_expr.specs.declared.kinds.ExprWhy.TheVariants.{TooWide, DivisorMayBeZero, OperandRange, UnknownName, KindMismatch}
use Rattle.mspec_expr.specs.Ranges.{place_before}
use Rattle.mspec_rules.specs.declared.wrongs.Rule.{Rule}
use Rattle.mspec_rules.specs.declared.wrongs.Rule.TheVariants as rules
use Rattle.mspec_rules.specs.declared.wrongs.CheckWhy.{CheckWhy}
use Rattle.mspec_rules.specs.declared.wrongs.CheckWhy.TheVariants as whys
use Rattle.mspec_rules.specs.declared.wrongs.Wrong.{Wrong}
use Rattle.mspec_rules.specs.Wrongs.{IsAmong, IsFirst, before, earlier, found, number, rank, word}
use Rattle.mspec_rules.specs.Found.{before_not, before_on}

-- ---- two of which neither stands before the other are one

same_line : (a b : Place) → place_before a b ≡ false → place_before b a ≡ false → a.line ≡ b.line
same_line a b h k = grind (arith, nat_tests)

same_column : (a b : Place) → place_before a b ≡ false → place_before b a ≡ false → a.column ≡ b.column
same_column a b h k = grind (arith, nat_tests)

same_place : (a b : Place) → place_before a b ≡ false → place_before b a ≡ false → a ≡ b
same_place a b h k =
    let make : ℕ → ℕ → Place = λ l c. record { line = l; column = c } in
    ap (λ l. make l a.column) (same_line a b h k) ∙ ap (λ c. make b.line c) (same_column a b h k)

all_rules : List Rule
all_rules =
    rules.Names ∷ rules.Names ∷ rules.Types ∷ rules.Widths ∷ rules.Orders ∷ rules.Literals ∷ rules.Switches ∷ rules.Keys ∷ rules.Arguments
    ∷ rules.Scopes ∷ rules.Paddings ∷ rules.Kinds ∷ rules.Ranges ∷ rules.Limits ∷ []

rule_there : (of : Rule) → slice_get all_rules (number of) ≡ Some of
unfolding all_rules
rule_there rules.Names = refl
rule_there rules.Types = refl
rule_there rules.Widths = refl
rule_there rules.Orders = refl
rule_there rules.Literals = refl
rule_there rules.Switches = refl
rule_there rules.Keys = refl
rule_there rules.Arguments = refl
rule_there rules.Scopes = refl
rule_there rules.Paddings = refl
rule_there rules.Kinds = refl
rule_there rules.Ranges = refl
rule_there rules.Limits = refl

same_rule : (a b : Rule) → number a ≡ number b → a ≡ b
same_rule a b e =
    let one = rule_there a in
    let other = rule_there b in
    let both : slice_get all_rules (number a) ≡ slice_get all_rules (number b) = ap (slice_get all_rules) e in
    cc

all_words : List CheckWhy
all_words =
    whys.Expr TooWide ∷ whys.Expr DivisorMayBeZero ∷ whys.Expr OperandRange ∷ whys.Expr UnknownName ∷ whys.Expr KindMismatch
    ∷ whys.DoubledName ∷ whys.UnknownType ∷ whys.WidthRange ∷ whys.LittleWidth ∷ whys.ConstRange ∷ whys.SwitchCount ∷ whys.CaseKey
    ∷ whys.Arguments ∷ whys.PaddingScope ∷ whys.Limit ∷ []

word_there : (why : CheckWhy) → slice_get all_words (word why) ≡ Some why
unfolding all_words
word_there (whys.Expr TooWide) = refl
word_there (whys.Expr DivisorMayBeZero) = refl
word_there (whys.Expr OperandRange) = refl
word_there (whys.Expr UnknownName) = refl
word_there (whys.Expr KindMismatch) = refl
word_there whys.DoubledName = refl
word_there whys.UnknownType = refl
word_there whys.WidthRange = refl
word_there whys.LittleWidth = refl
word_there whys.ConstRange = refl
word_there whys.SwitchCount = refl
word_there whys.CaseKey = refl
word_there whys.Arguments = refl
word_there whys.PaddingScope = refl
word_there whys.Limit = refl

word_small : (why : CheckWhy) → word why < 16
word_small (whys.Expr TooWide) = lit< tt
word_small (whys.Expr DivisorMayBeZero) = lit< tt
word_small (whys.Expr OperandRange) = lit< tt
word_small (whys.Expr UnknownName) = lit< tt
word_small (whys.Expr KindMismatch) = lit< tt
word_small whys.DoubledName = lit< tt
word_small whys.UnknownType = lit< tt
word_small whys.WidthRange = lit< tt
word_small whys.LittleWidth = lit< tt
word_small whys.ConstRange = lit< tt
word_small whys.SwitchCount = lit< tt
word_small whys.CaseKey = lit< tt
word_small whys.Arguments = lit< tt
word_small whys.PaddingScope = lit< tt
word_small whys.Limit = lit< tt

same_word : (a b : CheckWhy) → word a ≡ word b → a ≡ b
same_word a b e =
    let one = word_there a in
    let other = word_there b in
    let both : slice_get all_words (word a) ≡ slice_get all_words (word b) = ap (slice_get all_words) e in
    cc

-- by their places, each way, and their ranks
not_by_place : (on back : Bool) (p q : ℕ) → (on || not back && nat_lt p q) ≡ false → on ≡ false
not_by_place true back p q h = absurd (cc)
not_by_place false back p q h = refl

same_rank : (on back : Bool) (p q : ℕ) → on ≡ false → back ≡ false → (on || not back && nat_lt p q) ≡ false → (back || not on && nat_lt q p) ≡ false → p ≡ q
same_rank true back p q o b h k = absurd (cc)
same_rank false true p q o b h k = absurd (cc)
same_rank false false p q o b h k = grind (arith, nat_tests)

same_wrong : (a b : Wrong) → before a b ≡ false → before b a ≡ false → a ≡ b
same_wrong a b h k =
    let on = not_by_place (place_before a.place b.place) (place_before b.place a.place) (rank a) (rank b) h in
    let back = not_by_place (place_before b.place a.place) (place_before a.place b.place) (rank b) (rank a) k in
    let ranks : 16 * number a.rule + word a.why ≡ 16 * number b.rule + word b.why = same_rank (place_before a.place b.place) (place_before b.place a.place) (rank a) (rank b) on back h k in
    let one = word_small a.why in
    let other = word_small b.why in
    let rule : number a.rule ≡ number b.rule = omega arith in
    let why : word a.why ≡ word b.why = omega arith in
    let make : Place → Rule → CheckWhy → Wrong = λ p r w. record { place = p; rule = r; why = w } in
    ap (λ p. make p a.rule a.why) (same_place a.place b.place on back)
    ∙ ap (λ r. make b.place r a.why) (same_rule a.rule b.rule rule)
    ∙ ap (λ w. make b.place b.rule w) (same_word a.why b.why why)

-- ---- none stands before itself, nor two before each other

place_self : (p : Place) → place_before p p ≡ false
place_self p = grind (arith, nat_tests)

before_self : (a : Wrong) → before a a ≡ false
before_self a = go (place_before a.place a.place) (place_self a.place)
  where
    go : (on : Bool) → on ≡ false → (on || not on && nat_lt (rank a) (rank a)) ≡ false
    go true e = absurd (cc)
    go false e = grind (arith, nat_tests)

not_both : (a b : Wrong) → before a b ≡ true → before b a ≡ false
not_both a b h = by_test (before b a) refl
  where
    by_test : (test : Bool) → before b a ≡ test → before b a ≡ false
    by_test false e = e
    by_test true e = absurd (let on = before_on a b a e h in let self = before_self a in cc)

-- ---- the first

pub none_found : (wrongs : List Wrong) → found wrongs ≡ None → wrongs ≡ []
none_found [] e = refl
none_found (wrong ∷ wrongs) e = absurd (some (found wrongs) e)
  where
    some : (other : Option Wrong) → earlier (Some wrong) other ≡ None → ⊥
    some None h = cc
    some (Some found) h = cc

-- one before which none of the rest stands, and one of the rest before it
first_here : (wrong : Wrong) (wrongs : List Wrong) → ((other : Wrong) → IsAmong other wrongs → before other wrong ≡ false) → IsFirst wrong (wrong ∷ wrongs)
first_here wrong wrongs h = record { among = inl refl; none_before = none }
  where
    none : (other : Wrong) → IsAmong other (wrong ∷ wrongs) → before other wrong ≡ false
    none other (inl e) = subst (λ (w : Wrong). before w wrong ≡ false) (sym e) (before_self wrong)
    none other (inr a) = h other a

first_there : (wrong told : Wrong) (wrongs : List Wrong) → before told wrong ≡ true → IsFirst told wrongs → IsFirst told (wrong ∷ wrongs)
first_there wrong told wrongs b f = record { among = inr f.among; none_before = none }
  where
    none : (other : Wrong) → IsAmong other (wrong ∷ wrongs) → before other told ≡ false
    none other (inl e) = subst (λ (w : Wrong). before w told ≡ false) (sym e) (not_both told wrong b)
    none other (inr a) = f.none_before other a

pub first_found : (told : Wrong) (wrongs : List Wrong) → found wrongs ≡ Some told → IsFirst told wrongs
first_found told [] e = absurd (cc)
first_found told (wrong ∷ wrongs) e = go (λ next p. first_found next wrongs p) (found wrongs) refl
  where
    go : ((next : Wrong) → found wrongs ≡ Some next → IsFirst next wrongs) → (rest : Option Wrong) → found wrongs ≡ rest → IsFirst told (wrong ∷ wrongs)
    go under None p =
        let same : wrong ≡ told = let here = ap (earlier (Some wrong)) p in cc in
        let empty = none_found wrongs p in
        subst (λ (w : Wrong). IsFirst w (wrong ∷ wrongs)) same
        (first_here wrong wrongs (λ other a. absurd (subst (λ (l : List Wrong). IsAmong other l) empty a)))
    go under (Some next) p = by_test (before next wrong) refl
      where
        by_test : (test : Bool) → before next wrong ≡ test → IsFirst told (wrong ∷ wrongs)
        by_test true b =
            let same : next ≡ told = let here = ap (earlier (Some wrong)) p in let picked : earlier (Some wrong) (Some next) ≡ Some next = ap (λ t. Some (if t then next else wrong)) b in cc in
            subst (λ (w : Wrong). IsFirst w (wrong ∷ wrongs)) same (first_there wrong next wrongs b (under next p))
        by_test false b =
            let same : wrong ≡ told = let here = ap (earlier (Some wrong)) p in let picked : earlier (Some wrong) (Some next) ≡ Some wrong = ap (λ t. Some (if t then next else wrong)) b in cc in
            let rest = under next p in
            subst (λ (w : Wrong). IsFirst w (wrong ∷ wrongs)) same (first_here wrong wrongs (λ other a. before_not wrong next other b (rest.none_before other a)))

pub only_found : (told : Wrong) (wrongs : List Wrong) → IsFirst told wrongs → found wrongs ≡ Some told
only_found told wrongs f = go (found wrongs) refl
  where
    go : (other : Option Wrong) → found wrongs ≡ other → found wrongs ≡ Some told
    go None p = absurd (subst (λ (l : List Wrong). IsAmong told l) (none_found wrongs p) f.among)
    go (Some next) p =
        let rest = first_found next wrongs p in
        p ∙ ap Some (same_wrong next told (f.none_before next rest.among) (rest.none_before told f.among))
