-- Names that stand twice.
use Rattle.std.proofs.Common.{◌≡◌, ℕ, suc, ◌+◌, ◌<◌, ◌≤◌, Bool, true, false, ◌&&◌, ◌||◌, List, [], ◌∷◌, ◌++◌, length, take, drop, get_or, Option, Some, None, refl, sym, ap, ◌∙◌, arith, append-nil, append_assoc}
use Rattle.std.proofs.lemmas.List.Folds.{list_any-append}
use Rattle.std.proofs.lemmas.List.{take_more}
use Rattle.std.proofs.lemmas.List.Concat.{flat_map-append}
use Rattle.std.proofs.lemmas.List.{length-take-le}
use Rattle.std.specs.Str.{bytes_eq}
use Rattle.mspec_tree.specs.declared.fields.Case.{Case, out-Case}
use Rattle.mspec_tree.specs.declared.fields.Field.{Field}
use Rattle.mspec_tree.specs.declared.defs.Param.{Param}
use Rattle.std.specs.Prelude.{map}
use Rattle.std.specs.List.{flat_map, list_any}
use Rattle.mspec_tree.specs.declared.words.Place.{Place}
use Rattle.mspec_rules.specs.declared.wrongs.Wrong.{Wrong}
use Rattle.mspec_rules.specs.declared.wrongs.Rule.TheVariants.{Names}
use Rattle.mspec_rules.specs.declared.wrongs.CheckWhy.TheVariants.{DoubledName}
use Rattle.mspec_rules.specs.Wrongs.{earlier, found, matters, wrong, wrong_if}
use Rattle.mspec_rules.specs.Found.{earlier_none, found_then, from_here, none_here, unmattering}
use Rattle.mspec_rules.specs.Names.{Named, cases_names, clashes, doubled, entry_names, field_names, named, param_names}
use Rattle.mspec_rules.specs.declared.names.Front.{Front}
use Rattle.mspec_rules.specs.Fronts.{front_names}

-- ---- lists of names

pub any_map : {A B : Type 0} (p : B → Bool) (f : A → B) (xs : List A) → list_any p (map f xs) ≡ list_any (λ x. p (f x)) xs
any_map p f [] = refl
any_map p f (x ∷ xs) = ap (λ b. p (f x) || b) (any_map p f xs)

pub any_flat : {A B : Type 0} (p : B → Bool) (f : A → List B) (xs : List A) → list_any p (flat_map f xs) ≡ list_any (λ x. list_any p (f x)) xs
any_flat p f [] = refl
any_flat p f (x ∷ xs) = list_any-append p (f x) (flat_map f xs) ∙ ap (λ b. list_any p (f x) || b) (any_flat p f xs)

-- two lists, one behind the other
pub doubled-append : (before xs ys : List Named) → doubled before (xs ++ ys) ≡ doubled before xs ++ doubled (before ++ xs) ys
doubled-append before [] ys = ap (λ b. doubled b ys) (sym (append-nil before))
doubled-append before (x ∷ xs) ys =
    ap (λ l. wrong_if (list_any (clashes x.name x.case) before) x.place Names DoubledName ++ l) (doubled-append (before ++ x ∷ []) xs ys)
    ∙ sym (append_assoc (wrong_if (list_any (clashes x.name x.case) before) x.place Names DoubledName) (doubled (before ++ x ∷ []) xs) (doubled ((before ++ x ∷ []) ++ xs) ys))
    ∙ ap (λ b. wrong_if (list_any (clashes x.name x.case) before) x.place Names DoubledName ++ doubled (before ++ x ∷ []) xs ++ doubled b ys) (append_assoc before (x ∷ []) xs)

-- the names of one item more
pub taken_more : {A : Type 0} (names : A → List Named) (items : List A) (i : ℕ) (item : A) → i < length items → item ≡ get_or items i item
    → flat_map names (take (i + 1) items) ≡ flat_map names (take i items) ++ names item
taken_more names items i item h e =
    ap (flat_map names) (take_more items i item h)
    ∙ flat_map-append names (take i items) (get_or items i item ∷ [])
    ∙ ap (λ l. flat_map names (take i items) ++ l) (append-nil (names (get_or items i item)))
    ∙ ap (λ x. flat_map names (take i items) ++ names x) (sym e)

-- one part was gone over, and the rest is left
pub doubled_more : (first next : Option Wrong) (before xs ys behind : List Named)
    → next ≡ earlier first (found (doubled before xs)) → behind ≡ before ++ xs
    → earlier first (found (doubled before (xs ++ ys))) ≡ earlier next (found (doubled behind ys))
doubled_more first next before xs ys behind n b =
    ap (λ l. earlier first (found l)) (doubled-append before xs ys)
    ∙ sym (found_then first (doubled before xs) (doubled (before ++ xs) ys))
    ∙ ap (λ o. earlier o (found (doubled (before ++ xs) ys))) (sym n)
    ∙ ap (λ l. earlier next (found (doubled l ys))) (sym b)

-- the same in a list of things, each of which has names
pub flat_more : {A : Type 0} (names : A → List Named) (first next : Option Wrong) (before : List Named) (items : List A) (i : ℕ) (item : A)
    → i < length items → item ≡ get_or items i item
    → next ≡ earlier first (found (doubled (before ++ flat_map names (take i items)) (names item)))
    → earlier first (found (doubled (before ++ flat_map names (take i items)) (flat_map names (drop i items))))
    ≡ earlier next (found (doubled (before ++ flat_map names (take (i + 1) items)) (flat_map names (drop (i + 1) items))))
flat_more names first next before items i item h e n =
    ap (λ l. earlier first (found (doubled (before ++ flat_map names (take i items)) (flat_map names l)))) (from_here items i item h e)
    ∙ doubled_more first next (before ++ flat_map names (take i items)) (names item) (flat_map names (drop (i + 1) items)) (before ++ flat_map names (take (i + 1) items)) n
    (ap (λ l. before ++ l) (taken_more names items i item h e) ∙ sym (append_assoc before (flat_map names (take i items)) (names item)))

pub flat_all : {A : Type 0} (names : A → List Named) (first : Option Wrong) (before : List Named) (items : List A) (i : ℕ) → length items ≤ i
    → earlier first (found (doubled before (flat_map names (drop i items)))) ≡ first
flat_all names first before items i h =
    ap (λ l. earlier first (found (doubled before (flat_map names l)))) (none_here items i h) ∙ earlier_none first

-- ---- the cases of a switch, by their numbers

cases-append : (case : ℕ) (xs ys : List Case) → cases_names case (xs ++ ys) ≡ cases_names case xs ++ cases_names (case + length xs) ys
cases-append case [] ys = ap (λ n. cases_names n ys) (omega arith)
cases-append case (x ∷ xs) ys =
    let next : suc case + length xs ≡ case + length (x ∷ xs) = omega arith in
    ap (λ l. flat_map (field_names case) (out-Case x).fields ++ l) (cases-append (suc case) xs ys ∙ ap (λ n. cases_names (suc case) xs ++ cases_names n ys) next)
    ∙ sym (append_assoc (flat_map (field_names case) (out-Case x).fields) (cases_names (suc case) xs) (cases_names (case + length (x ∷ xs)) ys))

-- the names of one case more
cases_taken : (cases : List Case) (i : ℕ) (case : Case) → i < length cases → case ≡ get_or cases i case
    → cases_names 1 (take (i + 1) cases) ≡ cases_names 1 (take i cases) ++ flat_map (field_names (i + 1)) (out-Case case).fields
cases_taken cases i case h e =
    let count : 1 + length (take i cases) ≡ i + 1 = omega (arith, length-take-le i cases (omega arith)) in
    ap (cases_names 1) (take_more cases i case h)
    ∙ cases-append 1 (take i cases) (get_or cases i case ∷ [])
    ∙ ap (λ l. cases_names 1 (take i cases) ++ l) (append-nil (flat_map (field_names (1 + length (take i cases))) (out-Case (get_or cases i case)).fields))
    ∙ ap (λ n. cases_names 1 (take i cases) ++ flat_map (field_names n) (out-Case (get_or cases i case)).fields) count
    ∙ ap (λ x. cases_names 1 (take i cases) ++ flat_map (field_names (i + 1)) (out-Case x).fields) (sym e)

-- the cases from one on
pub cases_from : (cases : List Case) (i : ℕ) (case : Case) → i < length cases → case ≡ get_or cases i case
    → cases_names (i + 1) (drop i cases) ≡ flat_map (field_names (i + 1)) (out-Case case).fields ++ cases_names (i + 1 + 1) (drop (i + 1) cases)
cases_from cases i case h e =
    let next : suc (i + 1) ≡ i + 1 + 1 = omega arith in
    ap (cases_names (i + 1)) (from_here cases i case h e)
    ∙ ap (λ n. flat_map (field_names (i + 1)) (out-Case case).fields ++ cases_names n (drop (i + 1) cases)) next

-- one case was gone over, and the rest is left
pub cases_more : (first next : Option Wrong) (before : List Named) (cases : List Case) (i : ℕ) (case : Case)
    → i < length cases → case ≡ get_or cases i case
    → next ≡ earlier first (found (doubled (before ++ cases_names 1 (take i cases)) (flat_map (field_names (i + 1)) (out-Case case).fields)))
    → earlier first (found (doubled (before ++ cases_names 1 (take i cases)) (cases_names (i + 1) (drop i cases))))
    ≡ earlier next (found (doubled (before ++ cases_names 1 (take (i + 1) cases)) (cases_names (i + 1 + 1) (drop (i + 1) cases))))
cases_more first next before cases i case h e n =
    ap (λ l. earlier first (found (doubled (before ++ cases_names 1 (take i cases)) l))) (cases_from cases i case h e)
    ∙ doubled_more first next (before ++ cases_names 1 (take i cases)) (flat_map (field_names (i + 1)) (out-Case case).fields) (cases_names (i + 1 + 1) (drop (i + 1) cases)) (before ++ cases_names 1 (take (i + 1) cases)) n
    (ap (λ l. before ++ l) (cases_taken cases i case h e) ∙ sym (append_assoc before (cases_names 1 (take i cases)) (flat_map (field_names (i + 1)) (out-Case case).fields)))

-- whether one of the cases from one on has a name that passes a test
pub any_case : (p : Named → Bool) (cases : List Case) (i : ℕ) (case : Case) (has : Bool) → i < length cases → case ≡ get_or cases i case
    → has ≡ list_any (λ field. list_any p (field_names (i + 1) field)) (out-Case case).fields
    → list_any p (cases_names (i + 1) (drop i cases)) ≡ (has || list_any p (cases_names (i + 1 + 1) (drop (i + 1) cases)))
any_case p cases i case has h e b =
    ap (list_any p) (cases_from cases i case h e)
    ∙ list_any-append p (flat_map (field_names (i + 1)) (out-Case case).fields) (cases_names (i + 1 + 1) (drop (i + 1) cases))
    ∙ ap (λ t. t || list_any p (cases_names (i + 1 + 1) (drop (i + 1) cases))) (any_flat p (field_names (i + 1)) (out-Case case).fields ∙ sym b)

-- whether something before a field has a name
pub any_taken : (name : List ℕ) (front : Front) (own : List Field)
    → list_any (clashes name front.case) (front_names front ++ flat_map (field_names front.case) own)
    ≡ (list_any (λ (param : Param). bytes_eq param.name name) front.params.now
    || list_any (λ field. list_any (clashes name front.case) (entry_names field)) front.fields.now
    || list_any (clashes name front.case) (cases_names 1 front.cases.now)
    || list_any (λ field. list_any (clashes name front.case) (field_names front.case field)) own)
any_taken name front own =
    let p = clashes name front.case in
    list_any-append p (front_names front) (flat_map (field_names front.case) own)
    ∙ ap (λ b. b || list_any p (flat_map (field_names front.case) own)) (list_any-append p (param_names front.params.now ++ flat_map entry_names front.fields.now) (cases_names 1 front.cases.now))
    ∙ ap (λ b. b || list_any p (cases_names 1 front.cases.now) || list_any p (flat_map (field_names front.case) own)) (list_any-append p (param_names front.params.now) (flat_map entry_names front.fields.now))
    ∙ ap (λ b. b || list_any p (flat_map entry_names front.fields.now) || list_any p (cases_names 1 front.cases.now) || list_any p (flat_map (field_names front.case) own)) (any_map p (λ (param : Param). named param.name param.place 0) front.params.now)
    ∙ ap (λ b. list_any (λ (param : Param). bytes_eq param.name name) front.params.now || b || list_any p (cases_names 1 front.cases.now) || list_any p (flat_map (field_names front.case) own)) (any_flat p entry_names front.fields.now)
    ∙ ap (λ b. list_any (λ (param : Param). bytes_eq param.name name) front.params.now || list_any (λ field. list_any p (entry_names field)) front.fields.now || list_any p (cases_names 1 front.cases.now) || b) (any_flat p (field_names front.case) own)

pub or_true : (a b : Bool) → a ≡ true → true ≡ (a || b)
or_true true b e = refl
or_true false b e = absurd (cc)

pub or_false : (a b : Bool) → a ≡ false → b ≡ (a || b)
or_false true b e = absurd (cc)
or_false false b e = refl
