-- Entries and attributes, looked for in turn.
use Rattle.std.proofs.Common.{◌≡◌, ℕ, zero, suc, ◌+◌, ◌-◌, ◌<◌, ◌≤◌, Bool, true, false, List, [], ◌∷◌, ◌++◌, length, drop, get_or, min, Option, Some, None, refl, sym, ap, ◌∙◌, arith}
use Rattle.std.proofs.Math.ListN.{drop_of_length-le}
use Rattle.std.proofs.Math.Seq.{drop-cons}
use Rattle.std.proofs.lemmas.Bool.Decides.{nat_tests}
use Rattle.std.specs.Prelude.{if◌then◌else◌, is_some, nat_le, ℤ, slice_get, option_to_list}
use Rattle.std.specs.Borrow.{Bor}
use Rattle.std.specs.Option.{option_or}
use Rattle.std.specs.Ordering.{int_eq}
use Rattle.std.specs.Str.{bytes_eq}
use Rattle.node_tree.specs.declared.nodes.Node.{Node}
use Rattle.node_tree.specs.declared.faults.EvalFault.TheVariants.{EnumAttr}
use Rattle.mspec_tree.specs.declared.words.Lit.{Lit}
use Rattle.mspec_tree.specs.declared.fields.Case.{Case, out-Case}
use Rattle.mspec_tree.specs.declared.fields.Field.{Field, out-Field}
use Rattle.mspec_tree.specs.declared.defs.Constant.{Constant}
use Rattle.mspec_tree.specs.declared.defs.Param.{Param}
use Rattle.mspec_tree.specs.declared.defs.Description.{Description}
use Rattle.mspec_eval.specs.Views.{pair_of}
use Rattle.mspec_expr.specs.Counted.{done, fails}
use Rattle.mspec_expr.specs.Kinds.{case_name, constants_of, entry_fields, entry_fields_in, layer, literal, literal_node, ref_meant}
use Rattle.mspec_expr.specs.Values.{Entry, attribute_of, attributes, entry_named, first_attribute}

-- ---- entries

named-append : (xs ys : List Field) (nodes : List Node) (name : List ℕ) → entry_named (xs ++ ys) nodes name ≡ option_or (entry_named xs nodes name) (entry_named ys (drop (length xs) nodes) name)
named-append [] ys nodes name = refl
named-append (x ∷ xs) [] [] name = none_named (x ∷ xs) name
  where
    none_named : (xs : List Field) (name : List ℕ) → entry_named (xs ++ []) [] name ≡ option_or (entry_named xs [] name) None
    none_named [] name = refl
    none_named (x ∷ xs) name = refl
named-append (x ∷ xs) (y ∷ ys) [] name = refl
named-append (x ∷ xs) ys (n ∷ nodes) name = go (bytes_eq (out-Field x).name name) (named-append xs ys nodes name)
  where
    go : (test : Bool) → entry_named (xs ++ ys) nodes name ≡ option_or (entry_named xs nodes name) (entry_named ys (drop (length xs) nodes) name) → (if test then Some (x, n) else entry_named (xs ++ ys) nodes name) ≡ option_or (if test then Some (x, n) else entry_named xs nodes name) (entry_named ys (drop (length xs) nodes) name)
    go true e = refl
    go false e = e

all_dropped : (nodes : List Node) → drop (length nodes) nodes ≡ []
all_dropped nodes = drop_of_length-le nodes (omega arith)

pub drop-min : (n : ℕ) (nodes : List Node) → drop (min n (length nodes)) nodes ≡ drop n nodes
drop-min n nodes = go (nat_le n (length nodes)) refl
  where
    go : (test : Bool) → nat_le n (length nodes) ≡ test → drop (min n (length nodes)) nodes ≡ drop n nodes
    go true e = let same : min n (length nodes) ≡ n = grind (arith, nat_tests) in ap (λ k. drop k nodes) same
    go false e =
        let same : min n (length nodes) ≡ length nodes = grind (arith, nat_tests) in
        let past : length nodes ≤ n = grind (arith, nat_tests) in
        ap (λ k. drop k nodes) same ∙ all_dropped nodes ∙ sym (drop_of_length-le nodes past)

own_named : (case : ℕ) (field : Field) (fields : List Field) (own : List Field) (nodes : List Node) (name : List ℕ) (found : Field × Node) → own ≡ entry_fields_in case field (layer field) → Some found ≡ entry_named own nodes name → Some found ≡ entry_named (entry_fields case (field ∷ fields)) nodes name
own_named case field fields own nodes name found p e =
    sym
    (named-append (entry_fields_in case field (layer field)) (entry_fields case fields) nodes name
    ∙ ap (λ o. option_or (entry_named o nodes name) (entry_named (entry_fields case fields) (drop (length (entry_fields_in case field (layer field))) nodes) name)) (sym p)
    ∙ ap (λ o. option_or o (entry_named (entry_fields case fields) (drop (length (entry_fields_in case field (layer field))) nodes) name)) (sym e))

pub named_own : (case : ℕ) (field : Field) (fields : List Field) (own : List Field) (nodes : List Node) (name : List ℕ) (found : Option (Field × Node)) → own ≡ entry_fields_in case field (layer field) → found ≡ entry_named own nodes name → is_some found ≡ true → found ≡ entry_named (entry_fields case (field ∷ fields)) nodes name
named_own case field fields own nodes name (Some found) p e t = own_named case field fields own nodes name found p e
named_own case field fields own nodes name None p e t = absurd (cc)

rest_named : (case : ℕ) (field : Field) (fields : List Field) (own : List Field) (nodes : List Node) (name : List ℕ) → own ≡ entry_fields_in case field (layer field) → None ≡ entry_named own nodes name → entry_named (entry_fields case fields) (drop (min (length own) (length nodes)) nodes) name ≡ entry_named (entry_fields case (field ∷ fields)) nodes name
rest_named case field fields own nodes name p e =
    ap (λ l. entry_named (entry_fields case fields) l name) (drop-min (length own) nodes ∙ ap (λ o. drop (length o) nodes) p)
    ∙ sym
    (named-append (entry_fields_in case field (layer field)) (entry_fields case fields) nodes name
    ∙ ap (λ o. option_or (entry_named o nodes name) (entry_named (entry_fields case fields) (drop (length (entry_fields_in case field (layer field))) nodes) name)) (sym p)
    ∙ ap (λ o. option_or o (entry_named (entry_fields case fields) (drop (length (entry_fields_in case field (layer field))) nodes) name)) (sym e))

pub named_rest : (case : ℕ) (field : Field) (fields : List Field) (own : List Field) (nodes : List Node) (name : List ℕ) (found : Option (Field × Node)) → own ≡ entry_fields_in case field (layer field) → found ≡ entry_named own nodes name → is_some found ≡ false → entry_named (entry_fields case fields) (drop (min (length own) (length nodes)) nodes) name ≡ entry_named (entry_fields case (field ∷ fields)) nodes name
named_rest case field fields own nodes name (Some found) p e t = absurd (cc)
named_rest case field fields own nodes name None p e t = rest_named case field fields own nodes name p e

pub is_pair : (found : Option (Bor Field × Bor Node)) → is_some (pair_of found) ≡ is_some found
is_pair (Some found) = refl
is_pair None = refl

-- ---- names of cases

name_at : (n : ℕ) (cases : List Case) (found : Case) → slice_get cases n ≡ Some found → case_name (suc n) cases ≡ (out-Case found).name
name_at n [] found e = absurd (cc)
name_at zero (c ∷ cases) found e = let same : c ≡ found = cc in ap (λ x. (out-Case x).name) same
name_at (suc n) (c ∷ cases) found e = name_at n cases found e

no_name_at : (n : ℕ) (cases : List Case) → slice_get cases n ≡ None → case_name (suc n) cases ≡ []
no_name_at n [] e = refl
no_name_at zero (c ∷ cases) e = absurd (cc)
no_name_at (suc n) (c ∷ cases) e = no_name_at n cases e

pub named_case : (case : ℕ) (cases : List Case) (found : Case) → (case ≡ 0 → ⊥) → Some found ≡ slice_get cases (case - 1) → case_name case cases ≡ (out-Case found).name
named_case case cases found z e =
    let next : case ≡ suc (case - 1) = omega arith in
    ap (λ k. case_name k cases) next ∙ name_at (case - 1) cases found (sym e)

pub no_case : (case : ℕ) (cases : List Case) → (case ≡ 0 → ⊥) → None ≡ slice_get cases (case - 1) → case_name case cases ≡ []
no_case case cases z e =
    let next : case ≡ suc (case - 1) = omega arith in
    ap (λ k. case_name k cases) next ∙ no_name_at (case - 1) cases (sym e)

-- ---- attributes

-- the attribute that a constant gives
abbrev given : (place : ℕ) (number : ℤ) → Constant → Option Lit
given place number constant = if int_eq (literal constant.value) number then slice_get constant.attrs place else None

given_list : (place : ℕ) (number : ℤ) (constant : Constant) → (if int_eq (literal constant.value) number then option_to_list (slice_get constant.attrs place) else []) ≡ option_to_list (given place number constant)
given_list place number constant = go (int_eq (literal constant.value) number)
  where
    go : (test : Bool) → (if test then option_to_list (slice_get constant.attrs place) else []) ≡ option_to_list (if test then slice_get constant.attrs place else None)
    go true = refl
    go false = refl

from_constant : (constants : List Constant) (i : ℕ) (constant : Constant) → i < length constants → constant ≡ get_or constants i constant → drop i constants ≡ constant ∷ drop (i + 1) constants
from_constant constants i constant h e =
    let one : suc i ≡ i + 1 = omega arith in
    drop-cons constants i constant h ∙ ap (λ c. c ∷ drop (suc i) constants) (sym e) ∙ ap (λ k. constant ∷ drop k constants) one

pub attribute_here : (place : ℕ) (number : ℤ) (constants : List Constant) (i : ℕ) (constant : Constant) (value : Lit) → i < length constants → constant ≡ get_or constants i constant → Some value ≡ given place number constant → slice_get (attributes place number (drop i constants)) 0 ≡ Some value
attribute_here place number constants i constant value h e g =
    ap (λ l. slice_get (attributes place number l) 0) (from_constant constants i constant h e)
    ∙ ap (λ l. slice_get (l ++ attributes place number (drop (i + 1) constants)) 0) (given_list place number constant ∙ ap option_to_list (sym g))

pub attribute_past : (place : ℕ) (number : ℤ) (constants : List Constant) (i : ℕ) (constant : Constant) → i < length constants → constant ≡ get_or constants i constant → None ≡ given place number constant → attributes place number (drop i constants) ≡ attributes place number (drop (i + 1) constants)
attribute_past place number constants i constant h e g =
    ap (λ l. attributes place number l) (from_constant constants i constant h e)
    ∙ ap (λ l. l ++ attributes place number (drop (i + 1) constants)) (given_list place number constant ∙ ap option_to_list (sym g))

pub no_constants : (constants : List Constant) (i : ℕ) → length constants ≤ i → drop i constants ≡ []
no_constants constants i h = drop_of_length-le constants h

-- the attributes of a parameter at a place
from_param : (params : List Param) (i : ℕ) (param : Param) → i < length params → param ≡ get_or params i param → drop i params ≡ param ∷ drop (i + 1) params
from_param params i param h e =
    let one : suc i ≡ i + 1 = omega arith in
    drop-cons params i param h ∙ ap (λ c. c ∷ drop (suc i) params) (sym e) ∙ ap (λ k. param ∷ drop k params) one

pub param_here : (d : Description) (def : ℕ) (number : ℤ) (name : List ℕ) (params : List Param) (i : ℕ) (param : Param) → i < length params → param ≡ get_or params i param → bytes_eq param.name name ≡ true → attribute_of d def number name (drop i params) i ≡ first_attribute d param (attributes i number (constants_of d def))
param_here d def number name params i param h e t =
    ap (λ l. attribute_of d def number name l i) (from_param params i param h e)
    ∙ ap (λ b. if b then first_attribute d param (attributes i number (constants_of d def)) else attribute_of d def number name (drop (i + 1) params) (i + 1)) t

pub param_past : (d : Description) (def : ℕ) (number : ℤ) (name : List ℕ) (params : List Param) (i : ℕ) (param : Param) → i < length params → param ≡ get_or params i param → bytes_eq param.name name ≡ false → attribute_of d def number name (drop i params) i ≡ attribute_of d def number name (drop (i + 1) params) (i + 1)
param_past d def number name params i param h e t =
    ap (λ l. attribute_of d def number name l i) (from_param params i param h e)
    ∙ ap (λ b. if b then first_attribute d param (attributes i number (constants_of d def)) else attribute_of d def number name (drop (i + 1) params) (i + 1)) t

pub no_params : (params : List Param) (i : ℕ) → length params ≤ i → drop i params ≡ []
no_params params i h = drop_of_length-le params h

pub first_some : (d : Description) (param : Param) (values : List Lit) (value : Lit) → Some value ≡ slice_get values 0 → first_attribute d param values ≡ done (Entry (ref_meant d param.kind) (literal_node value))
first_some d param [] value e = absurd (cc)
first_some d param (v ∷ values) value e = let same : v ≡ value = cc in ap (λ x. done (Entry (ref_meant d param.kind) (literal_node x))) same

pub first_none : (d : Description) (param : Param) (values : List Lit) → None ≡ slice_get values 0 → first_attribute d param values ≡ fails EnumAttr
first_none d param [] e = refl
first_none d param (v ∷ values) e = absurd (cc)
