-- Names that are seen, as fields are gone over.
use Rattle.std.proofs.Common.{◌≡◌, ℕ, suc, ◌+◌, ◌<◌, Bool, List, [], ◌∷◌, ◌++◌, length, take, get_or, sym, ap, ◌∙◌, arith, append_assoc}
use Rattle.std.proofs.Math.Seq.{take-suc}
use Rattle.std.proofs.lemmas.List.Elements.{filter-append}
use Rattle.std.proofs.lemmas.List.{map-append}
use Rattle.std.specs.List.{filter}
use Rattle.std.specs.Prelude.{map}
use Rattle.mspec_tree.specs.declared.fields.Field.{Field}
use Rattle.mspec_tree.specs.declared.defs.Param.{Param}
use Rattle.mspec_tree.specs.declared.defs.Description.{Description}
use Rattle.mspec_expr.specs.declared.scopes.MeantName.{MeantName}
use Rattle.mspec_expr.specs.Kinds.{BodyLayer, layer}
use Rattle.mspec_expr.specs.Ranges.{is_given}
use Rattle.mspec_check.specs.Scopes.{field_seen, fields_seen, is_known, names_given, param_seen, params_seen}

-- the first ones and one more
pub take_one : {A : Type 0} (xs : List A) (i : ℕ) (x : A) → i < length xs → x ≡ get_or xs i x → take (i + 1) xs ≡ take i xs ++ x ∷ []
take_one xs i x h e =
    let one : i + 1 ≡ suc i = omega arith in
    ap (λ k. take k xs) one ∙ take-suc xs i x h ∙ ap (λ y. take i xs ++ y ∷ []) (sym e)

pub fields_seen-append : (d : Description) (p : BodyLayer → Bool) (xs ys : List Field) → fields_seen d p (xs ++ ys) ≡ fields_seen d p xs ++ fields_seen d p ys
fields_seen-append d p xs ys =
    ap (map (field_seen d)) (filter-append (λ f. p (layer f)) xs ys)
    ∙ map-append (field_seen d) (filter (λ f. p (layer f)) xs) (filter (λ f. p (layer f)) ys)

-- behind one more field
pub fields_seen_more : (d : Description) (p : BodyLayer → Bool) (names : List MeantName) (fields : List Field) (i : ℕ) (field : Field)
    → i < length fields → field ≡ get_or fields i field
    → names ++ fields_seen d p (take i fields) ++ fields_seen d p (field ∷ []) ≡ names ++ fields_seen d p (take (i + 1) fields)
fields_seen_more d p names fields i field h e =
    append_assoc names (fields_seen d p (take i fields)) (fields_seen d p (field ∷ []))
    ∙ ap (λ l. names ++ l) (sym (fields_seen-append d p (take i fields) (field ∷ [])))
    ∙ ap (λ l. names ++ fields_seen d p l) (sym (take_one fields i field h e))

pub params_seen_more : (d : Description) (names : List MeantName) (params : List Param) (i : ℕ) (param : Param)
    → i < length params → param ≡ get_or params i param
    → names ++ params_seen d (take i params) ++ param_seen d param ∷ [] ≡ names ++ params_seen d (take (i + 1) params)
params_seen_more d names params i param h e =
    append_assoc names (params_seen d (take i params)) (param_seen d param ∷ [])
    ∙ ap (λ l. names ++ l) (sym (map-append (param_seen d) (take i params) (param ∷ [])))
    ∙ ap (λ l. names ++ params_seen d l) (sym (take_one params i param h e))

-- what the code gathers for an implicit expression, one list after another
pub given_gathered : (d : Description) (params : List Param) (ob b a oa : List Field) (zero one two three four five : List MeantName)
    → zero ≡ [] → one ≡ zero ++ params_seen d params → two ≡ one ++ fields_seen d is_known ob → three ≡ two ++ fields_seen d is_known b
    → four ≡ three ++ fields_seen d is_given a → five ≡ four ++ fields_seen d is_given oa
    → five ≡ names_given d (record { params = params; earlier = ob ++ b; later = a ++ oa })
given_gathered d params ob b a oa zero one two three four five e0 e1 e2 e3 e4 e5 =
    let ps = params_seen d params in
    let k1 = fields_seen d is_known ob in
    let k2 = fields_seen d is_known b in
    let g1 = fields_seen d is_given a in
    let g2 = fields_seen d is_given oa in
    let first : one ≡ ps = e1 ∙ ap (λ l. l ++ ps) e0 in
    let known : three ≡ ps ++ fields_seen d is_known (ob ++ b) =
    e3 ∙ ap (λ l. l ++ k2) (e2 ∙ ap (λ l. l ++ k1) first) ∙ append_assoc ps k1 k2 ∙ ap (λ l. ps ++ l) (sym (fields_seen-append d is_known ob b)) in
    e5 ∙ ap (λ l. l ++ g2) (e4 ∙ ap (λ l. l ++ g1) known) ∙ append_assoc (ps ++ fields_seen d is_known (ob ++ b)) g1 g2
    ∙ ap (λ l. ps ++ fields_seen d is_known (ob ++ b) ++ l) (sym (fields_seen-append d is_given a oa))
