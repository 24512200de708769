-- Fields, as they are gone over.
use Rattle.std.proofs.Common.{◌≡◌, ℕ, false, Some, None, subst, ◌+◌, ◌<◌, List, [], ◌∷◌, ◌++◌, length, take, drop, get_or, Option, refl, sym, ap, ◌∙◌, append_assoc}
use Rattle.std.specs.List.{flat_map}
use Rattle.mspec_tree.specs.declared.words.Place.{Place}
use Rattle.mspec_tree.specs.declared.fields.Case.{Case, out-Case}
use Rattle.mspec_tree.specs.declared.fields.Field.{Field, out-Field}
use Rattle.mspec_tree.specs.declared.fields.Body.{out-Body, out-roll-Body, roll-Body}
use Rattle.mspec_tree.specs.declared.defs.Param.{Param}
use Rattle.mspec_tree.specs.declared.defs.Description.{Description}
use Rattle.mspec_expr.specs.declared.scopes.MeantName.{MeantName}
use Rattle.mspec_expr.specs.Kinds.{BodyLayer, layer}
use Rattle.mspec_rules.specs.declared.wrongs.Wrong.{Wrong}
use Rattle.mspec_rules.specs.Found.{found_more, from_here}
use Rattle.mspec_rules.specs.Wrongs.{earlier, found}
use Rattle.mspec_check.specs.declared.sites.Outer.{Outer}
use Rattle.mspec_check.specs.Fields.{case_wrongs, field_wrongs, own_expression, switch_wrongs}
use Rattle.mspec_expr.specs.Ranges.{is_given}
use Rattle.mspec_check.specs.Scopes.{Around, Placed, fields_seen, implicit_words, is_const, is_known, is_named, names_before, names_given, params_seen, placed, seen_given}
use Rattle.mspec_check.specs.Sites.{IsKept, field_around, from_field}
use Rattle.mspec_expr.specs.declared.scopes.Scope.{Scope}
use Rattle.std.specs.Prelude.{IfSome}
use Rattle.mspec_check.specs.Switches.{keys_wrongs, names_wrongs}
use Rattle.mspec_check.proofs.Told.{found_both}
use Rattle.mspec_check.proofs.ScopeLaws.{fields_seen-append, take_one}

pub layer_of : (field : Field) (f : BodyLayer) → (out-Field field).body ≡ roll-Body f → layer field ≡ f
layer_of field f h = ap out-Body h ∙ out-roll-Body f

pub own_at : (d : Description) (around : Around) (field : Field) (f : BodyLayer) (told : Option Wrong)
    → (out-Field field).body ≡ roll-Body f → told ≡ found (own_expression d around f) → told ≡ found (own_expression d around (layer field))
own_at d around field f told h t = t ∙ sym (ap (λ l. found (own_expression d around l)) (layer_of field f h))

-- ---- names

pub names_one : (d : Description) (params : List Param) (earlier' more : List Field) → names_before d params earlier' ++ fields_seen d is_named more ≡ names_before d params (earlier' ++ more)
names_one d params earlier' more =
    append_assoc (params_seen d params) (fields_seen d is_named earlier') (fields_seen d is_named more)
    ∙ ap (λ l. params_seen d params ++ l) (sym (fields_seen-append d is_named earlier' more))

-- the fields before the next one
pub before_next : (before fields : List Field) (i : ℕ) (field : Field) → i < length fields → field ≡ get_or fields i field → (before ++ take i fields) ++ field ∷ [] ≡ before ++ take (i + 1) fields
before_next before fields i field h e =
    append_assoc before (take i fields) (field ∷ []) ∙ ap (λ l. before ++ l) (sym (take_one fields i field h e))

pub names_next : (d : Description) (params : List Param) (before fields : List Field) (i : ℕ) (field : Field) (names next : List MeantName)
    → i < length fields → field ≡ get_or fields i field
    → names ≡ names_before d params (before ++ take i fields) → next ≡ names ++ fields_seen d is_named (field ∷ [])
    → next ≡ names_before d params (before ++ take (i + 1) fields)
names_next d params before fields i field names next h e n s =
    s ∙ ap (λ l. l ++ fields_seen d is_named (field ∷ [])) n
    ∙ names_one d params (before ++ take i fields) (field ∷ [])
    ∙ ap (names_before d params) (before_next before fields i field h e)

-- ---- a list of fields

abbrev pub place_at : List Param → (before after fields : List Field) (i : ℕ) (field : Field) → Placed
place_at params before after fields i field = record {
  around = record { params = params; earlier = before ++ take i fields; later = drop (i + 1) fields ++ after };
  field = field;
}

placed_next : (params : List Param) (before after fields : List Field) (i : ℕ) (field : Field) → i < length fields → field ≡ get_or fields i field
    → placed params (before ++ take i fields) after (drop i fields) ≡ place_at params before after fields i field ∷ placed params (before ++ take (i + 1) fields) after (drop (i + 1) fields)
placed_next params before after fields i field h e =
    ap (placed params (before ++ take i fields) after) (from_here fields i field h e)
    ∙ ap (λ l. place_at params before after fields i field ∷ placed params l after (drop (i + 1) fields)) (before_next before fields i field h e)

pub fields_next : (g : Placed → List Wrong) (params : List Param) (before after fields : List Field) (i : ℕ) (field : Field) (told one next : Option Wrong)
    → i < length fields → field ≡ get_or fields i field
    → one ≡ found (g (place_at params before after fields i field)) → next ≡ earlier told one
    → earlier next (found (flat_map g (placed params (before ++ take (i + 1) fields) after (drop (i + 1) fields))))
    ≡ earlier told (found (flat_map g (placed params (before ++ take i fields) after (drop i fields))))
fields_next g params before after fields i field told one next h e o n =
    sym
    (found_more g told next
    (placed params (before ++ take i fields) after (drop i fields))
    (placed params (before ++ take (i + 1) fields) after (drop (i + 1) fields))
    (place_at params before after fields i field) (placed_next params before after fields i field h e) (n ∙ ap (earlier told) o))

-- around a field of a definition's own list
abbrev pub around_at : List Param → (before after fields : List Field) (i : ℕ) → Around
around_at params before after fields i =
    record { params = params; earlier = before ++ take i fields; later = drop (i + 1) fields ++ after }

pub top_around : (outer : Outer) (fields : List Field) (i : ℕ) → outer.before.now ≡ [] → outer.after.now ≡ [] → field_around outer fields i ≡ around_at outer.params.now [] [] fields i
top_around outer fields i b a =
    ap (λ l. around_at outer.params.now l outer.after.now fields i) b
    ∙ ap (λ l. around_at outer.params.now [] l fields i) a

-- ---- a case

pub case_told : (d : Description) (outer : Around) (names : List (List ℕ)) (case : Case) (seen : List MeantName) (fields : List Field) (keys under told : Option Wrong)
    → seen ≡ names_before d outer.params outer.earlier → fields ≡ (out-Case case).fields
    → keys ≡ found (keys_wrongs d seen names case)
    → under ≡ found (flat_map (λ at. field_wrongs d at.around (layer at.field)) (placed outer.params outer.earlier outer.later fields))
    → told ≡ earlier keys under → told ≡ found (case_wrongs d outer names case)
case_told d outer names case seen fields keys under told s f k u t =
    let g = λ (at : Placed). field_wrongs d at.around (layer at.field) in
    let first : keys ≡ found (keys_wrongs d (names_before d outer.params outer.earlier) names case) =
    k ∙ ap (λ l. found (keys_wrongs d l names case)) s in
    let second : under ≡ found (flat_map g (placed outer.params outer.earlier outer.later (out-Case case).fields)) =
    u ∙ ap (λ l. found (flat_map g (placed outer.params outer.earlier outer.later l))) f in
    t ∙ ap (λ z. earlier z under) first ∙ ap (λ z. earlier (found (keys_wrongs d (names_before d outer.params outer.earlier) names case)) z) second
    ∙ sym (found_both (keys_wrongs d (names_before d outer.params outer.earlier) names case) (flat_map g (placed outer.params outer.earlier outer.later (out-Case case).fields)))

-- ---- a switch

pub switch_told : (d : Description) (outer : Around) (place : Place) (names : List (List ℕ)) (cases : List Case) (seen : List MeantName) (first told : Option Wrong)
    → seen ≡ names_before d outer.params outer.earlier → first ≡ found (names_wrongs seen place names)
    → told ≡ earlier first (found (flat_map (case_wrongs d outer names) cases)) → told ≡ found (switch_wrongs d outer place names cases)
switch_told d outer place names cases seen first told s f t =
    let here : first ≡ found (names_wrongs (names_before d outer.params outer.earlier) place names) =
    f ∙ ap (λ l. found (names_wrongs l place names)) s in
    t ∙ ap (λ z. earlier z (found (flat_map (case_wrongs d outer names) cases))) here
    ∙ sym (found_both (names_wrongs (names_before d outer.params outer.earlier) place names) (flat_map (case_wrongs d outer names) cases))

-- ---- what implicit expressions see

-- one doesn't see its own field
pub seen_past : (d : Description) (around : Around) (field : Field) → is_given (layer field) ≡ false → seen_given d (from_field around field) ≡ seen_given d around
seen_past d around field n =
    let past : fields_seen d is_given (field ∷ around.later) ≡ fields_seen d is_given around.later = rw n refl in
    ap (λ l. record { names = params_seen d around.params ++ fields_seen d is_known around.earlier ++ l; words = implicit_words }) past

abbrev pub around_from : List Param → (before after fields : List Field) (i : ℕ) → Around
around_from params before after fields i =
    record { params = params; earlier = before ++ take i fields; later = drop i fields ++ after }

pub from_next : (params : List Param) (before after fields : List Field) (i : ℕ) (field : Field)
    → i < length fields → field ≡ get_or fields i field → from_field (around_at params before after fields i) field ≡ around_from params before after fields i
from_next params before after fields i field h e =
    ap (λ l. record { params = params; earlier = before ++ take i fields; later = l ++ after }) (sym (from_here fields i field h e))

-- a field that is no const leaves it
pub seen_next : (d : Description) (params : List Param) (before after fields : List Field) (i : ℕ) (field : Field)
    → i < length fields → field ≡ get_or fields i field → is_const (layer field) ≡ false
    → seen_given d (around_from params before after fields i) ≡ seen_given d (around_from params before after fields (i + 1))
seen_next d params before after fields i field h e n =
    let ps = params_seen d params in
    let known = fields_seen d is_known (before ++ take i fields) in
    let rest = drop (i + 1) fields ++ after in
    let same : fields_seen d is_known (field ∷ []) ≡ fields_seen d is_given (field ∷ []) = rw n refl in
    let names : names_given d (around_from params before after fields i) ≡ names_given d (around_from params before after fields (i + 1)) =
    ap (λ l. ps ++ known ++ fields_seen d is_given (l ++ after)) (from_here fields i field h e)
    ∙ ap (λ l. ps ++ known ++ l) (fields_seen-append d is_given (field ∷ []) rest)
    ∙ ap (λ l. ps ++ known ++ (l ++ fields_seen d is_given rest)) (sym same)
    ∙ sym (append_assoc (ps ++ known) (fields_seen d is_known (field ∷ [])) (fields_seen d is_given rest))
    ∙ ap (λ l. l ++ fields_seen d is_given rest) (append_assoc ps known (fields_seen d is_known (field ∷ [])))
    ∙ ap (λ l. ps ++ l ++ fields_seen d is_given rest) (sym (fields_seen-append d is_known (before ++ take i fields) (field ∷ [])))
    ∙ ap (λ l. ps ++ fields_seen d is_known l ++ fields_seen d is_given rest) (before_next before fields i field h e) in
    ap (λ l. record { names = l; words = implicit_words }) names

-- what was gathered is kept up to the next const field
pub kept_here : (d : Description) (params : List Param) (before after fields : List Field) (i : ℕ) (field : Field) (site : Around) (given : Option Scope)
    → i < length fields → field ≡ get_or fields i field → site ≡ around_at params before after fields i
    → IfSome given (λ seen. seen ≡ seen_given d (around_from params before after fields i)) → IsKept d site field given
kept_here d params before after fields i field site given h e s k =
    subst (λ (a : Around). IfSome given (λ seen. seen ≡ seen_given d a))
    (sym (ap (λ a. from_field a field) s ∙ from_next params before after fields i field h e)) k

pub kept_next : (d : Description) (params : List Param) (before after fields : List Field) (i : ℕ) (field : Field) (site : Around) (given next : Option Scope)
    → i < length fields → field ≡ get_or fields i field → site ≡ around_at params before after fields i
    → IsKept d site field given → IfSome next (λ seen. (given ≡ Some seen) × (is_const (layer field) ≡ false))
    → IfSome next (λ seen. seen ≡ seen_given d (around_from params before after fields (i + 1)))
kept_next d params before after fields i field site given None h e s k n = tt
kept_next d params before after fields i field site given (Some seen) h e s k n =
    let here : seen ≡ seen_given d (from_field site field) =
    subst (λ (o : Option Scope). IfSome o (λ one. one ≡ seen_given d (from_field site field))) n.0 k in
    here ∙ ap (λ a. seen_given d (from_field a field)) s
    ∙ ap (λ a. seen_given d a) (from_next params before after fields i field h e)
    ∙ seen_next d params before after fields i field h e n.1
