-- What the code keeps of where a field stands.
use Rattle.std.specs.Prelude.{◌≡◌, ℕ, ◌+◌, Bool, IfSome, Option, List, ◌∷◌, ◌++◌, take, drop}
use Rattle.mspec_tree.specs.declared.fields.Field.{Field}
use Rattle.mspec_tree.specs.declared.defs.Description.{Description}
use Rattle.mspec_expr.specs.declared.scopes.Scope.{Scope}
use Rattle.mspec_expr.specs.Kinds.{BodyLayer}
use Rattle.mspec_expr.specs.Ranges.{is_given}
use Rattle.mspec_check.specs.declared.scopes.Shown.{Shown}
use Rattle.mspec_check.specs.declared.scopes.Shown.TheVariants.{Named, Known, Given}
use Rattle.mspec_check.specs.declared.sites.Outer.{Outer}
use Rattle.mspec_check.specs.declared.sites.Site.{Site}
use Rattle.mspec_check.specs.Scopes.{Around, is_known, is_named, seen_given}

abbrev pub earlier_of : Site → List Field
earlier_of site = site.outer_before.now ++ site.before.now

abbrev pub later_of : Site → List Field
later_of site = site.after.now ++ site.outer_after.now

abbrev pub around : Site → Around
around site = record { params = site.params.now; earlier = earlier_of site; later = later_of site }

abbrev pub around_outer : Outer → Around
around_outer outer = record { params = outer.params.now; earlier = outer.before.now; later = outer.after.now }

-- around the field at a place
abbrev pub field_around : Outer → List Field → (place : ℕ) → Around
field_around outer fields place = record {
  params = outer.params.now;
  earlier = outer.before.now ++ take place fields;
  later = drop (place + 1) fields ++ outer.after.now;
}

abbrev pub is_shown : Shown → BodyLayer → Bool
is_shown Named body = is_named body
is_shown Known body = is_known body
is_shown Given body = is_given body

-- where a field stands, with itself among those behind
abbrev pub from_field : Around → Field → Around
from_field around field =
    record { params = around.params; earlier = around.earlier; later = field ∷ around.later }

-- what was gathered for implicit expressions, if it was, is what one would see there
abbrev pub IsKept : Description → Around → Field → Option Scope → Type 0
IsKept d around field given = IfSome given (λ seen. seen ≡ seen_given d (from_field around field))
