-- What is wrong with an expression where it stands.
use Rattle.std.specs.Prelude.{not, List, [], ◌∷◌, ◌++◌, Option, Result, Ok, Err}
use Rattle.mspec_tree.specs.declared.words.Place.{Place}
use Rattle.mspec_tree.specs.declared.exprs.Expr.{Expr, out-Expr}
use Rattle.mspec_tree.specs.declared.defs.Description.{Description}
use Rattle.mspec_expr.specs.declared.kinds.ExprWhy.TheVariants.{KindMismatch}
use Rattle.mspec_expr.specs.declared.kinds.Fault.{Fault}
use Rattle.mspec_expr.specs.declared.kinds.Meant.{Meant}
use Rattle.mspec_expr.specs.declared.scopes.Scope.{Scope}
use Rattle.mspec_expr.specs.Ranges.{is_kind, judged, range_found}
use Rattle.mspec_rules.specs.declared.wrongs.Rule.TheVariants.{Kinds}
use Rattle.mspec_rules.specs.declared.wrongs.CheckWhy.TheVariants.{Expr as ExprFault}
use Rattle.mspec_rules.specs.declared.wrongs.Wrong.{Wrong}
use Rattle.mspec_rules.specs.Wrongs.{of_expr, wrong_if}
use Rattle.mspec_check.specs.declared.wants.Want.{Want}
use Rattle.mspec_check.specs.Wants.{fits}

-- its names and words, the kinds of its operands and the ranges of its numbers: the first fault in it
abbrev pub fault_in : Result Meant Fault → List Wrong
fault_in (Ok meant) = []
fault_in (Err fault) = of_expr fault ∷ []

-- its kind fits its place, whatever is wrong below; what is nothing fits
abbrev pub misfit : Want → Place → Option Meant → List Wrong
misfit want place meant = wrong_if (not (is_kind (fits want) meant)) place Kinds (ExprFault KindMismatch)

abbrev pub expr_wrongs : Description → Scope → Want → Expr → List Wrong
expr_wrongs d scope want e =
    fault_in (range_found d scope e) ++ misfit want (out-Expr e).place (judged d scope e).meant
