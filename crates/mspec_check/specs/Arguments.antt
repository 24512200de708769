-- What is wrong with the arguments of a type. How many there are is a rule of types.
use Rattle.std.specs.Prelude.{ℕ, ◌+◌, Bool, false, List, [], ◌∷◌, ◌++◌, Option, Some, None, slice_get}
use Rattle.mspec_tree.specs.declared.words.Place.{Place}
use Rattle.mspec_tree.specs.declared.exprs.Expr.{Expr}
use Rattle.mspec_tree.specs.declared.exprs.Ref.{Ref}
use Rattle.mspec_tree.specs.declared.exprs.Ref.TheVariants.{Plain, Named}
use Rattle.mspec_tree.specs.declared.defs.DefBody.{DefBody}
use Rattle.mspec_tree.specs.declared.defs.DefBody.TheVariants.{Enum}
use Rattle.mspec_tree.specs.declared.defs.Param.{Param}
use Rattle.mspec_tree.specs.declared.defs.Description.{Description}
use Rattle.mspec_expr.specs.declared.kinds.Meant.{Meant}
use Rattle.mspec_expr.specs.declared.scopes.Scope.{Scope}
use Rattle.mspec_expr.specs.Kinds.{def_named, of_found, ref_meant}
use Rattle.mspec_expr.specs.Ranges.{judged}
use Rattle.mspec_rules.specs.declared.wrongs.Rule.TheVariants as rule
use Rattle.mspec_rules.specs.declared.wrongs.CheckWhy.TheVariants as why
use Rattle.mspec_rules.specs.declared.wrongs.Wrong.{Wrong}
use Rattle.mspec_rules.specs.Wrongs.{wrong_if}
use Rattle.mspec_check.specs.declared.wants.Want.{Want}
use Rattle.mspec_check.specs.declared.wants.Want.TheVariants.{AnyKind, Values}
use Rattle.mspec_check.specs.Expressions.{expr_wrongs}
use Rattle.mspec_check.specs.Wants.{is_reverse, want_of}

-- ---- what a type's name takes

-- an enum takes none: its parameters are those of its constants' attributes
abbrev pub taken : DefBody → List Param → List Param
taken (Enum base constants) params = []
taken other params = params

abbrev pub taken_at : Description → Option ℕ → List Param
taken_at d (Some def) = of_found (λ found. taken found.body found.params) (slice_get d.defs def)
taken_at d None = []

abbrev pub params_taken : Description → (name : List ℕ) → List Param
params_taken d name = taken_at d (def_named d name)

-- what a parameter wants of its argument; past the last one nothing is wanted
abbrev pub param_want : Description → Option Param → Want
param_want d (Some param) = want_of (ref_meant d param.kind)
param_want d None = AnyKind

-- ---- arguments

abbrev pub meant_reverse : Want → Option Meant → Bool
meant_reverse want (Some meant) = is_reverse want meant
meant_reverse want None = false

-- A number, a flag or an enum value, at itself. A flag where a number is wanted or the reverse stands at the type's name.
abbrev pub argument_wrongs : Description → Scope → (named : Place) → Want → Expr → List Wrong
argument_wrongs d scope named want e =
    expr_wrongs d scope Values e
    ++ wrong_if (meant_reverse want (judged d scope e).meant) named rule.Arguments why.Arguments

-- each argument with the parameter at its place, from this place on
abbrev pub arguments_wrongs : Description → Scope → (named : Place) → List Param → (place : ℕ) → List Expr → List Wrong
arguments_wrongs d scope named params place [] = []
arguments_wrongs d scope named params place (e ∷ args) =
    argument_wrongs d scope named (param_want d (slice_get params place)) e
    ++ arguments_wrongs d scope named params (place + 1) args

abbrev pub ref_wrongs : Description → Scope → Ref → List Wrong
ref_wrongs d scope (Plain simple) = []
ref_wrongs d scope (Named named name args) = arguments_wrongs d scope named (params_taken d name) 0 args
