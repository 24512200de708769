-- What an environment must be for a scope, and what the numbers of an expression then are.
use Rattle.std.specs.Prelude.{ℕ, ℤ, pos, ◌≡◌, ◌≤ℤ◌, Bool, true, false, List, [], ◌∷◌, Option, Some, None, IsOkAnd, IsSome, Ok}
use Rattle.mspec_tree.specs.declared.exprs.Expr.{Expr, out-Expr}
use Rattle.mspec_tree.specs.declared.exprs.Shape.{Shape, out-Shape}
use Rattle.mspec_tree.specs.declared.exprs.Shape.TheOpen.{Shape-F}
use Rattle.mspec_tree.specs.declared.defs.Description.{Description}
use Rattle.mspec_expr.specs.declared.kinds.Range.{Range}
use Rattle.mspec_expr.specs.declared.kinds.Meant.{Meant}
use Rattle.mspec_expr.specs.declared.kinds.Meant.TheVariants.{Flag}
use Rattle.mspec_expr.specs.declared.scopes.Scope.{Scope}
use Rattle.mspec_expr.specs.declared.scopes.Env.{Env}
use Rattle.mspec_expr.specs.declared.scopes.MeantName.{MeantName}
use Rattle.mspec_expr.specs.declared.scopes.NodeName.{NodeName}
use Rattle.mspec_expr.specs.Values.{Seen, Sight, worth_at, number}
use Rattle.mspec_expr.specs.Sizes.{entry_bits}
use Rattle.mspec_expr.specs.Ranges.{is_kind, is_number, judged_at, numbers_of, range, range_found}

-- the names of a scope with their nodes
abbrev pub seen_in : List MeantName → List NodeName → List Seen
seen_in (name ∷ names) (given ∷ more) =
    record { name = name.name; meant = name.meant; node = given.node } ∷ seen_in names more
seen_in names more = []

-- what an expression sees in a scope and an environment
abbrev pub sight_in : Scope → Env → Sight
sight_in scope env = record {
  names = seen_in scope.names env.names;
  position = env.position;
  first = env.first;
  length = env.length;
  last = env.last_item;
  sum = env.sum;
  xor = env.xor;
}

-- a number lies in a range
pub record IsIn (r : Range) (number : ℤ) : Type 0 where
  pub above : r.low ≤ℤ number
  pub below : number ≤ℤ r.high

-- the range of what is a number, an enum value or a flag
abbrev pub values_of : Description → Meant → Option Range
values_of d Flag = Some (range (pos 0) (pos 1))
values_of d other = numbers_of d other

abbrev pub values_of_all : Description → Option Meant → Option Range
values_of_all d (Some meant) = values_of d meant
values_of_all d None = None

-- a name, a path, a count, a length, or a word for a number: what an expression asks for, and doesn't reckon
abbrev pub is_asked_shape : Shape-F Shape Expr → Bool
is_asked_shape (Shape-F.Name name) = true
is_asked_shape Shape-F.CurPos = true
is_asked_shape Shape-F.Length = true
is_asked_shape Shape-F.SumBytes = true
is_asked_shape Shape-F.XorBytes = true
is_asked_shape (Shape-F.Dot a name) = true
is_asked_shape (Shape-F.LengthOf a) = true
is_asked_shape (Shape-F.Count a) = true
is_asked_shape other = false

abbrev pub is_asked : Expr → Bool
is_asked e = is_asked_shape (out-Shape (out-Expr e).shape)

-- Every number, flag, count and length that an expression of the scope can ask for lies in its range.
abbrev pub AskedFit : Description → Scope → Sight → Type 0
AskedFit d scope sight =
    (depth : ℕ) (e : Expr) (r : Range) (n : ℤ)
    → is_asked e ≡ true
    → (judged_at depth d scope e).faults ≡ []
    → values_of_all d (judged_at depth d scope e).meant ≡ Some r
    → (number (worth_at depth d (entry_bits d) e sight)).outcome ≡ Ok n
    → IsIn r n

-- What an expression of the scope can ask for has the form of what it is: a number only where it is one.
abbrev pub AskedFormed : Description → Scope → Sight → Type 0
AskedFormed d scope sight =
    (depth : ℕ) (e : Expr) (n : ℤ)
    → is_asked e ≡ true
    → (judged_at depth d scope e).faults ≡ []
    → (number (worth_at depth d (entry_bits d) e sight)).outcome ≡ Ok n
    → IsSome (values_of_all d (judged_at depth d scope e).meant)

-- Every number and enum value that an expression of the scope can ask for has a range: each is of a type of 1 to 64 bits.
abbrev pub AskedRanged : Description → Scope → Type 0
AskedRanged d scope =
    (depth : ℕ) (e : Expr)
    → is_asked e ≡ true
    → (judged_at depth d scope e).faults ≡ []
    → is_kind is_number (judged_at depth d scope e).meant ≡ true
    → IsSome (values_of_all d (judged_at depth d scope e).meant)

-- an environment fits a scope
pub record Fits (d : Description) (scope : Scope) (env : Env) : Type 0 where
  pub ranged : AskedRanged d scope
  pub formed : AskedFormed d scope (sight_in scope env)
  pub inside : AskedFit d scope (sight_in scope env)

-- a number, an enum value or a flag
abbrev pub IsValue : Description → Scope → Expr → Type 0
IsValue d scope e = IsOkAnd (range_found d scope e) (λ meant. IsSome (values_of d meant))
