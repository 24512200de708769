-- How deep the operand to come may be.
use Rattle.std.specs.Prelude.{ℕ, ◌≡◌, ◌-◌, max, List, [], ◌∷◌, map}
use Rattle.mspec_tree.specs.declared.exprs.Expr.{Expr}
use Rattle.mspec_tree.specs.Depth.{depth, depth_limit}
use Rattle.mspec_quotes.specs.declared.pending.Open.{Open}
use Rattle.mspec_quotes.specs.declared.pending.Open.TheVariants.{Parenthesis, Count, Cast, Not, Neg, Left, Condition, Otherwise}
use Rattle.mspec_quotes.specs.declared.pending.Pending.{Pending}
use Rattle.mspec_quotes.specs.Machine.{closed}

-- how deep what was read of it is, 0 if nothing was
abbrev pub left_depth : Open → ℕ
left_depth (Left place operator a) = depth a
left_depth (Condition place c) = depth c
left_depth (Otherwise place c a) = max (depth c) (depth a)
left_depth other = 0

abbrev pub room : List Open → ℕ
room [] = depth_limit
room (Parenthesis ∷ opens) = room opens
room (Count place ∷ opens) = room opens - 1
room (Cast place ∷ opens) = room opens - 1
room (Not place ∷ opens) = room opens - 1
room (Neg place ∷ opens) = room opens - 1
room (Left place operator a ∷ opens) = room opens - 1
room (Condition place c ∷ opens) = room opens - 1
room (Otherwise place c a ∷ opens) = room opens - 1

abbrev pub opens_of : List Pending → List Open
opens_of pendings = map (λ p. p.kind) pendings

-- each has what its fields say, the innermost first
abbrev pub AreRooms : List Pending → Type 0
AreRooms [] = Unit {0}
AreRooms (p ∷ pendings) = (p.left ≡ left_depth p.kind) × (p.room ≡ room (p.kind ∷ opens_of pendings)) × AreRooms pendings

-- nothing that is open is closed with this strength
abbrev pub IsKept : ℕ → List Open → Type 0
IsKept k opens = (e : Expr) → closed k opens e ≡ record { opens = opens; operand = e }

-- what is opened by it stands one deeper than its operand
abbrev pub IsDeeper : Open → Type 0
IsDeeper Parenthesis = ⊥
IsDeeper other = Unit {0}
