-- What is wrong with a description, and which of all that is wrong is told.
use Rattle.std.specs.Prelude.{◌≡◌, ◌⊎◌, ℕ, ◌+◌, ◌*◌, ◌&&◌, ◌||◌, not, Bool, true, false, nat_lt, List, [], ◌∷◌, Option, Some, None, if◌then◌else◌}
use Rattle.mspec_tree.specs.declared.words.Place.{Place}
use Rattle.mspec_expr.specs.declared.kinds.ExprWhy.{ExprWhy}
use Rattle.mspec_expr.specs.declared.kinds.ExprWhy.TheVariants.{TooWide, DivisorMayBeZero, OperandRange, UnknownName, KindMismatch}
use Rattle.mspec_expr.specs.declared.kinds.Fault.{Fault}
use Rattle.mspec_expr.specs.Ranges.{place_before}
use Rattle.mspec_rules.specs.declared.wrongs.Rule.{Rule}
use Rattle.mspec_rules.specs.declared.wrongs.Rule.TheVariants as rules
use Rattle.mspec_rules.specs.declared.wrongs.CheckWhy.{CheckWhy}
use Rattle.mspec_rules.specs.declared.wrongs.CheckWhy.TheVariants as whys
use Rattle.mspec_rules.specs.declared.wrongs.Wrong.{Wrong}

-- ---- the order in which faults are told

-- the order of the rules
abbrev pub number : Rule → ℕ
number rules.Names = 1
number rules.Types = 2
number rules.Widths = 3
number rules.Orders = 4
number rules.Literals = 5
number rules.Switches = 6
number rules.Keys = 7
number rules.Arguments = 8
number rules.Scopes = 9
number rules.Paddings = 10
number rules.Kinds = 11
number rules.Ranges = 12
number rules.Limits = 13

-- the order of the words within a rule
abbrev pub word : CheckWhy → ℕ
word (whys.Expr TooWide) = 0
word (whys.Expr DivisorMayBeZero) = 1
word (whys.Expr OperandRange) = 2
word (whys.Expr UnknownName) = 3
word (whys.Expr KindMismatch) = 4
word whys.DoubledName = 5
word whys.UnknownType = 6
word whys.WidthRange = 7
word whys.LittleWidth = 8
word whys.ConstRange = 9
word whys.SwitchCount = 10
word whys.CaseKey = 11
word whys.Arguments = 12
word whys.PaddingScope = 13
word whys.Limit = 14

-- by the rule, and within a rule by the word, of which there are fewer than sixteen
abbrev pub rank : Wrong → ℕ
rank wrong = 16 * number wrong.rule + word wrong.why

-- the first is told rather than the second
abbrev pub before : Wrong → Wrong → Bool
before a b = place_before a.place b.place || not (place_before b.place a.place) && nat_lt (rank a) (rank b)

-- ---- which one is told

-- the one of two that is told
abbrev pub earlier : Option Wrong → Option Wrong → Option Wrong
earlier None other = other
earlier (Some a) None = Some a
earlier (Some a) (Some b) = Some (if before b a then b else a)

-- the one of all that is told
abbrev pub found : List Wrong → Option Wrong
found [] = None
found (wrong ∷ wrongs) = earlier (Some wrong) (found wrongs)

abbrev pub IsAmong : Wrong → List Wrong → Type 0
IsAmong told [] = ⊥
IsAmong told (wrong ∷ wrongs) = (told ≡ wrong) ⊎ IsAmong told wrongs

-- one of all, before which none stands
pub record IsFirst (told : Wrong) (wrongs : List Wrong) : Type 0 where
  pub among : IsAmong told wrongs
  pub none_before : (other : Wrong) → IsAmong other wrongs → before other told ≡ false

-- one more would be told rather than the first so far
abbrev pub matters : Option Wrong → Wrong → Bool
matters None other = true
matters (Some wrong) other = before other wrong

-- ---- how faults are made

abbrev pub wrong : Place → Rule → CheckWhy → Wrong
wrong place of why = record { place = place; rule = of; why = why }

abbrev pub wrong_if : Bool → Place → Rule → CheckWhy → List Wrong
wrong_if true place of why = wrong place of why ∷ []
wrong_if false place of why = []

-- the rule that a fault of an expression breaks
abbrev pub rule_of : ExprWhy → Rule
rule_of UnknownName = rules.Scopes
rule_of KindMismatch = rules.Kinds
rule_of TooWide = rules.Ranges
rule_of DivisorMayBeZero = rules.Ranges
rule_of OperandRange = rules.Ranges

abbrev pub of_expr : Fault → Wrong
of_expr fault = wrong fault.place (rule_of fault.why) (whys.Expr fault.why)
