-- Outcomes that count the parts that were used on the way to them. Parts are fields, items, cases tried, keys compared, nodes of
-- expressions, and bytes of a blob.
use Rattle.std.specs.Prelude.{ℕ, ◌+◌, List, [], ◌∷◌, Bool, true, false, Result, Ok, Err}

pub record Counted (A F : Type 0) : Type 0 where
  pub outcome : Result A F
  pub parts : ℕ

abbrev pub done : {A F : Type 0} → A → Counted A F
done value = record { outcome = Ok value; parts = 0 }

abbrev pub fails : {A F : Type 0} → F → Counted A F
fails fault = record { outcome = Err fault; parts = 0 }

-- one more part, or several
abbrev pub counted : {A F : Type 0} → ℕ → Counted A F → Counted A F
counted parts one = record { outcome = one.outcome; parts = parts + one.parts }

abbrev pub continued : {A B F : Type 0} → Result A F → (A → Counted B F) → Counted B F
continued (Ok value) next = next value
continued (Err fault) next = fails fault

-- one and then the next, up to the first that fails
infixl 10 ◌>>=◌
abbrev pub ◌>>=◌ : {A B F : Type 0} → Counted A F → (A → Counted B F) → Counted B F
one >>= next = counted one.parts (continued one.outcome next)

infixl 10 ◌>>◌
abbrev pub ◌>>◌ : {A B F : Type 0} → Counted A F → Counted B F → Counted B F
one >> next = one >>= (λ _. next)

-- the same with another fault
abbrev pub other_fault : {A F G : Type 0} → (F → G) → Result A F → Result A G
other_fault name (Ok value) = Ok value
other_fault name (Err fault) = Err (name fault)

abbrev pub faulted : {A F G : Type 0} → (F → G) → Counted A F → Counted A G
faulted name one = record { outcome = other_fault name one.outcome; parts = one.parts }

-- a value that must be so, else this fault
abbrev pub required : {F : Type 0} → Bool → F → Counted (Unit {0}) F
required true fault = done tt
required false fault = fails fault

-- a step for each of these, one after another
abbrev pub in_turn : {A S F : Type 0} → (A → S → Counted S F) → List A → S → Counted S F
in_turn step [] state = done state
in_turn step (one ∷ more) state = step one state >>= in_turn step more
