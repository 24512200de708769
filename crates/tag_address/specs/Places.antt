-- Where a text leaves a language. A language is the relation of its texts to what they say.
use Rattle.std.specs.Prelude.{◌≡◌, ℕ, ◌<◌, ◌≤◌, List, ◌++◌, length, take, ◌+◌}

-- a text of the language begins so
abbrev pub Begins : {A : Type 0} → (List ℕ → A → Type 0) → List ℕ → Type 0
Begins {A} L front = (rest : List ℕ) × (value : A) × L (front ++ rest) value

-- The place, counted from 0, at which no text of the language goes on: the first byte with which none begins, or the end of a text
-- that ends too early.
pub record IsRefusedAt {A : Type 0} (L : List ℕ → A → Type 0) (text : List ℕ) (place : ℕ) : Type 0 where
  pub within : place ≤ length text
  pub front : 0 < place → Begins L (take place text)
  pub next : place < length text → Begins L (take (place + 1) text) → ⊥
  pub short : place ≡ length text → (value : A) → L text value → ⊥
