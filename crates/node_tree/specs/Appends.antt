-- What a call adds at the end of a text.
use Rattle.std.specs.Prelude.{◌≡◌, ℕ, List, ◌++◌, length, take, Result, MatchResult}

-- the bytes were added at the text's end; an error leaves a text that begins as before
abbrev pub Appends : {A E : Type 0} → Result A E → (old new added : List ℕ) → Type 0
Appends result old new added = MatchResult result (λ _. new ≡ old ++ added) (λ _. take (length old) new ≡ old)

-- the bytes were added at the text's end; an error leaves the text as it was
abbrev pub AppendsOrKeeps : {A E : Type 0} → Result A E → (old new added : List ℕ) → Type 0
AppendsOrKeeps result old new added = MatchResult result (λ _. new ≡ old ++ added) (λ _. new ≡ old)
