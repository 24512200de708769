-- What the code reads of a token.
use Rattle.std.specs.Prelude.{ℕ, ◌≤◌, List, length}
use Rattle.std.specs.List.{All}
use Rattle.mspec_lexer.specs.declared.tokens.Token.{Token}
use Rattle.mspec_grammar.specs.declared.senses.Sense.{Sense}
use Rattle.mspec_grammar.specs.declared.senses.Sense.TheVariants as sense
use Rattle.mspec_grammar.specs.Meanings.{Meaning, Number, Sign, Taken, Name}

-- a sense without where its name lies in memory
abbrev pub sensed : Sense → Meaning
sensed (sense.Number n) = Number n
sensed (sense.Sign symbol) = Sign symbol
sensed (sense.Taken word) = Taken word
sensed (sense.Name bytes) = Name bytes.now

-- the token's bytes are bytes of the text
abbrev pub IsWithin : List ℕ → Token → Type 0
IsWithin text token = (token.from ≤ token.to) × (token.to ≤ length text)

abbrev pub AreWithin : List ℕ → List Token → Type 0
AreWithin text tokens = All (IsWithin text) tokens
