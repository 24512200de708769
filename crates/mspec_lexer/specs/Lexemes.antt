-- Tokens with their texts in place of where these stand.
use Rattle.std.specs.Prelude.{ℕ, List, map, slice_range}
use Rattle.mspec_tree.specs.declared.words.Place.{Place}
use Rattle.mspec_lexer.specs.declared.tokens.Token.{Token}
use Rattle.mspec_lexer.specs.declared.tokens.TokenKind.{TokenKind}

pub record Lexeme : Type 0 where
  pub kind : TokenKind
  pub text : List ℕ
  pub place : Place

abbrev pub lexeme : (text : List ℕ) → Token → Lexeme
lexeme text token = record { kind = token.kind; text = slice_range text token.from token.to; place = token.place }

abbrev pub lexemes : (text : List ℕ) → List Token → List Lexeme
lexemes text tokens = map (lexeme text) tokens
