-- The symbols that one byte spells, or two.
use Rattle.std.proofs.Common.{◌≡◌, ◌&&◌, ℕ, Bool, true, false, cond, List, [], ◌∷◌, Some, None, Option, refl, sym, ap, ◌∙◌, rules, eqb, eqb-true}
use Rattle.std.specs.List.{AllByRecursion}
use Rattle.mspec_lexer.specs.declared.tokens.Symbol.{Symbol}
use Rattle.mspec_lexer.specs.declared.tokens.Symbol.TheVariants.{DoubleEqual, NotEqual, LessEqual, GreaterEqual, DoubleLess, DoubleGreater, DoubleAmpersand, DoubleBar, LeftBracket, RightBracket, LeftParenthesis, RightParenthesis, Quote, DoubleQuote, Comma, Dot, Star, Equal, Less, Greater, Plus, Minus, Slash, Percent, Ampersand, Bar, Exclamation, Question, Colon}
use Rattle.mspec_lexer.specs.Spellings.{spelling}
use Rattle.mspec_lexer.specs.LexerParts.{double_symbol, single_symbol}

abbrev found : ℕ → List (ℕ × Symbol) → Option Symbol
found b [] = None
found b (entry ∷ entries) = cond (eqb b entry.0) (Some entry.1) (found b entries)

abbrev found_two : (a b : ℕ) → List (ℕ × ℕ × Symbol) → Option Symbol
found_two a b [] = None
found_two a b (entry ∷ entries) =
    cond (eqb a entry.0 && eqb b entry.1) (Some entry.2) (found_two a b entries)

abbrev singles : List (ℕ × Symbol)
singles =
    (91, LeftBracket) ∷ (93, RightBracket) ∷ (40, LeftParenthesis) ∷ (41, RightParenthesis) ∷ (39, Quote) ∷ (34, DoubleQuote)
    ∷ (44, Comma) ∷ (46, Dot) ∷ (42, Star) ∷ (61, Equal) ∷ (60, Less) ∷ (62, Greater) ∷ (43, Plus) ∷ (45, Minus) ∷ (47, Slash)
    ∷ (37, Percent) ∷ (38, Ampersand) ∷ (124, Bar) ∷ (33, Exclamation) ∷ (63, Question) ∷ (58, Colon) ∷ []

abbrev doubles : List (ℕ × ℕ × Symbol)
doubles =
    (61, 61, DoubleEqual) ∷ (33, 61, NotEqual) ∷ (60, 61, LessEqual) ∷ (62, 61, GreaterEqual) ∷ (60, 60, DoubleLess)
    ∷ (62, 62, DoubleGreater) ∷ (38, 38, DoubleAmpersand) ∷ (124, 124, DoubleBar) ∷ []

abbrev Spells : ℕ × Symbol → Type 0
Spells entry = spelling entry.1 ≡ entry.0 ∷ []

abbrev SpellsTwo : ℕ × ℕ × Symbol → Type 0
SpellsTwo entry = spelling entry.2 ≡ entry.0 ∷ entry.1 ∷ []

found_by : (b : ℕ) (entry : ℕ × Symbol) (entries : List (ℕ × Symbol)) (s : Symbol) (v : Bool) → Spells entry → eqb b entry.0 ≡ v → cond v (Some entry.1) (found b entries) ≡ Some s → (found b entries ≡ Some s → spelling s ≡ b ∷ []) → spelling s ≡ b ∷ []
found_by b entry entries s true spells e h rest =
    let same : entry.1 ≡ s = cc in
    ap spelling (sym same) ∙ spells ∙ ap (λ c. c ∷ []) (sym (eqb-true b entry.0 e))
found_by b entry entries s false spells e h rest = rest h

found_spells : (b : ℕ) (entries : List (ℕ × Symbol)) (s : Symbol) → AllByRecursion Spells entries → found b entries ≡ Some s → spelling s ≡ b ∷ []
found_spells b [] s all h = cc
found_spells b (entry ∷ entries) s all h =
    found_by b entry entries s (eqb b entry.0) all.0 refl h (found_spells b entries s all.1)

singles_spell : AllByRecursion Spells singles
singles_spell = search rules

-- the symbol of a byte is spelt by it
pub single_spells : (b : ℕ) (s : Symbol) → single_symbol b ≡ Some s → spelling s ≡ b ∷ []
unfolding single_symbol
single_spells b s h = found_spells b singles s singles_spell h

both_true : (v w : Bool) → v && w ≡ true → (v ≡ true) × (w ≡ true)
both_true true w h = (refl, h)
both_true false w h = cc

found_two_by : (a b : ℕ) (entry : ℕ × ℕ × Symbol) (entries : List (ℕ × ℕ × Symbol)) (s : Symbol) (v : Bool) → SpellsTwo entry → eqb a entry.0 && eqb b entry.1 ≡ v → cond v (Some entry.2) (found_two a b entries) ≡ Some s → (found_two a b entries ≡ Some s → spelling s ≡ a ∷ b ∷ []) → spelling s ≡ a ∷ b ∷ []
found_two_by a b entry entries s true spells e h rest =
    let same : entry.2 ≡ s = cc in
    let tests = both_true (eqb a entry.0) (eqb b entry.1) e in
    let first : a ≡ entry.0 = eqb-true a entry.0 tests.0 in
    let second : b ≡ entry.1 = eqb-true b entry.1 tests.1 in
    let spelt : spelling entry.2 ≡ entry.0 ∷ entry.1 ∷ [] = spells in
    ap spelling (sym same) ∙ spelt ∙ cc
found_two_by a b entry entries s false spells e h rest = rest h

found_two_spells : (a b : ℕ) (entries : List (ℕ × ℕ × Symbol)) (s : Symbol) → AllByRecursion SpellsTwo entries → found_two a b entries ≡ Some s → spelling s ≡ a ∷ b ∷ []
found_two_spells a b [] s all h = cc
found_two_spells a b (entry ∷ entries) s all h =
    found_two_by a b entry entries s (eqb a entry.0 && eqb b entry.1) all.0 refl h (found_two_spells a b entries s all.1)

doubles_spell : AllByRecursion SpellsTwo doubles
doubles_spell = search rules

-- the symbol of two bytes is spelt by them
pub double_spells : (a b : ℕ) (s : Symbol) → double_symbol a b ≡ Some s → spelling s ≡ a ∷ b ∷ []
unfolding double_symbol
double_spells a b s h = found_two_spells a b doubles s doubles_spell h
