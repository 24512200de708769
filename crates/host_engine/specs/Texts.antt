-- What a text is to the language: one accepted description, or the place at which it is refused, and why.
use Rattle.std.specs.Prelude.{ℕ, ◌≡◌, List, Some, codes}
use Rattle.mspec_tree.specs.declared.defs.Description.{Description}
use Rattle.mspec_tree.specs.declared.words.Place.{Place}
use Rattle.mspec_tree.specs.Depth.{depth_limit}
use Rattle.mspec_lexer.specs.declared.tokens.LexFault.{LexFault}
use Rattle.mspec_lexer.specs.declared.tokens.LexFault.TheVariants as lexes
use Rattle.mspec_lexer.specs.declared.tokens.LexWhy.{LexWhy}
use Rattle.mspec_lexer.specs.declared.tokens.LexWhy.TheVariants.{TextTooLong, Character, WideNumber, OpenComment}
use Rattle.mspec_lexer.specs.declared.tokens.Token.{Token}
use Rattle.mspec_lexer.specs.Lexemes.{Lexeme, lexemes}
use Rattle.mspec_lexer.specs.LexFaults.{IsRefused}
use Rattle.mspec_lexer.specs.Tokens.{Tokens}
use Rattle.mspec_grammar.specs.declared.faults.ParseWhy.{ParseWhy}
use Rattle.mspec_grammar.specs.declared.faults.ParseWhy.TheVariants.{Unexpected, EndOfText, LeftOut, TooDeep}
use Rattle.mspec_grammar.specs.Faults.{IsRefused as LeavesGrammar}
use Rattle.mspec_grammar.specs.Trees.{Tree}
use Rattle.mspec_parser.specs.declared.faults.ParseFault.{ParseFault}
use Rattle.mspec_parser.specs.declared.faults.ParseFault.TheVariants as parses
use Rattle.mspec_parser.specs.Parsing.{place_of}
use Rattle.mspec_expr.specs.declared.kinds.ExprWhy.{ExprWhy}
use Rattle.mspec_expr.specs.declared.kinds.ExprWhy.TheVariants.{TooWide, DivisorMayBeZero, OperandRange, UnknownName, KindMismatch}
use Rattle.mspec_rules.specs.declared.wrongs.CheckWhy.{CheckWhy}
use Rattle.mspec_rules.specs.declared.wrongs.CheckWhy.TheVariants.{Expr, DoubledName, UnknownType, WidthRange, LittleWidth, ConstRange, SwitchCount, CaseKey, Arguments, PaddingScope, Limit}
use Rattle.mspec_rules.specs.declared.wrongs.Wrong.{Wrong}
use Rattle.mspec_rules.specs.Wrongs.{found}
use Rattle.mspec_check.specs.declared.checking.CheckFault.{CheckFault}
use Rattle.mspec_check.specs.declared.checking.CheckFault.TheVariants as checks
use Rattle.mspec_check.specs.Accepted.{Accepted, wrongs}
use Rattle.host_engine.specs.declared.describing.TextFault.{TextFault}
use Rattle.host_engine.specs.declared.describing.TextFault.TheVariants as texts
use Rattle.host_engine.specs.declared.describing.TextWhy.{TextWhy}
use Rattle.host_engine.specs.declared.describing.TextWhy.TheVariants.{Lex, Grammar, Rule}

-- the text has this tree
abbrev pub IsTreeOf : List ℕ → Description → Type 0
IsTreeOf text d = (tokens : List Token) × Tokens text tokens × Tree depth_limit (lexemes text tokens) d

-- the text is that of this description, which is accepted
abbrev pub Describes : List ℕ → Description → Type 0
Describes text d = IsTreeOf text d × Accepted d

-- of all that is wrong with the description this is told: it stands at this place, and why
abbrev pub IsWrong : Description → Place → CheckWhy → Type 0
IsWrong d place why = (wrong : Wrong) × (found (wrongs d) ≡ Some wrong) × (wrong.place ≡ place) × (wrong.why ≡ why)

-- The text is that of no accepted description, and this is told: it has no tokens, or these leave the grammar at this place, or its
-- tree breaks a rule there; and why.
abbrev pub IsRefusedText : List ℕ → Place → TextWhy → Type 0
IsRefusedText text place (Lex why) = IsRefused text place why
IsRefusedText text place (Grammar why) =
    (tokens : List Token) × Tokens text tokens × (at : List Lexeme) × LeavesGrammar (lexemes text tokens) at why × (place ≡ place_of text at)
IsRefusedText text place (Rule why) = (d : Description) × IsTreeOf text d × IsWrong d place why

-- ---- why

abbrev pub lex_why_text : LexWhy → List ℕ
lex_why_text TextTooLong = codes "TextTooLong"
lex_why_text Character = codes "Character"
lex_why_text WideNumber = codes "WideNumber"
lex_why_text OpenComment = codes "OpenComment"

abbrev pub grammar_why_text : ParseWhy → List ℕ
grammar_why_text Unexpected = codes "Unexpected"
grammar_why_text EndOfText = codes "EndOfText"
grammar_why_text LeftOut = codes "LeftOut"
grammar_why_text TooDeep = codes "TooDeep"

abbrev pub expr_why_text : ExprWhy → List ℕ
expr_why_text TooWide = codes "TooWide"
expr_why_text DivisorMayBeZero = codes "DivisorMayBeZero"
expr_why_text OperandRange = codes "OperandRange"
expr_why_text UnknownName = codes "UnknownName"
expr_why_text KindMismatch = codes "KindMismatch"

abbrev pub check_why_text : CheckWhy → List ℕ
check_why_text (Expr why) = expr_why_text why
check_why_text DoubledName = codes "DoubledName"
check_why_text UnknownType = codes "UnknownType"
check_why_text WidthRange = codes "WidthRange"
check_why_text LittleWidth = codes "LittleWidth"
check_why_text ConstRange = codes "ConstRange"
check_why_text SwitchCount = codes "SwitchCount"
check_why_text CaseKey = codes "CaseKey"
check_why_text Arguments = codes "Arguments"
check_why_text PaddingScope = codes "PaddingScope"
check_why_text Limit = codes "Limit"

-- the word of a fault
abbrev pub text_why_text : TextWhy → List ℕ
text_why_text (Lex why) = lex_why_text why
text_why_text (Grammar why) = grammar_why_text why
text_why_text (Rule why) = check_why_text why

-- ---- faults as they are answered

-- P of the fault that was answered, unless memory ran out
abbrev pub OfTextFault : TextFault → (Place → TextWhy → Type 0) → Type 0
OfTextFault (texts.At place why) P = P place why
OfTextFault texts.NoMemory P = Unit {0}

abbrev pub from_lex : LexFault → TextFault
from_lex (lexes.At place why) = texts.At place (Lex why)
from_lex lexes.NoMemory = texts.NoMemory

abbrev pub from_parse : ParseFault → TextFault
from_parse (parses.At place why) = texts.At place (Grammar why)
from_parse parses.NoMemory = texts.NoMemory

abbrev pub from_check : CheckFault → TextFault
from_check (checks.At place why) = texts.At place (Rule why)
from_check checks.NoMemory = texts.NoMemory
