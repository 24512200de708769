-- What is said of an expression in quotes that was read, or of its fault.
use Rattle.std.specs.Prelude.{ℕ, ◌≡◌, List, drop, Result, Ok, Err}
use Rattle.mspec_tree.specs.declared.exprs.Expr.{Expr}
use Rattle.mspec_lexer.specs.declared.tokens.Token.{Token}
use Rattle.mspec_lexer.specs.Lexemes.{Lexeme, lexemes}
use Rattle.mspec_grammar.specs.declared.faults.ParseWhy.{ParseWhy}
use Rattle.mspec_grammar.specs.Faults.{Leaves, IsQuote, LeavesCall}
use Rattle.mspec_quotes.specs.declared.quotes.QuoteFault.{QuoteFault}
use Rattle.mspec_quotes.specs.declared.quotes.QuoteFault.TheVariants as fault
use Rattle.mspec_grammar.specs.declared.faults.ParseWhy.TheVariants.{TooDeep}
use Rattle.mspec_grammar.specs.Meanings.{Meaning}
use Rattle.mspec_quotes.specs.declared.steps.Halt.{Halt}
use Rattle.mspec_quotes.specs.declared.steps.Halt.TheVariants as halt
use Rattle.mspec_quotes.specs.Machine.{Stopped, why_of}

-- P of the fault that was answered, unless memory ran out
abbrev pub OfFault : QuoteFault → (ℕ → ParseWhy → Type 0) → Type 0
OfFault (fault.At index why) P = P index why
OfFault fault.NoMemory P = Unit {0}

-- with the first of these tokens the lexemes are no expression in quotes, however they go on, and why
abbrev pub IsQuoteFault : (text : List ℕ) → (from at : List Token) → ParseWhy → Type 0
IsQuoteFault text from at why = Leaves IsQuote LeavesCall (lexemes text from) (lexemes text at) why

-- What was answered is what reading the lexemes gives, unless memory ran out.
abbrev pub Gives : (text : List ℕ) → (tokens : List Token) → Result (Expr × ℕ) QuoteFault → Result (Expr × List Lexeme) Stopped → Type 0
Gives text tokens (Ok r) read = read ≡ Ok (r.0, lexemes text (drop r.1 tokens))
Gives text tokens (Err (fault.At index why)) read = read ≡ Err (record { why = why; at = lexemes text (drop index tokens) })
Gives text tokens (Err fault.NoMemory) read = Unit {0}

-- the fault of a lexeme with this meaning that leads nowhere
abbrev pub fault_of : Halt → (index : ℕ) → Meaning → QuoteFault
fault_of halt.NoMemory index meaning = fault.NoMemory
fault_of halt.TooDeep index meaning = fault.At index TooDeep
fault_of halt.Refused index meaning = fault.At index (why_of meaning)
