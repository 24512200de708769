-- What reading gives is the tree.
use Rattle.std.proofs.Common.{ℕ, ◌≡◌, List, Result, Ok, Err, ap, arith}
use Rattle.std.specs.Prelude.{IfOk}
use Rattle.mspec_tree.specs.Depth.{depth_limit}
use Rattle.mspec_tree.specs.Form.{IsWritten}
use Rattle.mspec_tree.specs.declared.defs.Description.{Description}
use Rattle.mspec_lexer.specs.Lexemes.{Lexeme, lexemes}
use Rattle.mspec_lexer.specs.Tokens.{Tokens}
use Rattle.mspec_lexer.specs.declared.tokens.Token.{Token}
use Rattle.mspec_grammar.specs.Trees.{Tree}
use Rattle.mspec_parser.specs.declared.faults.ParseFault.{ParseFault}
use Rattle.mspec_parser.specs.declared.faults.ParseFault.TheVariants as fault
use Rattle.mspec_parser.specs.Defs.{description_at}
use Rattle.mspec_parser.specs.Parsing.{IsNoOther, placed, GivesAt}
use Rattle.mspec_parser.proofs.CompleteTrees.{tree-reads}
use Rattle.mspec_parser.proofs.SoundTrees.{read-tree}
use Rattle.mspec_parser.proofs.Spelt.{text-form}

pub tree-of : (text : List ℕ) (xs : List Lexeme) (result : Result Description ParseFault) → GivesAt text result (description_at depth_limit xs)
    → IfOk result (λ d. Tree depth_limit xs d)
tree-of text xs (Ok d) h = read-tree depth_limit (omega arith) xs d h
tree-of text xs (Err f) h = tt

pub only-of : (text : List ℕ) (xs : List Lexeme) (result : Result Description ParseFault) → GivesAt text result (description_at depth_limit xs)
    → (d : Description) → Tree depth_limit xs d → IsNoOther result d
only-of text xs (Ok other) h d t = let read = tree-reads depth_limit xs d t in cc
only-of text xs (Err fault.NoMemory) h d t = tt
only-of text xs (Err (fault.At place why)) h d t =
    let read : placed text (description_at depth_limit xs) ≡ Ok d = ap (placed text) (tree-reads depth_limit xs d t) in
    cc

pub form-of : (text : List ℕ) (tokens : List Token) → Tokens text tokens → (result : Result Description ParseFault)
    → GivesAt text result (description_at depth_limit (lexemes text tokens)) → IfOk result (λ d. IsWritten d)
form-of text tokens t (Ok d) h = text-form text tokens t d (read-tree depth_limit (omega arith) (lexemes text tokens) d h)
form-of text tokens t (Err f) h = tt
