-- A text is that of one accepted description, or refused at one place, and never both.
use Rattle.std.proofs.Common.{◌≡◌, ℕ, ◌≤◌, ◌⊎◌, List, length, take, Err, refl, inl, inr, sym, ap, ◌∙◌, subst, arith}
use Rattle.std.proofs.lemmas.List.{take_all, length-take}
use Rattle.mspec_tree.specs.declared.defs.Description.{Description}
use Rattle.mspec_tree.specs.declared.words.Place.{Place}
use Rattle.mspec_tree.specs.Depth.{depth_limit}
use Rattle.mspec_lexer.specs.declared.tokens.LexFault.{LexFault}
use Rattle.mspec_lexer.specs.declared.tokens.LexFault.TheVariants as lexes
use Rattle.mspec_lexer.specs.declared.tokens.LexWhy.{LexWhy}
use Rattle.mspec_lexer.specs.declared.tokens.LexWhy.TheVariants.{TextTooLong, Character, WideNumber, OpenComment}
use Rattle.mspec_lexer.specs.declared.tokens.Token.{Token}
use Rattle.mspec_lexer.specs.Lexemes.{Lexeme, lexemes}
use Rattle.mspec_lexer.specs.LexFaults.{IsRefused, OfFault}
use Rattle.mspec_lexer.specs.Tokens.{Tokens}
use Rattle.mspec_lexer.proofs.WholeCuts.{one_tokens, one_fault, some_answer, tokens_or_refused}
use Rattle.mspec_grammar.specs.declared.faults.ParseWhy.{ParseWhy}
use Rattle.mspec_grammar.specs.Faults.{IsRefused as LeavesGrammar}
use Rattle.mspec_grammar.specs.Trees.{Tree}
use Rattle.mspec_parser.specs.declared.faults.ParseFault.{ParseFault}
use Rattle.mspec_parser.specs.declared.faults.ParseFault.TheVariants as parses
use Rattle.mspec_parser.specs.Parsing.{IsFaultOf, place_of}
use Rattle.mspec_parser.proofs.CompleteTrees.{one-tree}
use Rattle.mspec_parser.proofs.FaultLaws.{no-tree, one-fault, tree-or-fault}
use Rattle.host_engine.specs.declared.describing.TextWhy.{TextWhy}
use Rattle.host_engine.specs.declared.describing.TextWhy.TheVariants.{Lex, Grammar, Rule}
use Rattle.mspec_check.specs.declared.checking.CheckFault.{CheckFault}
use Rattle.mspec_check.specs.declared.checking.CheckFault.TheVariants as checks
use Rattle.mspec_check.specs.Accepted.{Tells}
use Rattle.host_engine.specs.Texts.{Describes, IsRefusedText, IsTreeOf, IsWrong, OfTextFault, from_check, from_lex, from_parse}
use Rattle.host_engine.proofs.CheckLaws.{accepted_not_wrong, accepted_or_not, one_wrong}

-- ---- one

one_tree_of : (text : List ℕ) (one other : Description) → IsTreeOf text one → IsTreeOf text other → one ≡ other
one_tree_of text one other a b =
    let same : b.0 ≡ a.0 = one_tokens text b.0 a.0 b.1 a.1 in
    one-tree depth_limit (lexemes text a.0) one other a.2 (subst (λ (tokens : List Token). Tree depth_limit (lexemes text tokens) other) same b.2)

pub one_description : (text : List ℕ) (one other : Description) → Describes text one → Describes text other → one ≡ other
one_description text one other a b = one_tree_of text one other a.0 b.0

-- a text with a tree has tokens, and these don't leave the grammar
tree_and_lex : (text : List ℕ) (d : Description) (place : Place) (why : LexWhy) → IsTreeOf text d → IsRefusedText text place (Lex why) → ⊥
tree_and_lex text d place why tree fault = tokens_or_refused text tree.0 place why tree.1 fault

tree_and_grammar : (text : List ℕ) (d : Description) (place : Place) (why : ParseWhy) → IsTreeOf text d → IsRefusedText text place (Grammar why) → ⊥
tree_and_grammar text d place why tree fault =
    let same : fault.0 ≡ tree.0 = one_tokens text fault.0 tree.0 fault.1 tree.1 in
    let there = subst (λ (tokens : List Token). LeavesGrammar (lexemes text tokens) fault.2 why) same fault.3 in
    no-tree (lexemes text tree.0) fault.2 why d there tree.2

pub never_both : (text : List ℕ) (d : Description) (place : Place) (why : TextWhy) → Describes text d → IsRefusedText text place why → ⊥
never_both text d place (Lex why) described fault = tree_and_lex text d place why described.0 fault
never_both text d place (Grammar why) described fault = tree_and_grammar text d place why described.0 fault
never_both text d place (Rule why) described fault =
    let same = one_tree_of text fault.0 d fault.1 described.0 in
    accepted_not_wrong d place why described.1 (subst (λ (e : Description). IsWrong e place why) same fault.2)

pub one_no_text : (text : List ℕ) (one other : Place) (why reason : TextWhy) → IsRefusedText text one why → IsRefusedText text other reason → (one ≡ other) × (why ≡ reason)
one_no_text text one other (Lex why) (Lex reason) a b =
    let same = one_fault text one other why reason a b in (same.0, ap Lex same.1)
one_no_text text one other (Lex why) (Grammar reason) a b = absurd (tokens_or_refused text b.0 one why b.1 a)
one_no_text text one other (Grammar why) (Lex reason) a b = absurd (tokens_or_refused text a.0 other reason a.1 b)
one_no_text text one other (Grammar why) (Grammar reason) a b =
    let same : b.0 ≡ a.0 = one_tokens text b.0 a.0 b.1 a.1 in
    let there = subst (λ (tokens : List Token). LeavesGrammar (lexemes text tokens) b.2 reason) same b.3 in
    let fault = one-fault (lexemes text a.0) a.2 b.2 why reason a.3 there in
    (a.4 ∙ ap (λ (at : List Lexeme). place_of text at) fault.0 ∙ sym b.4, ap Grammar fault.1)
one_no_text text one other (Lex why) (Rule reason) a b = absurd (tree_and_lex text b.0 one why b.1 a)
one_no_text text one other (Grammar why) (Rule reason) a b = absurd (tree_and_grammar text b.0 one why b.1 a)
one_no_text text one other (Rule why) (Lex reason) a b = absurd (tree_and_lex text a.0 other reason a.1 b)
one_no_text text one other (Rule why) (Grammar reason) a b = absurd (tree_and_grammar text a.0 other reason a.1 b)
one_no_text text one other (Rule why) (Rule reason) a b =
    let trees = one_tree_of text b.0 a.0 b.1 a.1 in
    let same = one_wrong a.0 one other why reason a.2 (subst (λ (e : Description). IsWrong e other reason) trees b.2) in
    (same.0, ap Rule same.1)

-- ---- some

abbrev DescribedOrNot : List ℕ → Type 0
DescribedOrNot text = ((d : Description) × Describes text d) ⊎ ((place : Place) × (why : TextWhy) × IsRefusedText text place why)

by_tree : (text : List ℕ) (d : Description) → IsTreeOf text d → DescribedOrNot text
by_tree text d tree =
    elim (accepted_or_not d) [
      | inl accepted ↦ inl (d, (tree, accepted))
      | inr wrong ↦ inr (wrong.0, Rule wrong.1, (d, tree, wrong.2))
    ]

by_tokens : (text : List ℕ) (tokens : List Token) → Tokens text tokens → DescribedOrNot text
by_tokens text tokens cut =
    elim (tree-or-fault (lexemes text tokens)) [
      | inl tree ↦ by_tree text tree.0 (tokens, cut, tree.1)
      | inr fault ↦ inr (place_of text fault.0, Grammar fault.1, (tokens, cut, fault.0, fault.2, refl))
    ]

pub described_or_not : (text : List ℕ) → ((d : Description) × Describes text d) ⊎ ((place : Place) × (why : TextWhy) × IsRefusedText text place why)
described_or_not text =
    elim (some_answer text) [
      | inl cut ↦ by_tokens text cut.0 cut.1
      | inr fault ↦ inr (fault.0, Lex fault.1, fault.2)
    ]

-- ---- lengths

pub described_short : (text : List ℕ) (d : Description) → Describes text d → length text ≤ 1048576
described_short text d described = described.0.1.short

-- the front of a file that is within the limit is the file
pub whole_text : (text bytes : List ℕ) → text ≡ take 1048577 bytes → length text ≤ 1048576 → text ≡ bytes
whole_text text bytes front short =
    let few : length bytes ≤ 1048577 = omega (arith, ap length front, length-take 1048577 bytes) in
    front ∙ take_all 1048577 bytes few

whole_refused : (text bytes : List ℕ) (place : Place) (why : TextWhy) → text ≡ take 1048577 bytes → length text ≤ 1048576 → IsRefusedText text place why → IsRefusedText bytes place why
whole_refused text bytes place why front short fault = subst (λ (t : List ℕ). IsRefusedText t place why) (whole_text text bytes front short) fault

-- what refuses the front of a file refuses the file
pub front_refused : (text bytes : List ℕ) (place : Place) (why : TextWhy) → text ≡ take 1048577 bytes → IsRefusedText text place why → IsRefusedText bytes place why
front_refused text bytes place (Lex TextTooLong) front fault = (omega (arith, fault.0, ap length front, length-take 1048577 bytes), fault.1)
front_refused text bytes place (Lex Character) front fault = whole_refused text bytes place (Lex Character) front fault.0 fault
front_refused text bytes place (Lex WideNumber) front fault = whole_refused text bytes place (Lex WideNumber) front fault.0 fault
front_refused text bytes place (Lex OpenComment) front fault = whole_refused text bytes place (Lex OpenComment) front fault.0 fault
front_refused text bytes place (Grammar why) front fault = whole_refused text bytes place (Grammar why) front fault.1.short fault
front_refused text bytes place (Rule why) front fault = whole_refused text bytes place (Rule why) front fault.1.1.short fault

-- ---- faults as they are answered

pub lex_refused : (text : List ℕ) (fault : LexFault) → OfFault fault (λ place why. IsRefused text place why) → OfTextFault (from_lex fault) (λ place why. IsRefusedText text place why)
lex_refused text (lexes.At place why) refused = refused
lex_refused text lexes.NoMemory refused = tt

pub parse_refused : (text : List ℕ) (tokens : List Token) (fault : ParseFault) → Tokens text tokens → IsFaultOf text (lexemes text tokens) (Err fault) → OfTextFault (from_parse fault) (λ place why. IsRefusedText text place why)
parse_refused text tokens (parses.At place why) cut fault = (tokens, cut, fault.0, fault.1, fault.2)
parse_refused text tokens parses.NoMemory cut fault = tt

pub check_refused : (text : List ℕ) (d : Description) (fault : CheckFault) → IsTreeOf text d → Tells d fault → OfTextFault (from_check fault) (λ place why. IsRefusedText text place why)
check_refused text d (checks.At place why) tree wrong = (d, tree, wrong)
check_refused text d checks.NoMemory tree wrong = tt
