use Rattle.std.proofs.Common.{◌≡◌, ◌++◌, drop}
use Rattle.std.specs.List.{flat_map}
use Rattle.mspec_lexer.specs.Tokens.{text_of}
use Rattle.mspec_printer.specs.Printed.{case}
use Rattle.mspec_printer.proofs.fields.append_cases.Given as goal

-- the text so far and what is left make the whole
abbrev pub invariant-loop-c : goal.invariant-loop-c
invariant-loop-c l =
    l.text.items ++ flat_map (λ c. text_of (case 2 c)) (drop l.c-index l.cases) ≡ l.initial.text.items ++ flat_map (λ c. text_of (case 2 c)) l.cases
