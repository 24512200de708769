use Rattle.std.proofs.Common.{◌≡◌, ◌++◌, drop}
use Rattle.std.specs.List.{flat_map}
use Rattle.mspec_lexer.specs.Tokens.{text_of}
use Rattle.mspec_printer.specs.Printed.{constant}
use Rattle.mspec_printer.proofs.definitions.append_constants.Given as goal

-- the text so far and what is left make the whole
abbrev pub invariant-loop-c : goal.invariant-loop-c
invariant-loop-c l =
    l.text.items ++ flat_map (λ one. text_of (constant one)) (drop l.c-index l.constants) ≡ l.initial.text.items ++ flat_map (λ one. text_of (constant one)) l.constants
