use Rattle.std.proofs.Common.{◌≡◌, ◌++◌, drop}
use Rattle.std.specs.List.{flat_map}
use Rattle.mspec_lexer.specs.Tokens.{text_of}
use Rattle.mspec_printer.specs.Printed.{definition}
use Rattle.mspec_printer.proofs.definitions.append_definitions.Given as goal

-- the text so far and what is left make the whole
abbrev pub invariant-loop-d : goal.invariant-loop-d
invariant-loop-d l =
    l.text.items ++ flat_map (λ one. text_of (definition one)) (drop l.d-index l.defs) ≡ l.initial.text.items ++ flat_map (λ one. text_of (definition one)) l.defs
