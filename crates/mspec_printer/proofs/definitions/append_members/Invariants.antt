use Rattle.std.proofs.Common.{◌≡◌, ◌++◌, drop}
use Rattle.std.specs.List.{flat_map}
use Rattle.mspec_lexer.specs.Tokens.{text_of}
use Rattle.mspec_printer.specs.Printed.{member}
use Rattle.mspec_printer.proofs.definitions.append_members.Given as goal

-- the text so far and what is left make the whole
abbrev pub invariant-loop-f : goal.invariant-loop-f
invariant-loop-f l =
    l.text.items ++ flat_map (λ one. text_of (member one)) (drop l.f-index l.fields) ≡ l.initial.text.items ++ flat_map (λ one. text_of (member one)) l.fields
