use Rattle.std.proofs.Common.{◌≡◌, arith, rules}
use Rattle.std.proofs.lemmas.Grind.{common_steps}
use Rattle.mspec_lexer.specs.Tokens.{text_of}
use Rattle.mspec_printer.specs.Printed.{printed}
use Rattle.mspec_printer.proofs.Back.{reads-text}
use Rattle.mspec_printer.proofs.WriteLaws.{texts}
use Rattle.mspec_printer.proofs.definitions.print_description.Goals as goal

pub returns-clause-parses : goal.returns-clause-parses
returns-clause-parses c =
    let same : c.from_vec.result ≡ text_of (printed c.args.d.now) = first_of (search rules, grind (arith, texts), grind (arith, common_steps, texts)) in
    reads-text c.args.d.now c.from_vec.result same
