use Rattle.std.proofs.Common.{[], ◌∙◌, sym}
use Rattle.mspec_lexer.proofs.PlaceLaws.{bytes_more}
use Rattle.mspec_parser.proofs.parsing.end_of.Goals as goal

pub returns : goal.returns
returns c = c.stepped.ensures ∙ sym (bytes_more [] c.args.text.now)
