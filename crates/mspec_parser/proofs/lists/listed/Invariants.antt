use Rattle.std.proofs.Common.{◌≡◌, ◌-◌}
use Rattle.mspec_parser.specs.declared.words.Mark.TheVariants.{Comma}
use Rattle.mspec_parser.specs.Readers.{from_on, is_mark, many, listed}
use Rattle.mspec_parser.proofs.Loop.{with_front, behind_comma}
use Rattle.mspec_parser.proofs.lists.listed.Given as goal

-- the parts so far and those that are still read are all
abbrev pub invariant-parts : goal.invariant-parts
invariant-parts g l =
    with_front l.parts (many (is_mark Comma) (behind_comma g.P.Part.read) (l.end - l.counter) (from_on l.text l.tokens l.next))
    ≡ listed g.P.Part.read (from_on l.text l.tokens l.at)
