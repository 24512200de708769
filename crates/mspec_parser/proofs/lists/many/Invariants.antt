use Rattle.std.proofs.Common.{◌≡◌, ◌-◌, length}
use Rattle.mspec_parser.specs.Readers.{from_on, is_mark, many}
use Rattle.mspec_parser.proofs.Loop.{with_front}
use Rattle.mspec_parser.proofs.lists.many.Given as goal

-- the parts so far and those that are still read are all
abbrev pub invariant-parts : goal.invariant-parts
invariant-parts g l =
    with_front l.parts (many (is_mark l.first) g.P.Part.read (l.end - l.counter) (from_on l.text l.tokens l.next))
    ≡ many (is_mark l.first) g.P.Part.read (length (from_on l.text l.tokens l.at)) (from_on l.text l.tokens l.at)
