use Rattle.mspec_parser.proofs.FaultLaws.{refused-at, stops-at}
use Rattle.mspec_parser.proofs.laws.stops_where_no_text_goes_on.Goals as goal

pub returns : goal.returns
returns c = record { refused = refused-at; stops = stops-at }
