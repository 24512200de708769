use Rattle.mspec_listings.specs.Listings.{dot_behind, field_word}
use Rattle.mspec_listings.proofs.AppendLemmas.{joined}
use Rattle.mspec_listings.proofs.paths.enter_field.Goals as goal

pub returns : goal.returns
returns c =
    joined c.add_field_word.result c.args.path.now.items c.add_dot.new.path.items c.add_field_word.new.path.items (dot_behind c.args.path.now.items) (field_word c.args.name.now c.args.place) c.in_ok-add_dot.ensures c.add_field_word.ensures
