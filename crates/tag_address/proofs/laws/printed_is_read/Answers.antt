use Rattle.tag_address.proofs.TagLaws.{printed_is_tag}
use Rattle.tag_address.proofs.laws.printed_is_read.Goals as goal

pub returns : goal.returns
returns c = printed_is_tag
