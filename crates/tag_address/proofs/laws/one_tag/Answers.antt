use Rattle.tag_address.proofs.OneFault.{one_item}
use Rattle.tag_address.proofs.laws.one_tag.Goals as goal

pub returns : goal.returns
returns c = one_item
