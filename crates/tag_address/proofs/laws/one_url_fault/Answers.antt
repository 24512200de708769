use Rattle.tag_address.specs.Urls.{IsUrl}
use Rattle.tag_address.proofs.OneFault.{one_place}
use Rattle.tag_address.proofs.laws.one_url_fault.Goals as goal

pub returns : goal.returns
returns c = one_place IsUrl
