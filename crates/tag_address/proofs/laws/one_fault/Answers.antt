use Rattle.tag_address.proofs.OneFault.{one_refusal}
use Rattle.tag_address.proofs.laws.one_fault.Goals as goal

pub returns : goal.returns
returns c = one_refusal
