use Rattle.host_engine.proofs.NoRefusal.{no_refusal}
use Rattle.host_engine.proofs.tool.no_form_refuses.Goals as goal

pub returns : goal.returns
returns c = no_refusal
