use Rattle.std.proofs.Common.{arith}
use Rattle.script_lines.proofs.NameLaws.{no_call}
use Rattle.script_lines.proofs.spellings.read_call.Goals as goal

pub returns-in_default : goal.returns-in_default
returns-in_default c =
    no_call _ _ (λ e. grind arith) (λ e. grind arith) (λ e. grind arith) (λ e. grind arith) (λ e. grind arith) (λ e. grind arith) (λ e. grind arith) (λ e. grind arith) (λ e. grind arith) (λ e. grind arith)
