-- Which command may stand at which line, as a test.
use Rattle.std.proofs.Common.{ℕ, arith}
use Rattle.std.specs.Bool.{Decides}
use Rattle.std.proofs.lemmas.Bool.Decides.{Decides-eqb, nat_tests}
use Rattle.script_lines.specs.declared.commands.Command.{Command}
use Rattle.script_lines.specs.declared.commands.Command.TheVariants.{Table, Calls}
use Rattle.script_lines.specs.ReaderParts.{is_at}
use Rattle.script_lines.specs.Scripts.{IsAt}

pub at-Decides : (n : ℕ) (command : Command) → Decides (is_at n command) (IsAt n command)
at-Decides n (Table s) = Decides-eqb n 1
at-Decides n (Calls call) = (λ h. grind (arith, nat_tests), λ h. grind (arith, nat_tests))
