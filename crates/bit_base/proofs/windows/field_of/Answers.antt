use Rattle.std.proofs.Common.{◌/◌, ◌^◌, arith}
use Rattle.bit_base.proofs.WindowLemmas.{masked}
use Rattle.bit_base.proofs.windows.field_of.Goals as goal

pub returns : goal.returns
returns c = masked (c.args.window / 2 ^ c.args.behind) c.args.width (omega arith)
