use Rattle.std.proofs.Common.{arith}
use Rattle.plc_sim.proofs.Packing.{on_ok, packed_on}
use Rattle.plc_sim.proofs.answers.+add_packed.Goals as goal

pub returns-clause-added : goal.returns-clause-added
returns-clause-added t c =
    on_ok c.add_packed.result
    (packed_on c.args.bytes c.args.flags.now c.split_eight.result.0.now c.split_eight.result.1.now c.args.to.now.items c.push.new.self.items
    c.add_packed.new.to.items c.packed_byte.result (omega arith) c.split_eight.ensures.front c.split_eight.ensures.rest
    c.in_ok-push.ensures.items c.packed_byte.ensures.value)
    c.add_packed.ensures.added
