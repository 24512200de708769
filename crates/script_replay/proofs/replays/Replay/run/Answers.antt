use Rattle.std.proofs.Common.{sym, subst}
use Rattle.script_replay.specs.Timed.{IsLegalIfAny}
use Rattle.script_replay.proofs.LegalLaws.{command_legal}
use Rattle.script_replay.proofs.replays.Replay.run.Goals as goal

pub invariant_of-self-2 : goal.invariant_of-self-2
invariant_of-self-2 c =
    subst (λ conn. IsLegalIfAny conn) (sym c.in_ok-reply.ensures.1) (command_legal c.self.inside.conn c.args.command c.self.invariant)
