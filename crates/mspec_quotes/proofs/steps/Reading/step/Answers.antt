use Rattle.std.proofs.Common.{◌≤◌, subst, arith}
use Rattle.mspec_tree.specs.Depth.{depth_limit}
use Rattle.mspec_quotes.specs.declared.pending.Open.TheVariants.{Count, Cast}
use Rattle.mspec_quotes.specs.declared.steps.Expected.{Expected}
use Rattle.mspec_quotes.specs.Machine.{least}
use Rattle.mspec_quotes.specs.Steps.{mode_of}
use Rattle.mspec_quotes.proofs.RoomLaws.{below-fits}
use Rattle.mspec_quotes.proofs.steps.Reading.step.Goals as goal

pub bracketed-requires-clause-fits : goal.bracketed-requires-clause-fits
bracketed-requires-clause-fits c =
    below-fits (Count c.in-Count.word) c.args.self.opens 1 (omega arith)
    (subst (λ (e : Expected). least c.args.self.opens (mode_of e) ≤ depth_limit) c.in-Count.is c.requires)

pub bracketed-requires-in-Cast-clause-fits : goal.bracketed-requires-in-Cast-clause-fits
bracketed-requires-in-Cast-clause-fits c =
    below-fits (Cast c.in-Cast.word) c.args.self.opens 1 (omega arith)
    (subst (λ (e : Expected). least c.args.self.opens (mode_of e) ≤ depth_limit) c.in-Cast.is c.requires)
