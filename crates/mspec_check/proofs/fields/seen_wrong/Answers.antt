use Rattle.std.proofs.Common.{◌∙◌, ap}
use Rattle.mspec_rules.specs.Wrongs.{found}
use Rattle.mspec_check.specs.Expressions.{expr_wrongs}
use Rattle.mspec_check.proofs.fields.seen_wrong.Goals as goal

pub returns-clause-told : goal.returns-clause-told
returns-clause-told c =
    c.expr_wrong.ensures
    ∙ ap (λ names. found (expr_wrongs c.args.d.now (record { names = names; words = c.args.words }) c.args.want c.args.e.now)) c.requires
