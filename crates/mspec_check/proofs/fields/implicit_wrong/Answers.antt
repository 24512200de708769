use Rattle.std.proofs.Common.{◌∙◌, ap}
use Rattle.mspec_rules.specs.Wrongs.{found}
use Rattle.mspec_check.specs.Expressions.{expr_wrongs}
use Rattle.mspec_check.specs.Scopes.{seen_given}
use Rattle.mspec_check.specs.Sites.{around}
use Rattle.mspec_check.specs.Wants.{want_of}
use Rattle.mspec_check.proofs.fields.implicit_wrong.Goals as goal

pub returns-clause-told : goal.returns-clause-told
returns-clause-told c =
    let d = c.args.d.now in
    c.expr_wrong-told.ensures
    ∙ ap (λ s. found (expr_wrongs d s c.want_of-want.result c.args.value.now)) c.in_ok-seen.ensures
    ∙ ap (λ w. found (expr_wrongs d (seen_given d (around c.args.site.now)) w c.args.value.now)) (c.want_of-want.ensures ∙ ap want_of c.ref_meant.ensures)
