use Rattle.std.proofs.Common.{◌∙◌, sym, ap}
use Rattle.std.specs.Option.{option_copied}
use Rattle.mspec_check.proofs.PaddingLaws.{before_none, before_some}
use Rattle.mspec_check.proofs.paddings.field_at.Goals as goal

pub returns-in-Some : goal.returns-in-Some
returns-in-Some c =
    sym (before_some c.args.name.now c.args.site.now.outer_before.now c.args.site.now.before.now c.in-Some.field.now (sym c.field_before.ensures ∙ ap option_copied c.in-Some.is))

pub returns-in-None : goal.returns-in-None
returns-in-None c =
    c.field_before-in-None.ensures
    ∙ sym (before_none c.args.name.now c.args.site.now.outer_before.now c.args.site.now.before.now (sym c.field_before.ensures ∙ ap option_copied c.in-None.is))
