use Rattle.std.proofs.Common.{◌∙◌, ap, Some, None}
use Rattle.mspec_eval.specs.Views.{shown}
use Rattle.mspec_eval.proofs.ViewLaws.{before}
use Rattle.mspec_eval.proofs.views.BeforeSizedView.seen.Goals as goal

pub returns-in_err-field : goal.returns-in_err-field
returns-in_err-field c = ap shown c.from_residual.ensures ∙ before c.args.self.now.d.now c.args.self.now.names.now c.args.name.now None c.in_err-field.ensures

pub returns : goal.returns
returns c = ap (λ m. Some (m, c.in_ok-field.node.now)) c.field_meant.ensures ∙ before c.args.self.now.d.now c.args.self.now.names.now c.args.name.now (Some (c.in_ok-field.field.now, c.in_ok-field.node.now)) c.in_ok-field.ensures
