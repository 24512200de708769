use Rattle.std.proofs.Common.{◌∙◌, ap, None}
use Rattle.mspec_eval.specs.Views.{shown}
use Rattle.mspec_eval.proofs.ViewLaws.{name_and_node, no_name, no_node, shown_at}
use Rattle.mspec_eval.proofs.views.GivenView.seen.Goals as goal

pub returns-in_err-place : goal.returns-in_err-place
returns-in_err-place c = ap shown c.from_residual.ensures ∙ shown_at c.args.name.now c.args.self.now.scope.now.names c.args.self.now.env.now.names None c.in_err-place.ensures

pub returns-in_err-seen : goal.returns-in_err-seen
returns-in_err-seen c = ap shown c.from_residual-in_err-seen.ensures ∙ no_name c.args.name.now c.args.self.now.scope.now.names c.args.self.now.env.now.names c.in_ok-place.place c.in_ok-place.ensures c.in_err-seen.ensures.value

pub returns-in_err-given : goal.returns-in_err-given
returns-in_err-given c = ap shown c.from_residual-in_err-given.ensures ∙ no_node c.args.name.now c.args.self.now.scope.now.names c.args.self.now.env.now.names c.in_ok-place.place c.in_ok-place.ensures c.in_err-given.ensures.value

pub returns : goal.returns
returns c = name_and_node c.args.name.now c.args.self.now.scope.now.names c.args.self.now.env.now.names c.in_ok-place.place c.in_ok-seen.seen.now c.in_ok-given.given.now c.in_ok-place.ensures c.in_ok-seen.ensures.value c.in_ok-given.ensures.value
