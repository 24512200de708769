use Rattle.std.proofs.Common.{◌∙◌, sym, ap}
use Rattle.mspec_rules.specs.Wrongs.{found}
use Rattle.mspec_check.specs.Arguments.{arguments_wrongs, params_taken, ref_wrongs}
use Rattle.mspec_check.proofs.arguments.ref_wrong.Goals as goal

pub returns-in-Named : goal.returns-in-Named
returns-in-Named c =
    c.arguments_wrong.ensures
    ∙ ap (λ ps. found (arguments_wrongs c.args.d.now c.args.scope.now c.in-Named.place ps 0 c.as_slice-in-Named.result.now)) (c.params_taken-params.ensures ∙ ap (λ n. params_taken c.args.d.now n) c.as_slice.ensures)
    ∙ ap (λ es. found (arguments_wrongs c.args.d.now c.args.scope.now c.in-Named.place (params_taken c.args.d.now c.in-Named.name) 0 es)) c.as_slice-in-Named.ensures
    ∙ sym (ap (λ k. found (ref_wrongs c.args.d.now c.args.scope.now k)) c.in-Named.is)
