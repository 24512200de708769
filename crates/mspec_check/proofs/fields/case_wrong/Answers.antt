use Rattle.std.proofs.Common.{◌∙◌}
use Rattle.mspec_check.specs.Sites.{around_outer}
use Rattle.mspec_check.proofs.FieldLaws.{case_told}
use Rattle.mspec_check.proofs.fields.case_wrong.Goals as goal

pub returns-clause-told : goal.returns-clause-told
returns-clause-told c =
    case_told c.args.d.now (around_outer c.args.outer.now) c.args.names.now c.args.case.now c.as_slice.result.now c.as_slice-2.result.now c.keys_wrong-keys.result c.in_ok-fields.fields c.earlier.result
    (c.as_slice.ensures ∙ c.requires) c.as_slice-2.ensures c.keys_wrong-keys.ensures c.in_ok-fields.ensures.told c.earlier.ensures
