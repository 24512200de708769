use Rattle.std.proofs.Common.{◌≡◌, ◌∙◌, [], ap}
use Rattle.mspec_tree.specs.declared.fields.Field.{out-Field}
use Rattle.mspec_expr.specs.Kinds.{layer}
use Rattle.mspec_rules.specs.Wrongs.{found}
use Rattle.mspec_check.specs.Fields.{any_field_wrongs, placed_wrongs}
use Rattle.mspec_check.specs.Sites.{around}
use Rattle.mspec_check.proofs.FieldLaws.{fields_next, kept_here, kept_next, names_next, place_at, top_around}
use Rattle.mspec_check.proofs.fields.fields_wrong.Goals as goal

pub loop-i-preserved : goal.loop-i-preserved
loop-i-preserved c =
    let d = c.args.d.now in
    let params = c.args.outer.now.params.now in
    let fields = c.args.fields.now in
    let i = c.loop-i.i in
    let field = c.index-fields-i.result in
    let one : c.in_ok-one.one ≡ found (placed_wrongs d (place_at params [] [] fields i field)) =
    c.in_ok-one.ensures.told
    ∙ ap (λ a. found (any_field_wrongs d a (out-Field field).place (layer field))) (c.site_at-site.ensures.around ∙ top_around c.args.outer.now fields i c.requires.before c.requires.after) in
    record {
      told =
          fields_next (placed_wrongs d) params [] [] fields i field c.loop-i.told c.in_ok-one.one c.earlier-told.result c.loop-i-test.true c.index-fields-i.is one c.earlier-told.ensures
          ∙ c.loop-i.invariant.told;
      given =
          kept_next d params [] [] fields i field (around c.site_at-site.result) c.any_field_wrong.new.given c.kept-given.result c.loop-i-test.true c.index-fields-i.is (c.site_at-site.ensures.around ∙ top_around c.args.outer.now fields i c.requires.before c.requires.after) c.in_ok-one.ensures.kept c.kept-given.ensures;
      names =
          names_next d params [] fields i field c.any_field_wrong.new.scope.names c.see_field.new.scope.names c.loop-i-test.true c.index-fields-i.is (c.in_ok-one.ensures.names ∙ c.loop-i.invariant.names) c.in_ok-see_field.ensures;
    }

pub any_field_wrong-requires-clause-kept : goal.any_field_wrong-requires-clause-kept
any_field_wrong-requires-clause-kept c =
    let params = c.args.outer.now.params.now in
    let fields = c.args.fields.now in
    let i = c.loop-i.i in
    let field = c.index-fields-i.result in
    kept_here c.args.d.now params [] [] fields i field (around c.site_at-site.result) c.loop-i.given c.loop-i-test.true c.index-fields-i.is (c.site_at-site.ensures.around ∙ top_around c.args.outer.now fields i c.requires.before c.requires.after) c.loop-i.invariant.given
