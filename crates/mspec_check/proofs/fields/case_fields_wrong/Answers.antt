use Rattle.std.proofs.Common.{◌≡◌, ◌∙◌, ap}
use Rattle.mspec_expr.specs.Kinds.{layer}
use Rattle.mspec_rules.specs.Wrongs.{found}
use Rattle.mspec_check.specs.Fields.{field_wrongs}
use Rattle.mspec_check.specs.Scopes.{Placed}
use Rattle.mspec_check.specs.Sites.{around}
use Rattle.mspec_check.proofs.FieldLaws.{fields_next, kept_here, kept_next, names_next, place_at}
use Rattle.mspec_check.proofs.fields.case_fields_wrong.Goals as goal

pub loop-i-preserved : goal.loop-i-preserved
loop-i-preserved c =
    let d = c.args.d.now in
    let outer = c.args.outer.now in
    let fields = c.args.fields.now in
    let i = c.loop-i.i in
    let field = c.index-fields-i.result in
    let g = λ (at : Placed). field_wrongs d at.around (layer at.field) in
    let one : c.in_ok-one.one ≡ found (g (place_at outer.params.now outer.before.now outer.after.now fields i field)) =
    c.in_ok-one.ensures.told ∙ ap (λ a. found (field_wrongs d a (layer field))) c.site_at-site.ensures.around in
    record {
      told =
          fields_next g outer.params.now outer.before.now outer.after.now fields i field c.loop-i.told c.in_ok-one.one c.earlier-told.result c.loop-i-test.true c.index-fields-i.is one c.earlier-told.ensures
          ∙ c.loop-i.invariant.told;
      given =
          kept_next d outer.params.now outer.before.now outer.after.now fields i field (around c.site_at-site.result) c.field_wrong.new.given c.kept-given.result c.loop-i-test.true c.index-fields-i.is c.site_at-site.ensures.around c.in_ok-one.ensures.kept c.kept-given.ensures;
      names =
          names_next d outer.params.now outer.before.now fields i field c.field_wrong.new.scope.names c.see_field.new.scope.names c.loop-i-test.true c.index-fields-i.is (c.in_ok-one.ensures.names ∙ c.loop-i.invariant.names) c.in_ok-see_field.ensures;
    }

pub field_wrong-requires-clause-kept : goal.field_wrong-requires-clause-kept
field_wrong-requires-clause-kept c =
    let outer = c.args.outer.now in
    let fields = c.args.fields.now in
    let i = c.loop-i.i in
    let field = c.index-fields-i.result in
    kept_here c.args.d.now outer.params.now outer.before.now outer.after.now fields i field (around c.site_at-site.result) c.loop-i.given c.loop-i-test.true c.index-fields-i.is c.site_at-site.ensures.around c.loop-i.invariant.given
