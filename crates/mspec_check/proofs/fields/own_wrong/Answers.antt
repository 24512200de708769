use Rattle.std.proofs.Common.{◌≡◌, ◌∙◌, ap, sym, subst}
use Rattle.std.specs.Prelude.{IfOk}
use Rattle.mspec_tree.specs.declared.fields.Body.TheOpen.{Body-F}
use Rattle.mspec_tree.specs.declared.fields.Body.TheVariants as body
use Rattle.mspec_expr.specs.Kinds.{BodyLayer}
use Rattle.mspec_rules.specs.Wrongs.{found}
use Rattle.mspec_check.specs.Expressions.{expr_wrongs}
use Rattle.mspec_check.specs.Fields.{own_expression}
use Rattle.mspec_check.specs.Scopes.{checksum_words, no_words, seen_before}
use Rattle.mspec_check.specs.Sites.{around}
use Rattle.mspec_check.specs.Wants.{want_of}
use Rattle.mspec_check.proofs.FieldLaws.{layer_of, own_at}
use Rattle.mspec_check.proofs.fields.own_wrong.Goals as goal

pub returns-in-Implicit-clause-told : goal.returns-in-Implicit-clause-told
returns-in-Implicit-clause-told c =
    let at = layer_of c.args.field.now (Body-F.Implicit c.in-Implicit.kind c.in-Implicit.value) (c.in-Implicit.is ∙ sym (body.rolls-Implicit c.in-Implicit.kind c.in-Implicit.value)) in
    subst (λ (l : BodyLayer). IfOk c.implicit_wrong.result (λ told. told ≡ found (own_expression c.args.d.now (around c.args.site.now) l))) (sym at) c.implicit_wrong.ensures.told

pub returns-in-Virtual-clause-told : goal.returns-in-Virtual-clause-told
returns-in-Virtual-clause-told c =
    own_at c.args.d.now (around c.args.site.now) c.args.field.now (Body-F.Virtual c.in-Virtual.kind c.in-Virtual.value) c.seen_wrong.result
    (c.in-Virtual.is ∙ sym (body.rolls-Virtual c.in-Virtual.kind c.in-Virtual.value))
    (c.seen_wrong.ensures.told
    ∙ ap (λ w. found (expr_wrongs c.args.d.now (seen_before c.args.d.now (around c.args.site.now) no_words) w c.in-Virtual.value)) (c.want_of-want.ensures ∙ ap want_of c.ref_meant.ensures))

pub returns-in-Optional-clause-told : goal.returns-in-Optional-clause-told
returns-in-Optional-clause-told c =
    own_at c.args.d.now (around c.args.site.now) c.args.field.now (Body-F.Optional c.in-Optional.field-0 c.in-Optional.condition) c.seen_wrong-in-Optional.result
    (c.in-Optional.is ∙ sym (body.rolls-Optional c.in-Optional.field-0 c.in-Optional.condition))
    c.seen_wrong-in-Optional.ensures.told

pub returns-in-Checksum-clause-told : goal.returns-in-Checksum-clause-told
returns-in-Checksum-clause-told c =
    own_at c.args.d.now (around c.args.site.now) c.args.field.now (Body-F.Checksum c.in-Checksum.simple c.in-Checksum.value) c.seen_wrong-in-Checksum.result
    (c.in-Checksum.is ∙ sym (body.rolls-Checksum c.in-Checksum.simple c.in-Checksum.value))
    (c.seen_wrong-in-Checksum.ensures.told
    ∙ ap (λ w. found (expr_wrongs c.args.d.now (seen_before c.args.d.now (around c.args.site.now) checksum_words) w c.in-Checksum.value)) (c.want_of-want-in-Checksum.ensures ∙ ap want_of c.simple_meant.ensures))

pub returns-in-Padding-clause-told : goal.returns-in-Padding-clause-told
returns-in-Padding-clause-told c =
    own_at c.args.d.now (around c.args.site.now) c.args.field.now (Body-F.Padding c.in-Padding.field-0 c.in-Padding.field-1 c.in-Padding.count) c.padding_wrong.result
    (c.in-Padding.is ∙ sym (body.rolls-Padding c.in-Padding.field-0 c.in-Padding.field-1 c.in-Padding.count))
    c.padding_wrong.ensures.told

pub returns-in-CountArray-clause-told : goal.returns-in-CountArray-clause-told
returns-in-CountArray-clause-told c =
    own_at c.args.d.now (around c.args.site.now) c.args.field.now (Body-F.CountArray c.in-CountArray.field-0 c.in-CountArray.count) c.seen_wrong-in-CountArray.result
    (c.in-CountArray.is ∙ sym (body.rolls-CountArray c.in-CountArray.field-0 c.in-CountArray.count))
    c.seen_wrong-in-CountArray.ensures.told

pub returns-in-LengthArray-clause-told : goal.returns-in-LengthArray-clause-told
returns-in-LengthArray-clause-told c =
    own_at c.args.d.now (around c.args.site.now) c.args.field.now (Body-F.LengthArray c.in-LengthArray.field-0 c.in-LengthArray.bytes) c.seen_wrong-in-LengthArray.result
    (c.in-LengthArray.is ∙ sym (body.rolls-LengthArray c.in-LengthArray.field-0 c.in-LengthArray.bytes))
    c.seen_wrong-in-LengthArray.ensures.told
