use Rattle.std.proofs.Common.{◌≡◌, ◌∷◌, ◌∙◌, ap, drop, rules, sym}
use Rattle.std.proofs.lemmas.List.{take_rest}
use Rattle.mspec_expr.specs.Kinds.{entry_fields}
use Rattle.mspec_expr.specs.Values.{entry_named}
use Rattle.mspec_eval.specs.Views.{pair_of}
use Rattle.mspec_eval.proofs.EntryLaws.{is_pair, named_own, named_rest}
use Rattle.mspec_eval.proofs.entries.+entry_named.Goals as goal

pub returns-then-is_some : goal.returns-then-is_some
returns-then-is_some t c =
    let whole : c.args.fields.now ≡ c.in_ok-field.field.now ∷ c.in_ok-field.fields.now = search rules in
    named_own c.args.case c.in_ok-field.field.now c.in_ok-field.fields.now c.entry_fields_in-own.result.now c.args.nodes.now c.args.name.now (pair_of c.entry_among-found.result)
    c.entry_fields_in-own.ensures c.entry_among-found.ensures (is_pair c.entry_among-found.result ∙ sym c.is_some.ensures ∙ c.if-is_some.true)
    ∙ ap (λ l. entry_named (entry_fields c.args.case l) c.args.nodes.now c.args.name.now) (sym whole)

pub returns : goal.returns
returns t c =
    let whole : c.args.fields.now ≡ c.in_ok-field.field.now ∷ c.in_ok-field.fields.now = search rules in
    c.entry_named.ensures
    ∙ ap (λ l. entry_named (entry_fields c.args.case c.in_ok-field.fields.now) l c.args.name.now) (take_rest c.args.nodes.now c.min.result)
    ∙ ap (λ k. entry_named (entry_fields c.args.case c.in_ok-field.fields.now) (drop k c.args.nodes.now) c.args.name.now) c.min.ensures
    ∙ named_rest c.args.case c.in_ok-field.field.now c.in_ok-field.fields.now c.entry_fields_in-own.result.now c.args.nodes.now c.args.name.now (pair_of c.entry_among-found.result)
    c.entry_fields_in-own.ensures c.entry_among-found.ensures (is_pair c.entry_among-found.result ∙ sym c.is_some.ensures ∙ c.if-is_some.false)
    ∙ ap (λ l. entry_named (entry_fields c.args.case l) c.args.nodes.now c.args.name.now) (sym whole)
