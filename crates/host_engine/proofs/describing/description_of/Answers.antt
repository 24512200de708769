use Rattle.std.proofs.Common.{subst, sym}
use Rattle.std.proofs.lemmas.Result.{err_from_is_err_and}
use Rattle.mspec_tree.specs.declared.defs.Description.{Description}
use Rattle.host_engine.specs.Texts.{Describes, IsTreeOf}
use Rattle.host_engine.proofs.TextLaws.{check_refused, lex_refused, parse_refused}
use Rattle.host_engine.proofs.describing.description_of.Goals as goal

pub returns-in_err-tokens-clause-fault : goal.returns-in_err-tokens-clause-fault
returns-in_err-tokens-clause-fault c =
    let p = err_from_is_err_and c.from_residual.result c.from_residual.ensures.1 in
    rw (p.1, p.2) (lex_refused c.args.text.now c.in_err-tokens.field-0.0 c.in_err-tokens.ensures.fault)

pub returns-in_err-description-clause-fault : goal.returns-in_err-description-clause-fault
returns-in_err-description-clause-fault c =
    let p = err_from_is_err_and c.from_residual-in_err-description.result c.from_residual-in_err-description.ensures.1 in
    rw (p.1, p.2) (parse_refused c.args.text.now c.in_ok-tokens.tokens c.in_err-description.field-0.0 c.in_ok-tokens.ensures.tokens c.in_err-description.ensures.refused)

pub returns-in_err-checked-clause-fault : goal.returns-in_err-checked-clause-fault
returns-in_err-checked-clause-fault c =
    let p = err_from_is_err_and c.from_residual-in_err-checked.result c.from_residual-in_err-checked.ensures.1 in
    let text = c.args.text.now in
    let d = c.in_ok-description.description in
    let tree : IsTreeOf text d = (c.in_ok-tokens.tokens, c.in_ok-tokens.ensures.tokens, c.in_ok-description.ensures.tree) in
    rw (p.1, p.2) (check_refused text d c.in_err-checked.field-0.0 tree c.in_err-checked.ensures.refused)

pub returns-clause-described : goal.returns-clause-described
returns-clause-described c =
    let text = c.args.text.now in
    let d = c.in_ok-description.description in
    let tree : IsTreeOf text d = (c.in_ok-tokens.tokens, c.in_ok-tokens.ensures.tokens, c.in_ok-description.ensures.tree) in
    let checked = c.in_ok-checked.ensures.accepted in
    subst (λ (e : Description). Describes text e) (sym checked.0) (tree, checked.1)
