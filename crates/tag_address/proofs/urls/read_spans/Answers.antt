use Rattle.std.proofs.Common.{◌≡◌, ◌+◌, ◌-◌, ℕ, List, take, drop, arith, subst}
use Rattle.std.proofs.lemmas.List.{take_rest}
use Rattle.tag_address.specs.declared.urls.Url.TheVariants.{Modbus}
use Rattle.tag_address.specs.Parts.{IsRead}
use Rattle.tag_address.specs.UrlParts.{IsWholeUrl}
use Rattle.tag_address.proofs.UrlLaws.{scheme_missing, scheme_read, scheme_stuck}
use Rattle.tag_address.proofs.urls.read_spans.Goals as goal

pub returns-in-Ok-read_behind_scheme-clause-read : goal.returns-in-Ok-read_behind_scheme-clause-read
returns-in-Ok-read_behind_scheme-clause-read c =
    let text : List ℕ = c.args.text.now in
    let used : ℕ = c.in-Ok.used in
    let length : ℕ = c.in-Ok-read_behind_scheme.length in
    let same : length ≡ used + length - used = omega arith in
    subst (λ (k : ℕ). IsRead IsWholeUrl text (Modbus (take k (drop used text)) c.in-Ok-read_behind_scheme.port c.in-Ok-read_behind_scheme.unit)) same
    (scheme_read text c.in-Ok.field-0-0 used _ c.in-Ok.ensures.found (rw take_rest at c.in-Ok-read_behind_scheme.ensures.read))

pub returns-in-Err-read_behind_scheme-clause-stuck : goal.returns-in-Err-read_behind_scheme-clause-stuck
returns-in-Err-read_behind_scheme-clause-stuck c =
    scheme_stuck c.args.text.now c.in-Ok.field-0-0 c.in-Ok.used c.in-Err-read_behind_scheme.place c.in-Ok.ensures.found (rw take_rest at c.in-Err-read_behind_scheme.ensures.stuck)

pub returns-in-Err-clause-stuck : goal.returns-in-Err-clause-stuck
returns-in-Err-clause-stuck c = scheme_missing c.args.text.now c.in-Err.place c.in-Err.ensures.stuck
