use Rattle.std.proofs.Common.{◌-◌, length, sym, ◌∙◌}
use Rattle.std.proofs.lemmas.Result.{err_from_is_err_and}
use Rattle.mspec_parser.specs.Readers.{from_on, is_mark, many}
use Rattle.mspec_parser.proofs.Loop.{goes-on, ends, is-over, is-done}
use Rattle.mspec_parser.proofs.lists.many.Goals as goal

pub returns-then-not-begins_mark : goal.returns-then-not-begins_mark
returns-then-not-begins_mark g c =
    let read = g.P.Part.read in
    let begins = is_mark c.args.first in
    let text = c.args.text.now in
    let tokens = c.args.tokens.now in
    let all = from_on text tokens c.args.at in
    is-over begins read c.parts.parts (length tokens - c.parts.counter) (from_on text tokens c.parts.next)
    (many begins read (length all) all) (sym c.begins_mark.ensures ∙ c.if-not-begins_mark.true) c.parts.invariant

pub returns-in_err-part : goal.returns-in_err-part
returns-in_err-part g c =
    let read = g.P.Part.read in
    let begins = is_mark c.args.first in
    let text = c.args.text.now in
    let tokens = c.args.tokens.now in
    let all = from_on text tokens c.args.at in
    let e = c.in_err-part.field-0.0 in
    let p = err_from_is_err_and c.from_residual.result c.from_residual.ensures.1 in
    rw (p.1, p.2) (ends begins read e c.parts.parts text tokens (length tokens) c.parts.counter (from_on text tokens c.parts.next)
    (many begins read (length all) all) c.parts-test.true (sym c.begins_mark.ensures ∙ c.if-not-begins_mark.false) c.in_err-part.ensures c.parts.invariant)

pub parts-preserved : goal.parts-preserved
parts-preserved g c =
    let read = g.P.Part.read in
    let begins = is_mark c.args.first in
    let text = c.args.text.now in
    let tokens = c.args.tokens.now in
    let all = from_on text tokens c.args.at in
    rw c.in_ok-push.ensures.ok (goes-on begins read c.parts.parts (length tokens) c.parts.counter (from_on text tokens c.parts.next)
    (from_on text tokens c.in_ok-part.after) c.in_ok-part.part (many begins read (length all) all) c.parts-test.true
    (sym c.begins_mark.ensures ∙ c.if-not-begins_mark.false) c.in_ok-part.ensures c.parts.invariant)

pub returns : goal.returns
returns g c =
    let read = g.P.Part.read in
    let begins = is_mark c.args.first in
    let text = c.args.text.now in
    let tokens = c.args.tokens.now in
    let all = from_on text tokens c.args.at in
    is-done begins read c.parts.parts (length tokens) c.parts.counter (from_on text tokens c.parts.next)
    (many begins read (length all) all) c.parts-test.false c.parts.invariant
