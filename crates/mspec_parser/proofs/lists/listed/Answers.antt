use Rattle.std.proofs.Common.{◌-◌, length, sym, ◌∙◌}
use Rattle.std.proofs.lemmas.Result.{err_from_is_err_and}
use Rattle.mspec_parser.specs.declared.words.Mark.TheVariants.{Comma}
use Rattle.mspec_parser.specs.Readers.{from_on, is_mark, listed}
use Rattle.mspec_parser.proofs.Loop.{behind_comma, goes-on, ends, is-over, is-done, comma-gives, comma-fails, part-fails}
use Rattle.mspec_parser.proofs.lists.listed.Goals as goal

pub returns-then-not-begins_mark : goal.returns-then-not-begins_mark
returns-then-not-begins_mark g c =
    let read = g.P.Part.read in
    let text = c.args.text.now in
    let tokens = c.args.tokens.now in
    is-over (is_mark Comma) (behind_comma read) c.parts.parts (length tokens - c.parts.counter) (from_on text tokens c.parts.next)
    (listed read (from_on text tokens c.args.at)) (sym c.begins_mark.ensures ∙ c.if-not-begins_mark.true) c.parts.invariant

pub returns-in_err-behind : goal.returns-in_err-behind
returns-in_err-behind g c =
    let read = g.P.Part.read in
    let text = c.args.text.now in
    let tokens = c.args.tokens.now in
    let xs = from_on text tokens c.parts.next in
    let e = c.in_err-behind.field-0.0 in
    let p = err_from_is_err_and c.from_residual-in_err-behind.result c.from_residual-in_err-behind.ensures.1 in
    rw (p.1, p.2) (ends (is_mark Comma) (behind_comma read) e c.parts.parts text tokens (length tokens) c.parts.counter xs
    (listed read (from_on text tokens c.args.at)) c.parts-test.true (sym c.begins_mark.ensures ∙ c.if-not-begins_mark.false)
    (comma-fails read e text tokens xs c.in_err-behind.ensures) c.parts.invariant)

pub returns-in_err-part : goal.returns-in_err-part
returns-in_err-part g c =
    let read = g.P.Part.read in
    let text = c.args.text.now in
    let tokens = c.args.tokens.now in
    let xs = from_on text tokens c.parts.next in
    let e = c.in_err-part.field-0.0 in
    let p = err_from_is_err_and c.from_residual-in_err-part.result c.from_residual-in_err-part.ensures.1 in
    rw (p.1, p.2) (ends (is_mark Comma) (behind_comma read) e c.parts.parts text tokens (length tokens) c.parts.counter xs
    (listed read (from_on text tokens c.args.at)) c.parts-test.true (sym c.begins_mark.ensures ∙ c.if-not-begins_mark.false)
    (part-fails read e text tokens xs (from_on text tokens c.in_ok-behind.behind) c.in_ok-behind.field-0-0 c.in_ok-behind.ensures c.in_err-part.ensures) c.parts.invariant)

pub parts-preserved : goal.parts-preserved
parts-preserved g c =
    let read = g.P.Part.read in
    let text = c.args.text.now in
    let tokens = c.args.tokens.now in
    let xs = from_on text tokens c.parts.next in
    rw c.in_ok-push-2.ensures.ok (goes-on (is_mark Comma) (behind_comma read) c.parts.parts (length tokens) c.parts.counter xs
    (from_on text tokens c.in_ok-part.after) c.in_ok-part.part (listed read (from_on text tokens c.args.at)) c.parts-test.true
    (sym c.begins_mark.ensures ∙ c.if-not-begins_mark.false)
    (comma-gives read xs (from_on text tokens c.in_ok-behind.behind) (from_on text tokens c.in_ok-part.after) c.in_ok-behind.field-0-0 c.in_ok-part.part
    c.in_ok-behind.ensures c.in_ok-part.ensures)
    c.parts.invariant)

pub returns : goal.returns
returns g c =
    let read = g.P.Part.read in
    let text = c.args.text.now in
    let tokens = c.args.tokens.now in
    is-done (is_mark Comma) (behind_comma read) c.parts.parts (length tokens) c.parts.counter (from_on text tokens c.parts.next)
    (listed read (from_on text tokens c.args.at)) c.parts-test.false c.parts.invariant
