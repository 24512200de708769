use Rattle.std.proofs.Common.{◌≡◌, ◌*◌, ◌<◌, ◌^◌, List, get_or, ap, arith, sym, ◌∙◌}
use Rattle.std.specs.Char.{digit_value}
use Rattle.std.specs.Str.Parse.{digits_value, digits_value_after}
use Rattle.std.proofs.lemmas.List.{drop_all}
use Rattle.mspec_lexer.proofs.NumberLaws.{wide}
use Rattle.mspec_lexer.proofs.fronts.digits_value.Goals as goal

pub returns-in_err-checked_mul : goal.returns-in_err-checked_mul
returns-in_err-checked_mul c = rw c.from_residual-in_err-checked_mul.ensures (λ small.
    let least = wide c.args.radix c.loop-digit.digit-index c.loop-digit.number _ c.args.digits.now (omega arith) c.loop-digit-test.true c.loop-digit.invariant.value in
    c.in_err-checked_mul.ensures (rw c.from-in-loop-digit.ensures (omega (arith, least, small))))

pub returns-in_err-number : goal.returns-in_err-number
returns-in_err-number c = rw c.from_residual-in_err-number.ensures (λ small.
    let least = wide c.args.radix c.loop-digit.digit-index c.loop-digit.number _ c.args.digits.now (omega arith) c.loop-digit-test.true c.loop-digit.invariant.value in
    let read : (digit_value c.from.result < c.args.radix) × (c.in_ok-digit.digit ≡ digit_value c.from.result) = c.in_ok-digit.ensures.value in
    let digit : c.from-in-loop-digit-2.result ≡ digit_value (get_or c.args.digits.now c.loop-digit.digit-index 0) =
    c.from-in-loop-digit-2.ensures ∙ read.1 ∙ ap digit_value c.from.ensures in
    let times : (c.loop-digit.number * c.from-in-loop-digit.result < 2 ^ 128) × (c.in_ok-checked_mul.field-0 ≡ c.loop-digit.number * c.from-in-loop-digit.result) = c.in_ok-checked_mul.ensures in
    let product : c.in_ok-checked_mul.field-0 ≡ c.loop-digit.number * c.args.radix = times.1 ∙ ap (λ r. c.loop-digit.number * r) c.from-in-loop-digit.ensures in
    c.in_err-number.ensures (rw (digit, product) (omega (arith, least, small))))

pub returns : goal.returns
returns c =
    let done = drop_all c.loop-digit.digit-index c.args.digits.now c.loop-digit-test.false in
    let value : digits_value c.args.radix c.args.digits.now ≡ c.loop-digit.number =
    c.loop-digit.invariant.value ∙ ap (λ (ds : List _). digits_value_after c.args.radix c.loop-digit.number ds) done in
    (rw value c.loop-digit.invariant.small, sym value)
