use Rattle.std.proofs.Common.{◌<◌, arith, length, sym, ◌∙◌, inl, inr}
use Rattle.std.proofs.lemmas.Bool.{eqb-true, eqb-false}
use Rattle.std.proofs.lemmas.List.{take_rest}
use Rattle.tag_address.proofs.NumberLaws.{no_number, not_led_at, number_found, IsFirst}
use Rattle.tag_address.proofs.numbers.read_number.Goals as goal
use Rattle.tag_address.proofs.numbers.read_number.Goals.{then-is_empty-via-then-is_empty, then-is_empty-via-else-is_empty+then-not-is_ascii_digit, then-digit-least-via-then-digit-least, then-digit-least-via-else-digit-least+then-digit-most}

pub returns-then-is_empty-clause-missing : goal.returns-then-is_empty-clause-missing
returns-then-is_empty-clause-missing c =
    no_number c.args.least c.args.most c.args.text.now c.requires.low c.requires.order (omega arith) (not_led_at (IsFirst c.args.least c.args.most) c.args.text.now (λ some first.
    elim c.then-is_empty.branch [
      | then-is_empty-via-then-is_empty w ↦ let none = eqb-true (length c.args.text.now) 0 (sym c.is_empty.ensures ∙ w.if-is_empty.true) in omega (arith, none)
      | then-is_empty-via-else-is_empty+then-not-is_ascii_digit w ↦
          elim w.if-not-is_ascii_digit.ensures.cases [
            | inl below ↦ omega (arith, first.0)
            | inr above ↦ omega (arith, first.1)
          ]
    ]))

pub returns-then-digit-least-clause-missing : goal.returns-then-digit-least-clause-missing
returns-then-digit-least-clause-missing c =
    no_number c.args.least c.args.most c.args.text.now c.requires.low c.requires.order (omega arith) (not_led_at (IsFirst c.args.least c.args.most) c.args.text.now (λ some first.
    elim c.then-digit-least.branch [
      | then-digit-least-via-then-digit-least w ↦ omega (arith, first.2)
      | then-digit-least-via-else-digit-least+then-digit-most w ↦ omega (arith, first.3)
    ]))

pub returns-clause-found : goal.returns-clause-found
returns-clause-found c =
    let some : 0 < length c.args.text.now = (let not = eqb-false (length c.args.text.now) 0 (sym c.is_empty.ensures ∙ c.if-is_empty.false) in omega (arith, not)) in
    number_found c.args.least c.args.most c.from-digit.result c.with_digits-value.result.0 c.with_digits-value.result.1 c.args.text.now some c.if-not-is_ascii_digit.ensures.cases c.from-digit.ensures (omega arith) (rw take_rest at c.with_digits-value.ensures)
