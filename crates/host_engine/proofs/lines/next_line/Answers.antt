use Rattle.std.proofs.Common.{◌≡◌, ℕ, ◌+◌, ◌==◌, true, false, List, ◌∷◌, take, length, ap, sym, ◌∙◌, ◌<◌, arith}
use Rattle.std.proofs.lemmas.List.{take_rest}
use Rattle.std.proofs.lemmas.Bool.Decides.{nat_tests}
use Rattle.host_engine.specs.Lines.{lines_in}
use Rattle.host_engine.proofs.LineLemmas.{line_at, last_is, no_feed, left_full, left_open, left_empty}
use Rattle.host_engine.proofs.lines.next_line.Goals.{then-ended+else-not-is_empty, else-ended}
use Rattle.host_engine.proofs.lines.next_line.Goals as goal

positive : (n : ℕ) → (n == 0) ≡ false → 0 < n
positive n h = grind (arith, nat_tests)

none : (n : ℕ) → (n == 0) ≡ true → n ≡ 0
none n h = grind (arith, nat_tests)

pub returns-in-Some-clause-line : goal.returns-in-Some-clause-line
returns-in-Some-clause-line c =
    let bytes = c.args.bytes.now in
    let at = c.in-Some.at in
    line_at c.args.ended bytes at c.in-Some.ensures
    ∙ ap (λ (rest : List _). take at bytes ∷ lines_in c.args.ended rest) (sym (take_rest bytes (at + 1)))

pub returns-in-None-clause-line : goal.returns-in-None-clause-line
returns-in-None-clause-line c =
    let bytes = c.args.bytes.now in
    let some : 0 < length bytes = positive (length bytes) (sym c.if-not-is_empty.ensures) in
    last_is c.args.ended bytes (no_feed bytes c.in-None.ensures) ∙ left_full c.args.ended bytes c.if-ended.true some

pub returns-in-None-2-clause-line : goal.returns-in-None-2-clause-line
returns-in-None-2-clause-line c =
    let bytes = c.args.bytes.now in
    last_is c.args.ended bytes (no_feed bytes c.in-None-2.ensures)
    ∙ elim c.if-ended.branch [ then-ended+else-not-is_empty w ↦ left_empty c.args.ended bytes (none (length bytes) (sym w.if-not-is_empty.ensures)) | else-ended w ↦ left_open c.args.ended bytes w.if-ended.false ]
