use Rattle.std.proofs.Common.{codes}
use Rattle.answer_texts.proofs.AppendLemmas.{extended, joined}
use Rattle.answer_texts.proofs.answers.append_refusal.Goals as goal

pub returns-in_ok-extend_from_slice-in-Unwritable : goal.returns-in_ok-extend_from_slice-in-Unwritable
returns-in_ok-extend_from_slice-in-Unwritable c =
    let old = c.args.text.now.items in
    let middle = c.extend_from_slice-in-Unwritable.new.self.items in
    let end = c.extend_from_slice-in-Unwritable-2 in
    let new = end.new.self.items in
    let why = c.write_why_text.result.now in
    let added = joined end.result old middle new (codes "unwritable ") why c.in_ok-extend_from_slice-in-Unwritable.ensures.items (extended end.result middle new why end.ensures.items) in
    rw c.in-Unwritable.is (rw (← c.write_why_text.ensures) added)

pub returns-in-NoReference : goal.returns-in-NoReference
returns-in-NoReference c =
    let end = c.extend_from_slice-in-NoReference in
    rw c.in-NoReference.is (extended end.result c.args.text.now.items end.new.self.items (codes "no reference") end.ensures.items)
