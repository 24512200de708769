use Rattle.std.proofs.Common.{rules, tests, sym, ◌∙◌}
use Rattle.std.specs.Char.{is_ascii_digit}
use Rattle.std.proofs.lemmas.Iterator.{YieldsList-from_slice}
use Rattle.std.proofs.lemmas.Iterator.Search.{all_from_yields_List}
use Rattle.script_lines.proofs.NumberLaws.{other_byte, no_other_text, same_text, parse_is_number_of}
use Rattle.script_lines.proofs.words.read_number.Goals as goal

pub returns-then-not-all : goal.returns-then-not-all
returns-then-not-all c =
    let all = all_from_yields_List is_ascii_digit _ _ c.all.result c.all.ensures.ran (YieldsList-from_slice c.args.word.now cc) (λ x b q k. search (rules, tests)) in
    other_byte c.args.word.now (sym all ∙ c.if-not-all.true)

pub returns-in_err-ok : goal.returns-in_err-ok
returns-in_err-ok c =
    let all = all_from_yields_List is_ascii_digit _ _ c.all.result c.all.ensures.ran (YieldsList-from_slice c.args.word.now cc) (λ x b q k. search (rules, tests)) in
    absurd (no_other_text _ c.args.word.now c.from_utf8.result (sym all ∙ c.if-not-all.false) c.from_utf8.ensures.cases c.in_err-ok.ensures.value)

pub returns : goal.returns
returns c =
    let all = all_from_yields_List is_ascii_digit _ _ c.all.result c.all.ensures.ran (YieldsList-from_slice c.args.word.now cc) (λ x b q k. search (rules, tests)) in
    let same = same_text _ c.args.word.now c.from_utf8.result c.in_ok-ok.field-0 c.from_utf8.ensures.cases c.in_ok-ok.ensures.value in
    let given = rw same at c.parse.ensures.value.0 in
    c.ok-2.ensures.value ∙ parse_is_number_of c.args.word.now c.parse.result (sym all ∙ c.if-not-all.false) given
