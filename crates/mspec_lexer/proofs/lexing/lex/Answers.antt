use Rattle.std.proofs.Common.{◌≡◌, ◌+◌, ◌-◌, take, drop, List, sym, ap, ◌∙◌, subst, arith, length-take}
use Rattle.std.proofs.lemmas.Result.{err_from_is_err_and}
use Rattle.mspec_tree.specs.declared.words.Place.{Place}
use Rattle.mspec_lexer.specs.declared.tokens.Token.{Token}
use Rattle.mspec_lexer.specs.LexerParts.{front_of, stepped}
use Rattle.mspec_lexer.proofs.CutLaws.{Cut, next, refused, stepped_within}
use Rattle.mspec_lexer.proofs.FrontLaws.{none_at, parts_at, placed_err}
use Rattle.mspec_lexer.proofs.lexing.lex.Goals as goal

pub returns-in_err-front-clause-fault : goal.returns-in_err-front-clause-fault
returns-in_err-front-clause-fault c =
    let p = err_from_is_err_and c.from_residual.result c.from_residual.ensures.1 in
    let text = c.args.text.now in
    let from = c.loop-from.from in
    let inv = c.loop-from.invariant in
    let placed = placed_err c.loop-from.place (front_of (drop from text)) c.in_err-front.field-0.0 c.in_err-front.ensures.front in
    let why = refused text from c.loop-from.place c.loop-from.tokens.items placed.why inv.short inv.cut (none_at text from placed.why c.loop-from-test.true placed.was) in
    rw (p.1, p.2, placed.at) why

pub loop-from-preserved : goal.loop-from-preserved
loop-from-preserved c =
    let text = c.args.text.now in
    let from = c.loop-from.from in
    let front = c.in_ok-front.front in
    let inv = c.loop-from.invariant in
    let parts = parts_at text from c.loop-from.place front c.loop-from-test.true c.in_ok-front.ensures.front in
    let cut = next text from c.loop-from.place c.loop-from.tokens.items front inv.cut parts in
    let len : from + front.len - from ≡ front.len = omega arith in
    let place : c.stepped-place.result ≡ stepped c.loop-from.place (take front.len (drop from text)) =
    c.stepped-place.ensures ∙ ap (λ n. stepped c.loop-from.place (take n (drop from text))) len in
    let bounds = stepped_within c.loop-from.place (take front.len (drop from text)) in
    let taken = length-take front.len (drop from text) in
    record {
      short = inv.short;
      within = c.in_ok-front.ensures.within.1;
      line = omega (arith, bounds.0, taken, inv.line, ap (λ (p : Place). p.line) place);
      column = omega (arith, bounds.1, taken, inv.column, ap (λ (p : Place). p.column) place);
      cut =
          subst (λ (p : Place). Cut text (from + front.len) p c.keep.new.tokens.items) (sym place)
          (subst (λ (l : List Token). Cut text (from + front.len) (stepped c.loop-from.place (take front.len (drop from text))) l) (sym c.in_ok-keep.ensures) cut);
    }
