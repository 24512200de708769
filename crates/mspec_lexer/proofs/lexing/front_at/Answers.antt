use Rattle.std.proofs.Common.{◌≡◌, ◌-◌, length, length-drop, take, drop, sym, ap, ◌∙◌, arith}
use Rattle.std.proofs.Math.Seq.{take-length}
use Rattle.mspec_lexer.specs.LexerParts.{front_of}
use Rattle.mspec_lexer.proofs.CutLaws.{within}
use Rattle.mspec_lexer.proofs.FrontLaws.{ok_parts}
use Rattle.mspec_lexer.proofs.lexing.front_at.Goals as goal

pub returns-in-Ok-clause-within : goal.returns-in-Ok-clause-within
returns-in-Ok-clause-within c =
    let text = c.args.text.now in
    let from = c.args.from in
    let whole : take (length text - from) (drop from text) ≡ drop from text =
    ap (λ n. take n (drop from text)) (sym (length-drop from text)) ∙ take-length (drop from text) in
    let parts = ok_parts text from c.in-Ok.front c.requires (sym (c.in-Ok.ensures ∙ ap front_of whole)) in
    (parts.some, within text from c.in-Ok.front (omega arith) parts)
