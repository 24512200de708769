use Rattle.std.proofs.Common.{◌≡◌, ◌<◌, ◌+◌, ℕ, length, max, arith, ap, subst}
use Rattle.tag_address.specs.Parts.{AreAlike, ArePassed}
use Rattle.tag_address.proofs.WordLaws.{no_word, passed_more, passed_none}
use Rattle.tag_address.proofs.words.read_word.Goals as goal
use Rattle.tag_address.proofs.words.read_word.Goals.{then-common-furthest, else-common-furthest}

pub loop-word-init : goal.loop-word-init
loop-word-init g c = passed_none g.W.Spelled.spelling c.args.words.now c.args.text.now c.requires

pub loop-word-preserved : goal.loop-word-preserved
loop-word-preserved g c =
    let spelling = g.W.Spelled.spelling in
    let text = c.args.text.now in
    let n : ℕ = c.common_front-common.result in
    let is = c.spelling_bytes-spelling.ensures in
    let alike : AreAlike (spelling c.word-item.result) text n = rw is at c.common_front-common.ensures in
    let long = ap length is in
    let short : n < length (spelling c.word-item.result) = omega (arith, long, c.if-common-spelling.false, c.common_front-common.ensures.in_word) in
    let furthest : max c.loop-word.furthest n ≡ c.if-common-furthest.furthest =
    elim c.if-common-furthest.branch [ then-common-furthest w ↦ omega arith | else-common-furthest w ↦ omega arith ] in
    let passed = passed_more spelling c.args.words.now text c.loop-word.word-index c.loop-word.furthest n c.word-item.result c.loop-word.invariant c.loop-word-test.true c.word-item.is alike short in
    subst (ArePassed spelling c.args.words.now (c.loop-word.word-index + 1) text) furthest passed

pub returns-clause-stuck : goal.returns-clause-stuck
returns-clause-stuck g c =
    let all : c.loop-word.word-index ≡ length c.args.words.now = omega arith in
    no_word g.W.Spelled.spelling c.args.words.now c.args.text.now c.loop-word.furthest
    (subst (λ (i : ℕ). ArePassed g.W.Spelled.spelling c.args.words.now i c.args.text.now c.loop-word.furthest) all c.loop-word.invariant)
