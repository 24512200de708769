use Rattle.std.proofs.Common.{◌≡◌, ◌+◌, ◌∙◌, ◌&&◌, Bool, false, Some, None, drop, get_or, ap, sym}
use Rattle.std.specs.Option.{option_copied}
use Rattle.mspec_tree.specs.declared.words.Lit.TheVariants.{Num}
use Rattle.mspec_rules.specs.Found.{from_here_or}
use Rattle.mspec_rules.specs.Literals.{attr_fits, attrs_fit}
use Rattle.mspec_rules.proofs.LiteralLaws.{attr_here, attr_past}
use Rattle.mspec_rules.proofs.literals.attrs_fit.Goals as goal

pub returns-in_default : goal.returns-in_default
returns-in_default c =
    let lit = get_or c.args.attrs.now c.loop-i.i (Num false 0) in
    sym
    (c.loop-i.invariant
    ∙ attr_past c.args.d.now c.args.params.now c.args.attrs.now c.loop-i.i lit (from_here_or c.args.attrs.now c.loop-i.i (Num false 0) c.loop-i-test.true)
    (sym (ap option_copied c.in_default.is) ∙ c.at.ensures))

pub returns-then-not-attr_fits : goal.returns-then-not-attr_fits
returns-then-not-attr_fits c =
    let lit = get_or c.args.attrs.now c.loop-i.i (Num false 0) in
    sym
    (c.loop-i.invariant
    ∙ attr_here c.args.d.now c.args.params.now c.args.attrs.now c.loop-i.i lit c.in-Some.param.now (from_here_or c.args.attrs.now c.loop-i.i (Num false 0) c.loop-i-test.true)
    (sym (ap option_copied c.in-Some.is) ∙ c.at.ensures)
    ∙ ap (λ b. b && attrs_fit c.args.d.now (drop (c.loop-i.i + 1) c.args.params.now) (drop (c.loop-i.i + 1) c.args.attrs.now))
    (sym (c.attr_fits.ensures ∙ ap (λ s. attr_fits s lit) c.ref_simple.ensures) ∙ c.if-not-attr_fits.true))

pub loop-i-preserved : goal.loop-i-preserved
loop-i-preserved c =
    let lit = get_or c.args.attrs.now c.loop-i.i (Num false 0) in
    c.loop-i.invariant
    ∙ attr_here c.args.d.now c.args.params.now c.args.attrs.now c.loop-i.i lit c.in-Some.param.now (from_here_or c.args.attrs.now c.loop-i.i (Num false 0) c.loop-i-test.true)
    (sym (ap option_copied c.in-Some.is) ∙ c.at.ensures)
    ∙ ap (λ b. b && attrs_fit c.args.d.now (drop (c.loop-i.i + 1) c.args.params.now) (drop (c.loop-i.i + 1) c.args.attrs.now))
    (sym (c.attr_fits.ensures ∙ ap (λ s. attr_fits s lit) c.ref_simple.ensures) ∙ c.if-not-attr_fits.false)
