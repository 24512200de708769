use Rattle.std.proofs.Common.{◌∙◌, sym}
use Rattle.mspec_listings.proofs.CaseLaws.{name_of, no_name}
use Rattle.mspec_listings.proofs.listings.case_name.Goals as goal

pub returns-in-Some : goal.returns-in-Some
returns-in-Some c =
    c.as_slice.ensures ∙ sym (name_of c.args.case c.args.cases.now c.in-Some.found.now c.if-case-eq0.false c.in-Some.ensures)

pub returns-in-None : goal.returns-in-None
returns-in-None c = sym (no_name c.args.case c.args.cases.now c.if-case-eq0.false c.in-None.ensures)
