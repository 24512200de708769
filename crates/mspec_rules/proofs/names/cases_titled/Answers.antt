use Rattle.mspec_rules.proofs.names.cases_titled.Goals as goal

pub returns : goal.returns
returns c = c.titles_doubled.ensures
