use Rattle.mspec_rules.proofs.names.defs_titled.Goals as goal

pub returns : goal.returns
returns c = c.titles_doubled.ensures
