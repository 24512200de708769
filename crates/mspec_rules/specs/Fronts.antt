-- What the walk over names keeps of what stands before a case's fields.
use Rattle.std.specs.Prelude.{List, ◌++◌}
use Rattle.std.specs.List.{flat_map}
use Rattle.mspec_rules.specs.declared.names.Front.{Front}
use Rattle.mspec_rules.specs.Names.{Named, cases_names, entry_names, param_names}

abbrev pub front_names : Front → List Named
front_names front =
    param_names front.params.now ++ flat_map entry_names front.fields.now ++ cases_names 1 front.cases.now
