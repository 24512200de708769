use Rattle.std.proofs.Common.{rules, ◌≡◌, true, false, Some, None, Err, inl, refl, ap}
use Rattle.std.proofs.lemmas.Result.{err_from_is_err_and}
use Rattle.host_engine.specs.FirstForm.{is_first_form}
use Rattle.host_engine.specs.Tool.{AreRefused, NamesFile}
use Rattle.host_engine.specs.declared.preparing.Refusal.{Refusal}
use Rattle.host_engine.specs.declared.preparing.Refusal.TheVariants.{FileFault}
use Rattle.host_engine.proofs.FileLemmas.{lacks_here, named_refusal, no_tree_lacking, seen_by, unnamed_taken}
use Rattle.host_engine.proofs.StatusLemmas.{refused_file}
use Rattle.host_engine.proofs.preparing.prepare.Goals as goal

pub returns-in_default-clause-refused : goal.returns-in_default-clause-refused
returns-in_default-clause-refused g c =
    let none : AreRefused c.args.words.now = (c.in_default.ensures, c.requires.no_replay, c.requires.no_other) in
    (None, unnamed_taken c.args.words.now g.F.Shelf.counts_with (g.F.Shelf.seen c.args.files.now) none, none)

pub returns-in_default-clause-lacking : goal.returns-in_default-clause-lacking
returns-in_default-clause-lacking g c =
    let none : AreRefused c.args.words.now = (c.in_default.ensures, c.requires.no_replay, c.requires.no_other) in
    λ lacks. absurd (refused_file c.args.words.now lacks.0 none lacks.1)

pub returns-in_err-checked-clause-refused : goal.returns-in_err-checked-clause-refused
returns-in_err-checked-clause-refused g c =
    let p = err_from_is_err_and c.from_residual.result c.from_residual.ensures.1 in
    let words = c.args.words.now in
    let name = c.in-Some.found.file_name.now in
    let names : NamesFile words name = inl (c.in-Some.found.type_name.now, c.in-Some.ensures) in
    let s = c.in_err-checked.ensures.refused in
    let taken = seen_by words name g.F.Shelf.counts_with (g.F.Shelf.seen c.args.files.now) (g.F.Shelf.seen c.read_description.new.files) s.0 names s.1 c.in_err-checked.ensures.others in
    rw (p.1, p.2) (s.0, taken, named_refusal words name s.0 c.in_err-checked.field-0.0 names s.2)

pub returns-then-not-is_first_form-clause-refused : goal.returns-then-not-is_first_form-clause-refused
returns-then-not-is_first_form-clause-refused g c =
    let words = c.args.words.now in
    let name = c.in-Some.found.file_name.now in
    let kind = c.in-Some.found.type_name.now in
    let names : NamesFile words name = inl (kind, c.in-Some.ensures) in
    let tree = c.in_ok-checked.ensures.described in
    let taken = seen_by words name g.F.Shelf.counts_with (g.F.Shelf.seen c.args.files.now) (g.F.Shelf.seen c.read_description.new.files) (Some tree.0) names tree.1 c.in_ok-checked.ensures.others in
    let out : is_first_form c.in_ok-checked.checked ≡ false = search rules in
    (Some tree.0, taken, (name, kind, tree.0, c.in_ok-checked.checked, c.in-Some.ensures, refl, tree.2, out))

pub returns-in-None-clause-refused : goal.returns-in-None-clause-refused
returns-in-None-clause-refused g c =
    let words = c.args.words.now in
    let name = c.in-Some.found.file_name.now in
    let kind = c.in-Some.found.type_name.now in
    let names : NamesFile words name = inl (kind, c.in-Some.ensures) in
    let tree = c.in_ok-checked.ensures.described in
    let taken = seen_by words name g.F.Shelf.counts_with (g.F.Shelf.seen c.args.files.now) (g.F.Shelf.seen c.read_description.new.files) (Some tree.0) names tree.1 c.in_ok-checked.ensures.others in
    let form : is_first_form c.in_ok-checked.checked ≡ true = search rules in
    (Some tree.0, taken, (name, kind, tree.0, c.in_ok-checked.checked, c.in-Some.ensures, refl, (tree.2, form), c.in-None.ensures))

pub returns-in-Some-def_named-clause-ready : goal.returns-in-Some-def_named-clause-ready
returns-in-Some-def_named-clause-ready g c =
    let words = c.args.words.now in
    let name = c.in-Some.found.file_name.now in
    let kind = c.in-Some.found.type_name.now in
    let names : NamesFile words name = inl (kind, c.in-Some.ensures) in
    let tree = c.in_ok-checked.ensures.described in
    let taken = seen_by words name g.F.Shelf.counts_with (g.F.Shelf.seen c.args.files.now) (g.F.Shelf.seen c.read_description.new.files) (Some tree.0) names tree.1 c.in_ok-checked.ensures.others in
    let form : is_first_form c.in_ok-checked.checked ≡ true = search rules in
    (name, kind, tree.0, c.in-Some.ensures, taken, (tree.2, form), c.in-Some-def_named.ensures)

pub returns-in_err-checked-clause-lacking : goal.returns-in_err-checked-clause-lacking
returns-in_err-checked-clause-lacking g c =
    let p = err_from_is_err_and c.from_residual.result c.from_residual.ensures.1 in
    let words = c.args.words.now in
    let name = c.in-Some.found.file_name.now in
    let names : NamesFile words name = inl (c.in-Some.found.type_name.now, c.in-Some.ensures) in
    λ lacks.
    let failed : c.in_err-checked.field-0.0 ≡ FileFault = let h = c.in_err-checked.ensures.lacking (lacks_here words (g.F.Shelf.seen c.args.files.now) name names lacks) in cc in
    rw (p.1, p.2) (ap (λ (r : Refusal). Err r) failed)

pub returns-then-not-is_first_form-clause-lacking : goal.returns-then-not-is_first_form-clause-lacking
returns-then-not-is_first_form-clause-lacking g c =
    λ lacks. absurd (no_tree_lacking c.args.words.now (g.F.Shelf.seen c.args.files.now) c.in-Some.found.file_name.now c.in_ok-checked.checked (inl (c.in-Some.found.type_name.now, c.in-Some.ensures)) c.in_ok-checked.ensures.lacking lacks)

pub returns-in-None-clause-lacking : goal.returns-in-None-clause-lacking
returns-in-None-clause-lacking g c =
    λ lacks. absurd (no_tree_lacking c.args.words.now (g.F.Shelf.seen c.args.files.now) c.in-Some.found.file_name.now c.in_ok-checked.checked (inl (c.in-Some.found.type_name.now, c.in-Some.ensures)) c.in_ok-checked.ensures.lacking lacks)

pub returns-in-Some-def_named-clause-lacking : goal.returns-in-Some-def_named-clause-lacking
returns-in-Some-def_named-clause-lacking g c =
    λ lacks. absurd (no_tree_lacking c.args.words.now (g.F.Shelf.seen c.args.files.now) c.in-Some.found.file_name.now c.in_ok-checked.checked (inl (c.in-Some.found.type_name.now, c.in-Some.ensures)) c.in_ok-checked.ensures.lacking lacks)
