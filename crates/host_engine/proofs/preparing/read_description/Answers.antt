use Rattle.std.proofs.Common.{◌≡◌, ℕ, List, take, Err, inl, inr, ap, sym, subst}
use Rattle.std.specs.Bool.{IsTrue}
use Rattle.std.specs.Option.{IfSome}
use Rattle.std.proofs.lemmas.Result.{err_from_is_err_and}
use Rattle.host_engine.specs.declared.files.FileFault.{FileFault}
use Rattle.host_engine.specs.declared.files.FileFault.TheVariants.{Failed}
use Rattle.host_engine.specs.Preparing.{from_file}
use Rattle.host_engine.proofs.FileLemmas.{text_seen, failed_seen, unformed_seen}
use Rattle.host_engine.proofs.preparing.read_description.Goals as goal

pub returns-in_err-text-clause-refused : goal.returns-in_err-text-clause-refused
returns-in_err-text-clause-refused g c =
    let p = err_from_is_err_and c.from_residual.result c.from_residual.ensures.1 in
    let kept = c.in_err-text.ensures.no_fault in
    rw (p.1, p.2)
    (failed_seen c.args.name.now (g.F.Shelf.seen c.args.files.now) (g.F.Shelf.seen c.read_file.new.files) c.in_err-text.field-0.0
    (λ e. c.in_err-text.ensures.fault (ap (λ x. Err x) e))
    (elim kept [ inl failed ↦ inl (cc) | inr same ↦ inr same ])
    (λ lacks. let h = c.in_err-text.ensures.lacking lacks in cc))

pub returns-in_err-checked-clause-refused : goal.returns-in_err-checked-clause-refused
returns-in_err-checked-clause-refused g c =
    let p = err_from_is_err_and c.from_residual-in_err-checked.result c.from_residual-in_err-checked.ensures.1 in
    let before = g.F.Shelf.seen c.args.files.now in
    let after = g.F.Shelf.seen c.read_file.new.files in
    let same : (other : List ℕ) → after.faults other ≡ before.faults other = elim c.in_ok-text.ensures.no_fault [ inl failed ↦ absurd cc | inr same ↦ same ] in
    let front = subst (λ (text : List ℕ). IfSome (before.file c.args.name.now) (λ bytes. text ≡ take 1048577 bytes)) (sym c.deref.ensures.value) c.in_ok-text.ensures.text in
    rw (p.1, p.2)
    (unformed_seen c.args.name.now c.deref.result.now before after c.in_err-checked.field-0.0 same front
    (λ lacks. absurd (let h = c.in_ok-text.ensures.lacking lacks in cc))
    c.in_err-checked.ensures.fault)

pub returns-clause-described : goal.returns-clause-described
returns-clause-described g c =
    let name = c.args.name.now in
    let text = c.deref.result.now in
    let before = g.F.Shelf.seen c.args.files.now in
    let after = g.F.Shelf.seen c.read_file.new.files in
    let same : (other : List ℕ) → after.faults other ≡ before.faults other = elim c.in_ok-text.ensures.no_fault [ inl failed ↦ absurd cc | inr same ↦ same ] in
    let front = subst (λ (t : List ℕ). IfSome (before.file name) (λ bytes. t ≡ take 1048577 bytes)) (sym c.deref.ensures.value) c.in_ok-text.ensures.text in
    let there : IsTrue (before.lacks name) → ⊥ = λ lacks. absurd (let h = c.in_ok-text.ensures.lacking lacks in cc) in
    let tree = c.in_ok-checked.ensures.described in
    (text, (same, text_seen (before.file name) text c.in_ok-checked.checked front tree, there), tree)

pub returns-in_err-text-clause-lacking : goal.returns-in_err-text-clause-lacking
returns-in_err-text-clause-lacking g c =
    let p = err_from_is_err_and c.from_residual.result c.from_residual.ensures.1 in
    λ lacks.
    let failed : c.in_err-text.field-0.0 ≡ Failed = let h = c.in_err-text.ensures.lacking lacks in cc in
    rw (p.1, p.2) (ap (λ (e : FileFault). Err (from_file e)) failed)

pub returns-in_err-checked-clause-lacking : goal.returns-in_err-checked-clause-lacking
returns-in_err-checked-clause-lacking g c = λ lacks. absurd (let h = c.in_ok-text.ensures.lacking lacks in cc)

pub returns-clause-lacking : goal.returns-clause-lacking
returns-clause-lacking g c = λ lacks. absurd (let h = c.in_ok-text.ensures.lacking lacks in cc)
