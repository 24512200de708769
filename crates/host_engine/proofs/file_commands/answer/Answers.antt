use Rattle.std.proofs.Common.{◌≡◌, ◌++◌, Some, refl, ap, ◌∙◌}
use Rattle.std.proofs.lemmas.Result.{IfErr-at_err, IfErr-weaker, IfOk-weaker}
use Rattle.mspec_tree.specs.declared.defs.Description.{Description}
use Rattle.host_engine.specs.declared.faults.Cut.TheVariants.{NoMemory}
use Rattle.host_engine.specs.declared.preparing.Refusal.{Refusal}
use Rattle.host_engine.specs.declared.preparing.Refusal.TheVariants.{FileFault}
use Rattle.host_engine.specs.Preparing.{refusal_said}
use Rattle.host_engine.specs.Tool.{Described, Said, answer_of}
use Rattle.host_engine.proofs.EndLemmas.{three_or_none}
use Rattle.host_engine.proofs.CommandLemmas.{refused_answer}
use Rattle.host_engine.proofs.ToolLemmas.{both_ok}
use Rattle.host_engine.proofs.file_commands.answer.Goals as goal

pub returns-in-Err-clause-said : goal.returns-in-Err-clause-said
returns-in-Err-clause-said g c =
    let refused = c.in-Err.ensures.refused in
    let t0 = c.args.gathered.now.items in
    both_ok c.say.result _ _ _ c.say.ensures.said c.say.ensures.memory
    (λ status added memory.
    let print = refused_answer c.args.command refused.0 c.in-Err.refusal refused.2 memory in
    (refused.0, print.0, refused.1, print.1, added.0 ∙ ap (λ (o : Said). t0 ++ o.text) print.2, added.1 ∙ ap (λ (o : Said). o.status) print.2))

pub returns-in-Err-clause-no_memory : goal.returns-in-Err-clause-no_memory
returns-in-Err-clause-no_memory g c =
    let refused = c.in-Err.ensures.refused in
    λ (e : _). (refused.0, refused.1, (IfErr-at_err (λ cut. (cut ≡ NoMemory) × (c.say.new.gathered.items ≡ c.args.gathered.now.items)) e c.say.ensures.unchanged).1)

pub returns-in-Err-clause-puts_nothing : goal.returns-in-Err-clause-puts_nothing
returns-in-Err-clause-puts_nothing g c =
    λ (e : _). let h = (IfErr-at_err (λ cut. (cut ≡ NoMemory) × (c.say.new.gathered.items ≡ c.args.gathered.now.items)) e c.say.ensures.unchanged).0 in cc

pub returns-in-Err-clause-lacking : goal.returns-in-Err-clause-lacking
returns-in-Err-clause-lacking g c =
    λ lacks.
    let file : c.in-Err.refusal ≡ FileFault = let h = c.in-Err.ensures.lacking lacks in cc in
    let three = IfOk-weaker c.say.result _ _ (λ status added. added.1 ∙ ap (λ (r : Refusal). (refusal_said r).status) file) c.say.ensures.said in
    let none = IfErr-weaker c.say.result _ _ (λ cut kept. kept.0) c.say.ensures.unchanged in
    three_or_none c.say.result three none

pub returns-in_err-add_answer-clause-no_memory : goal.returns-in_err-add_answer-clause-no_memory
returns-in_err-add_answer-clause-no_memory g c =
    let found = c.in-Ok.ensures.described in λ (e : _). (Some found.0, found.1, c.in_err-add_answer.ensures.unchanged)

pub returns-clause-said : goal.returns-clause-said
returns-clause-said g c =
    let found = c.in-Ok.ensures.described in
    let d = c.in-Ok.checked in
    let t0 = c.args.gathered.now.items in
    let command = c.args.command in
    let same = c.in_ok-add_answer.ensures.added ∙ ap (λ (e : Description). t0 ++ answer_of command e) c.description.ensures.same in
    (Some found.0, Described command d, found.1, (refl, (found.0, refl, found.2)), same, refl)
