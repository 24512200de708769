-- A description in the first form can be read.
use Rattle.std.proofs.Common.{ℕ, List, [], refl, sym, ap, ◌∙◌, subst}
use Rattle.mspec_tree.specs.declared.defs.Def.{Def}
use Rattle.mspec_tree.specs.declared.defs.DefBody.{DefBody}
use Rattle.mspec_tree.specs.declared.defs.Description.{Description}
use Rattle.mspec_meaning.specs.Plain.{CanRead, HasPlainFields}
use Rattle.host_engine.specs.FirstForm.{FirstForm}
use Rattle.host_engine.specs.Tool.{Names}
use Rattle.host_engine.proofs.FormLaws.{found_def, one_plain}

pub form_reads : (text : List ℕ) (d : Description) (def : ℕ) (name : List ℕ) → FirstForm text d → Names d def name → CanRead d def []
form_reads text d def name form named =
    let one = one_plain d form.1 in
    let same = (found_def d one def named.0 named.1).1 in
    let body = ap (λ (found : Def). found.body) (sym same) ∙ one.form in (
      named.0,
      named.1,
      ap (λ (found : Def). found.params) (sym same) ∙ one.no_params,
      refl,
      subst (λ (form : DefBody). HasPlainFields form) (sym body) one.plain,
    )
