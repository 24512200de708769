use Rattle.std.proofs.Common.{arith}
use Rattle.std.proofs.lemmas.Grind.{common_steps}
use Rattle.mspec_printer.proofs.TextLaws.{field_text}
use Rattle.mspec_printer.proofs.fields.append_case_fields.Goals as goal

pub loop-f-preserved : goal.loop-f-preserved
loop-f-preserved c =
    let text = field_text c.f-item.result in
    grind (arith, common_steps, text)
