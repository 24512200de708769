use Rattle.std.proofs.Common.{◌≡◌, length, arith, sym, refl, subst}
use Rattle.tag_address.specs.declared.tags.TagKind.{TagKind}
use Rattle.tag_address.specs.declared.tags.TagWhy.TheVariants.{End}
use Rattle.tag_address.specs.Parts.{IsWhole}
use Rattle.tag_address.specs.Tags.{IsRefused, IsTag}
use Rattle.tag_address.proofs.TagLaws.{from_tag, modbus_exact, modbus_refused, refused_at, refused_none}
use Rattle.tag_address.proofs.tags.read_tag.Goals as goal

pub fault_of-requires : goal.fault_of-requires
fault_of-requires c =
    let low = refused_at c.args.text.now c.in-Err.refusal.place c.in-Err.refusal.why c.in-Err.ensures.refused in omega (arith, low)

pub returns-in-Ok-clause-exact : goal.returns-in-Ok-clause-exact
returns-in-Ok-clause-exact c =
    λ item tag.
    let same : item ≡ c.in-Ok.item = modbus_exact c.args.text.now c.in-Ok.item item c.in-Ok.ensures.read (subst (λ (k : TagKind). IsTag k c.args.text.now item) c.in-Modbus.is tag) in
    rw same refl

pub returns-in-Err-clause-exact : goal.returns-in-Err-clause-exact
returns-in-Err-clause-exact c =
    λ item tag. absurd (refused_none IsWhole c.args.text.now c.in-Err.refusal.place item c.in-Err.ensures.refused.at (from_tag c.args.text.now item (subst (λ (k : TagKind). IsTag k c.args.text.now item) c.in-Modbus.is tag)))

pub returns-in-Err-clause-refused : goal.returns-in-Err-clause-refused
returns-in-Err-clause-refused c =
    let refusal = c.in-Err.refusal in
    let early : refusal.place ≡ length c.args.text.now → c.fault_of.result.why ≡ End = c.fault_of.ensures.early in
    let refused = modbus_refused c.args.text.now refusal.place refusal.why c.fault_of.result.why c.in-Err.ensures.refused early c.fault_of.ensures.part in
    rw c.fault_of.ensures.place (subst (λ (k : TagKind). IsRefused k c.args.text.now refusal.place c.fault_of.result.why) (sym c.in-Modbus.is) refused)
