use Rattle.std.proofs.Common.{arith}
use Rattle.std.proofs.lemmas.Slice.{drop-put_mid}
use Rattle.tag_address.proofs.printing.put.Goals as goal

pub returns-clause-rest : goal.returns-clause-rest
returns-clause-rest c =
    let long = c.copy_from_slice.ensures.len in
    drop-put_mid c.args.at _ c.args.to.now c.copy_from_slice.new.self _ (omega (arith, c.requires)) (omega (arith, c.requires)) (omega (arith, long, c.requires))
