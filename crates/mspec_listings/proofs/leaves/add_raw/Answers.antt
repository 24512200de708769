use Rattle.std.proofs.Common.{length, ap, ◌∙◌, arith}
use Rattle.hex.specs.Hex.{upper_digits}
use Rattle.hex.proofs.HexLemmas.{length-encode_with}
use Rattle.mspec_listings.proofs.leaves.add_raw.Goals as goal

pub split_at-requires : goal.split_at-requires
split_at-requires c =
    let digits = ap length c.in_ok-digits.ensures ∙ length-encode_with upper_digits c.to_be_bytes.result in
    let bytes = ap length c.as_bytes.ensures.value in
    omega arith
