use Rattle.std.specs.String.{string_bytes}
use Rattle.answer_texts.proofs.ValueLemmas.{short_told}
use Rattle.answer_texts.proofs.values.raw_digits.Goals as goal

pub returns-then-width-eq32 : goal.returns-then-width-eq32
returns-then-width-eq32 c =
    short_told c.encode_upper.result string_bytes c.args.bits c.args.width c.to_be_bytes-bytes.result c.if-width-eq32.true c.to_be_bytes-bytes.ensures c.encode_upper.ensures
