use Rattle.tag_address.proofs.NumberLaws.{more_digits}
use Rattle.tag_address.proofs.numbers.with_digits.Goals as goal
use Rattle.std.proofs.Common.{arith, refl, get_or}

pub loop-place-preserved : goal.loop-place-preserved
loop-place-preserved c =
    let go = c.in-Some.ensures in
    record {
      is = more_digits c.args.value c.loop-place.value c.in-Some.longer c.args.most c.loop-place.place (get_or c.args.text.now c.loop-place.place 0) c.args.text.now c.loop-place.invariant.range c.requires.range (omega arith) c.loop-place.invariant.is go.0 go.1 refl;
      least = omega (arith, go.0, go.1);
      range = omega (arith, go.0, go.1);
    }
