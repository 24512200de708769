use Rattle.std.proofs.Common.{◌≡◌, ◌≤◌, ◌++◌, take, decimal}
use Rattle.tag_address.proofs.numbers.with_digits.Given as goal

abbrev pub invariant-loop-place : goal.invariant-loop-place
invariant-loop-place l = record {
  is : decimal l.value ≡ decimal l.fn.value ++ take l.place l.text;
  least : l.fn.value ≤ l.value;
  range : l.value ≤ l.most;
}
