use Rattle.std.proofs.Common.{◌≡◌, ◌≤◌, length, take}
use Rattle.tag_address.proofs.words.common_front.Given as goal

abbrev pub invariant-loop-place : goal.invariant-loop-place
invariant-loop-place l = record {
  inside : l.place ≤ length l.text;
  same : take l.place l.word ≡ take l.place l.text;
}
