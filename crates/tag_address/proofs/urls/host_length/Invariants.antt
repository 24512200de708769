use Rattle.std.proofs.Common.{take}
use Rattle.std.specs.List.{AllByRecursion}
use Rattle.tag_address.specs.Urls.{IsHostByte}
use Rattle.tag_address.proofs.urls.host_length.Given as goal

abbrev pub invariant-loop-place : goal.invariant-loop-place
invariant-loop-place l = AllByRecursion IsHostByte (take l.place l.text)
