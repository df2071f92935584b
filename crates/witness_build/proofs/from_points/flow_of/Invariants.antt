use Rattle.std.proofs.Common.{◌≡◌, drop, length, take}
use Rattle.witness_build.proofs.from_points.flow_of.Given as goal

abbrev pub invariant-loop-number : goal.invariant-loop-number
invariant-loop-number l = l.flow.items ≡ take l.number-index (drop (length l.start.classes) l.whole)
