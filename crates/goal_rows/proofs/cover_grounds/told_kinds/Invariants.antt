use Rattle.std.proofs.Common.{◌≡◌, map, take}
use Rattle.goal_rows.specs.LongerKeys.{told_of}
use Rattle.goal_rows.proofs.cover_grounds.told_kinds.Given as goal

abbrev pub invariant-loop-i : goal.invariant-loop-i
invariant-loop-i l = l.told.items ≡ map (told_of l.suffix) (take l.i l.kinds)
