use Rattle.std.proofs.Common.{◌≡◌, ◌≤◌, ◌*◌, ◌^◌, take}
use Rattle.row_program.specs.Points.{cost_of}
use Rattle.row_program.proofs.points.cost_sum.Given as goal

abbrev pub invariant-loop-i : goal.invariant-loop-i
invariant-loop-i l = record {
  total : l.sum ≡ cost_of (take l.i l.costs) (take l.i l.whole);
  bound : l.sum ≤ l.i * 2 ^ 63;
}
