use Rattle.std.proofs.Common.{◌≡◌, ◌+◌, ◌*◌, ◌-◌, ◌^◌, ◌≤◌, drop}
use Rattle.dual_bound.specs.Largest.{greedy}
use Rattle.dual_bound.proofs.largest.greedy_sum.Given as goal

abbrev pub invariant-loop-p : goal.invariant-loop-p
invariant-loop-p l =
    (l.total + greedy l.left (drop l.p-index l.classes) ≡ greedy l.k l.classes)
    × (l.left ≤ l.k)
    × (l.total ≤ (l.k - l.left) * 2 ^ 88)
