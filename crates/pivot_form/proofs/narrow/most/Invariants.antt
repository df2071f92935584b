use Rattle.std.proofs.Common.{◌<◌, ◌≤◌, ℕ, pos, unsigned_abs, get_or}
use Rattle.exact_num.specs.declared.limits.TheConstants.{WIDE}
use Rattle.pivot_form.proofs.narrow.most.Given as goal

abbrev pub invariant-loop-x : goal.invariant-loop-x
invariant-loop-x l = record {
  most : (i : ℕ) → i < l.x-index → unsigned_abs (get_or l.row i (pos 0)) ≤ l.most;
  small : l.most < WIDE;
}
