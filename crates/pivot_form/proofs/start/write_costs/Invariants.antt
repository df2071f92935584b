use Rattle.std.proofs.Common.{◌≡◌, ◌<◌, ◌≤◌, ℕ, get_or}
use Rattle.std.specs.Prelude.{pos}
use lib.IntN.{neg_ℤ}
use Rattle.pivot_form.proofs.start.write_costs.Given as goal

abbrev pub invariant-loop-v : goal.invariant-loop-v
invariant-loop-v l = record {
  written : (k : ℕ) → k < l.v → get_or l.row k (pos 0) ≡ neg_ℤ (pos (get_or l.costs k 0));
  rest : (k : ℕ) → l.v ≤ k → get_or l.row k (pos 0) ≡ get_or l.fn.row k (pos 0);
}
