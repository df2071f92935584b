use Rattle.std.proofs.Common.{◌≡◌, ℕ, ◌<◌, ◌≤◌, get_or}
use Rattle.std.specs.Prelude.{pos, ◌*ℤ◌, ◌-ℤ◌}
use Rattle.pivot_form.proofs.small_rows.combine_small.Given as goal

abbrev pub invariant-loop-i : goal.invariant-loop-i
invariant-loop-i l = record {
  done : (k : ℕ) → k < l.i → get_or l.row k (pos 0) ≡ l.p *ℤ get_or l.initial.row k (pos 0) -ℤ l.q *ℤ get_or l.lead k (pos 0);
  left : (k : ℕ) → l.i ≤ k → get_or l.row k (pos 0) ≡ get_or l.initial.row k (pos 0);
}
