use Rattle.std.proofs.Common.{◌≡◌, ℕ, ◌<◌, get_or}
use Rattle.std.specs.Prelude.{pos, ◌*ℤ◌, ◌-ℤ◌}
use Rattle.pivot_form.proofs.rows.combine.Given as goal

abbrev pub invariant-loop-i : goal.invariant-loop-i
invariant-loop-i l = (k : ℕ) → k < l.i → get_or l.out k (pos 0) ≡ l.p *ℤ get_or l.row k (pos 0) -ℤ l.q *ℤ get_or l.lead k (pos 0)
