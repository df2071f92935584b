use Rattle.std.proofs.Common.{ℕ, ◌≡◌, ◌<◌, ◌≤◌}
use Rattle.condorcet_count.specs.Preferences.{pref_of}
use Rattle.goal_rows.proofs.rows.is_unbeaten.Given as goal

abbrev pub invariant-loop-j : goal.invariant-loop-j
invariant-loop-j l = (k : ℕ) → k < l.j → (k ≡ l.x → ⊥) → pref_of l.roll.ballots k l.x ≤ pref_of l.roll.ballots l.x k
