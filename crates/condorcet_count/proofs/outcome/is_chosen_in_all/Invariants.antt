use Rattle.std.proofs.Common.{ℕ, ◌<◌, ◌≢◌}
use Rattle.condorcet_count.specs.Preferences.{count_in}
use Rattle.condorcet_count.specs.Settlings.{Chooses, ties_to_lower}
use Rattle.condorcet_count.proofs.outcome.is_chosen_in_all.Given as goal

abbrev pub invariant-loop-y : goal.invariant-loop-y
invariant-loop-y l = (y : ℕ) → y < l.y → y ≢ l.x → Chooses (ties_to_lower (count_in l.matrix)) l.x y
