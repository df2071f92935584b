use Rattle.std.proofs.Common.{ℕ, ◌<◌}
use Rattle.condorcet_count.specs.Preferences.{count_in}
use Rattle.condorcet_count.specs.Settlings.{IsChosenInAll, ties_to_lower}
use Rattle.condorcet_count.proofs.outcome.chosen_in_all.Given as goal

abbrev pub invariant-loop-x : goal.invariant-loop-x
invariant-loop-x l = (x : ℕ) → x < l.x → IsChosenInAll l.matrix.c (ties_to_lower (count_in l.matrix)) x → ⊥
