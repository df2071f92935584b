use Rattle.std.proofs.Common.{◌≡◌, ◌≤◌, ◌+◌, ◌*◌, length}
use Rattle.mov_base.specs.Sums.{add_up}
use Rattle.goal_rows.specs.Suffixes.{prefer_points}
use Rattle.goal_rows.proofs.rows.preferences.Given as goal

abbrev pub invariant-loop-run : goal.invariant-loop-run
invariant-loop-run l = record {
  over : l.over + add_up (prefer_points l.x l.y) l.run-iterator.ballots ≡ add_up (prefer_points l.x l.y) l.roll.ballots;
  under : l.under + add_up (prefer_points l.y l.x) l.run-iterator.ballots ≡ add_up (prefer_points l.y l.x) l.roll.ballots;
  few_over : l.over + 1 * length l.run-iterator.ballots ≤ length l.roll.ballots;
  few_under : l.under + 1 * length l.run-iterator.ballots ≤ length l.roll.ballots;
}
