use Rattle.std.proofs.Common.{◌≡◌, ◌≤◌, ◌+◌, ◌*◌, length}
use Rattle.mov_base.specs.Sums.{add_up}
use Rattle.goal_rows.specs.Goals.{gainer_points, loser_points}
use Rattle.goal_rows.specs.Races.{election_of}
use Rattle.goal_rows.proofs.rows.ballot_counts.Given as goal

abbrev pub invariant-loop-run : goal.invariant-loop-run
invariant-loop-run l =
    let plus = gainer_points (election_of l.race) l.gainer l.loser in
    let minus = loser_points (election_of l.race) l.gainer l.loser in
    record {
      gained : l.gained + add_up plus l.run-iterator.ballots ≡ add_up plus l.roll.ballots;
      lost : l.lost + add_up minus l.run-iterator.ballots ≡ add_up minus l.roll.ballots;
      few_gained : l.gained + 65536 * length l.run-iterator.ballots ≤ 65536 * length l.roll.ballots;
      few_lost : l.lost + 65536 * length l.run-iterator.ballots ≤ 65536 * length l.roll.ballots;
    }
