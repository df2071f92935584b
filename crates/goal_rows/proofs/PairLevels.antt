-- The rows of pairs on a list of ballots.
use Rattle.std.proofs.Common.{ℕ, List, Bool, ◌≤◌, ◌↔◌}
use Rattle.std.specs.Prelude.{IsTrue}
use Rattle.mov_base.specs.Sums.{add_up}
use Rattle.goal_rows.specs.declared.goals.Goal.TheVariants.{Pair}
use Rattle.goal_rows.specs.Elections.{Election}
use Rattle.goal_rows.specs.Goals.{Holds, gainer_points, loser_points}
use Rattle.goal_rows.proofs.PairTurning.{pair_row}

-- a test that what is counted for the gainer reaches what is counted for the loser is one of the row
pub level_holds : (e : Election) (g l : ℕ) (ballots : List (List ℕ)) (t : Bool)
    → IsTrue t ↔ (add_up (loser_points e g l) ballots ≤ add_up (gainer_points e g l) ballots) → IsTrue t ↔ Holds e (Pair g l) ballots
level_holds e g l ballots t level =
    let row = pair_row e g l ballots in
    (λ hit. row.1 (level.0 hit), λ holds. level.1 (row.0 holds))
