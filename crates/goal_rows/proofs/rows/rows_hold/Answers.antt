use Rattle.std.proofs.Common.{subst, sym}
use Rattle.std.specs.Prelude.{◌↔◌, All, IsTrue, pos, ◌≤ℤ◌}
use Rattle.mov_base.specs.Sums.{sum_z}
use Rattle.goal_rows.specs.Goals.{Holds}
use Rattle.goal_rows.specs.Races.{election_of}
use Rattle.goal_rows.specs.Suffixes.{cover_rows}
use Rattle.goal_rows.proofs.PairLevels.{level_holds}
use Rattle.goal_rows.proofs.rows.rows_hold.Goals as goal

pub returns-in-Pair : goal.returns-in-Pair
returns-in-Pair c = subst (λ g. IsTrue c.is_level.result ↔ Holds (election_of c.args.race.now) g c.args.after.now.ballots) (sym c.in-Pair.is)
    (level_holds (election_of c.args.race.now) c.in-Pair.gainer c.in-Pair.loser c.args.after.now.ballots c.is_level.result c.is_level.ensures)

pub returns-in-Cover : goal.returns-in-Cover
returns-in-Cover c = subst (λ g. IsTrue c.is_unbeaten.result ↔ Holds (election_of c.args.race.now) g c.args.after.now.ballots) (sym c.in-Cover.is)
    (subst (λ n. IsTrue c.is_unbeaten.result ↔ All (λ weight. pos 0 ≤ℤ sum_z weight c.args.after.now.ballots) (cover_rows n c.in-Cover.x)) c.requires.same_sizes c.is_unbeaten.ensures)
