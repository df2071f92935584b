use Rattle.std.proofs.Common.{subst}
use Rattle.goal_rows.specs.Goals.{IsReached}
use Rattle.goal_rows.specs.Races.{election_of}
use Rattle.goal_rows.proofs.Ways.{reached_some, reached_suffix}
use Rattle.goal_rows.proofs.cover_grounds.kid_grounds.Goals as goal

pub longer_grounds-requires : goal.longer_grounds-requires
longer_grounds-requires c =
    let e = election_of c.args.race.now in
    let reached = subst (IsReached e) c.in-Suffix.is c.requires.reached in
    let is = reached_suffix e c.in-Suffix.suffix c.requires.race.election.roots reached in
    record {
      race = c.requires.race;
      rule = is.0;
      valid = is.1;
      some = reached_some e c.in-Suffix.suffix c.requires.race.election.roots reached;
    }
