use Rattle.std.proofs.Common.{subst}
use Rattle.goal_rows.specs.Goals.{IsReached}
use Rattle.goal_rows.specs.Races.{election_of}
use Rattle.goal_rows.proofs.Ways.{reached_cover, reached_suffix}
use Rattle.goal_rows.proofs.grounds.ground.Goals as goal

pub under_suffix-requires-clause-rule : goal.under_suffix-requires-clause-rule
under_suffix-requires-clause-rule c =
    let e = election_of c.args.race.now in
    (reached_suffix e c.in-Suffix.suffix c.requires.race.election.roots (subst (IsReached e) c.in-Suffix.is c.requires.reached)).0

pub under_suffix-requires-clause-valid : goal.under_suffix-requires-clause-valid
under_suffix-requires-clause-valid c =
    let e = election_of c.args.race.now in
    (reached_suffix e c.in-Suffix.suffix c.requires.race.election.roots (subst (IsReached e) c.in-Suffix.is c.requires.reached)).1

pub under_cover-requires-clause-rule : goal.under_cover-requires-clause-rule
under_cover-requires-clause-rule c =
    let e = election_of c.args.race.now in
    (reached_cover e c.in-Cover.x c.requires.race.election.roots (subst (IsReached e) c.in-Cover.is c.requires.reached)).0

pub under_cover-requires-clause-below : goal.under_cover-requires-clause-below
under_cover-requires-clause-below c =
    let e = election_of c.args.race.now in
    (reached_cover e c.in-Cover.x c.requires.race.election.roots (subst (IsReached e) c.in-Cover.is c.requires.reached)).1
