use Rattle.goal_rows.specs.Races.{election_of}
use Rattle.witness_build.specs.Levels.{first_from, gains_under}
use Rattle.witness_build.proofs.Grounds.{gains_of}
use Rattle.witness_build.proofs.Picks.{IsPicked}
use Rattle.witness_build.proofs.chosen.first_numbers.Given as goal

abbrev pub invariant-loop-run : goal.invariant-loop-run
invariant-loop-run l =
    IsPicked l.level.gain l.equal l.run-iterator.first l.numbers.items (gains_of (election_of l.race) l.start.goal l.run-iterator.ballots)
    (first_from l.level.gain l.level.equal 1 (gains_under (election_of l.race) l.start.goal))
