use Rattle.std.proofs.Common.{ap, length, arith}
use Rattle.goal_rows.proofs.GroundSizes.{suffix_few}
use Rattle.witness_build.proofs.from_points.new_ballots.Goals as goal

pub path_ballots-requires-clause-few : goal.path_ballots-requires-clause-few
path_ballots-requires-clause-few c =
    let few = suffix_few c.args.start.now c.in-Suffix.suffix c.requires.start c.in-Suffix.is in
    let same = ap length c.as_slice.ensures.value in
    omega (arith, few, same)
