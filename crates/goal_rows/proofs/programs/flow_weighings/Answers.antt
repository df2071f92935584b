use Rattle.std.proofs.Common.{arith}
use Rattle.goal_rows.proofs.GroundSizes.{suffix_few}
use Rattle.goal_rows.proofs.programs.flow_weighings.Goals as goal

pub overflow_cast-len : goal.overflow_cast-len
overflow_cast-len c = let few = suffix_few c.args.start.now c.in-Suffix.suffix c.requires c.in-Suffix.is in omega (arith, few, c.len.ensures)
