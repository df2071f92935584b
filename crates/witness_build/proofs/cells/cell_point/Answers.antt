use Rattle.dual_bound.proofs.Sizes.{few_classes}
use Rattle.witness_build.proofs.cells.cell_point.Goals as goal

pub program_of-requires-clause-few : goal.program_of-requires-clause-few
program_of-requires-clause-few c = few_classes c.requires.start.0 c.args.start.now c.requires.start.1
