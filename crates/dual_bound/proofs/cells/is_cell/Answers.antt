use Rattle.dual_bound.proofs.CellVariables.{not_root}
use Rattle.dual_bound.proofs.SmallGrounds.{small_ground}
use Rattle.dual_bound.proofs.cells.is_cell.Goals as goal

pub has_one_point-requires-clause-start : goal.has_one_point-requires-clause-start
has_one_point-requires-clause-start c =
    small_ground c.requires.start.0 c.args.start.now c.requires.start.1 (not_root c.args.start.now.goal (c.has_features.ensures.0 c.if-has_features.true))
