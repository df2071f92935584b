use Rattle.search_leaves.proofs.CellNodes.{where_complete, where_not}
use Rattle.search_leaves.proofs.SeedLimits.{limits_read}
use Rattle.goal_rows.specs.Races.{election_of}
use Rattle.search_leaves.proofs.leaves.is_complete_cell.Goals as goal

pub is_cell-requires-clause-limits : goal.is_cell-requires-clause-limits
is_cell-requires-clause-limits c = limits_read c.args.seed.now c.as_slice.result.now c.as_slice.ensures.value (election_of c.args.race.now, c.requires)

pub returns-then-is_complete : goal.returns-then-is_complete
returns-then-is_complete c =
    where_complete (election_of c.args.race.now) c.args.seed.now c.as_slice.result.now c.is_cell.result c.requires c.as_slice.ensures.value
    (c.is_complete.ensures.0 c.if-is_complete.true) c.is_cell.ensures

pub returns-else-is_complete : goal.returns-else-is_complete
returns-else-is_complete c = where_not (election_of c.args.race.now) c.args.seed.now c.is_complete.result c.if-is_complete.false c.is_complete.ensures
