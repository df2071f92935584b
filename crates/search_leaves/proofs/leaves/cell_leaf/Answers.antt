use Rattle.std.proofs.Common.{subst, sym}
use Rattle.search_leaves.specs.NewLeaves.{IsLeafOf}
use Rattle.search_leaves.proofs.CellLeaves.{IsCutCell, cell_leaf, cell_read}
use Rattle.search_leaves.proofs.SeedLimits.{limits_read}
use Rattle.search_leaves.proofs.leaves.cell_leaf.Goals as goal

pub cell_cut-requires-clause-limits : goal.cell_cut-requires-clause-limits
cell_cut-requires-clause-limits c = limits_read c.args.seed c.as_slice.result.now c.as_slice.ensures.value (c.requires.seed.0, c.requires.seed.1.own)

pub cell_cut-requires-clause-cell : goal.cell_cut-requires-clause-cell
cell_cut-requires-clause-cell c = cell_read c.args.seed c.as_slice.result.now c.as_slice.ensures.value c.requires.seed

pub cell_point-requires-clause-limits : goal.cell_point-requires-clause-limits
cell_point-requires-clause-limits c = limits_read c.args.seed c.as_slice-2.result.now c.as_slice-2.ensures.value (c.requires.seed.0, c.requires.seed.1.own)

pub cell_point-requires-clause-cell : goal.cell_point-requires-clause-cell
cell_point-requires-clause-cell c = cell_read c.args.seed c.as_slice-2.result.now c.as_slice-2.ensures.value c.requires.seed

pub returns-clause-leaf : goal.returns-clause-leaf
returns-clause-leaf c e is =
    let seed = c.args.seed in
    let said = c.in_ok-multipliers.ensures in
    let cut : IsCutCell e seed.start c.as_slice.result.now c.in_ok-multipliers.multipliers =
    record { each = said.each; cost = λ met. said.cost met e is.own.ground; beyond = λ never. said.beyond never e is.own.ground } in
    subst (IsLeafOf e seed) (sym c.leaf_with.ensures.leaf)
    (cell_leaf e seed c.as_slice.result.now c.as_slice-2.result.now c.in_ok-multipliers.multipliers c.leaf_with.result.bound c.in_ok-point.point is c.as_slice.ensures.value c.as_slice-2.ensures.value
    said.one_each.one_each cut c.in_ok-point.ensures (c.leaf_with.ensures.bound e is.own))
