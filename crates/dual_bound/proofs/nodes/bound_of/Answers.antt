use Rattle.dual_bound.proofs.Exact.{node_bound, root_bound}
use Rattle.dual_bound.proofs.SmallGrounds.{small_ground, small_limits}
use Rattle.dual_bound.proofs.nodes.bound_of.Goals as goal

pub returns-in-Root-clause-value : goal.returns-in-Root-clause-value
returns-in-Root-clause-value c e is = root_bound e c.args.start.now c.args.limits.now c.args.multipliers.now (c.requires.limits e is) c.in-Root.is

pub returns-in_default-clause-value : goal.returns-in_default-clause-value
returns-in_default-clause-value c e is =
    let value = c.bound_of.ensures.value in
    node_bound e c.args.start.now c.args.limits.now c.args.multipliers.now value.0 c.bound_of.result is (c.requires.limits e is) c.requires.multipliers value.1 value.2

pub bound_of-requires-clause-start : goal.bound_of-requires-clause-start
bound_of-requires-clause-start c = small_ground c.requires.start.0 c.args.start.now c.requires.start.1 c.in_default.not-Root

pub bound_of-requires-clause-limits : goal.bound_of-requires-clause-limits
bound_of-requires-clause-limits c = small_limits c.requires.start.0 c.args.start.now c.args.limits.now (c.requires.limits c.requires.start.0 c.requires.start.1)
