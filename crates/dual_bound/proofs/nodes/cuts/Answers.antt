use Rattle.dual_bound.proofs.Exact.{node_test, root_test}
use Rattle.dual_bound.proofs.SmallGrounds.{small_ground, small_limits}
use Rattle.dual_bound.proofs.nodes.cuts.Goals as goal

pub returns-in-Root-clause-value : goal.returns-in-Root-clause-value
returns-in-Root-clause-value c e is = root_test e c.args.start.now c.args.limits.now c.args.multipliers.now c.args.t (c.requires.limits e is) c.in-Root.is

pub returns-in_default-clause-value : goal.returns-in_default-clause-value
returns-in_default-clause-value c e is =
    let value = c.cuts.ensures.value in
    node_test e c.args.start.now c.args.limits.now c.args.multipliers.now value.0 c.args.t c.cuts.result is (c.requires.limits e is) c.requires.multipliers c.requires.within value.1 value.2

pub cuts-requires-clause-start : goal.cuts-requires-clause-start
cuts-requires-clause-start c = small_ground c.requires.start.0 c.args.start.now c.requires.start.1 c.in_default.not-Root

pub cuts-requires-clause-limits : goal.cuts-requires-clause-limits
cuts-requires-clause-limits c = small_limits c.requires.start.0 c.args.start.now c.args.limits.now (c.requires.limits c.requires.start.0 c.requires.start.1)
