use Rattle.std.proofs.Common.{arith}
use Rattle.search_leaves.proofs.SeedLimits.{few_enough, limits_read}
use Rattle.search_leaves.proofs.leaves.leaf_with.Goals as goal

pub bound_of-bound-requires-clause-limits : goal.bound_of-bound-requires-clause-limits
bound_of-bound-requires-clause-limits c = limits_read c.args.seed c.as_slice.result.now c.as_slice.ensures.value c.requires.seed

pub bound_of-bound-requires-clause-room : goal.bound_of-bound-requires-clause-room
bound_of-bound-requires-clause-room c = omega (arith, few_enough c.args.seed c.requires.seed, c.requires.room)
