use Rattle.std.proofs.Common.{◌+◌, length}
use Rattle.node_bounds.proofs.CeilingCuts.{best_ceiling, best_cuts, never_ceiling, never_cuts}
use Rattle.node_bounds.proofs.laws.solved_multipliers_cut_up_to_the_ceiling.Goals as goal

pub returns-clause-best : goal.returns-clause-best
returns-clause-best c = λ e start limits program ls num den v is few made least bounds one_each high lowest. (
  best_ceiling e start limits program num den v is made least high lowest,
  best_cuts e start limits program ls num den v is few made least bounds one_each high lowest,
)

pub returns-clause-never : goal.returns-clause-never
returns-clause-never c = λ e start limits program ls is few made none rules one_each. (
  never_ceiling e start limits program is made none,
  never_cuts e start limits program ls (length e.poll.ballots + 1) is few made rules one_each,
)
