use Rattle.std.proofs.Common.{◌≡◌, ◌++◌, ◌+◌, ◌-◌}
use Rattle.condorcet_count.specs.Preferences.{count_in}
use Rattle.mov_run.specs.Tally.{for_each, pair_text}
use Rattle.mov_run.proofs.tally_pairs.push_pairs_of.Given as goal

abbrev pub invariant-loop-y : goal.invariant-loop-y
invariant-loop-y l = l.out.items ≡ l.initial.out.items ++ for_each (l.x + 1) (l.y - (l.x + 1)) (pair_text (count_in l.matrix) l.x)
