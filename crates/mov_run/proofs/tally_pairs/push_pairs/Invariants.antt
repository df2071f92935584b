use Rattle.std.proofs.Common.{◌≡◌, ◌++◌}
use Rattle.condorcet_count.specs.Preferences.{count_in}
use Rattle.mov_run.specs.Tally.{for_each, pairs_of}
use Rattle.mov_run.proofs.tally_pairs.push_pairs.Given as goal

abbrev pub invariant-loop-x : goal.invariant-loop-x
invariant-loop-x l = l.out.items ≡ l.initial.out.items ++ for_each 0 l.x (pairs_of l.matrix.c (count_in l.matrix))
