use Rattle.std.proofs.Common.{◌≡◌, ◌++◌}
use Rattle.mov_run.specs.Tally.{for_each, name_text}
use Rattle.mov_run.proofs.tally.push_names.Given as goal

abbrev pub invariant-loop-x : goal.invariant-loop-x
invariant-loop-x l = l.out.items ≡ l.initial.out.items ++ for_each 0 l.x (name_text l.names)
