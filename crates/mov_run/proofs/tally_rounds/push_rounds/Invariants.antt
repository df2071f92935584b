use Rattle.std.proofs.Common.{◌≡◌, ◌++◌}
use Rattle.irv_count.specs.Orders.{left_after}
use Rattle.irv_count.specs.Rounds.{AreBitsOf}
use Rattle.mov_run.specs.Tally.{for_each, round_of}
use Rattle.mov_run.proofs.tally_rounds.push_rounds.Given as goal

abbrev pub invariant-loop-i : goal.invariant-loop-i
invariant-loop-i l = record {
  text : l.out.items ≡ l.initial.out.items ++ for_each 0 l.i (round_of l.roll l.order);
  set : AreBitsOf l.roll.c (left_after l.order l.i) l.standing;
}
