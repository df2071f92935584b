use Rattle.std.proofs.Common.{arith}
use Rattle.ballot_form.proofs.Lengths.{length_valid}
use Rattle.score_count.proofs.scores.give_by_place.Goals as goal

pub overflow_sub-c : goal.overflow_sub-c
overflow_sub-c c = omega (arith, length_valid _ _ c.requires.valid)
