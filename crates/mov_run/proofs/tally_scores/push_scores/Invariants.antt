use Rattle.std.proofs.Common.{◌≡◌, ◌++◌, get_or}
use Rattle.mov_run.specs.Tally.{scores_text}
use Rattle.mov_run.proofs.tally_scores.push_scores.Given as goal

abbrev pub invariant-loop-x : goal.invariant-loop-x
invariant-loop-x l = l.out.items ≡ l.initial.out.items ++ scores_text l.x (λ y. get_or l.scores y 0)
