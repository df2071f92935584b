use Rattle.std.proofs.Common.{◌≡◌, ◌+◌, ◌++◌, length}
use Rattle.ballot_form.specs.declared.limits.TheConstants.{MOST_BALLOTS}
use Rattle.ballot_form.specs.Alterations.{IsAlterationFrom, after_from}
use Rattle.alteration_model.proofs.applied.apply.Given as goal

abbrev pub invariant-loop-run : goal.invariant-loop-run
invariant-loop-run l = record {
  same : l.run-iterator.c ≡ l.roll.c;
  candidates : l.altered.c ≡ l.roll.c;
  long : length l.altered.ballots + 1 ≡ l.run-iterator.first;
  left : IsAlterationFrom l.roll.c l.run-iterator.first MOST_BALLOTS l.left;
  added : l.altered.ballots ++ after_from l.run-iterator.first l.run-iterator.ballots l.left ≡ after_from 1 l.roll.ballots l.changes;
}
