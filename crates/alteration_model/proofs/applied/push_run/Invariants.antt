use Rattle.std.proofs.Common.{ℕ, List, ◌≡◌, ◌≤◌, ◌+◌, ◌-◌, ◌++◌, length, replicate}
use Rattle.ballot_form.specs.declared.limits.TheConstants.{MOST_BALLOTS}
use Rattle.ballot_form.specs.Alterations.{IsAlterationFrom, after_from}
use Rattle.alteration_model.proofs.applied.push_run.Given as goal

abbrev pub invariant-loop-change : goal.invariant-loop-change
invariant-loop-change l = record {
  within : l.number ≤ l.end;
  same : l.altered.c ≡ l.initial.altered.c;
  long : length l.altered.ballots + 1 ≡ l.number;
  left : IsAlterationFrom l.altered.c l.number MOST_BALLOTS l.left;
  added : (rows : List (List ℕ)) → l.altered.ballots ++ after_from l.number (replicate (l.end - l.number) l.run.row.now ++ rows) l.left
      ≡ l.initial.altered.ballots ++ after_from l.run.first (replicate l.run.count l.run.row.now ++ rows) l.changes;
}

abbrev pub decreases-loop-change : goal.decreases-loop-change
decreases-loop-change l = length l.left
