-- A run of ballots that is added to others, with those replaced that changes name.
use Rattle.std.specs.Prelude.{◌≡◌, ℕ, ◌+◌, ◌++◌, List, length, replicate}
use Rattle.ballot_form.specs.declared.limits.TheConstants.{MOST_BALLOTS}
use Rattle.ballot_form.specs.declared.runs.Run.{Run}
use Rattle.ballot_form.specs.Alterations.{IsAlterationFrom, after_from}
use Rattle.ballot_form.specs.Ballots.{Poll}

-- the changes from the run on make of it and of any ballots behind it what is added, and what those that are left make of these
pub record AddsRun (old : Poll) (run : Run) (changes : List (ℕ × List ℕ)) (new : Poll) (left : List (ℕ × List ℕ)) : Type 0 where
  pub same : new.c ≡ old.c
  pub long : length new.ballots ≡ length old.ballots + run.count
  pub added : (rows : List (List ℕ)) → new.ballots ++ after_from (run.first + run.count) rows left
      ≡ old.ballots ++ after_from run.first (replicate run.count run.row.now ++ rows) changes
  pub later : IsAlterationFrom old.c (run.first + run.count) MOST_BALLOTS left
