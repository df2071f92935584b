-- The walk for a cover: ballots are replaced by the candidate alone, in the order of their numbers, until no other
-- candidate is preferred to it by more ballots than prefer it.
use Rattle.std.specs.Prelude.{◌≡◌, ℕ, ◌+◌, ◌<◌, ◌≤◌, ◌&&◌, not, nat_lt, Bool, List, [], ◌∷◌, ◌++◌, if◌then◌else◌}
use Rattle.std.specs.Prelude.{length}
use Rattle.std.specs.List.{list_any}
use Rattle.ballot_form.specs.Ballots.{Poll}
use Rattle.condorcet_count.specs.Preferences.{pref_of, prefers}
use Rattle.goal_rows.specs.Elections.{Election}
use Rattle.goal_rows.specs.Pairs.{puts_of}
use Rattle.goal_rows.specs.Suffixes.{others}
use Rattle.goal_rows.specs.declared.goals.Goal.{Goal}
use Rattle.goal_rows.specs.declared.goals.Goal.TheVariants.{Cover}

-- some row of the cover of x, of c candidates, is negative on the ballots, and gives this ballot a weight below 1: to
-- some other candidate x is preferred by fewer ballots than prefer that one to x, and this one doesn't prefer x to it
abbrev pub brings_closer : ℕ → ℕ → List (List ℕ) → List ℕ → Bool
brings_closer c x ballots ballot =
    list_any (λ j. nat_lt (pref_of ballots x j) (pref_of ballots j x) && not (prefers ballot x j)) (others c x)

-- the numbers of those of the ballots left that are replaced by x alone: each in turn that brings x closer, as the
-- ballots are then. `done` are the ballots before them, as they are after the replacements
abbrev pub walk_from : ℕ → ℕ → List (List ℕ) → List (List ℕ) → List ℕ
walk_from c x done [] = []
walk_from c x done (ballot ∷ left) =
    if brings_closer c x (done ++ ballot ∷ left) ballot
    then (length done + 1) ∷ walk_from c x (done ++ (x ∷ []) ∷ []) left
    else walk_from c x (done ++ ballot ∷ []) left

-- the numbers of all ballots that are replaced
abbrev pub cover_walk : Poll → ℕ → List ℕ
cover_walk p x = walk_from p.c x [] p.ballots

-- of the candidates below `to` the walk of x is the shortest, and x the lowest with one so short
pub record IsShortestTo (p : Poll) (to x : ℕ) : Type 0 where
  pub stands : x < to
  pub shortest : (y : ℕ) → y < to → length (cover_walk p x) ≤ length (cover_walk p y)
  pub lowest : (y : ℕ) → y < x → length (cover_walk p x) < length (cover_walk p y)

-- the goal is the cover whose walk is the shortest, that of the lowest candidate among equals, and the replacements are
-- those of its walk
pub record IsCoverWitness (e : Election) (goal : Goal) (changes : List (ℕ × List ℕ)) : Type 0 where
  pub x : ℕ
  pub cover : goal ≡ Cover x
  pub shortest : IsShortestTo e.poll e.poll.c x
  pub puts : changes ≡ puts_of x (cover_walk e.poll x)
