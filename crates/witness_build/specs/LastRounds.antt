-- The last round of instant runoff, and the replacements that take it from the winner.
use Rattle.std.specs.Prelude.{◌≡◌, ℕ, ◌+◌, ◌-◌, ◌==◌, ◌||◌, Bool, List, [], ◌∷◌, ◌++◌, Some, None, if◌then◌else◌, take}
use Rattle.std.specs.Int.{div_ceil}
use Rattle.ballot_form.specs.Alterations.{after}
use Rattle.ballot_form.specs.Ballots.{Poll}
use Rattle.ballot_form.specs.Scores.{is_some_of}
use Rattle.irv_count.specs.Orders.{IsOrderBy, held_count, holder}
use Rattle.goal_rows.specs.Elections.{Election}
use Rattle.goal_rows.specs.declared.goals.Goal.{Goal}
use Rattle.goal_rows.specs.declared.goals.Goal.TheVariants.{Suffix}

-- x and r, who stand in the last round
abbrev pub last_two : ℕ → ℕ → ℕ → Bool
last_two x r z = (z == x) || (z == r)

-- x holds the ballot in the last round, in which x and r stand
abbrev pub holds_last : ℕ → ℕ → List ℕ → Bool
holds_last x r ballot = is_some_of (holder (last_two x r) ballot) x

-- the ballot cut off at x, with r in the place of x
abbrev pub cut_at : ℕ → ℕ → List ℕ → List ℕ
cut_at x r [] = []
cut_at x r (y ∷ ballot) = if y == x then r ∷ [] else y ∷ cut_at x r ballot

-- the ballots that x holds in the last round, cut, with their numbers; the first ballot has the number i
abbrev pub cuts_from : ℕ → ℕ → ℕ → List (List ℕ) → List (ℕ × List ℕ)
cuts_from x r i [] = []
cuts_from x r i (ballot ∷ ballots) =
    if holds_last x r ballot then (i, cut_at x r ballot) ∷ cuts_from x r (i + 1) ballots
    else cuts_from x r (i + 1) ballots

-- by how many ballots x is ahead of r in the last round
abbrev pub last_lead : Poll → ℕ → ℕ → ℕ
last_lead p x r = held_count (last_two x r) p.ballots x - held_count (last_two x r) p.ballots r

-- the first ballots that x holds in the last round, half as many as x is ahead, rounded up, each cut
abbrev pub last_cuts : Poll → ℕ → ℕ → List (ℕ × List ℕ)
last_cuts p x r = take (div_ceil (last_lead p x r) 2) (cuts_from x r 1 p.ballots)

-- by the reported order r is the last to go out, and x wins
pub record IsLastRound (p : Poll) (r x : ℕ) : Type 0 where
  pub front : List ℕ
  pub order : IsOrderBy None p (front ++ r ∷ x ∷ [])

-- the replacements are the cuts of the last round, in which x wins and r is the other one, and the goal is the order
-- after them that is against x at each tie
pub record IsLastRoundWitness (e : Election) (goal : Goal) (changes : List (ℕ × List ℕ)) : Type 0 where
  pub r : ℕ
  pub x : ℕ
  pub last : IsLastRound e.poll r x
  pub cuts : changes ≡ last_cuts e.poll x r
  pub against : List ℕ
  pub order : IsOrderBy (Some x) (after e.poll changes) against
  pub suffix : goal ≡ Suffix against
