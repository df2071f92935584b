-- What is known to turn the outcome where a search begins, and how many replacements that takes.
use Rattle.std.specs.Prelude.{◌≡◌, ℕ, ◌≤◌, List, Bool, Contains, true, false, length}
use Rattle.std.specs.Int.{div_ceil}
use Rattle.ballot_form.specs.Alterations.{IsAlteration, after}
use Rattle.ballot_form.specs.declared.outcome.Outcome.{Outcome}
use Rattle.ballot_form.specs.declared.outcome.Outcome.TheVariants.{NoWinner}
use Rattle.ballot_form.specs.declared.rule.Rule.{Rule}
use Rattle.ballot_form.specs.declared.rule.Rule.TheVariants.{Condorcet, Irv}
use Rattle.goal_rows.specs.Elections.{Election}
use Rattle.goal_rows.specs.Goals.{Holds, IsDecidedByPairs}
use Rattle.goal_rows.specs.declared.goals.Goal.{Goal}
use Rattle.goal_rows.specs.declared.goals.Goal.TheVariants.{Pair}
use Rattle.witness_build.specs.CoverWalks.{IsCoverWitness, IsShortestTo, cover_walk}
use Rattle.witness_build.specs.LastRounds.{IsLastRound, IsLastRoundWitness, last_lead}
use Rattle.witness_build.specs.Witnesses.{IsStartWitness}

-- Condorcet's rule reports no winner: the contest is decided by covers
abbrev pub has_no_winner : Rule → Outcome → Bool
has_no_winner Condorcet NoWinner = true
has_no_winner rule reported = false

-- where pairs decide, the cheapest replacements of the root's pairs; where Condorcet's rule reports no winner, those of
-- the shortest walk for a cover; and under instant runoff those of the last round
pub record IsStart (e : Election) (goal : Goal) (changes : List (ℕ × List ℕ)) : Type 0 where
  pub pairs : IsDecidedByPairs e.rule e.reported → IsStartWitness e goal changes
  pub covers : has_no_winner e.rule e.reported ≡ true → IsCoverWitness e goal changes
  pub rounds : e.rule ≡ Irv → IsLastRoundWitness e goal changes

-- ---- how many replacements that takes

-- the changes are an alteration after which some root pair holds
abbrev pub MeetsRootPair : Election → List (ℕ × List ℕ) → Type 0
MeetsRootPair e changes =
    IsAlteration e.poll changes
    × ((g l : ℕ) × Contains e.roots (Pair g l) × Holds e (Pair g l) (after e.poll changes).ballots)

-- k is the least length of an alteration after which some root pair holds
pub record IsFewestForPairs (e : Election) (k : ℕ) : Type 0 where
  pub met : (changes : List (ℕ × List ℕ)) × MeetsRootPair e changes × (length changes ≡ k)
  pub fewest : (changes : List (ℕ × List ℕ)) → MeetsRootPair e changes → k ≤ length changes

-- the number of replacements with which a search begins: where pairs decide, the least length of an alteration after
-- which some root pair holds; where Condorcet's rule reports no winner, the length of the shortest walk for a cover;
-- and under instant runoff half of the lead in the last round, rounded up
pub record IsStartNumber (e : Election) (k : ℕ) : Type 0 where
  pub pairs : IsDecidedByPairs e.rule e.reported → IsFewestForPairs e k
  pub covers : has_no_winner e.rule e.reported ≡ true →
      (x : ℕ) × IsShortestTo e.poll e.poll.c x × (k ≡ length (cover_walk e.poll x))
  pub rounds : e.rule ≡ Irv → (r x : ℕ) × IsLastRound e.poll r x × (k ≡ div_ceil (last_lead e.poll x r) 2)
