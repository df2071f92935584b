-- The cheapest replacements that bring the gainer of a pair level with the loser, and the cheapest of the pairs into
-- which the root is split.
use Rattle.std.specs.Prelude.{◌≡◌, ℕ, ◌<◌, ◌≤◌, List, [], ◌∷◌, length, map, slice_index_or}
use Rattle.ballot_form.specs.Alterations.{IsAlteration, after}
use Rattle.goal_rows.specs.Elections.{Election}
use Rattle.goal_rows.specs.Goals.{Holds, IsComplete, gainer_points, loser_points}
use Rattle.goal_rows.specs.Pairs.{ComeFirst, Reaches, deficit_of, gain_of, puts_of}
use Rattle.goal_rows.specs.declared.goals.Goal.{Goal}
use Rattle.goal_rows.specs.declared.goals.Goal.TheVariants.{Root, Suffix, Pair, Cover}

-- the goal is a pair
abbrev pub IsPair : Goal → Type 0
IsPair goal = (g : ℕ) × (l : ℕ) × (goal ≡ Pair g l)

-- by how much the gainer is behind
abbrev pub pair_deficit : Election → ℕ → ℕ → ℕ
pair_deficit e g l = deficit_of (gainer_points e g l) (loser_points e g l) e.poll.ballots

-- how much closer each ballot brings the gainer where it is replaced by the one that ranks the gainer alone
abbrev pub pair_gains : Election → ℕ → ℕ → List ℕ
pair_gains e g l =
    map (gain_of (gainer_points e g l (g ∷ [])) (gainer_points e g l) (loser_points e g l)) e.poll.ballots

-- the k largest gains make up what the gainer is behind
abbrev pub PairReaches : Election → ℕ → ℕ → ℕ → Type 0
PairReaches e g l k = Reaches (pair_deficit e g l) (pair_gains e g l) k

-- k is the least number whose largest gains do
pub record IsLeastReach (e : Election) (g l k : ℕ) : Type 0 where
  pub reached : PairReaches e g l k
  pub least : (i : ℕ) → PairReaches e g l i → k ≤ i

-- the cheapest replacements of a pair: as few as bring it level, each by the ballot that ranks the gainer alone, of the
-- ballots with the largest gains, the lower number first at equal gains
pub record IsPairWitness (e : Election) (g l : ℕ) (changes : List (ℕ × List ℕ)) : Type 0 where
  pub numbers : List ℕ
  pub puts : changes ≡ puts_of g numbers
  pub alteration : IsAlteration e.poll changes
  pub least : IsLeastReach e g l (length changes)
  pub first : ComeFirst (pair_gains e g l) numbers

-- the same of a goal that is a pair
abbrev pub IsWitnessOf : Election → Goal → List (ℕ × List ℕ) → Type 0
IsWitnessOf e Root changes = ⊥
IsWitnessOf e (Suffix suffix) changes = ⊥
IsWitnessOf e (Pair g l) changes = IsPairWitness e g l changes
IsWitnessOf e (Cover x) changes = ⊥

-- the root goal at this place, from 0, is this pair
abbrev pub IsRootPair : Election → ℕ → ℕ → ℕ → Type 0
IsRootPair e place g l = (place < length e.roots) × (slice_index_or e.roots place Root ≡ Pair g l)

-- the cheapest replacements of the root's pairs: those of the first pair that is brought level by the fewest
pub record IsStartWitness (e : Election) (goal : Goal) (changes : List (ℕ × List ℕ)) : Type 0 where
  pub place : ℕ
  pub within : place < length e.roots
  pub stands : slice_index_or e.roots place Root ≡ goal
  pub witness : IsWitnessOf e goal changes
  pub fewest : (at g l i : ℕ) → IsRootPair e at g l → PairReaches e g l i → length changes ≤ i
  pub first : (at g l i : ℕ) → at < place → IsRootPair e at g l → PairReaches e g l i → length changes < i

-- the replacements are an alteration after which the outcome turns by this goal: it is complete, and its rows hold
pub record IsMetBy (e : Election) (goal : Goal) (changes : List (ℕ × List ℕ)) : Type 0 where
  pub alteration : IsAlteration e.poll changes
  pub complete : IsComplete e goal
  pub holds : Holds e goal (after e.poll changes).ballots
