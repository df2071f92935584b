-- Goals and their rows, after Magrino, Rivest, Shen and Wagner (2011) and Blom, Stuckey, Teague and Tidhar (2016). A
-- row gives each ballot a whole weight, and holds on a list of ballots where the sum of the weights is at least 0. The
-- outcome turns exactly where all rows of some complete goal hold after the replacements.
use Rattle.std.specs.Prelude.{◌≡◌, ◌≢◌, ℕ, ◌+◌, ◌<◌, ◌≤◌, ◌==◌, ◌&&◌, not, nat_lt, List, [], ◌∷◌, Bool, Contains, All, AllPairs, Option, Some, None, if◌then◌else◌, length, map, slice_index, slice_index_or, ℤ, pos, ◌-ℤ◌, ◌≤ℤ◌}
use Rattle.std.specs.List.{flat_map, range_with_len}
use Rattle.mov_base.specs.Sums.{sum_z}
use Rattle.ballot_form.specs.Ballots.{IsPoll, IsValidBallot}
use Rattle.ballot_form.specs.Rules.{IsRule}
use Rattle.ballot_form.specs.Scores.{borda_points, is_first, plurality_points}
use Rattle.ballot_form.specs.declared.outcome.Outcome.{Outcome}
use Rattle.ballot_form.specs.declared.outcome.Outcome.TheVariants.{Winner, NoWinner, Seats}
use Rattle.ballot_form.specs.declared.rule.Rule.{Rule}
use Rattle.ballot_form.specs.declared.rule.Rule.TheVariants.{Plurality, Borda, Condorcet, Dhondt, Irv}
use Rattle.irv_count.specs.Orders.{IsLast, IsOrder, member}
use Rattle.row_program.specs.declared.limits.TheConstants.{MOST_KIDS}
use Rattle.goal_rows.specs.Elections.{Election}
use Rattle.goal_rows.specs.Outcomes.{IsReported}
use Rattle.goal_rows.specs.Suffixes.{cover_rows, others, prefer_points, suffix_rows, those}
use Rattle.goal_rows.specs.declared.goals.Goal.{Goal}
use Rattle.goal_rows.specs.declared.goals.Goal.TheVariants.{Root, Suffix, Pair, Cover}

-- ---- rows

-- the seats of a candidate in an outcome
abbrev pub seats_in : Outcome → ℕ → ℕ
seats_in (Seats shares) a = slice_index shares a
seats_in outcome a = 0

-- what a ballot counts for the gainer g of a pair with the loser l
abbrev pub gainer_points : Election → ℕ → ℕ → List ℕ → ℕ
gainer_points e g l ballot = elim e.rule [
  | Plurality ↦ plurality_points ballot g
  | Borda ↦ borda_points e.poll.c ballot g
  | Condorcet ↦ prefer_points g l ballot
  | Dhondt seats ↦ if is_first ballot g then seats_in e.reported l else 0
  | Irv ↦ 0
]

-- and what it counts for the loser
abbrev pub loser_points : Election → ℕ → ℕ → List ℕ → ℕ
loser_points e g l ballot = elim e.rule [
  | Plurality ↦ plurality_points ballot l
  | Borda ↦ borda_points e.poll.c ballot l
  | Condorcet ↦ prefer_points l g ballot
  | Dhondt seats ↦ if is_first ballot l then seats_in e.reported g + 1 else 0
  | Irv ↦ 0
]

-- the weight that a pair's row gives a ballot
abbrev pub pair_weight : Election → ℕ → ℕ → List ℕ → ℤ
pair_weight e g l ballot = pos (gainer_points e g l ballot) -ℤ pos (loser_points e g l ballot)

-- the rows of a goal
abbrev pub rows_of : Election → Goal → List (List ℕ → ℤ)
rows_of e Root = []
rows_of e (Suffix suffix) = suffix_rows suffix
rows_of e (Pair g l) = pair_weight e g l ∷ []
rows_of e (Cover x) = cover_rows e.poll.c x

-- all rows of the goal hold on the ballots
abbrev pub Holds : Election → Goal → List (List ℕ) → Type 0
Holds e goal ballots = All (λ weight. pos 0 ≤ℤ sum_z weight ballots) (rows_of e goal)

-- ---- the goals below the root

-- l is another candidate than g, and has a seat
abbrev pub is_seated : List ℕ → ℕ → ℕ → Bool
is_seated shares g l = not (l == g) && nat_lt 0 (slice_index shares l)

-- the goals into which the root is split, of c candidates. Where a winner is reported by scores or by pairs, they are
-- the pairs of each other candidate, ascending, with the winner; where Condorcet's rule reports none, the covers of all
-- candidates; under D'Hondt the pairs of each candidate with each other one that has a seat; and under instant runoff
-- the suffixes of each other candidate alone than the winner
abbrev pub root_goals : Rule → ℕ → Outcome → List Goal
root_goals Plurality c (Winner x) = map (λ j. Pair j x) (others c x)
root_goals Borda c (Winner x) = map (λ j. Pair j x) (others c x)
root_goals Condorcet c (Winner x) = map (λ j. Pair j x) (others c x)
root_goals Condorcet c NoWinner = map Cover (range_with_len 0 c)
root_goals (Dhondt seats) c (Seats shares) =
    flat_map (λ g. map (λ l. Pair g l) (those c (is_seated shares g))) (range_with_len 0 c)
root_goals Irv c (Winner x) = map (λ y. Suffix (y ∷ [])) (others c x)
root_goals rule c reported = []

-- the rule is decided by pairs of candidates: all but instant runoff, and Condorcet's where there is no winner
abbrev pub IsDecidedByPairs : Rule → Outcome → Type 0
IsDecidedByPairs Irv reported = ⊥
IsDecidedByPairs Condorcet NoWinner = ⊥
IsDecidedByPairs rule reported = Unit {0}

-- the rule knows pairs: all but instant runoff
abbrev pub HasPairs : Rule → Type 0
HasPairs Irv = ⊥
HasPairs rule = Unit {0}

-- a goal that the root is split into for some reported outcome of the rule; with so few candidates that no such outcome
-- is reported, too
abbrev pub IsRootOf : Election → Goal → Type 0
IsRootOf e Root = ⊥
IsRootOf e (Suffix suffix) = (e.rule ≡ Irv) × ((y : ℕ) × (y < e.poll.c) × (suffix ≡ y ∷ []))
IsRootOf e (Pair g l) = HasPairs e.rule × (g < e.poll.c) × (l < e.poll.c) × (g ≢ l)
IsRootOf e (Cover x) = (e.rule ≡ Condorcet) × (x < e.poll.c)

-- goals that an election may have below the root: few, each once, and each such a goal
pub record AreRoots (e : Election) : Type 0 where
  pub few : length e.roots ≤ MOST_KIDS
  pub distinct : AllPairs (λ a b. a ≢ b) e.roots
  pub each : All (IsRootOf e) e.roots

-- an election with its own reported outcome, and with goals that it may have below the root
pub record IsElection (e : Election) : Type 0 where
  pub lawful : IsRule e.rule
  pub poll : IsPoll e.poll
  pub reported : IsReported e.rule e.poll e.reported
  pub roots : AreRoots e

-- ---- covers

-- the suffixes with one candidate more, in front: each of those who aren't in it, ascending
abbrev pub longer_suffixes : ℕ → List ℕ → List Goal
longer_suffixes c suffix = map (λ z. Suffix (z ∷ suffix)) (those c (λ z. not (member z suffix)))

-- the goals that a goal is split into, where it has a cover: one of them holds where it holds on the way to a complete
-- goal
abbrev pub cover_of : Election → Goal → Option (List Goal)
cover_of e Root = Some e.roots
cover_of e (Suffix suffix) =
    if nat_lt (length suffix) e.poll.c then Some (longer_suffixes e.poll.c suffix) else None
cover_of e (Pair g l) = None
cover_of e (Cover x) = None

-- the goals of a cover, or none
abbrev pub kid_goals : Option (List Goal) → List Goal
kid_goals None = []
kid_goals (Some goals) = goals

-- the last candidate of the suffix alone is one of the suffixes into which the root is split
abbrev pub EndsInRoot : Election → List ℕ → Type 0
EndsInRoot e suffix = (y : ℕ) × IsLast suffix y × Contains e.roots (Suffix (y ∷ []))

-- the outcome turns where such a goal holds: a pair or a cover is one of the root's; a suffix has each candidate once,
-- and ends in one of the root's
abbrev pub IsComplete : Election → Goal → Type 0
IsComplete e Root = ⊥
IsComplete e (Suffix suffix) = IsOrder e.poll.c suffix × EndsInRoot e suffix
IsComplete e (Pair g l) = Contains e.roots (Pair g l)
IsComplete e (Cover x) = Contains e.roots (Cover x)

-- the goal at this place of a goal's cover, from 0
abbrev pub IsKid : Election → Goal → ℕ → Goal → Type 0
IsKid e goal place kid =
    (kids : List Goal) × (cover_of e goal ≡ Some kids) × (place < length kids) × (slice_index_or kids place kid ≡ kid)

-- a way through covers from a goal to another, by the places of the goals on it
abbrev pub LeadsTo : Election → Goal → List ℕ → Goal → Type 0
LeadsTo e goal [] end = goal ≡ end
LeadsTo e goal (place ∷ places) end = (kid : Goal) × IsKid e goal place kid × LeadsTo e kid places end

-- this way leads there, and no other one does
pub record IsOnlyWay (e : Election) (goal : Goal) (way : List ℕ) (end : Goal) : Type 0 where
  pub leads : LeadsTo e goal way end
  pub only : (other : List ℕ) → LeadsTo e goal other end → other ≡ way

-- a goal that is the root or reached from it through covers
abbrev pub IsReached : Election → Goal → Type 0
IsReached e goal = (way : List ℕ) × LeadsTo e Root way goal

-- the root, one of its goals, or a suffix of distinct candidates of the contest that ends in one of them
abbrev pub IsGoalOf : Election → Goal → Type 0
IsGoalOf e Root = Unit {0}
IsGoalOf e (Suffix suffix) = IsValidBallot e.poll.c suffix × EndsInRoot e suffix
IsGoalOf e (Pair g l) = Contains e.roots (Pair g l)
IsGoalOf e (Cover x) = Contains e.roots (Cover x)
