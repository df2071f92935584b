-- Certificates of the margin of a contest, and how the searches ended that they tell of.
use Rattle.std.specs.Prelude.{◌≡◌, ◌⊎◌, ℕ, ◌+◌, ◌*◌, ◌<◌, ◌≤◌, [], length, Option, Some}
use Rattle.std.specs.Prelude.{None as Nothing}
use Rattle.alteration_model.specs.Faults.{pairs_of}
use Rattle.ballot_form.specs.Ballots.{Poll}
use Rattle.ballot_form.specs.declared.rule.Rule.{Rule}
use Rattle.bound_tree.specs.Nodes.{size}
use Rattle.cert_text.specs.CertText.{cert_text}
use Rattle.cert_text.specs.declared.cert.Cert.{Cert}
use Rattle.cert_text.specs.declared.cert.Claim.{Claim}
use Rattle.cert_text.specs.declared.cert.Claim.TheVariants.{Margin, Fixed, Bounds}
use Rattle.cert_text.specs.declared.cert.Stop.{Stop}
use Rattle.cert_text.specs.declared.cert.Stop.TheVariants.{Budget, Depth}
use Rattle.cert_text.specs.declared.limits.TheConstants.{LONGEST_TEXT}
use Rattle.goal_rows.specs.Elections.{Election}
use Rattle.goal_rows.specs.Goals.{IsDecidedByPairs}
use Rattle.goal_rows.specs.Outcomes.{IsReported}
use Rattle.goal_rows.specs.declared.goals.Goal.{Goal}
use Rattle.margin_check.specs.Meanings.{ClaimIsTrue}
use Rattle.margin_check.specs.Validity.{IsValidCert, election_by, level_of, named_goal}
use Rattle.witness_build.specs.Starts.{IsStart, IsStartNumber}
use Rattle.witness_build.specs.declared.pairs.Witness.{Witness}
use Rattle.search_theory.specs.Ends.{IsEnd, Problem, Ending}
use Rattle.search_theory.specs.Ends as ends
use Rattle.search_theory.specs.Trees.{IsNeeded, IsTight}
use Rattle.search_leaves.specs.Found.{IsFromPoint}

-- ---- the search

-- the search that a certificate tells of, where so many replacements are known to turn the outcome, if any, and the
-- tree may have so many nodes
abbrev pub search_by : Poll → Cert → Option ℕ → ℕ → Problem
search_by p cert upper budget = record { election = election_by p cert; upper = upper; budget = budget }

-- somebody else stands, and so many replacements are known to turn the outcome where a search begins
pub record IsStartOf (e : Election) (u : ℕ) : Type 0 where
  pub others : 2 ≤ e.poll.c
  pub number : IsStartNumber e u

-- the goal and the replacements are those with which a search begins
pub record IsFromStart (p : Poll) (cert : Cert) : Type 0 where
  pub goal : Goal
  pub named : named_goal cert.goal ≡ Some goal
  pub start : IsStart (election_by p cert) goal (pairs_of cert.puts)

-- ---- what a certificate says, by its claim

-- nothing turns the outcome, since nobody else stands: the search ended there, and there is no goal and no replacement
pub record IsFixedCert (budget : ℕ) (p : Poll) (cert : Cert) : Type 0 where
  pub alone : p.c ≡ 1
  pub end : IsEnd (search_by p cert Nothing budget) cert.tree (length p.ballots + 1) ends.Nothing
  pub goal : cert.goal ≡ Nothing
  pub puts : cert.puts ≡ []

-- the search proved that no fewer replacements do than those with which it began
pub record IsMetCert (budget : ℕ) (p : Poll) (cert : Cert) (k : ℕ) : Type 0 where
  pub known : IsStartOf (election_by p cert) k
  pub end : IsEnd (search_by p cert (Some k) budget) cert.tree k ends.Met
  pub turn : IsFromStart p cert

-- the search ended at a whole point, which stands for the replacements: they are fewer than those with which it began
pub record IsPointCert (budget : ℕ) (p : Poll) (cert : Cert) (k : ℕ) : Type 0 where
  pub start : ℕ
  pub known : IsStartOf (election_by p cert) start
  pub fewer : k < start
  pub witness : Witness
  pub end : IsFromPoint (search_by p cert (Some start) budget) cert.tree k witness
  pub named : named_goal cert.goal ≡ Some witness.goal
  pub puts : pairs_of cert.puts ≡ witness.changes

-- the search stopped so, with this budget
abbrev pub StopsAt : ℕ → Stop → Ending → Type 0
StopsAt budget (Budget nodes) ending = (nodes ≡ budget) × (ending ≡ ends.Budget)
StopsAt budget Depth ending = ending ≡ ends.Depth

-- the search stopped before that, with the replacements with which it began
pub record IsStoppedCert (budget : ℕ) (p : Poll) (cert : Cert) (low up : ℕ) (stop : Stop) : Type 0 where
  pub known : IsStartOf (election_by p cert) up
  pub ending : Ending
  pub stops : StopsAt budget stop ending
  pub end : IsEnd (search_by p cert (Some up) budget) cert.tree low ending
  pub turn : IsFromStart p cert

-- how the search ended, by the claim
abbrev pub EndsAs : ℕ → Poll → Cert → Claim → Type 0
EndsAs budget p cert Fixed = IsFixedCert budget p cert
EndsAs budget p cert (Margin k) = IsMetCert budget p cert k ⊎ IsPointCert budget p cert k
EndsAs budget p cert (Bounds low up stop) = IsStoppedCert budget p cert low up stop

-- how it ended where pairs decide: with what it began, but where the budget has no room for the root and its pairs
abbrev pub EndsByPairs : ℕ → Poll → Cert → Claim → Type 0
EndsByPairs budget p cert Fixed = IsFixedCert budget p cert
EndsByPairs budget p cert (Margin k) = IsMetCert budget p cert k
EndsByPairs budget p cert (Bounds low up stop) = budget < 1 + p.c * p.c

-- the certificate of a contest under a rule, from a search with a tree of at most so many nodes. It is valid, what it
-- claims is so, and its text isn't too long to be checked; each cut of its tree is tight, and nothing in the tree grew
-- for nothing
pub record IsCertOf (rule : Rule) (budget : ℕ) (p : Poll) (cert : Cert) : Type 0 where
  pub rule_is : cert.rule ≡ rule
  pub candidates : cert.c ≡ p.c
  pub ballots : cert.ballots ≡ length p.ballots
  pub reported : IsReported rule p cert.reported
  pub valid : IsValidCert p cert
  pub claim : ClaimIsTrue p cert
  pub short : length (cert_text cert) ≤ LONGEST_TEXT
  pub nodes : size cert.tree ≤ budget
  pub tight : IsTight (election_by p cert) cert.tree
  pub needed : IsNeeded (election_by p cert) (level_of (length p.ballots) cert.claim) cert.tree
  pub end : EndsAs budget p cert cert.claim
  pub pairs : IsDecidedByPairs rule cert.reported → EndsByPairs budget p cert cert.claim
