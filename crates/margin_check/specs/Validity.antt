-- When a certificate is valid for a contest.
use Rattle.std.specs.Prelude.{◌≡◌, ℕ, ◌+◌, ◌<◌, List, All, length, Option, Some, None}
use Rattle.ballot_form.specs.Alterations.{IsAlteration, after}
use Rattle.ballot_form.specs.Ballots.{Poll}
use Rattle.alteration_model.specs.Faults.{pairs_of}
use Rattle.goal_rows.specs.Elections.{Election}
use Rattle.goal_rows.specs.Goals.{Holds, IsComplete, root_goals}
use Rattle.goal_rows.specs.Nodes.{without_limits}
use Rattle.goal_rows.specs.Outcomes.{IsReported}
use Rattle.goal_rows.specs.declared.goals.Goal.{Goal}
use Rattle.goal_rows.specs.declared.goals.Goal.TheVariants as goals
use Rattle.cert_text.specs.declared.cert.Cert.{Cert}
use Rattle.cert_text.specs.declared.cert.Claim.{Claim}
use Rattle.cert_text.specs.declared.cert.Claim.TheVariants.{Margin, Fixed, Bounds}
use Rattle.cert_text.specs.declared.cert.GoalText.{GoalText}
use Rattle.cert_text.specs.declared.cert.GoalText.TheVariants.{Order, Pair, Cover}
use Rattle.margin_check.specs.Proving.{IsShaped, Passes}
use Rattle.margin_check.specs.Visits.{Visit, visits}

-- the election that a certificate speaks of: the ballots under its rule, with its reported outcome and the root goals
-- of that
abbrev pub election_by : Poll → Cert → Election
election_by p cert =
    record { rule = cert.rule; poll = p; reported = cert.reported; roots = root_goals cert.rule p.c cert.reported }

-- the certificate has the contest's numbers of candidates and of ballots
abbrev pub HasSizes : Poll → Cert → Type 0
HasSizes p cert = (cert.c ≡ p.c) × (cert.ballots ≡ length p.ballots)

-- the goal that a certificate names: an order is the suffix of all candidates
abbrev pub named_goal : Option GoalText → Option Goal
named_goal (Some (Order order)) = Some (goals.Suffix order)
named_goal (Some (Pair gainer loser)) = Some (goals.Pair gainer loser)
named_goal (Some (Cover x)) = Some (goals.Cover x)
named_goal None = None

-- it names a complete goal, whose rows hold on the ballots
abbrev pub IsMet : Election → Option GoalText → List (List ℕ) → Type 0
IsMet e text ballots = (goal : Goal) × (named_goal text ≡ Some goal) × IsComplete e goal × Holds e goal ballots

-- what a claim asks of the goal and the ballots after the changes: nothing where it is that nothing turns the outcome
abbrev pub ClaimHolds : Election → Claim → Option GoalText → List (List ℕ) → Type 0
ClaimHolds e (Margin k) text ballots = IsMet e text ballots
ClaimHolds e Fixed text ballots = Unit {0}
ClaimHolds e (Bounds low up stop) text ballots = IsMet e text ballots

-- the number at which the cuts are tested, of n ballots
abbrev pub level_of : ℕ → Claim → ℕ
level_of n (Margin k) = k
level_of n Fixed = n + 1
level_of n (Bounds low up stop) = low

-- a lower bound is below the upper one
abbrev pub HasOrder : Claim → Type 0
HasOrder (Margin k) = Unit {0}
HasOrder Fixed = Unit {0}
HasOrder (Bounds low up stop) = low < up

-- the nodes of its tree, where the topmost has the goal Root and no limits
abbrev pub cert_visits : Poll → Cert → List Visit
cert_visits p cert = visits (election_by p cert) (without_limits goals.Root) cert.tree

-- the parts of validity, in order
abbrev pub IsTurned : Poll → Cert → Type 0
IsTurned p cert = ClaimHolds (election_by p cert) cert.claim cert.goal (after p (pairs_of cert.puts)).ballots

abbrev pub HasShape : Poll → Cert → Type 0
HasShape p cert = All (λ visit. IsShaped (election_by p cert) visit.node visit.tree) (cert_visits p cert)

abbrev pub HasCuts : Poll → Cert → Type 0
HasCuts p cert =
    All (λ visit. Passes (election_by p cert) (level_of (length p.ballots) cert.claim) visit.node visit.tree)
    (cert_visits p cert)

-- a certificate that is valid for a contest
pub record IsValidCert (p : Poll) (cert : Cert) : Type 0 where
  pub head : HasSizes p cert
  pub reported : IsReported cert.rule p cert.reported
  pub alteration : IsAlteration p (pairs_of cert.puts)
  pub claim : IsTurned p cert
  pub shape : HasShape p cert
  pub cuts : HasCuts p cert
  pub numbers : HasOrder cert.claim
