-- The text of a certificate.
use Rattle.std.specs.Prelude.{◌≡◌, ℕ, ◌≤◌, All, List, [], ◌∷◌, ◌++◌, length, map, codes, decimal, Option, Some, None}
use Rattle.std.specs.List.{flat_map}
use Rattle.ballot_form.specs.Rules.{IsRule, name_of_rule, text_of_name}
use Rattle.ballot_form.specs.declared.rule.Rule.{Rule}
use Rattle.ballot_form.specs.declared.rule.Rule.TheVariants.{Condorcet, Dhondt}
use Rattle.ballot_form.specs.declared.outcome.Outcome.{Outcome}
use Rattle.ballot_form.specs.declared.outcome.Outcome.TheVariants.{Winner, NoWinner, Seats}
use Rattle.alteration_model.specs.declared.puts.Put.{Put}
use Rattle.row_program.specs.declared.Feature.TheVariants.{From, Arc}
use Rattle.bound_tree.specs.Plain.{Plain}
use Rattle.bound_tree.specs.Nodes.{size, height}
use Rattle.bound_tree.specs.Lines.{Line, SplitInto, BranchBy, CutWith, lines_of}
use Rattle.text_lines.specs.Words.{line_text}
use Rattle.cert_text.specs.declared.cert.Stop.{Stop}
use Rattle.cert_text.specs.declared.cert.Stop.TheVariants.{Budget, Depth}
use Rattle.cert_text.specs.declared.cert.Claim.{Claim}
use Rattle.cert_text.specs.declared.cert.Claim.TheVariants.{Margin, Fixed, Bounds}
use Rattle.cert_text.specs.declared.cert.GoalText.{GoalText}
use Rattle.cert_text.specs.declared.cert.GoalText.TheVariants.{Order, Pair, Cover}
use Rattle.cert_text.specs.declared.cert.Cert.{Cert}
use Rattle.ballot_form.specs.declared.limits.TheConstants.{MOST_BALLOTS, MOST_CANDIDATES, MOST_SEATS}
use Rattle.bound_tree.specs.declared.bound.TheConstants.{MOST_DEPTH, MOST_NODES}
use Rattle.cert_text.specs.declared.limits.TheConstants.{GREATEST_CANDIDATE, GREATEST_KEY, GREATEST_MULTIPLIER, GREATEST_VALUE, LAST_ENTERED, LAST_LEFT, MOST_BUDGET, MOST_MULTIPLIERS}
use Rattle.row_program.specs.declared.limits.TheConstants.{MOST_KIDS}

-- ---- the fields of each line

-- the seats of a rule, where it has them
abbrev pub seats_words : Rule → List (List ℕ)
seats_words (Dhondt seats) = decimal seats ∷ []
seats_words rule = []

abbrev pub rule_words : Rule → List (List ℕ)
rule_words rule = codes "rule" ∷ text_of_name (name_of_rule rule) ∷ seats_words rule

abbrev pub size_words : ℕ × ℕ → List (List ℕ)
size_words x = codes "size" ∷ decimal x.0 ∷ decimal x.1 ∷ []

abbrev pub outcome_words : Outcome → List (List ℕ)
outcome_words (Winner x) = codes "reported" ∷ decimal x ∷ []
outcome_words NoWinner = codes "reported" ∷ codes "none" ∷ []
outcome_words (Seats seats) = codes "reported" ∷ map decimal seats

abbrev pub stop_words : Stop → List (List ℕ)
stop_words (Budget nodes) = codes "budget" ∷ decimal nodes ∷ []
stop_words Depth = codes "depth" ∷ []

abbrev pub claim_words : Claim → List (List ℕ)
claim_words (Margin k) = codes "margin" ∷ decimal k ∷ []
claim_words Fixed = codes "fixed" ∷ []
claim_words (Bounds low up stop) = codes "bounds" ∷ decimal low ∷ decimal up ∷ stop_words stop

abbrev pub goal_words : GoalText → List (List ℕ)
goal_words (Order order) = codes "goal" ∷ codes "order" ∷ map decimal order
goal_words (Pair g l) = codes "goal" ∷ codes "pair" ∷ decimal g ∷ decimal l ∷ []
goal_words (Cover x) = codes "goal" ∷ codes "cover" ∷ decimal x ∷ []

abbrev pub put_words : Put → List (List ℕ)
put_words put = codes "put" ∷ decimal put.number ∷ map decimal put.ballot

abbrev pub tree_words : Line → List (List ℕ)
tree_words (SplitInto kids) = codes "split" ∷ decimal kids ∷ []
tree_words (BranchBy (From key) value) = codes "branch" ∷ codes "from" ∷ decimal key ∷ decimal value ∷ []
tree_words (BranchBy (Arc u x) value) = codes "branch" ∷ codes "arc" ∷ decimal u ∷ decimal x ∷ decimal value ∷ []
tree_words (CutWith numbers) = codes "cut" ∷ map decimal numbers

-- ---- the lines of a certificate

abbrev pub goal_text : Option GoalText → List ℕ
goal_text None = []
goal_text (Some goal) = line_text (goal_words goal)

abbrev pub puts_text : List Put → List ℕ
puts_text puts = flat_map (λ put. line_text (put_words put)) puts

-- a tree is the lines of its nodes in preorder
abbrev pub tree_text : Plain → List ℕ
tree_text tree = flat_map (λ line. line_text (tree_words line)) (lines_of tree)

abbrev pub cert_text : Cert → List ℕ
cert_text cert =
    (codes "movcert 1" ++ 10 ∷ [])
    ++ (line_text (rule_words cert.rule)
    ++ (line_text (size_words (cert.c, cert.ballots))
    ++ (line_text (outcome_words cert.reported)
    ++ (line_text (claim_words cert.claim)
    ++ (goal_text cert.goal
    ++ (puts_text cert.puts
    ++ tree_text cert.tree))))))

-- ---- the limits

abbrev pub SizeFits : ℕ × ℕ → Type 0
SizeFits x = (1 ≤ x.0) × (x.0 ≤ MOST_CANDIDATES) × (x.1 ≤ MOST_BALLOTS)

-- an outcome of the rule: seats under D'Hondt, one for each candidate, no winner under Condorcet's rule alone
abbrev pub OutcomeFits : Rule → ℕ → Outcome → Type 0
OutcomeFits (Dhondt total) c (Seats seats) = (length seats ≡ c) × All (λ s. s ≤ MOST_SEATS) seats
OutcomeFits (Dhondt total) c outcome = ⊥
OutcomeFits Condorcet c NoWinner = Unit {0}
OutcomeFits rule c (Winner x) = x ≤ GREATEST_CANDIDATE
OutcomeFits rule c outcome = ⊥

abbrev pub StopFits : Stop → Type 0
StopFits (Budget nodes) = (1 ≤ nodes) × (nodes ≤ MOST_BUDGET)
StopFits Depth = Unit {0}

abbrev pub ClaimFits : Claim → Type 0
ClaimFits (Margin k) = k ≤ MOST_BALLOTS
ClaimFits Fixed = Unit {0}
ClaimFits (Bounds low up stop) = (low ≤ MOST_BALLOTS) × (up ≤ MOST_BALLOTS) × StopFits stop

abbrev pub GoalFits : ℕ → GoalText → Type 0
GoalFits c (Order order) = (length order ≡ c) × All (λ x. x ≤ GREATEST_CANDIDATE) order
GoalFits c (Pair g l) = (g ≤ GREATEST_CANDIDATE) × (l ≤ GREATEST_CANDIDATE)
GoalFits c (Cover x) = x ≤ GREATEST_CANDIDATE

abbrev pub PutFits : Put → Type 0
PutFits put = (put.number ≤ MOST_BALLOTS) × All (λ x. x ≤ GREATEST_CANDIDATE) put.ballot

-- a goal and so many replacements
abbrev pub TurnFits : ℕ → ℕ → Option GoalText → List Put → Type 0
TurnFits c k None puts = ⊥
TurnFits c k (Some goal) puts = GoalFits c goal × (length puts ≡ k) × All PutFits puts

-- which goal and which replacements a claim has
abbrev pub BodyFits : ℕ → Claim → Option GoalText → List Put → Type 0
BodyFits c Fixed goal puts = (goal ≡ None) × (puts ≡ [])
BodyFits c (Margin k) goal puts = TurnFits c k goal puts
BodyFits c (Bounds low up stop) goal puts = TurnFits c up goal puts

abbrev pub LineFits : Line → Type 0
LineFits (SplitInto kids) = kids ≤ MOST_KIDS
LineFits (BranchBy (From key) value) = (key ≤ GREATEST_KEY) × (value ≤ GREATEST_VALUE)
LineFits (BranchBy (Arc u x) value) = (u ≤ LAST_LEFT) × (1 ≤ x) × (x ≤ LAST_ENTERED) × (value ≤ GREATEST_VALUE)
LineFits (CutWith numbers) = (length numbers ≤ MOST_MULTIPLIERS) × All (λ n. n ≤ GREATEST_MULTIPLIER) numbers

-- a certificate within the limits of the grammar
pub record IsPrintable (cert : Cert) : Type 0 where
  pub rule : IsRule cert.rule
  pub sizes : SizeFits (cert.c, cert.ballots)
  pub reported : OutcomeFits cert.rule cert.c cert.reported
  pub claim : ClaimFits cert.claim
  pub body : BodyFits cert.c cert.claim cert.goal cert.puts
  pub lines : All LineFits (lines_of cert.tree)
  pub depth : height cert.tree ≤ MOST_DEPTH
  pub nodes : size cert.tree ≤ MOST_NODES

-- these bytes are the text of this certificate
pub record CertText (bytes : List ℕ) (cert : Cert) : Type 0 where
  pub printable : IsPrintable cert
  pub spelled : bytes ≡ cert_text cert
