-- The summary of a drill.
use Rattle.std.specs.Prelude.{◌≡◌, ℕ, ◌||◌, Bool, true, false, List, [], ◌∷◌, ◌++◌, codes, decimal}
use Rattle.std.specs.List.{flat_map}
use Rattle.ballot_form.specs.Ballots.{Poll}
use Rattle.ballot_form.specs.Rules.{name_of_rule, text_of_name}
use Rattle.ballot_form.specs.declared.rule.Rule.{Rule}
use Rattle.ballot_form.specs.declared.rule.Rule.TheVariants.{Plurality, Borda, Condorcet, Dhondt, Irv}
use Rattle.ballot_make.specs.Made.{poll_made}
use Rattle.bound_tree.specs.Nodes.{size}
use Rattle.cert_text.specs.CertText.{claim_words, seats_words, size_words}
use Rattle.cert_text.specs.declared.cert.Cert.{Cert}
use Rattle.cert_text.specs.declared.cert.Claim.{Claim}
use Rattle.cert_text.specs.declared.cert.Claim.TheVariants.{Margin, Fixed, Bounds}
use Rattle.margin_solve.specs.Certificates.{IsCertOf}
use Rattle.text_lines.specs.Words.{line_text}
use Rattle.drill_text.specs.declared.limits.TheConstants.{DRILL_BALLOTS, DRILL_BUDGET, DRILL_CANDIDATES, DRILL_SEATS}

-- the ballots of the contest that a seed makes
abbrev pub drill_poll : ℕ → Poll
drill_poll seed = poll_made seed DRILL_CANDIDATES DRILL_BALLOTS

-- the rules, in order
abbrev pub drill_rules : List Rule
drill_rules = Plurality ∷ Borda ∷ Condorcet ∷ Dhondt DRILL_SEATS ∷ Irv ∷ []

-- words, each behind a space
abbrev pub spaced : List (List ℕ) → List ℕ
spaced words = flat_map (λ word. 32 ∷ word) words

-- the words of a rule's line: the rule, the claim, and the number of nodes
abbrev pub drill_words : Rule → Claim → ℕ → List (List ℕ)
drill_words rule claim nodes =
    text_of_name (name_of_rule rule)
    ∷ (seats_words rule ++ (claim_words claim ++ (codes "nodes" ∷ decimal nodes ∷ [])))

-- the line of a certificate under a rule
abbrev pub drill_line : Rule → Cert → List ℕ
drill_line rule cert = line_text (drill_words rule cert.claim (size cert.tree))

-- the two lines before these
abbrev pub drill_head : ℕ → List ℕ
drill_head seed =
    line_text (codes "drill" ∷ decimal seed ∷ []) ++ line_text (size_words (DRILL_CANDIDATES, DRILL_BALLOTS))

-- the claim is a pair of bounds
abbrev pub is_bounds : Claim → Bool
is_bounds (Margin k) = false
is_bounds Fixed = false
is_bounds (Bounds low up stop) = true

-- the lines of these rules, each of a certificate of the seed's contest within the budget, and whether some claim is a
-- pair of bounds
pub record IsLineFor (seed : ℕ) (rule : Rule) (line : List ℕ) (stopped : Bool) : Type 0 where
  pub cert : Cert
  pub found : IsCertOf rule DRILL_BUDGET (drill_poll seed) cert
  pub told : line ≡ drill_line rule cert
  pub bounds : stopped ≡ is_bounds cert.claim

abbrev pub AreLinesFor : ℕ → List Rule → List ℕ → Bool → Type 0
AreLinesFor seed [] lines stopped = (lines ≡ []) × (stopped ≡ false)
AreLinesFor seed (rule ∷ rules) lines stopped =
    (line : List ℕ) × (one : Bool) × (rest : List ℕ) × (more : Bool)
    × IsLineFor seed rule line one × AreLinesFor seed rules rest more × (lines ≡ line ++ rest)
    × (stopped ≡ (one || more))

-- the text is the summary of the seed, and some claim in it is a pair of bounds, or none is
pub record IsDrill (seed : ℕ) (text : List ℕ) (stopped : Bool) : Type 0 where
  pub lines : List ℕ
  pub whole : text ≡ drill_head seed ++ lines
  pub each : AreLinesFor seed drill_rules lines stopped
