-- What a valid certificate says of the contest.
use Rattle.std.specs.Prelude.{◌≡◌, ℕ, ◌<◌, List, length}
use Rattle.ballot_form.specs.Alterations.{IsAlteration}
use Rattle.ballot_form.specs.Ballots.{Poll}
use Rattle.ballot_form.specs.declared.rule.Rule.{Rule}
use Rattle.alteration_model.specs.Faults.{pairs_of}
use Rattle.goal_rows.specs.Margins.{IsMargin, IsUnturnable, NoneBelow, Turns}
use Rattle.cert_text.specs.declared.cert.Cert.{Cert}
use Rattle.cert_text.specs.declared.cert.Claim.{Claim}
use Rattle.cert_text.specs.declared.cert.Claim.TheVariants.{Margin, Fixed, Bounds}

-- so many replacements turn the outcome: these
pub record TurnsBy (rule : Rule) (p : Poll) (changes : List (ℕ × List ℕ)) (k : ℕ) : Type 0 where
  pub alteration : IsAlteration p changes
  pub many : length changes ≡ k
  pub turned : Turns rule p changes

-- what a claim says, with these replacements: they are as few as turn the outcome; nothing turns it; or fewer than low
-- don't turn it, these do, and there are more than low of them
abbrev pub SaysOf : Rule → Poll → List (ℕ × List ℕ) → Claim → Type 0
SaysOf rule p changes (Margin k) = IsMargin rule p k × TurnsBy rule p changes k
SaysOf rule p changes Fixed = IsUnturnable rule p
SaysOf rule p changes (Bounds low up stop) = NoneBelow rule p low × TurnsBy rule p changes up × (low < up)

-- the claim of a certificate is true
abbrev pub ClaimIsTrue : Poll → Cert → Type 0
ClaimIsTrue p cert = SaysOf cert.rule p (pairs_of cert.puts) cert.claim
