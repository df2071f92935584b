-- What goes into a certificate.
use Rattle.std.specs.Prelude.{◌≡◌, ℕ, ◌≤◌, length, Option, Some}
use Rattle.std.specs.Prelude.{None as Nothing}
use Rattle.alteration_model.specs.Faults.{pairs_of}
use Rattle.bound_tree.specs.Plain.{Plain}
use Rattle.cert_text.specs.CertText.{IsPrintable}
use Rattle.cert_text.specs.declared.cert.Cert.{Cert}
use Rattle.cert_text.specs.declared.cert.Claim.{Claim}
use Rattle.goal_rows.specs.Races.{election_of}
use Rattle.goal_rows.specs.declared.parts.Race.{Race}
use Rattle.margin_check.specs.Validity.{named_goal}
use Rattle.witness_build.specs.Starts.{IsStart}
use Rattle.witness_build.specs.Witnesses.{IsMetBy}
use Rattle.witness_build.specs.declared.pairs.Witness.{Witness}
use Rattle.margin_solve.specs.Certificates.{IsCertOf}

-- what is known where a search begins: replacements that turn the outcome, or that nobody else stands
abbrev pub IsBegun : Race → Option Witness → Type 0
IsBegun race Nothing = race.roll.now.c ≡ 1
IsBegun race (Some w) =
    (2 ≤ race.roll.now.c) × IsStart (election_of race) w.goal w.changes × IsMetBy (election_of race) w.goal w.changes

-- how many replacements that are
abbrev pub upper_by : Option Witness → Option ℕ
upper_by Nothing = Nothing
upper_by (Some w) = Some (length w.changes)

-- the certificate has the head of a race, this claim and this tree
pub record HasParts (race : Race) (claim : Claim) (tree : Plain) (cert : Cert) : Type 0 where
  pub rule : cert.rule ≡ race.rule
  pub candidates : cert.c ≡ race.roll.now.c
  pub ballots : cert.ballots ≡ length race.roll.now.ballots
  pub reported : cert.reported ≡ race.reported
  pub claim_is : cert.claim ≡ claim
  pub tree_is : cert.tree ≡ tree

-- its goal and its replacements are those of the witness
pub record HasTurn (witness : Witness) (cert : Cert) : Type 0 where
  pub goal : named_goal cert.goal ≡ Some witness.goal
  pub puts : pairs_of cert.puts ≡ witness.changes

-- it is one of the race, and can be printed
pub record IsMade (race : Race) (budget : ℕ) (cert : Cert) : Type 0 where
  pub found : IsCertOf race.rule budget race.roll.now cert
  pub printable : IsPrintable cert
