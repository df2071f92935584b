-- A valid certificate says what is so.
use Rattle.std.proofs.Common.{ℕ, List, Option, Some, None, ◌≡◌, ◌+◌, ◌∙◌, length, refl, subst, arith}
use Rattle.std.proofs.lemmas.List.{length-map}
use Rattle.ballot_form.specs.Alterations.{IsAlteration, after}
use Rattle.ballot_form.specs.Ballots.{IsPoll}
use Rattle.alteration_model.specs.Faults.{pairs_of}
use Rattle.alteration_model.specs.declared.puts.Put.{Put}
use Rattle.alteration_model.proofs.Judged.{no_longer}
use Rattle.bound_tree.specs.Plain.{Plain}
use Rattle.goal_rows.specs.Elections.{Election}
use Rattle.goal_rows.specs.Goals.{AreRoots, root_goals}
use Rattle.goal_rows.specs.Margins.{IsUnturnable, NoneBelow}
use Rattle.goal_rows.specs.Nodes.{without_limits}
use Rattle.goal_rows.specs.Outcomes.{IsReported}
use Rattle.goal_rows.specs.declared.goals.Goal.TheVariants.{Root}
use Rattle.goal_rows.proofs.Roots.{roots_are_lawful}
use Rattle.goal_rows.proofs.Turning.{contest_turning}
use Rattle.cert_text.specs.CertText.{BodyFits, IsPrintable}
use Rattle.cert_text.specs.declared.cert.Cert.{Cert}
use Rattle.cert_text.specs.declared.cert.Claim.{Claim}
use Rattle.cert_text.specs.declared.cert.Claim.TheVariants.{Margin, Fixed, Bounds}
use Rattle.cert_text.specs.declared.cert.GoalText.{GoalText}
use Rattle.ballot_form.specs.Ballots.{Poll}
use Rattle.margin_check.specs.Meanings.{ClaimIsTrue, SaysOf, TurnsBy}
use Rattle.tree_proofs.specs.Proving.{Proves}
use Rattle.margin_check.specs.Validity.{ClaimHolds, HasOrder, IsMet, IsValidCert, election_by, level_of}
use Rattle.margin_check.proofs.Trees.{to_proves}
use Rattle.tree_proofs.proofs.Refuted.{refuted}

many_puts : (c k : ℕ) (claim : Claim) (text : Option GoalText) (puts : List Put) → claim ≡ Margin k → BodyFits c claim text puts → length (pairs_of puts) ≡ k
many_puts c k claim None puts is body = absurd (subst (λ x. BodyFits c x None puts) is body)
many_puts c k claim (Some goal) puts is body =
    let fits : BodyFits c (Margin k) (Some goal) puts = subst (λ x. BodyFits c x (Some goal) puts) is body in
    length-map puts (λ put. (put.number, put.ballot)) ∙ fits.1

module _ (e : Election) (poll : IsPoll e.poll) (is : IsReported e.rule e.poll e.reported) (roots : e.roots ≡ root_goals e.rule e.poll.c e.reported) where
  lawful : AreRoots e
  lawful = roots_are_lawful e poll is roots

  none_below : (t : ℕ) (tree : Plain) → Proves e t (without_limits Root) tree → NoneBelow e.rule e.poll t
  none_below t tree proved changes ok short turns =
      let met = (contest_turning e changes poll is roots ok).0 turns in
      refuted e t changes met.0 ok short met.2 met.1 lawful tree proved

  unturnable : (tree : Plain) → Proves e (length e.poll.ballots + 1) (without_limits Root) tree → IsUnturnable e.rule e.poll
  unturnable tree proved changes ok turns =
      none_below (length e.poll.ballots + 1) tree proved changes ok (omega (arith, no_longer e.poll changes ok)) turns

  turned : (text : Option GoalText) (changes : List (ℕ × List ℕ)) (k : ℕ) → IsAlteration e.poll changes → length changes ≡ k
      → IsMet e text (after e.poll changes).ballots → TurnsBy e.rule e.poll changes k
  turned text changes k ok many met = record {
    alteration = ok;
    many = many;
    turned = (contest_turning e changes poll is roots ok).1 (met.0, met.2, met.3);
  }

  pub says : (c : ℕ) (claim : Claim) (text : Option GoalText) (puts : List Put) (tree : Plain) → IsAlteration e.poll (pairs_of puts)
      → ClaimHolds e claim text (after e.poll (pairs_of puts)).ballots → Proves e (level_of (length e.poll.ballots) claim) (without_limits Root) tree
      → HasOrder claim → BodyFits c claim text puts → SaysOf e.rule e.poll (pairs_of puts) claim
  says c (Margin k) text puts tree ok holds proved order body =
      let by = turned text (pairs_of puts) k ok (many_puts c k (Margin k) text puts refl body) holds in
      (record { turned = (pairs_of puts, by.alteration, by.many, by.turned); least = none_below k tree proved }, by)
  says c Fixed text puts tree ok holds proved order body = unturnable tree proved
  says c (Bounds low up stop) text puts tree ok holds proved order body = (
    none_below low tree proved,
    turned text (pairs_of puts) up ok (many_puts c up (Margin up) text puts refl body) holds,
    order,
  )

pub claim_is_true : (p : Poll) (cert : Cert) → IsPoll p → IsPrintable cert → IsValidCert p cert → ClaimIsTrue p cert
claim_is_true p cert poll printable valid =
    says (election_by p cert) poll valid.reported refl cert.c cert.claim cert.goal cert.puts cert.tree valid.alteration valid.claim
    (to_proves (election_by p cert) (level_of (length p.ballots) cert.claim) cert.tree (without_limits Root) valid.shape valid.cuts)
    valid.numbers printable.body
