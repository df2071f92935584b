-- What is known after each part of the judgement.
use Rattle.std.proofs.Common.{ℕ, zero, suc, List, [], ◌∷◌, Option, Some, None, All, Bool, true, false, IsTrue, ◌≡◌, ◌≢◌, ◌<◌, ◌≤◌, ◌+◌, ◌∙◌, ◌↔◌, length, cond, refl, ap, sym, subst, inl, inr, arith}
use Rattle.std.specs.Prelude.{◌==◌, Err}
use Rattle.std.proofs.lemmas.Bool.{false≢true}
use Rattle.ballot_form.specs.Alterations.{IsAlteration, after, after_from}
use Rattle.ballot_form.specs.Ballots.{Poll}
use Rattle.ballot_form.specs.declared.limits.TheConstants.{MOST_BALLOTS}
use Rattle.ballot_form.specs.declared.outcome.Outcome.{Outcome}
use Rattle.ballot_form.specs.declared.rule.Rule.{Rule}
use Rattle.alteration_model.specs.Faults.{IsFirstFault, IsFirstFaultFrom, IsPutFault, pairs_of}
use Rattle.alteration_model.specs.Faults.{Judges as Judged}
use Rattle.alteration_model.specs.declared.faults.AlterFault.{AlterFault}
use Rattle.alteration_model.specs.declared.faults.AlterFault.TheVariants.{NumberRange, NotAscending, BadBallot, Memory}
use Rattle.alteration_model.specs.declared.puts.Put.{Put}
use Rattle.bound_tree.specs.Nodes.{size}
use Rattle.bound_tree.specs.Plain.{Plain}
use Rattle.bound_tree.specs.declared.bound.TheConstants.{MOST_NODES}
use Rattle.goal_rows.specs.Elections.{Election, Node}
use Rattle.goal_rows.specs.Goals.{root_goals}
use Rattle.goal_rows.specs.Outcomes.{IsReported}
use Rattle.goal_rows.specs.Nodes.{without_limits}
use Rattle.goal_rows.specs.Races.{IsRace, election_of}
use Rattle.goal_rows.specs.declared.goals.Goal.TheVariants.{Root}
use Rattle.goal_rows.specs.declared.parts.Race.{Race}
use Rattle.goal_rows.proofs.OutcomesReported.{one_reported}
use Rattle.cert_text.specs.CertText.{BodyFits, ClaimFits, IsPrintable}
use Rattle.cert_text.specs.declared.cert.Cert.{Cert}
use Rattle.cert_text.specs.declared.cert.Claim.{Claim}
use Rattle.cert_text.specs.declared.cert.Claim.TheVariants.{Margin, Fixed, Bounds}
use Rattle.cert_text.specs.declared.cert.GoalText.{GoalText}
use Rattle.margin_check.specs.Validity.{ClaimHolds, HasSizes, IsTurned, cert_visits, election_by, level_of}
use Rattle.margin_check.specs.Verdicts.{IsFirstWithout, IsRefusal, Judges, place_of}
use Rattle.margin_check.specs.Visits.{Visit, visits}
use Rattle.margin_check.specs.Walks.{EndsAt, Gives, IsWithin}
use Rattle.margin_check.specs.declared.verdict.Reason.{Reason}
use Rattle.margin_check.specs.declared.verdict.Verdict.{Verdict}
use Rattle.margin_check.specs.declared.verdict.Verdict.TheVariants.{No}
use Rattle.margin_check.specs.declared.walk.Asked.{Asked}
use Rattle.margin_check.specs.declared.walk.Asked.TheVariants.{Cuts}
use Rattle.margin_check.specs.declared.walk.End.{End}
use Rattle.margin_check.specs.declared.walk.End.TheVariants.{Through, Stopped}
use Rattle.margin_check.proofs.Nodes.{visits_few}

-- ---- the rule, the outcome and the ballots

pub same_election : (race : Race) (p : Poll) (cert : Cert) → race.rule ≡ cert.rule → race.roll.now ≡ p → race.reported ≡ cert.reported
    → race.roots ≡ root_goals cert.rule p.c race.reported → election_of race ≡ election_by p cert
same_election race p cert rule poll reported roots =
    let goals : race.roots ≡ root_goals cert.rule p.c cert.reported = roots ∙ ap (λ o. root_goals cert.rule p.c o) reported in
    rw (rule, poll, reported, goals) refl

pub refuse : (p : Poll) (cert : Cert) (reason : Reason) (line : ℕ) (verdict : Verdict) → verdict ≡ No reason line → IsRefusal p cert reason line → Judges p cert verdict
refuse p cert reason line verdict e is = subst (λ v. Judges p cert v) (sym e) is

pub other_outcome : (rule : Rule) (p : Poll) (reported other : Outcome) (b : Bool) → IsReported rule p reported → (IsTrue b ↔ (reported ≡ other)) → b ≡ false → IsReported rule p other → ⊥
other_outcome rule p reported other b is test wrong also =
    let e : b ≡ true = test.1 (one_reported rule p reported other is also) in
    false≢true (sym wrong ∙ e)

length_after : (i : ℕ) (rows : List (List ℕ)) (changes : List (ℕ × List ℕ)) → length (after_from i rows changes) ≡ length rows
length_after i [] changes = refl
length_after i (row ∷ rows) [] = refl
length_after i (row ∷ rows) (change ∷ changes) = by (change.0 == i) (length_after (i + 1) rows changes) (length_after (i + 1) rows (change ∷ changes))
  where
    by : (t : Bool) → length (after_from (i + 1) rows changes) ≡ length rows → length (after_from (i + 1) rows (change ∷ changes)) ≡ length rows
        → length (cond t (change.1 ∷ after_from (i + 1) rows changes) (row ∷ after_from (i + 1) rows (change ∷ changes))) ≡ length (row ∷ rows)
    by true e f = ap suc e
    by false e f = ap suc f

pub as_many_after : (p altered : Poll) (changes : List (ℕ × List ℕ)) → altered ≡ after p changes → length altered.ballots ≡ length p.ballots
as_many_after p altered changes is = ap (λ (q : Poll). length q.ballots) is ∙ length_after 1 p.ballots changes

-- ---- a bad replacement

pub first_fault : (p : Poll) (puts : List Put) (fault : AlterFault) → Judged p puts (Err fault) → fault ≢ Memory → IsFirstFault p puts (Some fault)
first_fault p puts (NumberRange i) is other = is
first_fault p puts (NotAscending i) is other = is
first_fault p puts (BadBallot i) is other = is
first_fault p puts Memory is other = absurd (other refl)

place_at : (p : Poll) (at last : ℕ) (put : Put) (fault : AlterFault) → IsPutFault p at last put (Some fault) → place_of fault ≡ at
place_at p at last put (NumberRange i) is = is.0
place_at p at last put (NotAscending i) is = is.0
place_at p at last put (BadBallot i) is = is.0
place_at p at last put Memory is = absurd is

place_from : (p : Poll) (at last : ℕ) (puts : List Put) (fault : AlterFault) → IsFirstFaultFrom p at last puts (Some fault) → place_of fault < at + length puts
place_from p at last [] fault is = absurd is
place_from p at last (put ∷ puts) fault (inl here) = omega (arith, place_at p at last put fault here)
place_from p at last (put ∷ puts) fault (inr later) = omega (arith, place_from p (at + 1) put.number puts fault later.1)

puts_of_body : (c : ℕ) (claim : Claim) (goal : Option GoalText) (puts : List Put) → ClaimFits claim → BodyFits c claim goal puts → length puts ≤ MOST_BALLOTS
puts_of_body c (Margin k) None puts fits body = absurd body
puts_of_body c (Margin k) (Some goal) puts fits body = omega (arith, fits, body.1)
puts_of_body c Fixed goal puts fits body = omega (arith, ap length body.1)
puts_of_body c (Bounds low up stop) None puts fits body = absurd body
puts_of_body c (Bounds low up stop) (Some goal) puts fits body = omega (arith, fits.1, body.1)

pub few_puts : (cert : Cert) → IsPrintable cert → length cert.puts ≤ MOST_BALLOTS
few_puts cert printable = puts_of_body cert.c cert.claim cert.goal cert.puts printable.claim printable.body

pub few_places : (p : Poll) (cert : Cert) (puts : List Put) (fault : AlterFault) → IsPrintable cert → puts ≡ cert.puts → Judged p puts (Err fault) → place_of fault ≤ MOST_BALLOTS
few_places p cert puts (NumberRange i) printable same is = omega (arith, few_puts cert printable, ap length same, place_from p 0 0 puts (NumberRange i) is)
few_places p cert puts (NotAscending i) printable same is = omega (arith, few_puts cert printable, ap length same, place_from p 0 0 puts (NotAscending i) is)
few_places p cert puts (BadBallot i) printable same is = omega (arith, few_puts cert printable, ap length same, place_from p 0 0 puts (BadBallot i) is)
few_places p cert puts Memory printable same is = omega arith

-- ---- the tree

first_within : {X : Type 0} (P : X → Type 0) (xs : List X) (place : ℕ) → IsFirstWithout P xs place → place < length xs
first_within P [] place is = absurd is
first_within P (x ∷ xs) zero is = omega arith
first_within P (x ∷ xs) (suc place) is = omega (arith, first_within P xs place is.1)

pub stopped_few : (P : Visit → Type 0) (e : Election) (node : Node) (tree : Plain) (end : End) → size tree ≤ MOST_NODES → EndsAt P 0 (visits e node tree) end
    → IsWithin MOST_NODES end
stopped_few P e node tree (Through next) few is = tt
stopped_few P e node tree (Stopped at) few is = omega (arith, few, is.2, visits_few e node tree, first_within P (visits e node tree) is.0 is.1)

-- ---- what is found of the race is so of the certificate's election

module _ (p : Poll) (cert : Cert) (race : Race) (same : election_of race ≡ election_by p cert) where
  pub reported_so : IsRace race → IsReported cert.rule p cert.reported
  reported_so is = subst (λ e. IsReported e.rule e.poll e.reported) same is.election.reported

  pub turned_so : (altered : Poll) (shown : List Put) (changes : List (ℕ × List ℕ)) (b : Bool) → altered ≡ after p changes → changes ≡ pairs_of shown → shown ≡ cert.puts
      → (IsTrue b ↔ ClaimHolds (election_of race) cert.claim cert.goal altered.ballots) → IsTrue b ↔ IsTurned p cert
  turned_so altered shown changes b made pairs lent test =
      let ballots : altered.ballots ≡ (after p (pairs_of cert.puts)).ballots =
      ap (λ (q : Poll). q.ballots) made ∙ ap (λ cs. (after p cs).ballots) (pairs ∙ ap pairs_of lent) in
      subst (λ bs. IsTrue b ↔ ClaimHolds (election_by p cert) cert.claim cert.goal bs) ballots
      (subst (λ e. IsTrue b ↔ ClaimHolds e cert.claim cert.goal altered.ballots) same test)

  pub ends_so : (asked : Asked) (end : End) → EndsAt (Gives (election_of race) asked) 0 (visits (election_of race) (without_limits Root) cert.tree) end
      → EndsAt (Gives (election_by p cert) asked) 0 (cert_visits p cert) end
  ends_so asked end = subst (λ e. EndsAt (Gives e asked) 0 (visits e (without_limits Root) cert.tree) end) same

pub fails_by : {X : Type 0} (b : Bool) → (IsTrue b ↔ X) → b ≡ false → X → ⊥
fails_by b test wrong x = false≢true (sym wrong ∙ test.1 x)

pub altered_so : (p : Poll) (cert : Cert) (shown : List Put) (changes : List (ℕ × List ℕ)) → changes ≡ pairs_of shown → shown ≡ cert.puts → IsAlteration p changes
    → IsAlteration p (pairs_of cert.puts)
altered_so p cert shown changes pairs lent = subst (λ cs. IsAlteration p cs) (pairs ∙ ap pairs_of lent)

pub all_through : {X : Type 0} (P : X → Type 0) (number behind : ℕ) (xs : List X) (end : End) → end ≡ Through behind → EndsAt P number xs end → All P xs
all_through P number behind xs end is ends = (subst (λ x. EndsAt P number xs x) is ends).0

pub first_stopped : {X : Type 0} (P : X → Type 0) (number at : ℕ) (xs : List X) (end : End) → end ≡ Stopped at → EndsAt P number xs end
    → (place : ℕ) × IsFirstWithout P xs place × (at ≡ number + place)
first_stopped P number at xs end is ends = subst (λ x. EndsAt P number xs x) is ends

-- what is known once the claim is judged
pub record Known (p : Poll) (cert : Cert) (race : Race) (holds : Bool) : Type 0 where
  pub sizes : HasSizes p cert
  pub same : election_of race ≡ election_by p cert
  pub reported : IsReported cert.rule p cert.reported
  pub alteration : IsAlteration p (pairs_of cert.puts)
  pub claim : IsTrue holds ↔ IsTurned p cert

module _ (p : Poll) (cert : Cert) (race : Race) (is : IsRace race) (rule : race.rule ≡ cert.rule) (poll : race.roll.now ≡ p)
    (outcome : race.reported ≡ cert.reported) (roots : race.roots ≡ root_goals cert.rule p.c race.reported) where
  pub known : HasSizes p cert → (altered : Poll) (shown : List Put) (changes : List (ℕ × List ℕ)) (holds : Bool) → altered ≡ after p changes → changes ≡ pairs_of shown
      → shown ≡ cert.puts → IsAlteration p changes → (IsTrue holds ↔ ClaimHolds (election_of race) cert.claim cert.goal altered.ballots) → Known p cert race holds
  known sizes altered shown changes holds made pairs lent ok test =
      let same = same_election race p cert rule poll outcome roots in
      record {
        sizes = sizes;
        same = same;
        reported = reported_so p cert race same is;
        alteration = altered_so p cert shown changes pairs lent ok;
        claim = turned_so p cert race same altered shown changes holds made pairs lent test;
      }

-- a walk that came through, and one that stopped
module _ (p : Poll) (cert : Cert) (race : Race) (same : election_of race ≡ election_by p cert) (asked : Asked) (end : End)
    (ends : EndsAt (Gives (election_of race) asked) 0 (visits (election_of race) (without_limits Root) cert.tree) end) where
  pub came_through : (next : ℕ) → end ≡ Through next → All (Gives (election_by p cert) asked) (cert_visits p cert)
  came_through next is = all_through (Gives (election_by p cert) asked) 0 next (cert_visits p cert) end is (ends_so p cert race same asked end ends)

  pub came_to : (number : ℕ) → end ≡ Stopped number
      → (place : ℕ) × IsFirstWithout (Gives (election_by p cert) asked) (cert_visits p cert) place × (number ≡ 0 + place)
  came_to number is = first_stopped (Gives (election_by p cert) asked) 0 number (cert_visits p cert) end is (ends_so p cert race same asked end ends)

-- the cuts hold at the claim's number
pub cuts_hold : (p : Poll) (cert : Cert) (race : Race) → election_of race ≡ election_by p cert → (t : ℕ) (end : End)
    → EndsAt (Gives (election_of race) (Cuts t)) 0 (visits (election_of race) (without_limits Root) cert.tree) end
    → t ≡ level_of (length p.ballots) cert.claim → (next : ℕ) → end ≡ Through next
    → All (Gives (election_by p cert) (Cuts (level_of (length p.ballots) cert.claim))) (cert_visits p cert)
cuts_hold p cert race same t end ends level next is =
    subst (λ n. All (Gives (election_by p cert) (Cuts n)) (cert_visits p cert)) level (came_through p cert race same (Cuts t) end ends next is)
