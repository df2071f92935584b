-- Certificates are within the limits of their text.
use Rattle.std.proofs.Common.{ℕ, zero, suc, List, [], ◌∷◌, ◌++◌, Some, None, Option, ◌≡◌, ◌≤◌, ◌+◌, ◌∙◌, length, map, take, slice_get, All, sym, refl, ap, subst, arith}
use Rattle.std.specs.Prelude.{option_map}
use Rattle.std.specs.List.{range_with_len}
use Rattle.std.proofs.lemmas.List.{get_or_default, length-map, map-append, take_more}
use Rattle.std.proofs.lemmas.Option.{get_or_from_slice_get, slice_get_within}
use Rattle.std.proofs.lemmas.List.FromFn.{length-range_with_len}
use Rattle.alteration_model.specs.Faults.{pairs_of}
use Rattle.alteration_model.specs.declared.puts.Put.{Put}
use Rattle.alteration_model.proofs.Judged.{no_longer}
use Rattle.ballot_form.specs.Alterations.{IsAlteration, IsAlterationFrom}
use Rattle.ballot_form.specs.Ballots.{IsPoll, Poll}
use Rattle.ballot_form.specs.Rules.{IsRule}
use Rattle.ballot_form.specs.Scores.{first_count}
use Rattle.ballot_form.specs.declared.limits.TheConstants.{MOST_BALLOTS, MOST_CANDIDATES, MOST_SEATS}
use Rattle.ballot_form.specs.declared.outcome.Outcome.{Outcome}
use Rattle.ballot_form.specs.declared.outcome.Outcome.TheVariants.{Winner, NoWinner, Seats}
use Rattle.ballot_form.specs.declared.rule.Rule.{Rule}
use Rattle.ballot_form.specs.declared.rule.Rule.TheVariants.{Plurality, Borda, Condorcet, Dhondt, Irv}
use Rattle.bound_tree.specs.Lines.{lines_of}
use Rattle.bound_tree.specs.Nodes.{height, size}
use Rattle.bound_tree.specs.declared.bound.TheConstants.{MOST_DEPTH, MOST_NODES}
use Rattle.cert_text.specs.CertText.{BodyFits, ClaimFits, GoalFits, IsPrintable, LineFits, OutcomeFits, PutFits, TurnFits}
use Rattle.cert_text.specs.declared.cert.Cert.{Cert}
use Rattle.cert_text.specs.declared.cert.GoalText.{GoalText}
use Rattle.cert_text.specs.declared.cert.GoalText.TheVariants.{Cover, Order, Pair}
use Rattle.dhondt_seats.specs.Seats.{seats_of, votes_of}
use Rattle.goal_rows.specs.Elections.{Election}
use Rattle.goal_rows.specs.Goals.{IsComplete, IsElection, IsRootOf}
use Rattle.goal_rows.specs.Outcomes.{IsReported}
use Rattle.goal_rows.specs.declared.goals.Goal.{Goal}
use Rattle.goal_rows.specs.declared.goals.Goal.TheVariants as goals
use Rattle.goal_rows.proofs.PairPoints.{few_seats}
use Rattle.margin_check.specs.Validity.{election_by, named_goal}
use Rattle.witness_build.specs.Witnesses.{IsMetBy}
use Rattle.margin_solve.proofs.Roots.{last_below}

-- one replacement more
pub put_more : (changes : List (ℕ × List ℕ)) (i number : ℕ) (ballot copy : List ℕ) (puts : List Put)
    → option_map (λ (change : ℕ × List ℕ). change.0) (slice_get changes i) ≡ Some number
    → option_map (λ (change : ℕ × List ℕ). change.1) (slice_get changes i) ≡ Some ballot → copy ≡ ballot
    → pairs_of puts ≡ take i changes → pairs_of (puts ++ (record { number = number; ballot = copy }) ∷ []) ≡ take (i + 1) changes
put_more changes i number ballot copy puts number_is ballot_is same is = by (slice_get changes i) refl number_is ballot_is
  where
    by : (o : Option (ℕ × List ℕ)) → slice_get changes i ≡ o → option_map (λ (change : ℕ × List ℕ). change.0) o ≡ Some number
        → option_map (λ (change : ℕ × List ℕ). change.1) o ≡ Some ballot
        → pairs_of (puts ++ (record { number = number; ballot = copy }) ∷ []) ≡ take (i + 1) changes
    by None at number_is ballot_is = absurd (cc)
    by (Some change) at number_is ballot_is =
        let first : change.0 ≡ number = cc in
        let second : change.1 ≡ ballot = cc in
        let within = slice_get_within changes i change at in
        let here = get_or_from_slice_get changes i change change at in
        let pair : Put → ℕ × List ℕ = λ put. (put.number, put.ballot) in
        let one : change ≡ (number, copy) = rw (same, ← first, ← second) refl in
        rw (take_more changes i change within, here) (map-append pair puts ((record { number = number; ballot = copy }) ∷ []) ∙ ap (λ ps. ps ++ (number, copy) ∷ []) is
        ∙ ap (λ c. take i changes ++ c ∷ []) (sym one))

-- ---- the outcome

all_made : (f : ℕ → ℕ) (most : ℕ) (xs : List ℕ) → ((x : ℕ) → f x ≤ most) → All (λ s. s ≤ most) (map f xs)
all_made f most [] few k d lt = absurd (omega arith)
all_made f most (x ∷ xs) few zero d lt = few x
all_made f most (x ∷ xs) few (suc k) d lt = all_made f most xs few k d (omega arith)

outcome_fits : (rule : Rule) (p : Poll) (o : Outcome) → IsRule rule → IsPoll p → IsReported rule p o → OutcomeFits rule p.c o
outcome_fits Plurality p (Winner x) lawful poll is = omega (arith, is.greatest.stands, poll.most)
outcome_fits Borda p (Winner x) lawful poll is = omega (arith, is.greatest.stands, poll.most)
outcome_fits Condorcet p (Winner x) lawful poll is = let stands = is.stands in omega (arith, stands, poll.most)
outcome_fits Condorcet p NoWinner lawful poll is = tt
outcome_fits (Dhondt s) p (Seats shares) lawful poll is =
    let votes = votes_of p in
    let each = all_made (seats_of votes s) MOST_SEATS (range_with_len 0 (length votes)) (λ a. omega (arith, few_seats votes s a, lawful.1)) in
    let many = length-map (range_with_len 0 (length votes)) (seats_of votes s) in
    let one_each = length-range_with_len 0 (length votes) in
    let made = length-map (range_with_len 0 p.c) (λ a. first_count p.ballots a) in
    let voters = length-range_with_len 0 p.c in
    rw is (omega (arith, many, one_each, made, voters), each)
outcome_fits Irv p (Winner x) lawful poll is = let below = last_below p x is in omega (arith, below, poll.most)
outcome_fits Plurality p NoWinner lawful poll is = absurd is
outcome_fits Plurality p (Seats shares) lawful poll is = absurd is
outcome_fits Borda p NoWinner lawful poll is = absurd is
outcome_fits Borda p (Seats shares) lawful poll is = absurd is
outcome_fits Condorcet p (Seats shares) lawful poll is = absurd is
outcome_fits (Dhondt s) p (Winner x) lawful poll is = absurd is
outcome_fits (Dhondt s) p NoWinner lawful poll is = absurd is
outcome_fits Irv p NoWinner lawful poll is = absurd is
outcome_fits Irv p (Seats shares) lawful poll is = absurd is

-- ---- the replacements

puts_fit : (c i n : ℕ) (puts : List Put) → c ≤ MOST_CANDIDATES → n ≤ MOST_BALLOTS → IsAlterationFrom c i n (pairs_of puts) → All PutFits puts
puts_fit c i n [] few small is k d lt = absurd (omega arith)
puts_fit c i n (put ∷ puts) few small is zero d lt = (omega (arith, is.1, small), λ j e within. omega (arith, is.2.below j e within, few))
puts_fit c i n (put ∷ puts) few small is (suc k) d lt = puts_fit c (put.number + 1) n puts few small is.3 k d (omega arith)

pub puts_few : (p : Poll) (puts : List Put) → IsPoll p → IsAlteration p (pairs_of puts) → length puts ≤ length p.ballots
puts_few p puts poll is =
    let put : Put → ℕ × List ℕ = λ one. (one.number, one.ballot) in
    omega (arith, no_longer p (pairs_of puts) is, length-map puts put)

-- ---- the goal

goal_is : {A : Type 0} (x y : A) → Some x ≡ Some y → x ≡ y
goal_is x y is = cc

-- a complete goal's numbers are those of candidates
goal_fits : (e : Election) (text : GoalText) (goal : Goal) → IsElection e → named_goal (Some text) ≡ Some goal → IsComplete e goal → GoalFits e.poll.c text
goal_fits e (Order order) goal is named complete =
    let whole : IsComplete e (goals.Suffix order) = subst (IsComplete e) (sym (goal_is (goals.Suffix order) goal named)) complete in
    (whole.0.long, λ k d lt. (let long = whole.0.long in let below = whole.0.below k (omega (arith, lt, long)) in let at = get_or_default order k d 0 lt in let most = is.poll.most in omega (arith, below, at, most)))
goal_fits e (Pair g l) goal is named complete =
    let there : IsComplete e (goals.Pair g l) = subst (IsComplete e) (sym (goal_is (goals.Pair g l) goal named)) complete in
    let root : IsRootOf e (goals.Pair g l) = subst (IsRootOf e) there.2 (is.roots.each there.0 (goals.Pair g l) there.1) in
    let most = is.poll.most in
    (omega (arith, root.1, most), omega (arith, root.2, most))
goal_fits e (Cover x) goal is named complete =
    let there : IsComplete e (goals.Cover x) = subst (IsComplete e) (sym (goal_is (goals.Cover x) goal named)) complete in
    let root : IsRootOf e (goals.Cover x) = subst (IsRootOf e) there.2 (is.roots.each there.0 (goals.Cover x) there.1) in
    let most = is.poll.most in
    omega (arith, root.1, most)

-- a goal and the replacements that meet it
pub turn_fits : (e : Election) (k : ℕ) (text : Option GoalText) (goal : Goal) (puts : List Put) → IsElection e → named_goal text ≡ Some goal → IsMetBy e goal (pairs_of puts)
    → length puts ≡ k → TurnFits e.poll.c k text puts
turn_fits e k None goal puts is named met many = absurd (let no = named in cc)
turn_fits e k (Some text) goal puts is named met many =
    (goal_fits e text goal is named met.complete, many, puts_fit e.poll.c 1 (length e.poll.ballots) puts is.poll.most is.poll.few met.alteration)

-- ---- certificates

-- a certificate with the head of its contest, a claim and body that fit, and a tree that does
pub printable : (p : Poll) (cert : Cert) → IsElection (election_by p cert) → cert.c ≡ p.c → cert.ballots ≡ length p.ballots → ClaimFits cert.claim
    → BodyFits p.c cert.claim cert.goal cert.puts → All LineFits (lines_of cert.tree) → height cert.tree ≤ MOST_DEPTH → size cert.tree ≤ MOST_NODES → IsPrintable cert
printable p cert is candidates ballots claim body lines low few = record {
  rule = is.lawful;
  sizes = (omega (arith, is.poll.some, candidates), omega (arith, is.poll.most, candidates), omega (arith, is.poll.few, ballots));
  reported = subst (λ c. OutcomeFits cert.rule c cert.reported) (sym candidates) (outcome_fits cert.rule p cert.reported is.lawful is.poll is.reported);
  claim = claim;
  body = subst (λ c. BodyFits c cert.claim cert.goal cert.puts) (sym candidates) body;
  lines = lines;
  depth = low;
  nodes = few;
}
