-- A start witness has as many replacements as the start number says, and there is one start number.
use Rattle.std.proofs.Common.{ℕ, List, [], ◌∷◌, ◌++◌, None, true, ◌≡◌, ◌⊎◌, ◌+◌, ◌∙◌, length, get_or, ap, sym, refl, inl, inr, arith, length-append}
use Rattle.std.proofs.lemmas.List.{length-map}
use Rattle.ballot_form.specs.Ballots.{Poll}
use Rattle.ballot_form.specs.declared.outcome.Outcome.{Outcome}
use Rattle.ballot_form.specs.declared.outcome.Outcome.TheVariants.{Winner, NoWinner, Seats}
use Rattle.ballot_form.specs.declared.rule.Rule.{Rule}
use Rattle.ballot_form.specs.declared.rule.Rule.TheVariants.{Plurality, Borda, Condorcet, Dhondt, Irv}
use Rattle.irv_count.proofs.Unique.{same_order}
use Rattle.goal_rows.specs.Elections.{Election}
use Rattle.goal_rows.specs.Goals.{IsDecidedByPairs, IsElection}
use Rattle.goal_rows.specs.declared.goals.Goal.{Goal}
use Rattle.goal_rows.specs.declared.goals.Goal.TheVariants.{Root, Suffix, Pair, Cover}
use Rattle.witness_build.specs.CoverWalks.{cover_walk}
use Rattle.witness_build.specs.LastRounds.{IsLastRound}
use Rattle.witness_build.specs.Starts.{IsFewestForPairs, IsStart, IsStartNumber, has_no_winner}
use Rattle.witness_build.specs.Witnesses.{IsMetBy, IsStartWitness}
use Rattle.witness_build.proofs.Cheapest.{no_shorter}
use Rattle.witness_build.proofs.TurnedRounds.{half_are_cut, half_lead, last_places}

fewest_of : (e : Election) (goal : Goal) (changes : List (ℕ × List ℕ)) → IsElection e → IsStartWitness e goal changes → IsMetBy e goal changes → IsFewestForPairs e (length changes)
fewest_of e Root changes election start met = absurd start.witness
fewest_of e (Suffix suffix) changes election start met = absurd start.witness
fewest_of e (Cover x) changes election start met = absurd start.witness
fewest_of e (Pair g l) changes election start met = record {
  met = (changes, (met.alteration, (g, l, met.complete, met.holds)), refl);
  fewest = λ others meets. no_shorter e (Pair g l) changes others meets.1.0 meets.1.1 election start meets.0 meets.1.2 meets.1.3;
}

pub start_number : (e : Election) (goal : Goal) (changes : List (ℕ × List ℕ)) → IsElection e → IsStart e goal changes → IsMetBy e goal changes → IsStartNumber e (length changes)
start_number e goal changes election start met = record {
  pairs = λ decided. fewest_of e goal changes election (start.pairs decided) met;
  covers = λ nobody. let is = start.covers nobody in (is.x, is.shortest, ap length is.puts ∙ length-map (cover_walk e.poll is.x) (λ number. (number, is.x ∷ [])));
  rounds = λ rule. let is = start.rounds rule in (is.r, is.x, is.last, ap length is.cuts ∙ half_are_cut e.poll is.x is.r);
}

-- ---- one number

last_is_one : (p : Poll) (r x s y : ℕ) → IsLastRound p r x → IsLastRound p s y → (r ≡ s) × (x ≡ y)
last_is_one p r x s y a b =
    let same : a.front ++ r ∷ x ∷ [] ≡ b.front ++ s ∷ y ∷ [] = same_order None p (a.front ++ r ∷ x ∷ []) (b.front ++ s ∷ y ∷ []) a.order b.order in
    let long = ap length same in
    let place : length a.front ≡ length b.front = omega (arith, long, length-append a.front (r ∷ x ∷ []), length-append b.front (s ∷ y ∷ [])) in
    let here = last_places a.front r x in
    let there = last_places b.front s y in (
      sym here.0 ∙ ap (λ xs. get_or xs (length a.front) 0) same ∙ ap (λ k. get_or (b.front ++ s ∷ y ∷ []) k 0) place ∙ there.0,
      sym here.1 ∙ ap (λ xs. get_or xs (length a.front + 1) 0) same ∙ ap (λ k. get_or (b.front ++ s ∷ y ∷ []) (k + 1) 0) place ∙ there.1,
    )

-- a contest is decided by pairs, by covers, or by the rounds of instant runoff
decided_by : (rule : Rule) (reported : Outcome) → IsDecidedByPairs rule reported ⊎ ((has_no_winner rule reported ≡ true) ⊎ (rule ≡ Irv))
decided_by Plurality reported = inl tt
decided_by Borda reported = inl tt
decided_by Condorcet (Winner x) = inl tt
decided_by Condorcet NoWinner = inr (inl refl)
decided_by Condorcet (Seats shares) = inl tt
decided_by (Dhondt seats) reported = inl tt
decided_by Irv reported = inr (inr refl)

pub one_start_number : (e : Election) (k other : ℕ) → IsStartNumber e k → IsStartNumber e other → k ≡ other
one_start_number e k other a b = elim (decided_by e.rule e.reported) [
  | inl decided ↦
      let one = a.pairs decided in
      let two = b.pairs decided in
      let low = one.fewest two.met.0 two.met.1 in
      let high = two.fewest one.met.0 one.met.1 in
      omega (arith, low, high, one.met.2, two.met.2)
  | inr rest ↦ elim rest [
    | inl nobody ↦
        let one = a.covers nobody in
        let two = b.covers nobody in
        let low = one.1.shortest two.0 two.1.stands in
        let high = two.1.shortest one.0 one.1.stands in
        omega (arith, low, high, one.2, two.2)
    | inr rule ↦
        let one = a.rounds rule in
        let two = b.rounds rule in
        let same = last_is_one e.poll one.0 one.1 two.0 two.1 one.2 two.2 in
        one.3 ∙ ap (λ r. half_lead e.poll one.1 r) same.0 ∙ ap (λ x. half_lead e.poll x two.0) same.1 ∙ sym two.3
  ]
]
