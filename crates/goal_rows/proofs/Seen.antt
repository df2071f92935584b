-- What a rule looks at on a ballot is enough for what the ballot counts under it.
use Rattle.std.proofs.Common.{◌≡◌, ◌+◌, ◌-◌, ◌∷◌, ◌∙◌, ◌⊎◌, ℕ, List, [], Result, Ok, Err, IfOk, cond, map, take, ap, sym, refl, inl, inr}
use Rattle.std.specs.Str.{bytes_eq}
use Rattle.std.proofs.lemmas.List.{map-id}
use Rattle.signature_class.specs.Classes.{classes_of}
use Rattle.ballot_form.specs.Ballots.{Poll}
use Rattle.ballot_form.specs.Scores.{is_first}
use Rattle.ballot_form.specs.declared.outcome.Outcome.{Outcome}
use Rattle.ballot_form.specs.declared.rule.Rule.{Rule}
use Rattle.ballot_form.specs.declared.rule.Rule.TheVariants.{Plurality, Borda, Condorcet, Dhondt, Irv}
use Rattle.goal_rows.specs.Elections.{Election}
use Rattle.goal_rows.specs.Goals.{gainer_points, loser_points, seats_in}
use Rattle.goal_rows.specs.Races.{key_of, seen_by}
use Rattle.goal_rows.specs.declared.goals.Goal.{Goal}
use Rattle.goal_rows.specs.declared.goals.Goal.TheVariants.{Pair}

first_seen : (ballot : List ℕ) (x : ℕ) → is_first (take 1 ballot) x ≡ is_first ballot x
first_seen [] x = refl
first_seen (y ∷ ys) x = refl

abbrev under : Rule → Poll → Outcome → List Goal → Election
under rule p reported roots = record { rule = rule; poll = p; reported = reported; roots = roots }

gainer_under : (rule : Rule) (p : Poll) (o : Outcome) (roots : List Goal) (g l : ℕ) (ballot : List ℕ)
    → gainer_points (under rule p o roots) g l (seen_by rule ballot) ≡ gainer_points (under rule p o roots) g l ballot
gainer_under Plurality p o roots g l ballot = ap (λ t. cond t 1 0) (first_seen ballot g)
gainer_under Borda p o roots g l ballot = refl
gainer_under Condorcet p o roots g l ballot = refl
gainer_under (Dhondt s) p o roots g l ballot = ap (λ t. cond t (seats_in o l) 0) (first_seen ballot g)
gainer_under Irv p o roots g l ballot = refl

loser_under : (rule : Rule) (p : Poll) (o : Outcome) (roots : List Goal) (g l : ℕ) (ballot : List ℕ)
    → loser_points (under rule p o roots) g l (seen_by rule ballot) ≡ loser_points (under rule p o roots) g l ballot
loser_under Plurality p o roots g l ballot = ap (λ t. cond t 1 0) (first_seen ballot l)
loser_under Borda p o roots g l ballot = refl
loser_under Condorcet p o roots g l ballot = refl
loser_under (Dhondt s) p o roots g l ballot = ap (λ t. cond t (seats_in o g + 1) 0) (first_seen ballot l)
loser_under Irv p o roots g l ballot = refl

pub gainer_seen : (e : Election) (g l : ℕ) (ballot : List ℕ) → gainer_points e g l (seen_by e.rule ballot) ≡ gainer_points e g l ballot
gainer_seen e g l ballot = gainer_under e.rule e.poll e.reported e.roots g l ballot

pub loser_seen : (e : Election) (g l : ℕ) (ballot : List ℕ) → loser_points e g l (seen_by e.rule ballot) ≡ loser_points e g l ballot
loser_seen e g l ballot = loser_under e.rule e.poll e.reported e.roots g l ballot

pub key_seen : (e : Election) (g l : ℕ) (ballot : List ℕ) → key_of e (Pair g l) (seen_by e.rule ballot) ≡ key_of e (Pair g l) ballot
key_seen e g l ballot =
    ap (λ n. (n + 1024) - loser_points e g l (seen_by e.rule ballot)) (gainer_seen e g l ballot)
    ∙ ap (λ n. (gainer_points e g l ballot + 1024) - n) (loser_seen e g l ballot)

-- under the other rules the whole ballot is looked at
seen_whole : (rule : Rule) → (rule ≡ Borda) ⊎ ((rule ≡ Condorcet) ⊎ (rule ≡ Irv)) → (ballots : List (List ℕ)) → map (seen_by rule) ballots ≡ ballots
seen_whole rule (inl is) ballots = rw is (map-id ballots)
seen_whole rule (inr (inl is)) ballots = rw is (map-id ballots)
seen_whole rule (inr (inr is)) ballots = rw is (map-id ballots)

pub whole_kinds : {E : Type 0} (made : Result (List (List ℕ × ℕ)) E) (rule : Rule) (ballots : List (List ℕ))
    → (rule ≡ Borda) ⊎ ((rule ≡ Condorcet) ⊎ (rule ≡ Irv)) → IfOk made (λ kinds. kinds ≡ classes_of bytes_eq ballots)
    → IfOk made (λ kinds. kinds ≡ classes_of bytes_eq (map (seen_by rule) ballots))
whole_kinds (Ok kinds) rule ballots whole is = is ∙ ap (classes_of bytes_eq) (sym (seen_whole rule whole ballots))
whole_kinds (Err fault) rule ballots whole is = tt

-- what is seen of the ballots gives the same
pub seen_alike : {X : Type 0} (f : List ℕ → X) (part : List ℕ → List ℕ) (ballots : List (List ℕ)) → ((ballot : List ℕ) → f (part ballot) ≡ f ballot)
    → map f (map part ballots) ≡ map f ballots
seen_alike f part [] same = refl
seen_alike f part (ballot ∷ ballots) same = ap (λ x. x ∷ map f (map part ballots)) (same ballot) ∙ ap (λ xs. f ballot ∷ xs) (seen_alike f part ballots same)
