-- How a search ends that begins with what is known of a race.
use Rattle.std.proofs.Common.{◌≡◌, ◌⊎◌, ℕ, ◌<◌, ◌≤◌, ◌∙◌, false, List, [], Option, Some, None, length, refl, sym, ap, subst, inl, inr, arith}
use Rattle.std.specs.Prelude.{◌↔◌, Contains, IfSome}
use Rattle.std.proofs.lemmas.Bool.{cases_lt, false≢true}
use Rattle.alteration_model.proofs.Judged.{no_longer}
use Rattle.ballot_form.specs.Alterations.{IsAlteration, after}
use Rattle.ballot_form.specs.declared.outcome.Outcome.{Outcome}
use Rattle.ballot_form.specs.declared.outcome.Outcome.TheVariants.{Winner, NoWinner, Seats}
use Rattle.ballot_form.specs.declared.rule.Rule.{Rule}
use Rattle.ballot_form.specs.declared.rule.Rule.TheVariants.{Plurality, Borda, Condorcet, Dhondt, Irv}
use Rattle.bound_tree.specs.Nodes.{size}
use Rattle.bound_tree.specs.Plain.{Plain, Kids, Split, Branch, Cut, More}
use Rattle.bound_tree.specs.Plain as trees
use Rattle.goal_rows.specs.Elections.{Election}
use Rattle.goal_rows.specs.Goals.{Holds, IsDecidedByPairs, root_goals}
use Rattle.goal_rows.specs.Nodes.{without_limits}
use Rattle.goal_rows.specs.Races.{IsRace, election_of}
use Rattle.goal_rows.specs.declared.goals.Goal.{Goal}
use Rattle.goal_rows.specs.declared.goals.Goal.TheVariants.{Root, Pair}
use Rattle.goal_rows.specs.declared.parts.Race.{Race}
use Rattle.tree_proofs.specs.Proving.{Proves}
use Rattle.witness_build.specs.Starts.{IsStart}
use Rattle.witness_build.specs.Witnesses.{IsMetBy}
use Rattle.witness_build.specs.declared.pairs.Witness.{Witness}
use Rattle.witness_build.proofs.Cheapest.{no_shorter}
use Rattle.search_theory.specs.Ends.{Budget, Depth, EndsAtPoint, GoesOn, IsEnd, IsFirst, IsFirstOf, IsKnown, Met, Nothing, Problem}
use Rattle.search_theory.specs.Ends as searching
use Rattle.search_theory.specs.Branchings.{Values}
use Rattle.search_theory.specs.Spots.{Hung, has_cover, hung_among, root_spot, spots_below}
use Rattle.search_theory.specs.Trees.{IsNeeded}
use Rattle.search_theory.proofs.Facts.{laws_of}
use Rattle.search_leaves.specs.Found.{problem_of}
use Rattle.margin_solve.specs.Made.{IsBegun, upper_by}
use Rattle.margin_solve.proofs.Roots.{alone_without_goals, no_pairs}

-- ---- what is known

-- pairs decide, or they don't
decided_or_not : (rule : Rule) (o : Outcome) → IsDecidedByPairs rule o ⊎ (IsDecidedByPairs rule o → ⊥)
decided_or_not Plurality o = inl tt
decided_or_not Borda o = inl tt
decided_or_not (Dhondt s) o = inl tt
decided_or_not Irv o = inr (λ no. no)
decided_or_not Condorcet NoWinner = inr (λ no. no)
decided_or_not Condorcet (Winner x) = inl tt
decided_or_not Condorcet (Seats shares) = inl tt

some_is : (m u : ℕ) → Some m ≡ Some u → m ≡ u
some_is m u is = cc

none_isnt : {A : Type 0} (x : A) → None ≡ Some x → ⊥
none_isnt x is = absurd cc

-- what is known where a search begins
pub begun_by : (race : Race) (start : Option Witness) → IsRace race → (start ≡ None) ↔ (race.roll.now.c ≡ 1) → IfSome start (λ w. IsStart (election_of race) w.goal w.changes)
    → IfSome start (λ w. IsMetBy (election_of race) w.goal w.changes) → IsBegun race start
begun_by race None is none begins met = none.0 refl
begun_by race (Some w) is none begins met = (others, begins, met)
  where
    others : 2 ≤ race.roll.now.c
    others = elim (cases_lt 1 race.roll.now.c) [
      | inl more ↦ omega (arith, more)
      | inr one ↦ absurd (let some = is.election.poll.some in let no = none.1 (omega (arith, some, one)) in cc)
    ]

module _ (race : Race) (is : IsRace race) (own : race.roots ≡ root_goals race.rule race.roll.now.c race.reported) where
  pub no_goals : race.roll.now.c ≡ 1 → race.roots ≡ []
  no_goals alone = alone_without_goals race.rule race.roll.now race.reported race.roots is.election.reported own alone

  pub known : (start : Option Witness) (budget : ℕ) → IsBegun race start → IsKnown (problem_of race (upper_by start) budget)
  known None budget alone = record {
    met = λ u no. absurd (none_isnt u no);
    pairs = λ g l changes there ok holds.
        let none = subst (λ (goals : List Goal). Contains goals (Pair g l)) (no_goals alone) there in absurd (omega (arith, none.1));
  }
  known (Some w) budget begun = record {
    met = λ u same. (w.changes, (begun.2.alteration, (w.goal, begun.2.complete, begun.2.holds)), some_is (length w.changes) u same);
    pairs = λ g l changes there ok holds. (length w.changes, refl, fewest g l changes there ok holds);
  }
    where
      fewest : (g l : ℕ) (changes : List (ℕ × List ℕ)) → Contains race.roots (Pair g l) → IsAlteration race.roll.now changes
          → Holds (election_of race) (Pair g l) (after race.roll.now changes).ballots → length w.changes ≤ length changes
      fewest g l changes there ok holds = elim (decided_or_not race.rule race.reported) [
        | inl decided ↦ no_shorter (election_of race) w.goal w.changes changes g l is.election (begun.1.pairs decided) ok there holds
        | inr undecided ↦ absurd (no_pairs race.rule race.roll.now.c race.reported race.roots g l own there undecided)
      ]

-- ---- where nobody else stands

-- the first cut is the root, and there is no other node
pub record IsBareRoot (tree : Plain) (first : Hung) : Type 0 where
  pub spot : first.spot ≡ root_spot
  pub one : size tree ≡ 1

first_alone : (e : Election) (t low : ℕ) (tree : Plain) (first : Hung) → e.roots ≡ [] → IsNeeded e t tree → IsFirst e tree low first → IsBareRoot tree first
first_alone e t low (Cut ms) first none needed (inl here) = record { spot = ap (λ (h : Hung). h.spot) here.1; one = refl }
first_alone e t low (Cut ms) first none needed (inr there) = absurd there.3
first_alone e t low (Branch feature value lower higher) first none needed is = absurd (false≢true (sym needed.0.0))
first_alone e t low (Split kids) first none needed is = absurd (by kids (subst (λ (goals : List Goal). IsFirstOf e low (hung_among e kids (spots_below root_spot goals)) first) none is))
  where
    by : (kids : Kids) → IsFirstOf e low (hung_among e kids []) first → ⊥
    by trees.None none_here = none_here
    by (More kid kids) none_here = none_here

-- the search goes on nowhere
pub alone_ends : (p : Problem) (tree : Plain) (low : ℕ) → 1 ≤ p.budget → p.election.roots ≡ [] → IsNeeded p.election low tree → IsEnd p tree low Budget ⊎ IsEnd p tree low Depth → ⊥
alone_ends p tree low some none needed (inl (on, room)) =
    let bare = first_alone p.election low low tree on.first none needed on.is_first in
    let growth : searching.growth_of p.election on.first ≡ 0 = ap (λ spot. searching.growth_of p.election (record { spot = spot; multipliers = on.first.multipliers })) bare.spot ∙ ap length none in
    omega (arith, some, room, growth, bare.one)
alone_ends p tree low some none needed (inr (on, room, deep)) =
    let bare = first_alone p.election low low tree on.first none needed on.is_first in
    let depth : searching.depth_of on.first ≡ 1 = ap (λ spot. searching.depth_of (record { spot = spot; multipliers = on.first.multipliers })) bare.spot in
    omega (arith, depth, deep)

pub alone_at_no_point : (p : Problem) (tree : Plain) (low : ℕ) (q : Values) → p.election.roots ≡ [] → IsNeeded p.election low tree → EndsAtPoint p tree low q → ⊥
alone_at_no_point p tree low q none needed at =
    let bare = first_alone p.election low low tree at.first none needed at.is_first in
    let complete : has_cover p.election Root ≡ false = subst (λ spot. has_cover p.election spot.node.goal ≡ false) bare.spot at.at_point.complete in
    absurd (false≢true (sym complete))

-- ---- where somebody else does

-- what a tree proves is at most what is known, and that is at most all ballots
pub record IsWithin (p : Problem) (u low : ℕ) : Type 0 where
  pub most : low ≤ u
  pub few : u ≤ length p.election.poll.ballots

module _ (race : Race) (is : IsRace race) (own : race.roots ≡ root_goals race.rule race.roll.now.c race.reported) (budget : ℕ) where
  pub within : (w : Witness) (tree : Plain) (low : ℕ) → IsBegun race (Some w) → Proves (election_of race) low (without_limits Root) tree
      → IsWithin (problem_of race (Some (length w.changes)) budget) (length w.changes) low
  within w tree low begun proved =
      let p = problem_of race (Some (length w.changes)) budget in
      record {
        most = (laws_of p is.election (known race is own (Some w) budget begun)).sound tree low (length w.changes) proved refl;
        few = no_longer race.roll.now w.changes begun.2.alteration;
      }

-- what isn't met is fewer
pub fewer : (p : Problem) (u low : ℕ) → p.upper ≡ Some u → IsWithin p u low → (p.upper ≡ Some low → ⊥) → low < u
fewer p u low upper within unmet = elim (cases_lt low u) [
  | inl less ↦ less
  | inr more ↦ absurd (unmet (upper ∙ ap Some (let most = within.most in omega (arith, most, more))))
]
