-- One root pair more on the way to the one that the fewest replacements bring level.
use Rattle.std.proofs.Common.{ℕ, List, true, false, Option, Some, None, ◌≡◌, ◌<◌, ◌≤◌, ◌+◌, ◌∙◌, length, get_or, ap, sym, subst, inl, inr, arith, All}
use Rattle.std.proofs.lemmas.Bool.{cases_lt, ltb-true, ltb-false}
use Rattle.std.proofs.lemmas.List.{get_or_default}
use Rattle.goal_rows.specs.Elections.{Election}
use Rattle.goal_rows.specs.Goals.{IsElection, IsReached}
use Rattle.goal_rows.specs.Races.{IsGroundIn, IsGroundOf}
use Rattle.goal_rows.specs.declared.goals.Goal.{Goal}
use Rattle.goal_rows.specs.declared.goals.Goal.TheVariants.{Root, Pair}
use Rattle.goal_rows.specs.declared.parts.Ground.{Ground}
use Rattle.goal_rows.proofs.Ways.{reached_root_goal}
use Rattle.witness_build.specs.Levels.{IsLevelFor, IsLevelUnder, deficit_under, gains_under}
use Rattle.witness_build.specs.Nearest.{IsNearestSoFar, IsNearestUpTo, is_closer}
use Rattle.witness_build.specs.Witnesses.{IsPair, IsRootPair, IsStartWitness, IsWitnessOf, PairReaches}
use Rattle.witness_build.specs.declared.levels.Level.{Level}
use Rattle.witness_build.specs.declared.starts.Near.{Near}
use Rattle.witness_build.proofs.Thresholds.{level_least}

-- ---- the goal at a place

-- what is known of the goal at a place of the root's
pub record IsLevelAt (e : Election) (at : ℕ) (start : Ground) (level : Level) : Type 0 where
  pub within : at < length e.roots
  pub stands : get_or e.roots at Root ≡ start.goal
  pub known : IsGroundIn e start
  pub reaches : IsLevelUnder start level

-- the goal that a loop over the root's goals has at a place
pub item_at : (roots items : List Goal) (at : ℕ) (goal : Goal) → items ≡ roots → at < length items → goal ≡ get_or items at goal → (at < length roots) × (get_or roots at Root ≡ goal)
item_at roots items at goal same within is = (
  subst (λ xs. at < length xs) same within,
  ap (λ xs. get_or xs at Root) (sym same) ∙ get_or_default items at Root goal within ∙ sym is,
)

pub reached_at : (e : Election) (at : ℕ) (goal : Goal) → at < length e.roots → get_or e.roots at Root ≡ goal → IsReached e goal
reached_at e at goal within stands = reached_root_goal e goal (at, within, get_or_default e.roots at goal Root within ∙ stands)

pub ground_at : (e : Election) (at : ℕ) (start : Ground) → IsElection e → at < length e.roots → get_or e.roots at Root ≡ start.goal → IsGroundOf e start → IsGroundIn e start
ground_at e at start election within stands values = record {
  election = election;
  reached = reached_at e at start.goal within stands;
  values = values;
}

reaches_at : (e : Election) (at g l i : ℕ) (start : Ground) (level : Level) → IsLevelAt e at start level → IsRootPair e at g l → PairReaches e g l i → level.count ≤ i
reaches_at e at g l i start level is pair reached =
    let goal : start.goal ≡ Pair g l = sym is.stands ∙ pair.1 in
    level_least (deficit_under e (Pair g l)) (gains_under e (Pair g l)) level i
    (subst (λ x. IsLevelFor (deficit_under e x) (gains_under e x) level) goal (is.reaches e is.known)) reached

abbrev near_at : Ground → Level → Near
near_at start level = record { start = start; level = level }

-- the first of all
first_taken : (e : Election) (at : ℕ) (start : Ground) (level : Level) → at ≡ 0 → IsLevelAt e at start level → IsNearestUpTo e (at + 1) (near_at start level)
first_taken e at start level none is = record {
  place = at;
  within = omega arith;
  stands = is.stands;
  start = is.known;
  level = is.reaches;
  fewest = λ b g l i lt pair reached. let e' : b ≡ at = omega (arith, lt, none) in reaches_at e at g l i start level is (subst (λ n. IsRootPair e n g l) e' pair) reached;
  first = λ b g l i lt pair reached. absurd (omega (arith, lt, none));
}

closer_taken : (e : Election) (at : ℕ) (near : Near) (start : Ground) (level : Level) → IsNearestUpTo e at near → level.count < near.level.count → IsLevelAt e at start level
    → IsNearestUpTo e (at + 1) (near_at start level)
closer_taken e at near start level before less is = record {
  place = at;
  within = omega arith;
  stands = is.stands;
  start = is.known;
  level = is.reaches;
  fewest = λ b g l i lt pair reached. elim (cases_lt b at) [
    | inl lower ↦ let few = before.fewest b g l i lower pair reached in omega (arith, few, less)
    | inr same ↦ let e' : b ≡ at = omega (arith, lt, same) in reaches_at e at g l i start level is (subst (λ n. IsRootPair e n g l) e' pair) reached
  ];
  first = λ b g l i lt pair reached. let few = before.fewest b g l i lt pair reached in omega (arith, few, less);
}

nearest_kept : (e : Election) (at : ℕ) (near : Near) (start : Ground) (level : Level) → IsNearestUpTo e at near → near.level.count ≤ level.count → IsLevelAt e at start level
    → IsNearestUpTo e (at + 1) near
nearest_kept e at near start level before more is = record {
  place = before.place;
  within = omega (arith, before.within);
  stands = before.stands;
  start = before.start;
  level = before.level;
  fewest = λ b g l i lt pair reached. elim (cases_lt b at) [
    | inl lower ↦ before.fewest b g l i lower pair reached
    | inr same ↦
        let e' : b ≡ at = omega (arith, lt, same) in
        let few = reaches_at e at g l i start level is (subst (λ n. IsRootPair e n g l) e' pair) reached in
        omega (arith, few, more)
  ];
  first = before.first;
}

pub nearest_taken : (e : Election) (at : ℕ) (near : Option Near) (start : Ground) (level : Level) → IsNearestSoFar e at near → is_closer level.count near ≡ true → IsLevelAt e at start level
    → IsNearestUpTo e (at + 1) (near_at start level)
nearest_taken e at None start level before closer is = first_taken e at start level before is
nearest_taken e at (Some near) start level before closer is = closer_taken e at near start level before (ltb-true level.count near.level.count closer) is

pub nearest_stays : (e : Election) (at : ℕ) (near : Option Near) (start : Ground) (level : Level) → IsNearestSoFar e at near → is_closer level.count near ≡ false → IsLevelAt e at start level
    → IsNearestSoFar e (at + 1) near
nearest_stays e at None start level before closer is = absurd (cc)
nearest_stays e at (Some near) start level before closer is = nearest_kept e at near start level before (ltb-false level.count near.level.count closer) is

-- ---- the nearest of all

pub pair_of_nearest : (e : Election) (to : ℕ) (near : Near) → All IsPair e.roots → to ≤ length e.roots → IsNearestUpTo e to near → IsPair near.start.goal
pair_of_nearest e to near pairs le is = subst IsPair is.stands (pairs is.place Root (omega (arith, le, is.within)))

pub started : (e : Election) (near : Near) (goal : Goal) (changes : List (ℕ × List ℕ)) → IsNearestUpTo e (length e.roots) near → goal ≡ near.start.goal → IsWitnessOf e goal changes
    → length changes ≡ near.level.count → IsStartWitness e goal changes
started e near goal changes is same witness size = record {
  place = is.place;
  within = is.within;
  stands = is.stands ∙ sym same;
  witness = witness;
  fewest = λ b g l i pair reached. let few = is.fewest b g l i pair.0 pair reached in omega (arith, few, size);
  first = λ b g l i lt pair reached. let few = is.first b g l i lt pair reached in omega (arith, few, size);
}
