-- No point costs more than all ballots; so a ceiling is at most one more, and a cut there is the greatest.
use Rattle.std.proofs.Common.{◌≡◌, ℕ, ◌+◌, ◌*◌, ◌≤◌, List, [], ◌∷◌, ◌++◌, length, refl, sym, ap, subst, ◌∙◌, inl, inr, arith, All}
use Rattle.std.specs.Prelude.{nat_eq}
use Rattle.std.proofs.Math.Nat.{mul-le-mul_left}
use Rattle.mov_base.specs.Sums.{add_up}
use Rattle.row_program.specs.declared.Limit.{Limit}
use Rattle.signature_class.specs.Classes.{classes_of}
use Rattle.goal_rows.specs.Elections.{Election}
use Rattle.goal_rows.specs.Nodes.{AreLimits, node_of}
use Rattle.goal_rows.specs.Programs.{IsPointOf, point_cost_of, program_rows}
use Rattle.goal_rows.specs.Races.{IsGroundIn, keys_of}
use Rattle.goal_rows.specs.declared.goals.Goal.{Goal}
use Rattle.goal_rows.specs.declared.goals.Goal.TheVariants.{Root, Suffix, Pair, Cover}
use Rattle.goal_rows.specs.declared.parts.Ground.{Ground}
use Rattle.dual_bound.specs.CutTest.{Cuts, IsBound}
use Rattle.dual_bound.proofs.SmallGrounds.{small_ground}
use Rattle.node_bounds.specs.Ceilings.{IsCeiling}
use Rattle.node_bounds.proofs.CeilingCuts.{cut_within_ceiling, ground_is}
use Rattle.node_bounds.proofs.PointValues.{apart, cost_is, rest_met}
use Rattle.node_bounds.proofs.RestRows.{AreWithin, IsMetAt, classes_within}

sum_within : (d : ℕ) (ps : List (ℕ × ℕ)) (xs : List ℕ) → length xs ≡ length ps → AreWithin d ps xs → add_up (λ x. x) xs ≤ d * add_up (λ (p : ℕ × ℕ). p.1) ps
sum_within d [] [] long within = omega arith
sum_within d [] (x ∷ xs) long within = absurd (omega (arith, long))
sum_within d (p ∷ ps) [] long within = omega arith
sum_within d (p ∷ ps) (x ∷ xs) long within = let rest = sum_within d ps xs (omega (arith, long)) within.1 in omega (arith, rest, within.0)

-- there are no more ballots in the classes; those of the root have none
ballots_in_classes : (e : Election) (start : Ground) → IsGroundIn e start → add_up (λ (c : ℕ × ℕ). c.1) start.classes ≤ length e.poll.ballots
ballots_in_classes e start is = by start.goal refl
  where
    other : (start.goal ≡ Root → ⊥) → add_up (λ (c : ℕ × ℕ). c.1) start.classes ≤ length e.poll.ballots
    other not = omega (arith, (small_ground e start is not).counted, is.values.ballots)

    by : (goal : Goal) → start.goal ≡ goal → add_up (λ (c : ℕ × ℕ). c.1) start.classes ≤ length e.poll.ballots
    by Root goal_is =
        let none : start.classes ≡ [] = is.values.classes ∙ ap (λ goal. classes_of nat_eq (keys_of e goal)) goal_is in
        let sum = ap (add_up (λ (c : ℕ × ℕ). c.1)) none in
        omega (arith, sum)
    by (Suffix suffix) goal_is = other (λ root. let no = sym goal_is ∙ root in cc)
    by (Pair g l) goal_is = other (λ root. let no = sym goal_is ∙ root in cc)
    by (Cover x) goal_is = other (λ root. let no = sym goal_is ∙ root in cc)

pub all_ballots : (e : Election) (start : Ground) (limits : List Limit) (whole : List ℕ) (den : ℕ) → IsGroundIn e start → IsPointOf start limits whole den
    → point_cost_of start whole ≤ length e.poll.ballots * den
all_ballots e start limits whole den is point =
    let parts = apart start whole point.all_variables in
    let met = subst (λ w. All (IsMetAt w den) (program_rows start limits)) parts.is point.meets in
    let within = classes_within start.classes parts.xs parts.ys den (rest_met start limits (parts.xs ++ parts.ys) den met).0 in
    let few = sum_within den start.classes parts.xs parts.numbers.of_classes within in
    let cost : point_cost_of start whole ≡ add_up (λ x. x) parts.xs = ap (point_cost_of start) parts.is ∙ cost_is start parts.xs parts.ys parts.numbers in
    let more = mul-le-mul_left den (ballots_in_classes e start is) in
    omega (arith, few, cost, more)

pub ceiling_within : (e : Election) (start : Ground) (limits : List Limit) (t : ℕ) → IsGroundIn e start → IsCeiling e (node_of start limits) t → t ≤ length e.poll.ballots + 1
ceiling_within e start limits t is ceiling = elim ceiling.reached [
  | inr none ↦ omega (arith, none.1)
  | inl some ↦
      let same = ground_is e start is in
      let point = subst (λ own. IsPointOf own limits some.0 some.1) (sym same) some.2 in
      let cheap = subst (λ own. point_cost_of own some.0 ≤ length e.poll.ballots * some.1) same (all_ballots e start limits some.0 some.1 is point) in
      let le = ceiling.least (length e.poll.ballots) (some.0, some.1, some.2, cheap) in
      omega (arith, le)
]

pub ceiling_bound : (e : Election) (start : Ground) (limits : List Limit) (ls : List ℕ) (t : ℕ) → IsGroundIn e start → AreLimits e (node_of start limits)
    → length ls ≡ length start.sums + length limits → IsCeiling e (node_of start limits) t → Cuts e (node_of start limits) ls t → IsBound e (node_of start limits) ls t
ceiling_bound e start limits ls t is few one_each ceiling cut = record {
  within = ceiling_within e start limits t is ceiling;
  cut = cut;
  greatest = λ u within also. cut_within_ceiling e start limits ls u t is few one_each within also ceiling;
}
