-- The facts on bounds and ceilings that a search rests on.
use Rattle.std.proofs.Common.{◌≡◌, ℕ, zero, suc, ◌+◌, ◌*◌, ◌≤◌, ◌∙◌, List, [], ◌∷◌, length, get_or, refl, sym, ap, subst, inl, inr, arith}
use Rattle.std.proofs.Math.Nat.{mul-le-mul_right}
use Rattle.std.proofs.lemmas.Bool.{cases_lt}
use Rattle.std.proofs.lemmas.List.{ext_get_or, length-map}
use Rattle.mov_base.specs.Sums.{sum_z}
use Rattle.ballot_form.specs.Alterations.{IsAlteration, after}
use Rattle.row_program.specs.Points.{IsLexAtMost}
use Rattle.bound_tree.specs.Plain.{Plain}
use Rattle.goal_rows.specs.Elections.{Election, Node}
use Rattle.goal_rows.specs.Goals.{AreRoots, Holds, IsComplete, IsElection, IsReached, rows_of}
use Rattle.goal_rows.specs.Races.{IsGroundIn}
use Rattle.goal_rows.specs.Nodes.{AreLimits, without_limits}
use Rattle.goal_rows.specs.declared.goals.Goal.{Goal}
use Rattle.goal_rows.specs.declared.goals.Goal.TheVariants.{Root}
use Rattle.dual_bound.proofs.Sound.{cut_below, one_bound}
use Rattle.dual_theory.proofs.Multiples.{cancel_nat}
use Rattle.tree_proofs.specs.Proving.{Proves}
use Rattle.tree_proofs.proofs.Refuted.{refuted}
use Rattle.node_bounds.specs.Ceilings.{IsCeiling, ground_at, node_cost}
use Rattle.node_bounds.proofs.CeilingCuts.{cut_within_ceiling}
use Rattle.node_bounds.proofs.OneCeiling.{one_ceiling}
use Rattle.search_theory.specs.Branchings.{IsLeastOf, IsWhole, Values}
use Rattle.search_theory.specs.Ends.{IsKnown, Problem}
use Rattle.search_theory.specs.Laws.{AreLaws, IsCutBySome}
use Rattle.search_theory.proofs.Inherited.{inherits}

-- what costs at most u wholes costs at most u
at_most_whole : (a u d : ℕ) → 1 ≤ d → a * d ≤ u * d → a ≤ u
at_most_whole a u d some le = elim (cases_lt u a) [
  | inl more ↦ absurd (
      let step : (u + 1) * d ≤ a * d = mul-le-mul_right d (omega (arith, more)) in
      let spread : (u + 1) * d ≡ u * d + d = omega arith in
      omega (arith, step, spread, le, some))
  | inr less ↦ less
]

-- a whole least point costs the ceiling
pub whole_ceiling : (e : Election) (node : Node) (q : Values) → IsLeastOf e node q → IsWhole q → IsCeiling e node (node_cost e node q.whole)
whole_ceiling e node q least whole =
    let cost = node_cost e node q.whole in record {
      reached = inl (q.whole, q.den, least.point, (let one : cost * q.den ≡ cost * 1 = ap (λ d. cost * d) whole in omega (arith, one)));
      least = λ u at.
          let more = least.cheapest at.0 at.1 at.2 in
          let one : node_cost e node at.0 * q.den ≡ node_cost e node at.0 * 1 = ap (λ d. node_cost e node at.0 * d) whole in
          at_most_whole cost u at.1 at.2.positive (omega (arith, more, one, at.3));
    }

both_ways : (xs ys : List ℕ) (d e : ℕ) → length xs ≡ length ys → IsLexAtMost xs d ys e → IsLexAtMost ys e xs d → (k : ℕ) → get_or xs k 0 * e ≡ get_or ys k 0 * d
both_ways [] [] d e h l m k = omega arith
both_ways [] (y ∷ ys) d e h l m k = absurd (omega (arith, h))
both_ways (x ∷ xs) [] d e h l m k = absurd (omega (arith, h))
both_ways (x ∷ xs) (y ∷ ys) d e h (inl l) (inl m) k = absurd (omega (arith, l, m))
both_ways (x ∷ xs) (y ∷ ys) d e h (inl l) (inr m) k = absurd (let q = m.0 in omega (arith, l, q))
both_ways (x ∷ xs) (y ∷ ys) d e h (inr l) (inl m) k = absurd (let q = l.0 in omega (arith, m, q))
both_ways (x ∷ xs) (y ∷ ys) d e h (inr l) (inr m) zero = l.0
both_ways (x ∷ xs) (y ∷ ys) d e h (inr l) (inr m) (suc k) = both_ways xs ys d e (omega (arith, h)) l.1 m.1 k

-- a least point is one
pub one_least : (e : Election) (node : Node) (q r : Values) → IsLeastOf e node q → IsLeastOf e node r → q ≡ r
one_least e node q r a b =
    let low = a.cheapest r.whole r.den b.point in
    let high = b.cheapest q.whole q.den a.point in
    let level : node_cost e node r.whole * q.den ≡ node_cost e node q.whole * r.den = omega (arith, low, high) in
    let wide : length q.whole ≡ length r.whole = a.point.all_variables ∙ sym b.point.all_variables in
    let values = both_ways q.whole r.whole q.den r.den wide (a.least r.whole r.den b.point level) (b.least q.whole q.den a.point (sym level)) in
    let less : q.den ≤ r.den = a.lowest r.whole r.den b.point values in
    let more : r.den ≤ q.den = b.lowest q.whole q.den a.point (λ k. sym (values k)) in
    let same_den : q.den ≡ r.den = omega (arith, less, more) in
    let above = a.point.positive in
    let same : q.whole ≡ r.whole = ext_get_or 0 q.whole r.whole wide
    (λ k h. cancel_nat q.den (get_or q.whole k 0) (get_or r.whole k 0) (omega (arith, above)) (ap (λ (m : ℕ). get_or q.whole k 0 * m) same_den ∙ values k)) in
    let first : q ≡ record { whole = r.whole; den = q.den } = ap (λ (xs : List ℕ). record { whole = xs; den = q.den }) same in
    first ∙ ap (λ (d : ℕ). record { whole = r.whole; den = d }) same_den

-- what a tree proves is at most what is known to turn the outcome
pub proved_at_most : (e : Election) (tree : Plain) (t : ℕ) (goal : Goal) (changes : List (ℕ × List ℕ)) → AreRoots e → Proves e t (without_limits Root) tree →
    IsAlteration e.poll changes → IsComplete e goal → Holds e goal (after e.poll changes).ballots → t ≤ length changes
proved_at_most e tree t goal changes lawful proved ok complete holds = elim (cases_lt (length changes) t) [
  | inl short ↦ absurd (refuted e t changes goal ok short holds complete lawful tree proved)
  | inr long ↦ long
]

-- the ground of a goal that is reached
ground_in : (e : Election) (goal : Goal) → IsElection e → IsReached e goal → IsGroundIn e (ground_at e goal)
ground_in e goal election reached = record {
  election = election;
  reached = reached;
  values = record { classes = refl; sums = refl; ballots = refl; lone = refl };
}

-- no node is cut beyond its ceiling
below : (e : Election) (node : Node) (b v : ℕ) → IsElection e → IsReached e node.goal → AreLimits e node → IsCutBySome e b node → IsCeiling e node v → b ≤ v
below e node b v election reached limits cut ceiling =
    let rows = length-map (rows_of e node.goal) (λ weight. sum_z weight e.poll.ballots) in
    cut_within_ceiling e (ground_at e node.goal) node.limits cut.0 b v (ground_in e node.goal election reached) limits (omega (arith, cut.1, rows)) cut.2.within
    (cut_below e node cut.0 b b (omega arith) cut.2.cut) ceiling

-- all that a search rests on
pub laws_of : (p : Problem) → IsElection p.election → IsKnown p → AreLaws p
laws_of p election known =
    let e = p.election in
    record {
      cuts = λ node ms b t bound le. cut_below e node ms b t le bound.cut;
      unique = λ node ms b c one two. one_bound e node ms b c one two;
      below = λ node b v reached limits cut ceiling. below e node b v election reached limits cut ceiling;
      inherits = λ node ms b way reached may plain count bound. inherits e node ms b way may plain count bound;
      one_ceiling = one_ceiling e;
      one_least = one_least e;
      whole = whole_ceiling e;
      sound = λ tree t u proved is.
          let met = known.met u is in
          subst (λ n. t ≤ n) met.2 (proved_at_most e tree t met.1.1.0 met.0 election.roots proved met.1.0 met.1.1.1 met.1.1.2);
    }
