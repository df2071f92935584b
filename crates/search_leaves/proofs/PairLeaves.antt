-- The leaf of a pair.
use Rattle.std.proofs.Common.{◌≡◌, ℕ, ◌+◌, ◌≤◌, ◌∙◌, List, [], ◌∷◌, All, Some, None, true, length, refl, sym, ap, subst, inl, inr, arith}
use Rattle.std.proofs.lemmas.Bool.{false≢true}
use Rattle.row_program.specs.declared.Limit.{Limit}
use Rattle.goal_rows.specs.Elections.{Election}
use Rattle.std.specs.Prelude.{Contains}
use Rattle.ballot_form.specs.Alterations.{IsAlteration, after}
use Rattle.goal_rows.specs.Goals.{Holds, IsReached}
use Rattle.goal_rows.specs.Nodes.{IsFeatureOf, node_of, without_limits}
use Rattle.goal_rows.specs.declared.goals.Goal.{Goal}
use Rattle.goal_rows.specs.declared.goals.Goal.TheVariants.{Cover, Pair, Root, Suffix}
use Rattle.goal_rows.proofs.GroundSizes.{sums_of}
use Rattle.goal_rows.proofs.Ways.{reached_pair}
use Rattle.dual_bound.specs.CutTest.{IsBound}
use Rattle.node_bounds.specs.Ceilings.{IsCeiling}
use Rattle.node_bounds.proofs.PairBounds.{pair_ceiling}
use Rattle.witness_build.specs.Witnesses.{IsPair}
use Rattle.search_theory.specs.Branchings.{is_pair}
use Rattle.search_leaves.specs.Kept.{node_in}
use Rattle.search_leaves.specs.NewLeaves.{AreOwn, IsLeafOf, IsPairSeed, leaf_from}
use Rattle.search_leaves.specs.declared.seeds.Seed.{Seed}
use Rattle.search_leaves.proofs.CellNodes.{featured_other}
use Rattle.search_leaves.proofs.MadeLeaves.{IsReachedByPair, solid_leaf}
use Rattle.search_leaves.proofs.PairMeets.{bound_is_met}
use Rattle.search_leaves.proofs.SeedLimits.{as_many}

pair_is : (goal : Goal) → is_pair goal ≡ true → IsPair goal
pair_is Root is = absurd (false≢true is)
pair_is (Suffix suffix) is = absurd (false≢true is)
pair_is (Pair g l) is = (g, l, refl)
pair_is (Cover x) is = absurd (false≢true is)

no_limits : (e : Election) (g l : ℕ) (limits : List Limit) → All (λ limit. IsFeatureOf e (Pair g l) limit.feature) limits → limits ≡ []
no_limits e g l [] features = refl
no_limits e g l (limit ∷ limits) features = absurd (features 0 limit (omega arith))

-- what is known of a pair's seed
record IsBarePair (e : Election) (seed : Seed) : Type 0 where
  pub g : ℕ
  pub l : ℕ
  pub goal : seed.start.goal ≡ Pair g l
  pub limits : seed.limits.items ≡ []
  pub count : length seed.start.sums + length seed.limits.items ≡ 1

bare_pair : (e : Election) (seed : Seed) → IsPairSeed e seed → IsBarePair e seed
bare_pair e seed is = by (pair_is seed.start.goal is.pair)
  where
    by : IsPair seed.start.goal → IsBarePair e seed
    by (g, l, goal) =
        let none = no_limits e g l seed.limits.items (subst (λ own. All (λ limit. IsFeatureOf e own limit.feature) seed.limits.items) goal is.own.ranges.features) in
        let sums = sums_of seed.start (Pair g l) (e, is.own.ground) goal in
        let long = ap length none in
        record { g = g; l = l; goal = goal; limits = none; count = omega (arith, sums, long) }

-- it has one multiplier
pub one_for_pair : (seed : Seed) (ls : List ℕ) → (e : Election) × IsPairSeed e seed → ls ≡ 1 ∷ [] → length ls ≡ length seed.start.sums + length seed.limits.items
one_for_pair seed ls (e, is) one =
    let count = (bare_pair e seed is).count in
    let long = ap length one in
    omega (arith, count, long)

reached_by : (e : Election) (seed : Seed) (b : ℕ) → IsPairSeed e seed → IsBound e (node_in seed) (1 ∷ []) b → IsReachedByPair e seed b
reached_by e seed b is bound p same known pair within =
    let bare = bare_pair e seed is in
    let node : node_in seed ≡ without_limits (Pair bare.g bare.l) =
    ap (λ (goal : Goal). record { goal = goal; limits = seed.limits.items }) bare.goal ∙ ap (λ (ls : List Limit). record { goal = Pair bare.g bare.l; limits = ls }) bare.limits in
    let reached = reached_pair e bare.g bare.l is.own.ground.election.roots (subst (IsReached e) bare.goal is.own.ground.reached) in
    let met = bound_is_met e bare.g bare.l b is.own.ground.election reached.1 (subst (λ n. IsBound e n (1 ∷ []) b) node bound) (omega (arith, within)) in
    let back = sym same in
    let known_at = subst (λ (x : Election). (g l : ℕ) (changes : List (ℕ × List ℕ)) → Contains x.roots (Pair g l) →
    IsAlteration x.poll changes → Holds x (Pair g l) (after x.poll changes).ballots →
    (u : ℕ) × (p.upper ≡ Some u) × (u ≤ length changes)) same known.pairs in
    let most = known_at bare.g bare.l met.changes reached.0 met.are met.holds in
    (most.0, most.1, (let le = most.2 in let few = met.few in omega (arith, le, few)))

pub pair_leaf : (e : Election) (seed : Seed) (ls : List ℕ) (b : ℕ) → IsPairSeed e seed → ls ≡ 1 ∷ [] → IsBound e (node_in seed) ls b → IsLeafOf e seed (leaf_from seed ls b None)
pair_leaf e seed ls b is one bound =
    let bare = bare_pair e seed is in
    let own : IsBound e (node_in seed) (1 ∷ []) b = subst (λ ms. IsBound e (node_in seed) ms b) one bound in
    let free : IsBound e (node_of seed.start []) (1 ∷ []) b = subst (λ (limits : List Limit). IsBound e (node_of seed.start limits) (1 ∷ []) b) bare.limits own in
    let ceiling : IsCeiling e (node_in seed) b = subst (λ (limits : List Limit). IsCeiling e (node_of seed.start limits) b) (sym bare.limits) (pair_ceiling e seed.start bare.g bare.l b is.own.ground bare.goal free) in
    let count = as_many e seed ls is.own (one_for_pair seed ls (e, is) one) in
    let multipliers : AreOwn e seed ls = record {
      pair = λ _. one;
      cell = λ cell. absurd (false≢true (sym (featured_other seed.start.goal cell.cell.featured) ∙ is.pair));
      solved = λ other no_cell solvable. absurd (false≢true (sym other ∙ is.pair));
      inherited = λ loose. absurd (loose (inr (inl is.pair)));
    } in
    solid_leaf e seed ls b None is.own (record { count = count; bound = bound; own = multipliers; pair = reached_by e seed b is own }) (inr (inl is.pair)) (inr (inl is.pair)) ceiling
