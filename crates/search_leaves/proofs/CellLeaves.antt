-- The leaf of a cell of a complete goal.
use Rattle.std.proofs.Common.{◌≡◌, ℕ, ◌+◌, ◌*◌, ◌≤◌, ◌∙◌, List, Option, None, Some, length, sym, ap, subst, inl, inr, arith}
use Rattle.std.proofs.lemmas.Bool.{false≢true}
use Rattle.row_program.specs.declared.Limit.{Limit}
use Rattle.row_program.specs.declared.program.Point.{Point}
use Rattle.goal_rows.specs.Cells.{IsCell, cell_values}
use Rattle.goal_rows.specs.Elections.{Election}
use Rattle.goal_rows.specs.Nodes.{node_of}
use Rattle.goal_rows.specs.Programs.{IsPointOf, point_cost_of}
use Rattle.goal_rows.specs.Races.{IsGroundIn}
use Rattle.goal_rows.specs.declared.parts.Ground.{Ground}
use Rattle.dual_bound.proofs.Sound.{one_bound}
use Rattle.dual_bound.specs.CellCuts.{cell_multipliers}
use Rattle.dual_bound.specs.CutTest.{IsBound}
use Rattle.node_bounds.specs.Ceilings.{IsCeiling, ground_at}
use Rattle.node_bounds.proofs.CeilingCuts.{ground_is}
use Rattle.node_bounds.proofs.CellPoints.{ceiling_broken, ceiling_met, cell_point_cost, cell_point_first}
use Rattle.witness_build.specs.CellPoints.{IsCellPoint}
use Rattle.search_theory.specs.Branchings.{IsLeastOf, IsSolid}
use Rattle.search_theory.specs.Trees.{top_of}
use Rattle.search_leaves.specs.Kept.{node_in}
use Rattle.search_leaves.specs.NewLeaves.{AreOwn, IsCellSeed, IsLeafOf, leaf_from}
use Rattle.search_leaves.specs.declared.seeds.Seed.{Seed}
use Rattle.search_leaves.proofs.CellNodes.{featured_other, no_cover}
use Rattle.search_leaves.proofs.MadeLeaves.{no_pair, solid_leaf}
use Rattle.search_leaves.proofs.SeedLimits.{as_many}

-- the values of a cell, where they meet its rows, are its least point
cell_least : (e : Election) (start : Ground) (limits : List Limit) → IsGroundIn e start → IsCell start limits → IsPointOf start limits (cell_values start limits) 1
    → IsLeastOf e (node_of start limits) (record { whole = cell_values start limits; den = 1 })
cell_least e start limits is cell met =
    let same = ground_is e start is in
    let values = cell_values start limits in
    let here : (whole : List ℕ) (den : ℕ) → IsPointOf (ground_at e start.goal) limits whole den → IsPointOf start limits whole den = λ whole den p. subst (λ own. IsPointOf own limits whole den) (sym same) p in
    record {
      point = subst (λ own. IsPointOf own limits values 1) same met;
      cheapest = λ whole den p. subst (λ own. point_cost_of own values * den ≤ point_cost_of own whole * 1) same (let cost = cell_point_cost e start limits is cell whole den (here whole den p) in omega (arith, cost));
      least = λ whole den p level. cell_point_first e start limits is cell whole den (here whole den p);
      lowest = λ whole den p values_are. p.positive;
    }

-- the multipliers are the cell's, and cut it to what its values cost, where these meet its rows, and else beyond all ballots
pub record IsCutCell (e : Election) (start : Ground) (limits : List Limit) (ls : List ℕ) : Type 0 where
  pub each : ls ≡ cell_multipliers start limits
  pub cost : IsPointOf start limits (cell_values start limits) 1 → IsBound e (node_of start limits) ls (point_cost_of start (cell_values start limits))
  pub beyond : (IsPointOf start limits (cell_values start limits) 1 → ⊥) → IsBound e (node_of start limits) ls (start.ballots + 1)

module _ (e : Election) (seed : Seed) (ls : List ℕ) (b : ℕ) (is : IsCellSeed e seed) (one_each : length ls ≡ length seed.start.sums + length seed.limits.items)
    (cut : IsCutCell e seed.start seed.limits.items ls) (bound : IsBound e (node_in seed) ls b) where
  cell : IsCell seed.start seed.limits.items
  cell = subst (λ own. IsCell own seed.limits.items) (sym (ground_is e seed.start is.own.ground)) is.cell.cell

  solid : IsSolid e (node_in seed)
  solid = inr (inr (inl is.cell))

  own_multipliers : AreOwn e seed ls
  own_multipliers = record {
    pair = λ pair. absurd (false≢true (sym (featured_other seed.start.goal cell.featured) ∙ pair));
    cell = λ _. cut.each;
    solved = λ other no_cell solvable. absurd (no_cell is.cell);
    inherited = λ loose. absurd (loose solid);
  }

  met_leaf : (point : Point) → IsCellPoint seed.start seed.limits.items (Some point) → IsLeafOf e seed (leaf_from seed ls b (Some point))
  met_leaf point (whole, den, met) =
      let start = seed.start in
      let limits = seed.limits.items in
      let own = is.own in
      let same = one_bound e (node_in seed) ls (point_cost_of start (cell_values start limits)) b (cut.cost met) bound in
      let ceiling = subst (IsCeiling e (node_in seed)) same (ceiling_met e start limits own.ground cell met) in
      let least = subst (λ d. IsLeastOf e (node_in seed) (record { whole = point.whole; den = d })) (sym den)
      (subst (λ w. IsLeastOf e (node_in seed) (record { whole = w; den = 1 })) (sym whole) (cell_least e start limits own.ground cell met)) in
      let other = featured_other start.goal cell.featured in
      solid_leaf e seed ls b (Some point) own (record { count = as_many e seed ls own one_each; bound = bound; own = own_multipliers; pair = no_pair e seed b other })
      (no_cover e start.goal is.cell.complete, other, solid, least) solid ceiling

  broken_leaf : IsCellPoint seed.start seed.limits.items None → IsLeafOf e seed (leaf_from seed ls b None)
  broken_leaf never =
      let start = seed.start in
      let own = is.own in
      let all = ap (λ n. n + 1) own.ground.values.ballots in
      let beyond = subst (IsBound e (node_in seed) ls) all (cut.beyond never) in
      let same = one_bound e (node_in seed) ls (top_of e) b beyond bound in
      let top = ceiling_broken e start seed.limits.items own.ground cell never in
      let other = featured_other start.goal cell.featured in
      solid_leaf e seed ls b None own (record { count = as_many e seed ls own one_each; bound = bound; own = own_multipliers; pair = no_pair e seed b other }) (inr (inr (inr top))) solid
      (subst (IsCeiling e (node_in seed)) same top)

  by_point : (point : Option Point) → IsCellPoint seed.start seed.limits.items point → IsLeafOf e seed (leaf_from seed ls b point)
  by_point None never = broken_leaf never
  by_point (Some point) met = met_leaf point met

-- where the limits were read twice
pub cell_leaf : (e : Election) (seed : Seed) (read again : List Limit) (ls : List ℕ) (b : ℕ) (point : Option Point) → IsCellSeed e seed → read ≡ seed.limits.items → again ≡ seed.limits.items
    → length ls ≡ length seed.start.sums + length read → IsCutCell e seed.start read ls → IsCellPoint seed.start again point → IsBound e (node_in seed) ls b → IsLeafOf e seed (leaf_from seed ls b point)
cell_leaf e seed read again ls b point is same other one_each cut met bound =
    by_point e seed ls b is (one_each ∙ ap (λ (limits : List Limit). length seed.start.sums + length limits) same) (subst (λ limits. IsCutCell e seed.start limits ls) same cut) bound point
    (subst (λ limits. IsCellPoint seed.start limits point) other met)

-- a cell's seed of some election has the ground and the limits of a cell
pub cell_read : (seed : Seed) (read : List Limit) → read ≡ seed.limits.items → (e : Election) × IsCellSeed e seed → IsCell seed.start read
cell_read seed read same (e, is) =
    subst (λ limits. IsCell seed.start limits) (sym same) (subst (λ own. IsCell own seed.limits.items) (sym (ground_is e seed.start is.own.ground)) is.cell.cell)
