-- The leaf of a node whose program the method is given.
use Rattle.std.proofs.Common.{◌≡◌, ℕ, ◌+◌, ◌∙◌, List, Bool, Option, None, Some, true, false, cond, length, sym, ap, subst, inl, inr}
use Rattle.std.proofs.lemmas.Bool.{false≢true}
use Rattle.exact_num.specs.declared.ratio.Ratio.{Ratio}
use Rattle.row_program.specs.Method.{IsWide}
use Rattle.row_program.specs.declared.program.Point.{Point}
use Rattle.row_program.specs.declared.program.Program.{Program}
use Rattle.lex_dual.specs.declared.solved.Solved.{Solved}
use Rattle.lex_dual.specs.declared.solved.Solved.TheVariants.{Best, Never}
use Rattle.goal_rows.specs.Elections.{Election, Node}
use Rattle.dual_bound.specs.CutTest.{IsBound}
use Rattle.node_bounds.specs.Ceilings.{IsCeiling, IsProgramOf}
use Rattle.search_theory.specs.Branchings.{IsLeastOf, IsSolid, IsSolvable, is_pair}
use Rattle.search_theory.specs.Leaves.{IsKept}
use Rattle.search_theory.specs.Spots.{has_cover}
use Rattle.search_leaves.specs.Kept.{node_in, values_of}
use Rattle.search_leaves.specs.NewLeaves.{AreOwn, AreRead, IsAnswer, IsLeafOf, IsOpenSeed, leaf_from}
use Rattle.search_leaves.specs.declared.leaves.Leaf.{Leaf as KeptLeaf}
use Rattle.search_leaves.specs.declared.seeds.Seed.{Seed}
use Rattle.search_leaves.proofs.MadeLeaves.{inheriting_leaf, no_pair, solid_leaf}
use Rattle.search_leaves.proofs.SeedLimits.{as_many, limits_in}
use Rattle.search_leaves.proofs.SolvedNodes.{best_is_ceiling, least_is_least, narrow_is_solved, never_is_ceiling, wide_is_unsolved}

-- ---- it isn't solved

-- the node isn't solid where the method doesn't solve its program
unsolved_is_loose : (e : Election) (covered : Bool) (seed : Seed) → IsOpenSeed e covered seed → (IsSolvable e (node_in seed) → ⊥) → IsSolid e (node_in seed) → ⊥
unsolved_is_loose e covered seed is unsolved (inl root) = is.below (ap (λ (node : Node). node.goal) root)
unsolved_is_loose e covered seed is unsolved (inr (inl pair)) = false≢true (sym is.other ∙ pair)
unsolved_is_loose e covered seed is unsolved (inr (inr (inl cell))) = is.no_cell cell
unsolved_is_loose e covered seed is unsolved (inr (inr (inr solvable))) = unsolved solvable

pub wide_leaf : (e : Election) (covered : Bool) (seed : Seed) (program : Program) (leaf : KeptLeaf) → IsOpenSeed e covered seed → IsProgramOf seed.start seed.limits.items program → IsWide program
    → leaf ≡ leaf_from seed seed.inherited seed.bound None → IsLeafOf e seed leaf
wide_leaf e covered seed program leaf is made wide made_leaf =
    let loose = unsolved_is_loose e covered seed is (wide_is_unsolved e seed.start seed.limits.items program is.own.ground made wide) in
    subst (IsLeafOf e seed) (sym made_leaf) (inheriting_leaf e seed is.own loose)

-- ---- it is solved

-- its multipliers are those of its program
solved_own : (e : Election) (covered : Bool) (seed : Seed) (program : Program) (ls : List ℕ) → IsOpenSeed e covered seed → IsProgramOf seed.start seed.limits.items program → AreRead program ls
    → IsSolid e (node_in seed) → AreOwn e seed ls
solved_own e covered seed program ls is made read solid = record {
  pair = λ pair. absurd (false≢true (sym is.other ∙ pair));
  cell = λ cell. absurd (is.no_cell cell);
  solved = λ other no_cell solvable. (program, made, read);
  inherited = λ loose. absurd (loose solid);
}

kept_unless : (e : Election) (seed : Seed) (covered : Bool) (point : Point) (kept : Option Point) → kept ≡ cond covered None (Some point) → has_cover e seed.start.goal ≡ covered
    → is_pair seed.start.goal ≡ false → IsSolid e (node_in seed) → IsLeastOf e (node_in seed) (record { whole = point.whole; den = point.den }) → IsKept e (node_in seed) (values_of kept)
kept_unless e seed true point kept is cover other solid least = subst (λ k. IsKept e (node_in seed) (values_of k)) (sym is) (inl cover)
kept_unless e seed false point kept is cover other solid least = subst (λ k. IsKept e (node_in seed) (values_of k)) (sym is) (cover, other, solid, least)

pub best_leaf : (e : Election) (covered : Bool) (seed : Seed) (solved : Solved) (value : Ratio) (ls : List ℕ) (point : Point) (kept : Option Point) (b : ℕ) → IsOpenSeed e covered seed
    → IsAnswer seed.start seed.limits.items solved → solved ≡ Best value ls point → kept ≡ cond covered None (Some point) → length ls ≡ length seed.start.sums + length seed.limits.items
    → IsBound e (node_in seed) ls b → IsLeafOf e seed (leaf_from seed ls b kept)
best_leaf e covered seed solved value ls point kept b is answer solved_is kept_is one_each bound =
    let start = seed.start in
    let limits = seed.limits.items in
    let own = is.own in
    let best : IsAnswer start limits (Best value ls point) = subst (IsAnswer start limits) solved_is answer in
    let few = limits_in e seed own in
    let solid : IsSolid e (node_in seed) = inr (inr (inr (narrow_is_solved e start limits best.program own.ground best.is best.narrow))) in
    let ceiling = best_is_ceiling e start limits best.program ls value.num value.den b own.ground few best.is best.least_cost best.cost_shown best.each_row bound in
    let least = least_is_least e start limits best.program (record { whole = point.whole; den = point.den }) own.ground best.is best.least_point in
    let multipliers = solved_own e covered seed best.program ls is best.is (inl best.best_read) solid in
    solid_leaf e seed ls b kept own (record { count = as_many e seed ls own one_each; bound = bound; own = multipliers; pair = no_pair e seed b is.other })
    (kept_unless e seed covered point kept kept_is is.cover is.other solid least) solid ceiling

pub never_leaf : (e : Election) (covered : Bool) (seed : Seed) (solved : Solved) (ls : List ℕ) (b : ℕ) → IsOpenSeed e covered seed → IsAnswer seed.start seed.limits.items solved
    → solved ≡ Never ls → length ls ≡ length seed.start.sums + length seed.limits.items → IsBound e (node_in seed) ls b → IsLeafOf e seed (leaf_from seed ls b None)
never_leaf e covered seed solved ls b is answer solved_is one_each bound =
    let start = seed.start in
    let limits = seed.limits.items in
    let own = is.own in
    let never : IsAnswer start limits (Never ls) = subst (IsAnswer start limits) solved_is answer in
    let few = limits_in e seed own in
    let solid : IsSolid e (node_in seed) = inr (inr (inr (narrow_is_solved e start limits never.program own.ground never.is never.narrow))) in
    let ceiling = never_is_ceiling e start limits never.program ls b own.ground few never.is never.no_point never.none_shown never.each_row bound in
    let top = subst (IsCeiling e (node_in seed)) ceiling.1 ceiling.0 in
    let multipliers = solved_own e covered seed never.program ls is never.is (inr never.never_read) solid in
    solid_leaf e seed ls b None own (record { count = as_many e seed ls own one_each; bound = bound; own = multipliers; pair = no_pair e seed b is.other }) (inr (inr (inr top))) solid ceiling.0
