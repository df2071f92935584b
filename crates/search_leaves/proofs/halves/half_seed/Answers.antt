use Rattle.std.proofs.Common.{◌≡◌, ◌∙◌, ◌++◌, ◌∷◌, [], List, ap, length, length-append, refl, subst, sym, arith}
use Rattle.row_program.specs.declared.Limit.{Limit}
use Rattle.goal_rows.specs.Elections.{Node}
use Rattle.goal_rows.specs.Nodes.{number_count, with_limit}
use Rattle.goal_rows.specs.Races.{IsGroundIn}
use Rattle.goal_rows.specs.declared.parts.Ground.{Ground}
use Rattle.dual_bound.specs.CutTest.{IsBound}
use Rattle.search_theory.specs.Leaves.{HasRanges}
use Rattle.search_theory.proofs.Inherited.{half_bound}
use Rattle.search_leaves.specs.Kept.{node_at}
use Rattle.search_leaves.proofs.halves.half_seed.Goals as goal

pub returns-clause-seed : goal.returns-clause-seed
returns-clause-seed c = λ e growing half.
    let leaf = c.args.leaf.now in
    let limit = c.args.limit in
    let start = c.in_ok-start.ensures in
    let items : c.push.new.self.items ≡ leaf.limits.items ++ limit ∷ [] = c.in_ok-push.ensures.items ∙ ap (λ l. l ++ limit ∷ []) (c.in_ok-limits.ensures.items ∙ c.as_slice.ensures.value) in
    let node : record { goal = c.in_ok-start.start.goal; limits = c.push.new.self.items } ≡ with_limit (node_at leaf) limit =
    ap (λ (g : Ground). record { goal = g.goal; limits = c.push.new.self.items }) start ∙ ap (λ (ls : List Limit). record { goal = leaf.start.goal; limits = ls }) items in
    let made = half_bound e (node_at leaf) limit leaf.multipliers leaf.bound growing.count growing.bound in
    let inherited = c.in_ok-inherited.ensures in
    record {
      own = record {
        ground = subst (IsGroundIn e) (sym start) growing.ground;
        ranges = subst (HasRanges e) (sym node) half.ranges;
        few = (let long = ap (λ (ls : List Limit). length ls) items in let both = length-append leaf.limits.items (limit ∷ []) in let few = growing.few in omega (arith, long, both, few));
        count = ap (λ (ms : List _). length ms) inherited ∙ made.0 ∙ ap (number_count e) (sym node);
        bound = subst (λ n. IsBound e n c.in_ok-inherited.inherited leaf.bound) (sym node) (subst (λ ms. IsBound e (with_limit (node_at leaf) limit) ms leaf.bound) (sym inherited) made.1);
      };
      bound = refl;
      depth = refl;
    }
