use Rattle.std.proofs.Common.{◌≡◌, ◌-◌, ◌∙◌, ℕ, List, ap, length, refl, subst, sym, arith}
use Rattle.row_program.specs.declared.Limit.{Limit}
use Rattle.goal_rows.specs.Elections.{Node}
use Rattle.goal_rows.specs.Goals.{rows_of}
use Rattle.goal_rows.specs.Nodes.{number_count, without_limits}
use Rattle.goal_rows.specs.Races.{election_of}
use Rattle.dual_bound.specs.CutTest.{IsBound}
use Rattle.search_theory.specs.Leaves.{HasRanges}
use Rattle.search_leaves.specs.Kept.{node_at}
use Rattle.search_leaves.proofs.BareNodes.{bare_ranges, more_rows, zeros_inherit}
use Rattle.search_leaves.proofs.seeds.kid_seed.Goals as goal

pub overflow_sub-new : goal.overflow_sub-new
overflow_sub-new c =
    let e = election_of c.args.race.now in
    let rows = more_rows e c.args.leaf.now.start.goal c.args.start.goal c.requires.kid.0 c.requires.kid.1 in
    let none = ap length c.requires.plain in
    omega (arith, c.len.ensures, c.row_count.ensures, c.requires.leaf.count, rows, none)

pub returns-clause-seed : goal.returns-clause-seed
returns-clause-seed c =
    let e = election_of c.args.race.now in
    let leaf = c.args.leaf.now in
    let goal = leaf.start.goal in
    let kid = c.args.start.goal in
    let free : node_at leaf ≡ without_limits goal = ap (λ (ls : List Limit). record { goal = goal; limits = ls }) c.requires.plain in
    let bare : record { goal = kid; limits = c.new.result.items } ≡ without_limits kid = ap (λ (ls : List Limit). record { goal = kid; limits = ls }) c.new.ensures.items in
    let count : length leaf.multipliers ≡ number_count e (without_limits goal) = subst (λ n. length leaf.multipliers ≡ number_count e n) free c.requires.leaf.count in
    let bound = subst (λ n. IsBound e n leaf.multipliers leaf.bound) free c.requires.leaf.bound in
    let none = ap length c.requires.plain in
    let many : c.row_count.result - c.len.result ≡ length (rows_of e kid) - length (rows_of e goal) = omega (arith, c.len.ensures, c.row_count.ensures, c.requires.leaf.count, none) in
    let made = zeros_inherit e goal kid c.requires.kid.0 leaf.multipliers c.in_ok-inherited.inherited leaf.bound (c.row_count.result - c.len.result) c.requires.kid.1 count bound many c.in_ok-inherited.ensures in
    record {
      own = record {
        ground = c.requires.ground;
        ranges = subst (HasRanges e) (sym bare) (bare_ranges e kid);
        few = (let n = ap length c.new.ensures.items in omega (arith, n));
        count = made.count ∙ ap (number_count e) (sym bare);
        bound = subst (λ n. IsBound e n c.in_ok-inherited.inherited leaf.bound) (sym bare) made.bound;
      };
      bound = refl;
      depth = refl;
    }
