use Rattle.std.proofs.Common.{◌≡◌, ◌+◌, ◌-◌, ◌++◌, ◌∙◌, map, ap, subst, sym, arith}
use Rattle.std.specs.List.{flat_map, range_with_len}
use Rattle.row_program.specs.declared.Feature.TheVariants.{Arc}
use Rattle.dual_bound.proofs.CellVariables.{arc_features, flat_more}
use Rattle.dual_bound.proofs.cell_variables.add_arc_features.Goals as goal

pub loop-u-preserved : goal.loop-u-preserved
loop-u-preserved c =
    flat_more (λ u. map (λ x. Arc u x) (range_with_len (u + 1) (c.args.m - u))) c.loop-u.u c.args.features.now.items c.loop-u.features.items c.add_features_out.new.features.items c.loop-u.invariant
    c.in_ok-add_features_out.ensures

pub returns : goal.returns
returns c =
    let m = c.args.m in
    let old = c.args.features.now.items in
    let last : c.loop-u.u ≡ m = omega (arith, c.loop-u-test.false, c.loop-u.auto.u-end) in
    subst (λ n. c.loop-u.features.items ≡ old ++ flat_map (λ u. map (λ x. Arc u x) (range_with_len (u + 1) (m - u))) (range_with_len 0 n)) last c.loop-u.invariant
    ∙ ap (λ xs. old ++ xs) (sym (arc_features m))
