use Rattle.std.proofs.Common.{◌≤◌, [], ◌∷◌, ◌∙◌, subst, sym, All}
use Rattle.std.proofs.lemmas.List.Elements.{All-append, All-cons, All-nil}
use Rattle.row_program.specs.declared.Feature.TheVariants.{From}
use Rattle.goal_rows.specs.Cells.{low_end}
use Rattle.goal_rows.proofs.ProgramRows.{made_more}
use Rattle.dual_bound.proofs.CellEnds.{low_below}
use Rattle.dual_bound.proofs.cell_variables.low_ends.Goals as goal

pub loop-feature-preserved : goal.loop-feature-preserved
loop-feature-preserved c =
    let limits = c.args.limits.now in
    let is = c.from.ensures ∙ c.low_end.ensures in
    let small : c.from.result ≤ 1000000 = subst (λ n. n ≤ 1000000) (sym is) (low_below 1000000 limits _ c.requires) in
    record {
      each = c.in_ok-push.ensures.ok
          ∙ made_more (low_end limits) c.args.features.now c.loop-feature.feature-index (From 0) [] c.loop-feature.values c.from.result c.loop-feature-test.true is c.loop-feature.invariant.each;
      small = subst (All (λ n. n ≤ 1000000)) (sym c.in_ok-push.ensures.ok)
          (All-append (λ n. n ≤ 1000000) c.loop-feature.values (c.from.result ∷ []) c.loop-feature.invariant.small
          (All-cons (λ n. n ≤ 1000000) c.from.result [] small (All-nil (λ n. n ≤ 1000000))));
    }
