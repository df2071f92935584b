use Rattle.std.proofs.Common.{ℕ, ◌≡◌, ◌+◌, false, get_or, cond, arith}
use Rattle.std.specs.Prelude.{pos}
use Rattle.std.proofs.lemmas.Int.{ints}
use Rattle.row_program.specs.declared.Feature.TheVariants.{From}
use Rattle.row_program.specs.declared.Limit.{Limit}
use Rattle.dual_bound.specs.Weighing.{signed}
use Rattle.dual_bound.specs.WeighingParts.{is_feature}
use Rattle.dual_bound.proofs.Pairwise.{zip_more}
use Rattle.dual_bound.proofs.features.limits_on.Goals as goal

pub loop-i-preserved : goal.loop-i-preserved
loop-i-preserved c =
    let i = c.loop-i.i in
    let none : Limit = record { feature = From 0; at_most = false; value = 0 } in
    let f = λ (l : ℕ × Limit). cond (is_feature c.args.feature l.1.feature) (signed l.1 l.0) (pos 0) in
    let more = zip_more f c.args.multipliers.now c.args.limits.now i (i + 1) none (omega arith) (omega arith) (omega arith) in
    let step : c.brought_on-sum.result ≡ f (get_or c.args.multipliers.now i 0, get_or c.args.limits.now i none) = c.brought_on-sum.ensures.value in
    record { total = omega (arith, ints, more, step, c.loop-i.invariant.total); bound = omega (arith, ints, c.brought_on-sum.ensures.small, c.loop-i.invariant.bound) }
