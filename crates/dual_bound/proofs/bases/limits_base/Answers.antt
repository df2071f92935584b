use Rattle.std.proofs.Common.{◌≡◌, ◌+◌, false, get_or, rules, ap, ◌∙◌, arith}
use Rattle.std.specs.Prelude.{pos, ◌*ℤ◌}
use Rattle.std.proofs.lemmas.Int.{ints, to_z-of_z}
use Rattle.std.specs.Int.RustNames.{FitsSigned}
use mir.Syntax.{w64}
use Rattle.row_program.specs.declared.Feature.TheVariants.{From}
use Rattle.row_program.specs.declared.Limit.{Limit}
use Rattle.dual_bound.specs.Weighing.{limit_start}
use Rattle.dual_bound.proofs.Pairwise.{limits_more}
use Rattle.dual_bound.proofs.bases.limits_base.Goals as goal

pub loop-i-preserved : goal.loop-i-preserved
loop-i-preserved c =
    let i = c.loop-i.i in
    let none : Limit = record { feature = From 0; at_most = false; value = 0 } in
    let limit = get_or c.args.limits.now i none in
    let fits : FitsSigned w64 c.before_any.result = search rules in
    let step : c.times-sum.result ≡ pos (get_or c.args.multipliers.now i 0) *ℤ c.before_any.result = simp to_z-of_z at c.times-sum.ensures.value in
    let value : c.before_any.result ≡ limit_start limit = c.before_any.ensures.value in
    let all : c.times-sum.result ≡ pos (get_or c.args.multipliers.now i 0) *ℤ limit_start limit = step ∙ ap (λ z. pos (get_or c.args.multipliers.now i 0) *ℤ z) value in
    let more = limits_more c.args.multipliers.now c.args.limits.now i (i + 1) none (omega arith) (omega arith) (omega arith) in
    record { total = omega (arith, ints, more, all, c.loop-i.invariant.total); bound = omega (arith, ints, c.times-sum.ensures.small, c.loop-i.invariant.bound) }
