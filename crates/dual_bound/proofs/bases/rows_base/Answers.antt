use Rattle.std.proofs.Common.{ℕ, ◌≡◌, ◌+◌, get_or, rules, arith}
use Rattle.std.specs.Prelude.{ℤ, pos, ◌*ℤ◌}
use Rattle.std.specs.Int.RustNames.{FitsSigned}
use Rattle.std.proofs.lemmas.Int.{ints, to_z-of_z}
use mir.Syntax.{w64}
use Rattle.dual_bound.proofs.Pairwise.{zip_more}
use Rattle.dual_bound.proofs.bases.rows_base.Goals as goal

pub loop-i-preserved : goal.loop-i-preserved
loop-i-preserved c =
    let i = c.loop-i.i in
    let value : ℤ = get_or c.args.sums.now i (pos 0) in
    let fits : FitsSigned w64 value = search rules in
    let step : c.times-sum.result ≡ pos (get_or c.args.multipliers.now i 0) *ℤ value = simp to_z-of_z at c.times-sum.ensures.value in
    let more = zip_more (λ (v : ℕ × ℤ). pos v.0 *ℤ v.1) c.args.multipliers.now c.args.sums.now i (i + 1) (pos 0) (omega arith) (omega arith) (omega arith) in
    record { total = omega (arith, ints, more, step, c.loop-i.invariant.total); bound = omega (arith, ints, c.times-sum.ensures.small, c.loop-i.invariant.bound) }
