use Rattle.std.proofs.Common.{◌≡◌, ◌+◌, Bool, true, false, refl, arith}
use Rattle.std.specs.Prelude.{Contains}
use Rattle.row_program.specs.declared.Limit.{Limit}
use Rattle.dual_bound.specs.CellCuts.{features_of}
use Rattle.dual_bound.proofs.CellVariables.{one_more_at}
use Rattle.dual_bound.proofs.cells.are_on_variables.Goals as goal

clash : (b : Bool) → b ≡ false → b ≡ true → ⊥
clash true off on = cc
clash false off on = cc

pub returns-then-not-is_on_variable : goal.returns-then-not-is_on_variable
returns-then-not-is_on_variable c = (
  λ on. absurd (clash false refl on),
  λ all. absurd (clash c.is_on_variable.result c.if-not-is_on_variable.true (c.is_on_variable.ensures.1 (all c.loop-limit.limit-index _ c.loop-limit-test.true))),
)

pub loop-limit-preserved : goal.loop-limit-preserved
loop-limit-preserved c =
    one_more_at (λ (limit : Limit). Contains (features_of c.args.start.now) limit.feature) c.args.limits.now c.loop-limit.limit-index (c.loop-limit.limit-index + 1) _ c.loop-limit-test.true
    c.loop-limit.invariant (c.is_on_variable.ensures.0 c.if-not-is_on_variable.false) (omega arith)
