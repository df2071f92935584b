use Rattle.std.proofs.Common.{ℕ, subst}
use Rattle.std.specs.Prelude.{slice_index}
use Rattle.witness_build.specs.Lacking.{AreNeededAt, gain_by}
use Rattle.witness_build.proofs.EqualRuns.{needed_more}
use Rattle.witness_build.proofs.walks.needed.Goals as goal

pub loop-j-preserved : goal.loop-j-preserved
loop-j-preserved c =
    let lacking : ℕ → ℕ = λ j. slice_index c.args.lacking.now j in
    let gain : ℕ → ℕ = gain_by c.args.key c.args.x in
    let here = subst (λ k. AreNeededAt c.loop-j.j c.args.x c.needed_against.result (gain c.loop-j.j) (lacking k)) c.from.ensures c.needed_against.ensures in
    needed_more c.loop-j.j c.args.x c.loop-j.most c.needed_against.result c.max-most.result gain lacking c.loop-j.invariant here c.max-most.ensures
