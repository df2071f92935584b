use Rattle.std.specs.Prelude.{slice_index}
use Rattle.witness_build.specs.Lacking.{AreNeededTo, gain_by}
use Rattle.witness_build.proofs.walks.needed.Given as goal

abbrev pub invariant-loop-j : goal.invariant-loop-j
invariant-loop-j l = AreNeededTo l.j l.x l.most (gain_by l.key l.x) (λ j. slice_index l.lacking j)
