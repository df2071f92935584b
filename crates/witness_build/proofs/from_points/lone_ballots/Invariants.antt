use Rattle.std.proofs.Common.{◌≡◌, [], ◌∷◌}
use Rattle.std.specs.Prelude.{replicate}
use Rattle.witness_build.proofs.from_points.lone_ballots.Given as goal

abbrev pub invariant-loop-made : goal.invariant-loop-made
invariant-loop-made l = l.ballots ≡ replicate l._made (l.x ∷ [])
