use Rattle.std.proofs.Common.{ℕ, List, ◌<◌, ◌-◌, length}
use Rattle.witness_build.specs.Levels.{AreCounts}
use Rattle.witness_build.proofs.Thresholds.{IsSoFar}
use Rattle.witness_build.proofs.levels.level_at.Given as goal

abbrev pub invariant-loop-key : goal.invariant-loop-key
invariant-loop-key l = record {
  so_far : (gains : List ℕ) → AreCounts gains l.counts → IsSoFar l.deficit gains (length l.counts - l.key) l.lacking l.count;
  lacks : 0 < l.key → 0 < l.lacking;
}
