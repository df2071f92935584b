use Rattle.std.proofs.Common.{◌≡◌, ◌≤◌}
use Rattle.witness_build.specs.CoverWalks.{IsShortestTo, cover_walk}
use Rattle.witness_build.proofs.covers.shortest_walk.Given as goal

abbrev pub invariant-loop-x : goal.invariant-loop-x
invariant-loop-x l = record {
  upto : l.x ≤ l.roll.c;
  shortest : IsShortestTo l.roll l.x l.shortest.candidate;
  numbers : l.shortest.numbers ≡ cover_walk l.roll l.shortest.candidate;
}
