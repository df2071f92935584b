use Rattle.std.proofs.Common.{◌≡◌, ◌++◌}
use Rattle.std.specs.List.{zip}
use Rattle.std.specs.Iterator.Adapters.{zip_first, zip_second}
use Rattle.std.specs.Slice.Iter.{iter_rest}
use Rattle.alteration_model.specs.Faults.{pairs_of}
use Rattle.witness_build.proofs.from_points.puts_of.Given as goal

abbrev pub invariant-loop-number : goal.invariant-loop-number
invariant-loop-number l =
    pairs_of l.puts.items ++ zip (iter_rest (zip_first l.number-iterator)) (iter_rest (zip_second l.number-iterator)) ≡ zip l.numbers l.ballots
