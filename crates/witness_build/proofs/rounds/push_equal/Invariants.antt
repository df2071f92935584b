use Rattle.std.proofs.Common.{◌≡◌, ◌++◌, map}
use Rattle.std.specs.List.{range_with_len}
use Rattle.alteration_model.specs.Faults.{pairs_of}
use Rattle.witness_build.proofs.rounds.push_equal.Given as goal

abbrev pub invariant-loop-i : goal.invariant-loop-i
invariant-loop-i l =
    pairs_of l.puts.items ≡ pairs_of l.fn.puts.items ++ map (λ number. (number, l.ballot)) (range_with_len l.first l.i)
