use Rattle.std.proofs.Common.{◌≡◌, ◌≤◌, length, take}
use Rattle.csv.specs.Records.{fields_of}
use Rattle.ballot_csv.specs.HeadRecord.{without_empty_end}
use Rattle.ballot_csv.proofs.head.filled_len.Given as goal

abbrev pub invariant-loop-len : goal.invariant-loop-len
invariant-loop-len l = record {
  same : without_empty_end (take l.len (fields_of l.cells)) ≡ without_empty_end (fields_of l.cells);
  within : l.len ≤ length (fields_of l.cells);
}

abbrev pub decreases-loop-len : goal.decreases-loop-len
decreases-loop-len l = l.len
