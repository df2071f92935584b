use Rattle.std.proofs.Common.{◌≡◌, ◌+◌, [], drop, length, take}
use Rattle.csv.specs.Records.{fields_of}
use Rattle.ballot_csv.specs.HeadRecord.{names_fault}
use Rattle.ballot_csv.proofs.head.read_names.Given as goal

abbrev pub invariant-loop-i : goal.invariant-loop-i
invariant-loop-i l = record {
  names : l.names ≡ drop 1 (take l.i (fields_of l.head));
  index : l.index ≡ l.names;
  count : length l.names + 1 ≡ l.i;
  rest : names_fault l.names (drop l.i (take l.len (fields_of l.head))) ≡ names_fault [] (drop 1 (take l.len (fields_of l.head)));
}
