use Rattle.std.proofs.Common.{◌≡◌, ◌<◌, All, drop, false, length, take}
use Rattle.std.specs.List.{list_any}
use Rattle.csv.specs.Records.{fields_of}
use Rattle.ballot_csv.specs.OneRecord.{ballot_of, is_unknown}
use Rattle.ballot_csv.proofs.record.read_ballot.Given as goal

abbrev pub invariant-loop-i : goal.invariant-loop-i
invariant-loop-i l = record {
  ballot : l.ballot ≡ ballot_of l.names (drop 1 (take l.i (fields_of l.cells)));
  below : All (λ x. x < length l.names) l.ballot;
  known : list_any (is_unknown l.names) (drop 1 (take l.i (fields_of l.cells))) ≡ false;
}
