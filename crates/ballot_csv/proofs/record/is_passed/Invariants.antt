use Rattle.std.proofs.Common.{◌≡◌, take, true}
use Rattle.std.specs.List.{list_all}
use Rattle.csv.specs.Records.{fields_of}
use Rattle.ballot_csv.specs.OneRecord.{is_empty}
use Rattle.ballot_csv.proofs.record.is_passed.Given as goal

abbrev pub invariant-loop-i : goal.invariant-loop-i
invariant-loop-i l = list_all is_empty (take l.i (fields_of l.cells)) ≡ true
