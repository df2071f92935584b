use Rattle.std.proofs.Common.{◌≡◌, ◌≤◌, ◌+◌, ◌++◌, ◌^◌, length}
use Rattle.std.specs.List.{flat_map}
use Rattle.ballot_csv.specs.BallotFile as file
use Rattle.ballot_csv.specs.OneRecord.{ballots_of}
use Rattle.ballot_csv.proofs.file.add_records.Given as goal

abbrev pub invariant-loop-ballot : goal.invariant-loop-ballot
invariant-loop-ballot l = record {
  fault : file.records_fault l.names l.at (length l.roll.ballots) l.records ≡ file.records_fault l.names 2 (length l.fn.roll.ballots) l.fn.records;
  ballots : l.roll.ballots ++ flat_map (ballots_of l.names) l.records ≡ l.fn.roll.ballots ++ flat_map (ballots_of l.names) l.fn.records;
  candidates : l.roll.c ≡ l.fn.roll.c;
  bound : l.at + length l.records ≤ 2 ^ 63 + 2;
}

abbrev pub decreases-loop-ballot : goal.decreases-loop-ballot
decreases-loop-ballot l = length l.records
