use Rattle.std.proofs.Common.{◌≡◌, ◌∷◌, [], codes, take}
use Rattle.csv.specs.Records.{fields_of, partial_of}
use Rattle.ballot_csv.proofs.print.head_record.Given as goal

abbrev pub invariant-loop-name : goal.invariant-loop-name
invariant-loop-name l = record {
  fields : fields_of l.cells ≡ codes "ballots" ∷ take l.name-index l.name-items;
  partial : partial_of l.cells ≡ [];
}
