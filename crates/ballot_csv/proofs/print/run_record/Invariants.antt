use Rattle.std.proofs.Common.{◌≡◌, ◌∷◌, [], decimal, map, take}
use Rattle.csv.specs.Records.{fields_of, partial_of}
use Rattle.ballot_csv.specs.PlainForm.{name_at}
use Rattle.ballot_csv.proofs.print.run_record.Given as goal

abbrev pub invariant-loop-x : goal.invariant-loop-x
invariant-loop-x l = record {
  fields : fields_of l.cells ≡ decimal l.count ∷ map (name_at l.names) (take l.x-index l.ballot);
  partial : partial_of l.cells ≡ [];
}
