use Rattle.std.proofs.Common.{◌≡◌, ◌++◌}
use Rattle.signature_class.specs.Signatures.{signature_of}
use Rattle.signature_class.proofs.places.signature.Given as goal

abbrev pub invariant-loop-place : goal.invariant-loop-place
invariant-loop-place l = record {
  kept : l.places.items ++ l.place-iterator ≡ signature_of l.suffix l.row;
  inline : l.places.capacity ≡ 40;
}
