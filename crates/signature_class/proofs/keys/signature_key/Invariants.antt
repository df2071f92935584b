use Rattle.std.proofs.Common.{◌≡◌, take}
use Rattle.signature_class.specs.Signatures.{places_key}
use Rattle.signature_class.proofs.keys.signature_key.Given as goal

abbrev pub invariant-loop-place : goal.invariant-loop-place
invariant-loop-place l = l.key ≡ places_key (take l.place-index l.places)
