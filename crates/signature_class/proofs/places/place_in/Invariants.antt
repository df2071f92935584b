use Rattle.std.proofs.Common.{◌≡◌, ◌+◌, drop}
use Rattle.signature_class.specs.Signatures.{place_from, place_in}
use Rattle.signature_class.proofs.places.place_in.Given as goal

abbrev pub invariant-loop-i : goal.invariant-loop-i
invariant-loop-i l = place_from (l.i + 1) (drop l.i l.suffix) l.x ≡ place_in l.suffix l.x
