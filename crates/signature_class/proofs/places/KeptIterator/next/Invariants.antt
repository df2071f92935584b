use Rattle.std.proofs.Common.{◌≡◌, ◌≤◌, length}
use Rattle.signature_class.specs.Signatures.{kept_from}
use Rattle.signature_class.specs.declared.limits.TheConstants.{MOST_PLACES}
use Rattle.signature_class.proofs.places.KeptIterator.next.Given as goal

abbrev pub invariant-loop-x : goal.invariant-loop-x
invariant-loop-x l = record {
  kept : kept_from l.self-inside.suffix.now l.self-inside.last l.self-inside.rest.now ≡ l.fn.self;
  few : length l.self-inside.suffix.now ≤ MOST_PLACES;
}

abbrev pub decreases-loop-x : goal.decreases-loop-x
decreases-loop-x l = length l.self-inside.rest.now
