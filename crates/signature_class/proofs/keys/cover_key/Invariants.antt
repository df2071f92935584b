use Rattle.std.proofs.Common.{◌≡◌, ◌++◌, take, drop}
use Rattle.irv_count.specs.Orders.{member}
use Rattle.signature_class.specs.Signatures.{bits_of, up_to}
use Rattle.signature_class.specs.declared.limits.TheConstants.{MOST_PLACES}
use Rattle.signature_class.proofs.keys.cover_key.Given as goal

abbrev pub invariant-loop-y : goal.invariant-loop-y
invariant-loop-y l = record {
  key : l.key ≡ bits_of MOST_PLACES (λ y. member y (take l.y-index l.row));
  left : take l.y-index l.row ++ up_to l.x (drop l.y-index l.row) ≡ up_to l.x l.row;
}
