use Rattle.std.proofs.Common.{◌≡◌, map}
use Rattle.std.specs.Str.{bytes_eq}
use Rattle.signature_class.specs.Classes.{add_all, classes_of, first_part}
use Rattle.signature_class.proofs.Counts.{once}
use Rattle.signature_class.proofs.rolls.first_kinds.Given as goal

abbrev pub invariant-loop-run : goal.invariant-loop-run
invariant-loop-run l = add_all bytes_eq l.first (once (map first_part l.run-iterator.ballots)) ≡ classes_of bytes_eq (map first_part l.roll.ballots)
