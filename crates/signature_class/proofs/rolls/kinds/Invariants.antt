use Rattle.std.proofs.Common.{◌≡◌}
use Rattle.std.specs.Str.{bytes_eq}
use Rattle.signature_class.specs.Classes.{add_all, classes_of}
use Rattle.signature_class.proofs.Counts.{once}
use Rattle.signature_class.proofs.rolls.kinds.Given as goal

abbrev pub invariant-loop-run : goal.invariant-loop-run
invariant-loop-run l = add_all bytes_eq l.kinds (once l.run-iterator.ballots) ≡ classes_of bytes_eq l.roll.ballots
