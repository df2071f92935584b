use Rattle.std.proofs.Common.{take}
use Rattle.std.specs.Prelude.{Contains}
use Rattle.signature_class.specs.Classes.{keys_of}
use Rattle.dual_bound.proofs.cells.has_class.Given as goal

abbrev pub invariant-loop-k : goal.invariant-loop-k
invariant-loop-k l = Contains (keys_of (take l.k l.classes)) l.key → ⊥
