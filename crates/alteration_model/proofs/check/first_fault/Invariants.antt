use Rattle.std.specs.Prelude.{Option}
use Rattle.std.proofs.Common.{drop}
use Rattle.alteration_model.specs.Faults.{IsFirstFault, IsFirstFaultFrom}
use Rattle.alteration_model.specs.declared.faults.AlterFault.{AlterFault}
use Rattle.alteration_model.proofs.check.first_fault.Given as goal

abbrev pub invariant-loop-i : goal.invariant-loop-i
invariant-loop-i l = (f : Option AlterFault) → IsFirstFaultFrom l.roll l.i l.last (drop l.i l.puts) f → IsFirstFault l.roll l.puts f
