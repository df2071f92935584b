use Rattle.std.proofs.Common.{◌≡◌, take}
use Rattle.alteration_model.specs.Faults.{pairs_of}
use Rattle.alteration_model.proofs.check.changes_of.Given as goal

abbrev pub invariant-loop-put : goal.invariant-loop-put
invariant-loop-put l = l.changes.items ≡ pairs_of (take l.put-index l.puts)
