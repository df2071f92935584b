use Rattle.std.proofs.Common.{◌≡◌, ◌+◌, length}
use Rattle.text_lines.specs.Words.{ahead}
use Rattle.text_lines.proofs.parts.Fields.left.Given as goal

abbrev pub invariant-loop-field : goal.invariant-loop-field
invariant-loop-field l = l.count + length (ahead l.walk) ≡ length (ahead l.self)

abbrev pub decreases-loop-field : goal.decreases-loop-field
decreases-loop-field l = length (ahead l.walk)
