use Rattle.std.proofs.Common.{◌≡◌, length}
use Rattle.text_lines.specs.Words.{ahead}
use Rattle.text_lines.specs.Faults.{UnlessMemory}
use Rattle.text_lines.specs.Forms.{made, numbers_of, joined}
use Rattle.text_lines.proofs.line_numbers.any_numbers.Given as goal

abbrev pub invariant-loop-field : goal.invariant-loop-field
invariant-loop-field g l = record {
  found : UnlessMemory l.found (joined (made g.N.NumberList.numbers l.found) (numbers_of l.low l.high (ahead l.fields)) ≡ numbers_of l.low l.high (ahead l.initial.fields));
  line : l.fields.line ≡ l.initial.fields.line;
}

abbrev pub decreases-loop-field : goal.decreases-loop-field
decreases-loop-field g l = length (ahead l.fields)
