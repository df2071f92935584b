use Rattle.std.proofs.Common.{◌∙◌}
use Rattle.text_lines.specs.Words.{ahead}
use Rattle.text_lines.proofs.Many.{goes_on}
use Rattle.text_lines.proofs.line_numbers.any_numbers.Goals as goal

pub loop-field-preserved : goal.loop-field-preserved
loop-field-preserved g c = record {
  found = goes_on g.N.NumberList.numbers c.args.low c.args.high c.loop-field.found c.with_number-found.result _ c.number.result c.in-Some.field.text.now (ahead c.loop-field.fields) (ahead c.next.new.self) c.in-Some.ensures.next c.number.ensures.is c.with_number-found.ensures c.loop-field.invariant.found;
  line = c.next.ensures.line ∙ c.loop-field.invariant.line;
}
