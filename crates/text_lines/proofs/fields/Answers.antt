use Rattle.std.proofs.Common.{ap, ◌∙◌}
use Rattle.std.proofs.lemmas.List.Splits.{join_with_byte-slice_split}
use Rattle.text_lines.specs.Words.{line_of}
use Rattle.text_lines.proofs.fields.Goals as goal

pub returns-clause-joined : goal.returns-clause-joined
returns-clause-joined c = ap line_of c.of_line.ensures.ahead ∙ join_with_byte-slice_split 32 c.args.line.now
