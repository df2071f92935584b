use Rattle.std.proofs.Common.{map, refl}
use Rattle.std.specs.Prelude.{string_bytes}
use Rattle.mov_run.proofs.Drilled.{drill_allowed}
use Rattle.mov_run.proofs.runs.answer.Goals as goal

pub returns-in-Ok-Drill-clause-allowed : goal.returns-in-Ok-Drill-clause-allowed
returns-in-Ok-Drill-clause-allowed g c = drill_allowed _ (map string_bytes c.args.words.now) c.in-Ok-Drill.seed c.in-Ok-Drill.field-0 c.drill_answer.result c.in-Ok-Drill.ensures.reads c.in-Ok-Drill.field-0-is refl c.drill_answer.ensures
