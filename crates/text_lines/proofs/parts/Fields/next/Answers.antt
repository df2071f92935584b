use Rattle.std.proofs.Common.{sym}
use Rattle.text_lines.proofs.Cutting.{step_some, step_none}
use Rattle.text_lines.proofs.parts.Fields.next.Goals as goal

pub returns-in-Some-clause-next : goal.returns-in-Some-clause-next
returns-in-Some-clause-next c = rw (← c.self.view_is) (step_some (record { line = c.self.inside.line.now; start = c.self.inside.start; done = c.self.inside.done }) c.in-Some.len c.if-self.false (sym c.in-Some.ensures))

pub returns-in-None-clause-next : goal.returns-in-None-clause-next
returns-in-None-clause-next c = rw (← c.self.view_is) (step_none (record { line = c.self.inside.line.now; start = c.self.inside.start; done = c.self.inside.done }) c.if-self.false (sym c.in-None.ensures))
