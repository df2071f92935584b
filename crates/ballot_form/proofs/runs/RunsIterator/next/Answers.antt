use Rattle.std.proofs.Common.{rules, refl}
use Rattle.ballot_form.proofs.Given.{first_given, later_kept}
use Rattle.ballot_form.proofs.runs.RunsIterator.next.Goals as goal

pub invariant_of-self : goal.invariant_of-self
invariant_of-self c = later_kept _ _ c.self.inside.marks.now c.in_ok-mark.mark.now _ _ c.self.invariant (search rules)

pub returns-clause-steps : goal.returns-clause-steps
returns-clause-steps c = first_given _ c.self.inside.candidates c.self.inside.len c.self.inside.marks.now c.in_ok-mark.mark.now c.in_ok-mark.later.now c.self.inside.cells.now _ c.self.invariant c.self.view_is (search rules) (search rules) refl (search rules)
