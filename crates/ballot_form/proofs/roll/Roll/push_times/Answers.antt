use Rattle.std.proofs.Common.{rules}
use Rattle.ballot_form.proofs.Polls.{cells_fit, len_of, valid_for}
use Rattle.ballot_form.proofs.roll.Roll.push_times.Goals as goal

pub returns-then-count-self-clause-too_many : goal.returns-then-count-self-clause-too_many
returns-then-count-self-clause-too_many c = let len = len_of _ _ _ _ _ c.self.invariant c.self.view_is in search rules

pub push_run-requires-clause-few : goal.push_run-requires-clause-few
push_run-requires-clause-few c = cells_fit _ _ _ _ _ _ c.self.invariant c.self.view_is c.requires

pub invariant_of-self-2 : goal.invariant_of-self-2
invariant_of-self-2 c =
    let kept = c.push_run.ensures.kept c.self.inside.candidates c.self.invariant (valid_for _ _ _ c.self.view_is c.requires) (search rules) in
    search rules

pub returns-clause-too_many : goal.returns-clause-too_many
returns-clause-too_many c = let len = len_of _ _ _ _ _ c.self.invariant c.self.view_is in search rules

pub returns-in_err-push_run-clause-too_many : goal.returns-in_err-push_run-clause-too_many
returns-in_err-push_run-clause-too_many c = let len = len_of _ _ _ _ _ c.self.invariant c.self.view_is in search rules
