-- An election, and a node of the search for few replacements.
use Rattle.std.specs.Prelude.{List}
use Rattle.ballot_form.specs.Ballots.{Poll}
use Rattle.ballot_form.specs.declared.outcome.Outcome.{Outcome}
use Rattle.ballot_form.specs.declared.rule.Rule.{Rule}
use Rattle.row_program.specs.declared.Limit.{Limit}
use Rattle.goal_rows.specs.declared.goals.Goal.{Goal}

-- a contest under a rule: its ballots, the reported outcome, and the goals into which the root is split
pub record Election : Type 0 where
  pub rule : Rule
  pub poll : Poll
  pub reported : Outcome
  pub roots : List Goal

-- the election of a contest under a rule, with a reported outcome and goals below the root
abbrev pub contest : Rule → Poll → Outcome → List Goal → Election
contest rule poll reported roots = record { rule = rule; poll = poll; reported = reported; roots = roots }

-- a goal, with limits on the replacements
pub record Node : Type 0 where
  pub goal : Goal
  pub limits : List Limit
