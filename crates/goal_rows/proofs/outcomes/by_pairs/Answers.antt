use Rattle.goal_rows.proofs.outcomes.by_pairs.Goals as goal

pub returns-in-Some-clause-reported : goal.returns-in-Some-clause-reported
returns-in-Some-clause-reported c = c.in-Some.ensures.reported_of_roll _ c.in_ok-matrix.ensures

pub returns-clause-reported : goal.returns-clause-reported
returns-clause-reported c = c.in-None.ensures.reported_of_roll _ c.in_ok-matrix.ensures
