use Rattle.goal_rows.proofs.races.race_with.Goals as goal

pub returns-clause-race : goal.returns-clause-race
returns-clause-race c = record {
  election = record {
    lawful = c.requires.rule;
    poll = c.candidates-candidates.ensures.poll;
    reported = c.in_ok-reported.ensures.reported;
    roots = c.requires.roots c.in_ok-reported.reported;
  };
  kinds = c.in_ok-kinds.ensures;
}
