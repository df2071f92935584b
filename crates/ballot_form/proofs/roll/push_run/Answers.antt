use Rattle.std.proofs.Common.{arith, rules}
use Rattle.ballot_form.proofs.Kept.{more_equal, more_other}
use Rattle.ballot_form.proofs.Polls.{equal_more, none_more, other_more}
use Rattle.ballot_form.proofs.roll.push_run.Goals as goal
use Rattle.ballot_form.proofs.roll.push_run.Goals.{then-count-eq0-via-then-count-eq0, then-count-eq0-via-else-count-eq0+then-ends_with}

pub returns-then-count-eq0-clause-ok : goal.returns-then-count-eq0-clause-ok
returns-then-count-eq0-clause-ok c = elim c.then-count-eq0.branch [
  | then-count-eq0-via-then-count-eq0 w ↦ (none_more 0 c.args.len c.args.count c.args.marks.now.items c.args.cells.now.items c.args.row.now (search rules)).0
  | then-count-eq0-via-else-count-eq0+then-ends_with w ↦ (more_equal c.args.marks.now.items c.args.cells.now.items c.args.len c.args.count c.args.row.now c.requires.marks (search rules)).0
]

pub returns-then-count-eq0-clause-kept : goal.returns-then-count-eq0-clause-kept
returns-then-count-eq0-clause-kept c = λ k kept valid few. elim c.then-count-eq0.branch [
  | then-count-eq0-via-then-count-eq0 w ↦ (none_more k c.args.len c.args.count c.args.marks.now.items c.args.cells.now.items c.args.row.now (search rules)).1 kept
  | then-count-eq0-via-else-count-eq0+then-ends_with w ↦ equal_more k c.args.len c.args.count c.args.marks.now.items c.args.cells.now.items c.args.row.now kept (search rules) valid few
]

pub returns-clause-ok : goal.returns-clause-ok
returns-clause-ok c = let more = more_other c.args.marks.now.items c.args.cells.now.items c.args.len c.args.count c.args.row.now c.requires.marks (omega arith) (search rules) in search rules

pub returns-clause-kept : goal.returns-clause-kept
returns-clause-kept c = λ k kept valid few.
    let more = other_more k c.args.len c.args.count c.args.marks.now.items c.args.cells.now.items c.args.row.now kept (omega arith) (search rules) valid few in search rules
