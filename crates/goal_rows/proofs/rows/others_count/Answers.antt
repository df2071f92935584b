use Rattle.goal_rows.proofs.Lengths.{cover_rows_all, cover_rows_less}
use Rattle.goal_rows.proofs.rows.others_count.Goals as goal

pub returns-then-x-c : goal.returns-then-x-c
returns-then-x-c c = rw c.from.ensures (cover_rows_less c.args.c c.args.x c.if-x-c.true)

pub returns-else-x-c : goal.returns-else-x-c
returns-else-x-c c = rw c.from-else-x-c.ensures (cover_rows_all c.args.c c.args.x c.if-x-c.false)
