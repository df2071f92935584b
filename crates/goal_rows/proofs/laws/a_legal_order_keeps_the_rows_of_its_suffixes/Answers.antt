use Rattle.goal_rows.proofs.SuffixRows.{legal_rows, rows_of_suffix}
use Rattle.goal_rows.proofs.laws.a_legal_order_keeps_the_rows_of_its_suffixes.Goals as goal

pub returns-clause-whole : goal.returns-clause-whole
returns-clause-whole c = λ e p order poll whole. legal_rows p order poll.valid whole

pub returns-clause-shorter : goal.returns-clause-shorter
returns-clause-shorter c = λ e p order i poll legal. rows_of_suffix i order p.ballots ((legal_rows p order poll.valid legal.whole).0 legal)
