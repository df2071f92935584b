use Rattle.std.proofs.Common.{inl, inr}
use Rattle.goal_rows.proofs.Seen.{whole_kinds}
use Rattle.goal_rows.proofs.races.kinds_seen.Goals as goal

pub returns-in-Borda : goal.returns-in-Borda
returns-in-Borda c = whole_kinds c.kinds.result c.args.rule c.args.roll.now.ballots (inl c.in-Borda.is) c.kinds.ensures

pub returns-in-Condorcet : goal.returns-in-Condorcet
returns-in-Condorcet c = whole_kinds c.kinds-in-Condorcet.result c.args.rule c.args.roll.now.ballots (inr (inl c.in-Condorcet.is)) c.kinds-in-Condorcet.ensures

pub returns-in-Irv : goal.returns-in-Irv
returns-in-Irv c = whole_kinds c.kinds-in-Irv.result c.args.rule c.args.roll.now.ballots (inr (inr c.in-Irv.is)) c.kinds-in-Irv.ensures
