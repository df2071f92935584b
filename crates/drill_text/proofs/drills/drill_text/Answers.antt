use Rattle.drill_text.proofs.Summaries.{summary}
use Rattle.drill_text.proofs.drills.drill_text.Goals as goal

pub returns : goal.returns
returns c =
    summary c.args.seed c.in_ok-text.text.items c.push_margin.new.text.items c.push_margin-2.new.text.items c.push_margin-3.new.text.items c.push_margin-4.new.text.items
    c.push_margin-5.new.text.items c.any_of-stopped.result c.in_ok-plurality.plurality c.in_ok-borda.borda c.in_ok-condorcet.condorcet c.in_ok-seats.seats c.in_ok-runoff.runoff
    c.in_ok-text.ensures (c.in_ok-plurality.ensures c.args.seed c.in_ok-contest.ensures.roll) (c.in_ok-borda.ensures c.args.seed c.in_ok-contest.ensures.roll)
    (c.in_ok-condorcet.ensures c.args.seed c.in_ok-contest.ensures.roll) (c.in_ok-seats.ensures c.args.seed c.in_ok-contest.ensures.roll)
    (c.in_ok-runoff.ensures c.args.seed c.in_ok-contest.ensures.roll) c.any_of-stopped.ensures
