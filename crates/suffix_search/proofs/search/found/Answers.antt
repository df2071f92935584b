use Rattle.std.proofs.Common.{sym, subst}
use Rattle.goal_rows.specs.Goals.{IsElection}
use Rattle.suffix_search.proofs.Starts.{found_is}
use Rattle.suffix_search.proofs.search.found.Goals as goal

pub returns : goal.returns
returns c = λ p same known running turn.
    found_is p _ c.args.leaves.now (subst IsElection (sym same) c.requires.race.election) known running turn.0 (c.in_ok-end.ensures p c.args.tree c.args.low same running turn.1)
