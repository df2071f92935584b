use Rattle.search_leaves.proofs.SeedLimits.{few_enough, limits_read}
use Rattle.search_leaves.proofs.SolvedLeaves.{wide_leaf}
use Rattle.search_leaves.proofs.SolvedNodes.{made_of}
use Rattle.search_leaves.proofs.leaves.solved_leaf.Goals as goal

pub program_of-requires-clause-limits : goal.program_of-requires-clause-limits
program_of-requires-clause-limits c = limits_read c.args.seed c.as_slice.result.now c.as_slice.ensures.value (c.requires.0, c.requires.1.own)

pub program_of-requires-clause-few : goal.program_of-requires-clause-few
program_of-requires-clause-few c = few_enough c.args.seed (c.requires.0, c.requires.1.own)

pub answered_leaf-requires-clause-answer : goal.answered_leaf-requires-clause-answer
answered_leaf-requires-clause-answer c =
    let program = c.in_ok-program.program in
    let made = c.in_ok-program.ensures in
    let said = c.in-Ok.ensures in
    record {
      program = program;
      is = made_of c.args.seed.start c.as_slice.result.now c.args.seed.limits.items program c.as_slice.ensures.value made.costs made.rows made.kept;
      narrow = said.narrow;
      each_row = said.each_row;
      least_cost = said.least_cost;
      least_point = said.least_point;
      cost_shown = said.cost_shown;
      no_point = said.no_point;
      none_shown = said.none_shown;
      best_read = said.best_multipliers;
      never_read = said.never_multipliers;
    }

pub returns-in-Err-Wide : goal.returns-in-Err-Wide
returns-in-Err-Wide c e is =
    let program = c.in_ok-program.program in
    let made = c.in_ok-program.ensures in
    let own = made_of c.args.seed.start c.as_slice.result.now c.args.seed.limits.items program c.as_slice.ensures.value made.costs made.rows made.kept in
    let wide = rw c.in-Err-Wide.field-0-is at c.in-Err-Wide.ensures.wide in
    wide_leaf e c.args.covered c.args.seed program c.inherited_leaf.result is own wide c.inherited_leaf.ensures
