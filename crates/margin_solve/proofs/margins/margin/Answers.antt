use Rattle.std.proofs.Common.{◌≡◌, sym, subst}
use Rattle.search_theory.specs.Ends.{IsKnown}
use Rattle.goal_rows.specs.Goals.{root_goals}
use Rattle.margin_solve.specs.Made.{IsBegun}
use Rattle.search_leaves.specs.Found.{IsFound, problem_of}
use Rattle.margin_solve.proofs.Endings.{begun_by, known}
use Rattle.margin_solve.proofs.margins.margin.Goals as goal

own : (c : goal.After-upper_of) → c.in_ok-race.race.roots ≡ root_goals c.in_ok-race.race.rule c.in_ok-race.race.roll.now.c c.in_ok-race.race.reported
own c = rw (c.in_ok-race.ensures.rule, c.in_ok-race.ensures.roll) c.in_ok-race.ensures.roots

begun : (c : goal.After-upper_of) → IsBegun c.in_ok-race.race c.in_ok-start.start
begun c = begun_by c.in_ok-race.race c.in_ok-start.start c.in_ok-race.ensures.race c.in_ok-start.ensures.none c.in_ok-start.ensures.start c.in_ok-start.ensures.met

pub deepen-requires-clause-known : goal.deepen-requires-clause-known
deepen-requires-clause-known c =
    subst (λ upper. IsKnown (problem_of c.in_ok-race.race upper c.args.budget)) (sym c.upper_of.ensures)
    (known c.in_ok-race.race c.in_ok-race.ensures.race (own c) c.in_ok-start.start c.args.budget (begun c))

pub cert_of-requires-clause-begun : goal.cert_of-requires-clause-begun
cert_of-requires-clause-begun c =
    begun_by c.in_ok-race.race c.in_ok-start.start c.in_ok-race.ensures.race c.in_ok-start.ensures.none c.in_ok-start.ensures.start c.in_ok-start.ensures.met

pub cert_of-requires-clause-found : goal.cert_of-requires-clause-found
cert_of-requires-clause-found c =
    subst (λ upper. IsFound (problem_of c.in_ok-race.race upper c.args.budget) c.in_ok-found.found) c.upper_of.ensures c.in_ok-found.ensures
