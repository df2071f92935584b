use Rattle.std.proofs.Common.{subst}
use Rattle.goal_rows.specs.Races.{election_of}
use Rattle.search_leaves.specs.NewLeaves.{IsLeafOf}
use Rattle.suffix_search.proofs.Kids.{AreSown, one_sown}
use Rattle.suffix_search.proofs.growths.new_leaves.Goals as goal

pub loop-seed-preserved : goal.loop-seed-preserved
loop-seed-preserved c =
    let e = election_of c.args.race.now in
    let left = c.next.new.self.rest.items in
    let made = c.loop-seed.leaves.items in
    let here = subst (λ rest. AreSown e c.args.seeds.items rest made) c.in-Some.ensures.steps.0 c.loop-seed.invariant.2 in
    let leaf = c.in_ok-new_leaf.field-0 in
    let facts = c.in_ok-new_leaf.ensures in
    let is : IsLeafOf e c.in-Some.seed leaf = record { ground = facts.ground; limits = facts.limits; depth = facts.depth; multipliers = facts.multipliers; own = facts.leaf; cut = facts.cut } in
    (tt, tt, one_sown e c.args.seeds.items left made c.push.new.self.items c.in-Some.seed leaf here is c.in_ok-push.ensures.items)
