use Rattle.std.proofs.Common.{◌≡◌, ◌∷◌, ◌∙◌, ◌++◌, [], All, List, Some, ap, map, refl, subst, sym}
use Rattle.std.proofs.lemmas.List.Elements.{All-append, All-cons, All-nil}
use Rattle.goal_rows.specs.LongerKeys.{goals_of}
use Rattle.goal_rows.specs.Nodes.{without_limits}
use Rattle.goal_rows.specs.Races.{IsGroundOf, election_of}
use Rattle.search_leaves.specs.Kept.{IsSeedOf, node_in}
use Rattle.search_leaves.proofs.CoverSeeds.{AreSeeded, is_ground, is_kid, map_more, next_seeded}
use Rattle.search_leaves.proofs.seeds.kid_seeds.Goals as goal

pub loop-start-init : goal.loop-start-init
loop-start-init c =
    let e = election_of c.args.race.now in
    let gives : c.into_iter-start-iterator.result.rest.items ≡ c.args.starts.items = c.into_iter-start-iterator.ensures.into_iter_gives.0 in
    let none = c.new-seeds.ensures.items in (
      tt,
      tt,
      record {
        done = [];
        cover = c.requires.cover ∙ ap (λ s. Some (goals_of s)) (sym gives);
        made = ap (map node_in) none;
        values = subst (All (IsGroundOf e)) (sym gives) c.requires.values;
      },
      subst (All (IsSeedOf e c.args.leaf.now)) (sym none) (All-nil (IsSeedOf e c.args.leaf.now)),
    )

pub kid_seed-requires-clause-ground : goal.kid_seed-requires-clause-ground
kid_seed-requires-clause-ground c =
    let e = election_of c.args.race.now in
    let nodes = map node_in c.loop-start.seeds.items in
    let here = subst (λ r. AreSeeded e c.args.leaf.now.start.goal nodes r) c.in-Some.ensures.steps.0 c.loop-start.invariant.2 in
    is_ground e c.args.leaf.now.start.goal nodes c.in-Some.start c.next.new.self.rest.items c.requires.leaf.ground.election c.requires.leaf.ground.reached here

pub kid_seed-requires-clause-kid : goal.kid_seed-requires-clause-kid
kid_seed-requires-clause-kid c =
    let e = election_of c.args.race.now in
    let nodes = map node_in c.loop-start.seeds.items in
    let here = subst (λ r. AreSeeded e c.args.leaf.now.start.goal nodes r) c.in-Some.ensures.steps.0 c.loop-start.invariant.2 in
    is_kid e c.args.leaf.now.start.goal nodes c.in-Some.start c.next.new.self.rest.items here

pub loop-start-preserved : goal.loop-start-preserved
loop-start-preserved c =
    let e = election_of c.args.race.now in
    let nodes = map node_in c.loop-start.seeds.items in
    let seed = c.in_ok-kid_seed.field-0 in
    let here = subst (λ r. AreSeeded e c.args.leaf.now.start.goal nodes r) c.in-Some.ensures.steps.0 c.loop-start.invariant.2 in
    let more : c.push.new.self.items ≡ c.loop-start.seeds.items ++ seed ∷ [] = c.in_ok-push.ensures.items in
    let next = map_more node_in c.loop-start.seeds.items c.push.new.self.items seed (without_limits c.in-Some.start.goal) more c.in_ok-kid_seed.ensures.node in
    let P = IsSeedOf e c.args.leaf.now in (
      tt,
      tt,
      next_seeded e c.args.leaf.now.start.goal nodes (map node_in c.push.new.self.items) c.in-Some.start c.next.new.self.rest.items here next,
      subst (All P) (sym more) (All-append P c.loop-start.seeds.items (seed ∷ []) c.loop-start.invariant.3 (All-cons P seed [] c.in_ok-kid_seed.ensures.seed (All-nil P))),
    )
