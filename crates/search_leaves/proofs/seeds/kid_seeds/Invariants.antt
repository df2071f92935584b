use Rattle.std.proofs.Common.{◌≡◌, All, map}
use Rattle.goal_rows.specs.Races.{election_of}
use Rattle.search_leaves.specs.Kept.{IsSeedOf, node_in}
use Rattle.search_leaves.proofs.CoverSeeds.{AreSeeded}
use Rattle.search_leaves.proofs.seeds.kid_seeds.Given as goal

abbrev pub invariant-loop-start : goal.invariant-loop-start
invariant-loop-start l =
    (goal.iterator-loop-start).can_next l.start-iterator
    × (goal.iterator-loop-start).is_finite l.start-iterator
    × AreSeeded (election_of l.race) l.leaf.start.goal (map node_in l.seeds.items) l.start-iterator.rest.items
    × All (IsSeedOf (election_of l.race) l.leaf) l.seeds.items
