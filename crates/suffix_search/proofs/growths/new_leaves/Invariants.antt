use Rattle.goal_rows.specs.Races.{election_of}
use Rattle.suffix_search.proofs.Kids.{AreSown}
use Rattle.suffix_search.proofs.growths.new_leaves.Given as goal

abbrev pub invariant-loop-seed : goal.invariant-loop-seed
invariant-loop-seed l =
    (goal.iterator-loop-seed).can_next l.seed-iterator
    × (goal.iterator-loop-seed).is_finite l.seed-iterator
    × AreSown (election_of l.race) l.fn.seeds.items l.seed-iterator.rest.items l.leaves.items
