use Rattle.search_leaves.specs.Found.{problem_of}
use Rattle.suffix_search.specs.Searches.{IsRunning, distance}
use Rattle.suffix_search.proofs.search.deepen.Given as goal

abbrev pub invariant-turns : goal.invariant-turns
invariant-turns l = IsRunning (problem_of l.fn.race l.fn.upper l.fn.budget) l.tree l.leaves.items

abbrev pub decreases-turns : goal.decreases-turns
decreases-turns l = distance l.fn.budget l.tree l.leaves.items
