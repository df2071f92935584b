use Rattle.std.proofs.Common.{◌≤◌, length, map}
use Rattle.bound_tree.specs.Plain.{kids_of, plain_of}
use Rattle.suffix_search.proofs.Walking.{IsPast, from}
use Rattle.suffix_search.proofs.cut_numbers.+walk.Given as goal

abbrev pub invariant-walk_among-loop-kid : goal.invariant-walk_among-loop-kid
invariant-walk_among-loop-kid l = (l.kid-index ≤ length l.kids) × IsPast l.i (kids_of (map plain_of l.kids)) (from l.kids l.kid-index) l.passed.nodes l.passed.cuts
