-- The multipliers that a node inherits.
use Rattle.std.specs.Prelude.{ℕ, ◌-◌, List, [], ◌∷◌, ◌++◌, length, replicate}
use Rattle.goal_rows.specs.Elections.{Election}
use Rattle.goal_rows.specs.Goals.{rows_of}
use Rattle.goal_rows.specs.declared.goals.Goal.{Goal}

-- of a goal into which another one is split: zeros for its new rows, which stand first, and then those of the other
abbrev pub inherited_by_kid : Election → Goal → Goal → List ℕ → List ℕ
inherited_by_kid e goal kid ls = replicate (length (rows_of e kid) - length (rows_of e goal)) 0 ++ ls

-- of a node with one limit more, at the end: the others' and a zero
abbrev pub inherited_by_half : List ℕ → List ℕ
inherited_by_half ls = ls ++ 0 ∷ []
