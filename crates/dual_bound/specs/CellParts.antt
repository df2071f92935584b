-- The variables of a cell, class by class and arc by arc.
use Rattle.std.specs.Prelude.{◌≡◌, ℕ, List}
use Rattle.row_program.specs.declared.Feature.{Feature}
use Rattle.row_program.specs.declared.Feature.TheVariants.{From, Arc}
use Rattle.row_program.specs.declared.Limit.{Limit}
use Rattle.goal_rows.specs.Cells.{Variable, high_end, low_end}

-- the variable that counts the feature, of which there are so many without limits
abbrev pub variable : Feature → ℕ → Variable
variable feature end = record { feature = feature; end = end }

-- the limits leave it one value
abbrev pub IsFixed : List Limit → Variable → Type 0
IsFixed limits v = low_end limits v.feature ≡ high_end limits v

-- they leave that of the class one value
abbrev pub IsFixedClass : List Limit → ℕ × ℕ → Type 0
IsFixedClass limits c = IsFixed limits (variable (From c.0) c.1)

-- they leave that of the arc, of so many ballots, one value
abbrev pub IsFixedArc : List Limit → ℕ → ℕ → ℕ → Type 0
IsFixedArc limits ballots u x = IsFixed limits (variable (Arc u x) ballots)
