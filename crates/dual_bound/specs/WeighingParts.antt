-- Parts of what the multipliers make of rows and limits.
use Rattle.std.specs.Prelude.{ℕ, ◌+◌, Bool, List, map, length, ℤ, pos, ◌*ℤ◌}
use Rattle.std.specs.List.{range_with_len, zip}
use Rattle.mov_base.specs.Sums.{sum_z}
use Rattle.row_program.specs.declared.Feature.{Feature}
use Rattle.row_program.specs.declared.Feature.TheVariants.{From, Arc}
use Rattle.sig_graph.specs.Rows.{row_weight_of}
use Rattle.dual_bound.specs.Weighing.{gain_by, is_arc, is_from}

-- the second feature is the first one
abbrev pub is_feature : Feature → Feature → Bool
is_feature (From key) other = is_from key other
is_feature (Arc u x) other = is_arc (u, x) other

-- what a row, by the places that it compares, brings on an arc with its multiplier
abbrev pub row_brings : ℕ × ℕ → ℕ × (ℕ × ℕ) → ℤ
row_brings a r = pos r.0 *ℤ row_weight_of r.1.0 r.1.1 a

-- the places that the first n rows of round i compare
abbrev pub round_places : ℕ → ℕ → List (ℕ × ℕ)
round_places i n = map (λ j. (i, j)) (range_with_len (i + 1) n)

-- what the rows of round i with these multipliers bring on an arc
abbrev pub round_brings : ℕ → List ℕ → ℕ × ℕ → ℤ
round_brings i round a = sum_z (row_brings a) (zip round (round_places i (length round)))

-- the gain of each class by its key
abbrev pub gains_by : ℤ → (ℕ → ℤ) → List (ℕ × ℕ) → List (ℕ × ℕ)
gains_by best cost classes = map (λ c. (gain_by best cost c.0, c.1)) classes
