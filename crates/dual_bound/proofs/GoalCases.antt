-- What multipliers make of a goal's rows, by the kind of goal.
use Rattle.std.proofs.Common.{ℕ, ◌≡◌, ◌+◌, List, length, map, sym, ap, subst, ◌∙◌}
use Rattle.std.specs.Prelude.{ℤ, pos, ◌-ℤ◌, ◌*ℤ◌, slice_index}
use Rattle.std.proofs.lemmas.List.{length-map}
use Rattle.mov_base.specs.Sums.{add_up}
use Rattle.row_program.specs.declared.Limit.{Limit}
use Rattle.sig_graph.specs.Paths.{IsBest, arc_total, arcs_of, path_sum}
use Rattle.sig_graph.proofs.ArcNumbers.{length-arcs_of}
use Rattle.goal_rows.specs.Suffixes.{others}
use Rattle.goal_rows.specs.declared.goals.Goal.{Goal}
use Rattle.goal_rows.specs.declared.goals.Goal.TheVariants.{Root, Suffix, Pair, Cover}
use Rattle.goal_rows.specs.declared.parts.Ground.{Ground}
use Rattle.dual_bound.specs.Weighing.{IsBestNew, all_arcs, of_rows, over_weight, places_by, row_arcs, rows_bring, rows_cost, times_all}

pub length-row_arcs : (m : ℕ) (rows : List ℕ) → length (row_arcs m rows) ≡ arc_total m
length-row_arcs m rows = length-map (arcs_of m) (rows_bring m rows) ∙ length-arcs_of m

abbrev cost_at : Ground → List ℕ → ℕ → Goal → ℤ
cost_at start rows key goal = elim goal [
  | Root ↦ pos 0
  | Suffix suffix ↦ path_sum (length suffix) (row_arcs (length suffix) rows) 0 (places_by (length suffix) key)
  | Pair g l ↦ pos (slice_index rows 0) *ℤ (pos key -ℤ pos 1024)
  | Cover x ↦ times_all rows (map (over_weight x key) (others (length start.sums + 1) x))
]

pub cost_of_suffix : (start : Ground) (suffix rows : List ℕ) (key : ℕ) → start.goal ≡ Suffix suffix
    → path_sum (length suffix) (row_arcs (length suffix) rows) 0 (places_by (length suffix) key) ≡ rows_cost start rows key
cost_of_suffix start suffix rows key is = ap (cost_at start rows key) (sym is)

abbrev best_at : Ground → List Limit → List ℕ → ℤ → Goal → Type 0
best_at start limits ls best goal = elim goal [
  | Root ↦ best ≡ pos 0
  | Suffix suffix ↦ IsBest (length suffix) (all_arcs start limits ls (length suffix)) 0 best
  | Pair g l ↦ best ≡ pos (slice_index (of_rows start ls) 0) *ℤ start.lone
  | Cover x ↦ best ≡ pos (add_up (λ l. l) (of_rows start ls))
]

pub best_of_pair : (start : Ground) (limits : List Limit) (ls : List ℕ) (g l : ℕ) (best : ℤ) → start.goal ≡ Pair g l
    → best ≡ pos (slice_index (of_rows start ls) 0) *ℤ start.lone → IsBestNew start limits ls best
best_of_pair start limits ls g l best is value = subst (best_at start limits ls best) (sym is) value
