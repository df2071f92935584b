-- Flows: a number on each arc, such that no place sends on more than comes to it.
use Rattle.std.specs.Prelude.{◌≡◌, ℕ, ◌+◌, ◌-◌, ◌≤◌, List, length, slice_index, ℤ, pos, ◌*ℤ◌}
use Rattle.std.specs.List.{range_with_len, zip}
use Rattle.mov_base.specs.Sums.{add_up, sum_z}
use Rattle.sig_graph.specs.Paths.{arc_at, arc_total}

-- the flow on the arc from u to x, of a list of numbers in the order of arcs
abbrev pub flow_at : ℕ → List ℕ → ℕ → ℕ → ℕ
flow_at m flow u x = slice_index flow (arc_at m u x)

-- what leaves u
abbrev pub flow_out : ℕ → List ℕ → ℕ → ℕ
flow_out m flow u = add_up (λ x. flow_at m flow u x) (range_with_len (u + 1) (m - u))

-- what comes to x
abbrev pub flow_in : ℕ → List ℕ → ℕ → ℕ
flow_in m flow x = add_up (λ u. flow_at m flow u x) (range_with_len 0 x)

-- a number for each arc; at most the total leaves the start, and at most what comes to it leaves each place
pub record IsFlow (m : ℕ) (flow : List ℕ) (total : ℕ) : Type 0 where
  pub each : length flow ≡ arc_total m
  pub start : flow_out m flow 0 ≤ total
  pub places : (x : ℕ) → 1 ≤ x → x ≤ m → flow_out m flow x ≤ flow_in m flow x

-- what a flow brings: its numbers times the weights, arc by arc
abbrev pub flow_sum : List ℕ → List ℤ → ℤ
flow_sum flow weights = sum_z (λ a. pos a.0 *ℤ a.1) (zip flow weights)
