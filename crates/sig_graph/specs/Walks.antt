-- The paths that a flow is made of: walks from the start, one after another, each in what the walks before it leave.
use Rattle.std.specs.Prelude.{◌≡◌, ℕ, ◌-◌, ◌<◌, ◌≤◌, ◌==◌, ◌&&◌, nat_lt, Bool, List, [], ◌∷◌, map, slice_set, count_by, if◌then◌else◌}
use Rattle.std.proofs.Common.{zero, suc}
use Rattle.std.specs.List.{range_with_len}
use Rattle.mov_base.specs.Sums.{add_up}
use Rattle.sig_graph.specs.Flows.{flow_at}
use Rattle.sig_graph.specs.Paths.{arc_at, arcs_of, path_arcs}

-- ---- a walk

-- x is the least place to which an arc out of u with flow left leads
pub record IsNext (m : ℕ) (flow : List ℕ) (u x : ℕ) : Type 0 where
  pub later : u < x
  pub within : x ≤ m
  pub left : 1 ≤ flow_at m flow u x
  pub least : (y : ℕ) → u < y → y < x → flow_at m flow u y ≡ 0

-- a walk from u: on to the next place, until no arc out of the place has flow left
abbrev pub IsWalk : ℕ → List ℕ → ℕ → List ℕ → Type 0
IsWalk m flow u [] = (x : ℕ) → u < x → x ≤ m → flow_at m flow u x ≡ 0
IsWalk m flow u (x ∷ path) = IsNext m flow u x × IsWalk m flow x path

-- the walk from u that goes through these places in turn: on to each to which an arc with flow left leads
abbrev pub walk_from : ℕ → List ℕ → ℕ → List ℕ → List ℕ
walk_from m flow u [] = []
walk_from m flow u (x ∷ places) =
    if nat_lt 0 (flow_at m flow u x) then x ∷ walk_from m flow x places
    else walk_from m flow u places

-- the walk from the start through all places
abbrev pub walk_of : ℕ → List ℕ → List ℕ
walk_of m flow = walk_from m flow 0 (range_with_len 1 m)

-- ---- what walks leave

-- a flow with one less on the arc from u to x
abbrev pub one_less : ℕ → List ℕ → ℕ → ℕ → List ℕ
one_less m flow u x = slice_set flow (arc_at m u x) (flow_at m flow u x - 1)

-- what a path from u leaves of a flow: one less on each of its arcs
abbrev pub flow_after : ℕ → List ℕ → ℕ → List ℕ → List ℕ
flow_after m flow u [] = flow
flow_after m flow u (x ∷ path) = flow_after m (one_less m flow u x) x path

-- each path in turn is the walk from the start in what the paths before it leave
abbrev pub AreWalks : ℕ → List ℕ → List (List ℕ) → Type 0
AreWalks m flow [] = Unit {0}
AreWalks m flow (path ∷ paths) = IsWalk m flow 0 path × AreWalks m (flow_after m flow 0 path) paths

-- so many walks, one after another; once no arc out of the start has flow left they are empty paths
unfoldable pub split_of : ℕ → List ℕ → ℕ → List (List ℕ)
split_of m flow zero = []
split_of m flow (suc n) = walk_of m flow ∷ split_of m (flow_after m flow 0 (walk_of m flow)) n

-- ---- how often arcs are used

abbrev pub is_arc : ℕ → ℕ → ℕ × ℕ → Bool
is_arc u x a = (a.0 == u) && (a.1 == x)

-- how often a path uses the arc from u to x
abbrev pub path_uses : ℕ → ℕ → List ℕ → ℕ
path_uses u x path = count_by (is_arc u x) (path_arcs 0 path)

-- how often paths use it together
abbrev pub uses_of : List (List ℕ) → ℕ → ℕ → ℕ
uses_of paths u x = add_up (path_uses u x) paths

-- how often paths use each arc, in the order of arcs
abbrev pub flow_of : ℕ → List (List ℕ) → List ℕ
flow_of m paths = map (λ a. uses_of paths a.0 a.1) (arcs_of m)
