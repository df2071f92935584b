-- There is a best new ballot, whatever the multipliers.
use Rattle.std.proofs.Common.{◌≡◌, ℕ, zero, suc, ◌+◌, ◌-◌, ◌<◌, ◌≤◌, List, length, refl, subst, sym, inl, inr, arith}
use Rattle.std.specs.Prelude.{ℤ, pos, ◌+ℤ◌, ◌-ℤ◌, ◌*ℤ◌, slice_index}
use Rattle.std.proofs.Math.IntN.{negsuc}
use Rattle.std.proofs.lemmas.Int.{ints}
use Rattle.mov_base.specs.Sums.{add_up}
use Rattle.row_program.specs.declared.Limit.{Limit}
use Rattle.sig_graph.specs.Bests.{IsBetter}
use Rattle.sig_graph.specs.Paths.{IsBest, weight_at}
use Rattle.sig_graph.proofs.BestPaths.{IsBestVia, via_all, via_more, via_none}
use Rattle.goal_rows.specs.declared.goals.Goal.{Goal}
use Rattle.goal_rows.specs.declared.goals.Goal.TheVariants.{Root, Suffix, Pair, Cover}
use Rattle.goal_rows.specs.declared.parts.Ground.{Ground}
use Rattle.dual_bound.specs.Weighing.{IsBestNew, all_arcs, of_rows}

better : (v w : ℤ) → (r : ℤ) × IsBetter v w r
better v w = by (w -ℤ v) refl
  where
    by : (d : ℤ) → d ≡ w -ℤ v → (r : ℤ) × IsBetter v w r
    by (pos zero) is = (v, inl (omega (arith, ints, is), refl))
    by (pos (suc n)) is = (w, inr (omega (arith, ints, is), refl))
    by (negsuc n) is = (v, inl (omega (arith, ints, is), refl))

-- the best of a place from those of the later ones
best_via : (m : ℕ) (ws : List ℤ) (u n : ℕ) → u + 1 + n ≤ m + 1 → ((x : ℕ) → u < x → x ≤ m → (b : ℤ) × IsBest m ws x b) → (v : ℤ) × IsBestVia m ws u (u + 1 + n) v
best_via m ws u zero within later = let e : u + 1 + zero ≡ u + 1 = omega arith in (pos 0, rw e (via_none m ws u))
best_via m ws u (suc n) within later =
    let old = best_via m ws u n (omega (arith, within)) later in
    let next = later (u + 1 + n) (omega arith) (omega (arith, within)) in
    let more = better old.0 (weight_at m ws u (u + 1 + n) +ℤ next.0) in
    let e : u + 1 + suc n ≡ u + 1 + n + 1 = omega arith in
    (more.0, rw e (via_more m ws u (u + 1 + n) old.0 next.0 more.0 (omega arith) (omega (arith, within)) old.1 next.1 more.1))

best_from : (m : ℕ) (ws : List ℤ) (d x : ℕ) → x ≤ m → m ≤ x + d → (b : ℤ) × IsBest m ws x b
best_from m ws zero x within late =
    let e : m + 1 ≡ x + 1 = omega (arith, within, late) in
    (pos 0, via_all m ws x (pos 0) (rw e (via_none m ws x)))
best_from m ws (suc d) x within late =
    let e : m + 1 ≡ x + 1 + (m - x) = omega (arith, within) in
    let all = best_via m ws x (m - x) (omega (arith, within)) (λ y after le. best_from m ws d y le (omega (arith, after, late))) in
    (all.0, via_all m ws x all.0 (subst (λ h. IsBestVia m ws x h all.0) (sym e) all.1))

-- a ground with another goal in its place
abbrev with_goal : Ground → Goal → Ground
with_goal start goal = record { goal = goal; classes = start.classes; sums = start.sums; ballots = start.ballots; lone = start.lone }

pub some_best : (start : Ground) (limits : List Limit) (ls : List ℕ) → (best : ℤ) × IsBestNew start limits ls best
some_best start limits ls = by start.goal
  where
    by : (goal : Goal) → (best : ℤ) × IsBestNew (with_goal start goal) limits ls best
    by Root = (pos 0, refl)
    by (Suffix suffix) = best_from (length suffix) (all_arcs start limits ls (length suffix)) (length suffix) 0 (omega arith) (omega arith)
    by (Pair g l) = (pos (slice_index (of_rows start ls) 0) *ℤ start.lone, refl)
    by (Cover x) = (pos (add_up (λ l. l) (of_rows start ls)), refl)
