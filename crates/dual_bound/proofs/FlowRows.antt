-- The rows of a flow: a path keeps them, and leaves a place at most once.
use Rattle.std.proofs.Common.{◌≡◌, ℕ, suc, ◌+◌, ◌-◌, ◌<◌, ◌≤◌, List, [], ◌∷◌, get_or, length, map, zero, ap, refl, subst, sym, ◌∙◌, inl, inr, arith}
use Rattle.std.specs.Prelude.{◌==◌, ℤ, pos, ◌+ℤ◌, ◌-ℤ◌, ◌≤ℤ◌}
use Rattle.std.specs.List.{range_with_len}
use Rattle.std.proofs.lemmas.Bool.{cases_eq}
use Rattle.std.proofs.lemmas.Int.{ints}
use Rattle.std.proofs.lemmas.List.{length-map}
use Rattle.std.proofs.lemmas.List.FromFn.{length-range_with_len}
use Rattle.mov_base.specs.Sums.{add_up, sum_z}
use Rattle.mov_base.proofs.Signed.{sum_z-difference}
use Rattle.irv_count.proofs.Members.{differ_test, same_test}
use Rattle.row_program.specs.Forms.{empty_row}
use Rattle.sig_graph.specs.Paths.{IsPath, IsPathFrom, path_arcs}
use Rattle.sig_graph.specs.Rows.{one_where}
use Rattle.goal_rows.specs.Programs.{arc_weight, flow_rows_of, flow_weighings, key_weight, row_by}
use Rattle.goal_rows.specs.declared.goals.Goal.TheVariants.{Suffix}
use Rattle.goal_rows.specs.declared.parts.Ground.{Ground}
use Rattle.dual_bound.specs.CellCuts.{above_none}
use Rattle.dual_bound.proofs.CellBreaks.{gain_most}
use Rattle.dual_bound.proofs.CellCovers.{at_of, with_goal}
use Rattle.dual_bound.proofs.CellHolds.{range_at}
use Rattle.dual_bound.proofs.CellRowValues.{weights_over}
use Rattle.dual_bound.proofs.CellVariables.{map_twice}

-- ---- a path at a place

-- the arcs of a path that leave a place, and those that come to it
abbrev pub leaves : ℕ → ℕ → List ℕ → ℕ
leaves q u path = add_up (λ a. one_where (a.0 == q)) (path_arcs u path)

abbrev pub comes : ℕ → ℕ → List ℕ → ℕ
comes q u path = add_up (λ a. one_where (a.1 == q)) (path_arcs u path)

-- it never comes back
never_back : (m q u : ℕ) (path : List ℕ) → IsPathFrom m u path → q < u → leaves q u path ≡ 0
never_back m q u [] is behind = refl
never_back m q u (x ∷ path) is behind =
    let off = ap one_where (differ_test u q (λ e. omega (arith, e, behind))) in
    let rest = never_back m q x path is.2 (omega (arith, is.0, behind)) in
    omega (arith, off, rest)

leaves_once : (m q u : ℕ) (path : List ℕ) → IsPathFrom m u path → leaves q u path ≤ 1
leaves_once m q u [] is = omega arith
leaves_once m q u (x ∷ path) is = elim (cases_eq u q) [
  | inl here ↦
      let on = ap one_where (same_test u q here) in
      let rest = never_back m q x path is.2 (omega (arith, here, is.0)) in
      omega (arith, on, rest)
  | inr other ↦
      let off = ap one_where (differ_test u q other) in
      let rest = leaves_once m q x path is.2 in
      omega (arith, off, rest)
]

-- what leaves a place came to it, or began there
came_before : (m q u : ℕ) (path : List ℕ) → IsPathFrom m u path → leaves q u path ≤ comes q u path + one_where (u == q)
came_before m q u [] is = omega arith
came_before m q u (x ∷ path) is = let rest = came_before m q x path is.2 in omega (arith, rest)

-- ---- rows

-- what a row of the flow counts for keys and for arcs: a replacement never lowers it, and an arc lowers it once at most
pub record IsFlowRow (m : ℕ) (key : ℕ → ℤ) (arc : ℕ × ℕ → ℤ) : Type 0 where
  pub keeps : (k : ℕ) (path : List ℕ) → IsPath m path → pos 0 ≤ℤ (key k +ℤ sum_z arc (path_arcs 0 path))
  pub rises : (k : ℕ) → pos 0 ≤ℤ key k
  pub falls : (path : List ℕ) → IsPath m path → add_up (λ a. above_none (pos 0 -ℤ arc a)) (path_arcs 0 path) ≤ 1

each_below : (f g : ℕ × ℕ → ℕ) (arcs : List (ℕ × ℕ)) → ((a : ℕ × ℕ) → f a ≤ g a) → add_up f arcs ≤ add_up g arcs
each_below f g [] below = omega arith
each_below f g (a ∷ arcs) below = omega (arith, below a, each_below f g arcs below)

-- a row that arcs lower where they leave the place q
falls_once : (m q : ℕ) (arc : ℕ × ℕ → ℤ) → ((a : ℕ × ℕ) → (pos 0 -ℤ arc a) ≤ℤ pos (one_where (a.0 == q))) → (path : List ℕ) → IsPath m path
    → add_up (λ a. above_none (pos 0 -ℤ arc a)) (path_arcs 0 path) ≤ 1
falls_once m q arc most path is =
    let each = each_below (λ a. above_none (pos 0 -ℤ arc a)) (λ a. one_where (a.0 == q)) (path_arcs 0 path) (λ a. gain_most (pos 0) (arc a) (one_where (a.0 == q)) (most a)) in
    omega (arith, each, leaves_once m q 0 path is)

no_sum : (arcs : List (ℕ × ℕ)) → add_up (λ a. 0) arcs ≡ 0
no_sum [] = refl
no_sum (a ∷ arcs) = omega (arith, no_sum arcs)

leaving_row : (m : ℕ) → IsFlowRow m (λ k. pos 1) (λ a. pos 0 -ℤ pos (one_where (a.0 == 0)))
leaving_row m = record {
  keeps = λ k path is.
      let arcs = path_arcs 0 path in
      let sum = sum_z-difference (λ a. 0) (λ a. one_where (a.0 == 0)) arcs in
      let none = no_sum arcs in
      let once = leaves_once m 0 0 path is in
      omega (arith, ints, sum, none, once);
  rises = λ k. omega (arith, ints);
  falls = falls_once m 0 (λ a. pos 0 -ℤ pos (one_where (a.0 == 0))) (λ a. omega (arith, ints));
}

through_row : (m p : ℕ) → 1 ≤ p → IsFlowRow m (λ k. pos 0) (λ a. pos (one_where (a.1 == p)) -ℤ pos (one_where (a.0 == p)))
through_row m p some = record {
  keeps = λ k path is.
      let sum = sum_z-difference (λ a. one_where (a.1 == p)) (λ a. one_where (a.0 == p)) (path_arcs 0 path) in
      let before = came_before m p 0 path is in
      let off = ap one_where (differ_test 0 p (λ e. omega (arith, e, some))) in
      omega (arith, ints, sum, before, off);
  rises = λ k. omega (arith, ints);
  falls = falls_once m p (λ a. pos (one_where (a.1 == p)) -ℤ pos (one_where (a.0 == p))) (λ a. omega (arith, ints));
}

-- what the row of the flow with the number j counts for keys, and for arcs
abbrev pub flow_key : List ℕ → ℕ → ℕ → ℤ
flow_key suffix j = get_or (map key_weight (flow_weighings (Suffix suffix))) j (λ k. pos 0)

abbrev pub flow_arc : List ℕ → ℕ → ℕ × ℕ → ℤ
flow_arc suffix j = get_or (map arc_weight (flow_weighings (Suffix suffix))) j (λ a. pos 0)

flow_count : (suffix : List ℕ) → length (flow_weighings (Suffix suffix)) ≡ suc (length (range_with_len 1 (length suffix - 1)))
flow_count suffix = ap suc (length-map (range_with_len 1 (length suffix - 1)) _)

pub flow_row : (suffix : List ℕ) (j : ℕ) → j < length (flow_weighings (Suffix suffix)) → IsFlowRow (length suffix) (flow_key suffix j) (flow_arc suffix j)
flow_row suffix zero lt = leaving_row (length suffix)
flow_row suffix (suc i) lt =
    let m = length suffix in
    let n = m - 1 in
    let places = range_with_len 1 n in
    let count = length-range_with_len 1 n in
    let within : i < n = omega (arith, lt, flow_count suffix, count) in
    let there : i < length places = omega (arith, within, count) in
    let no_key : ℕ → ℕ → ℤ = λ p k. pos 0 in
    let through : ℕ → ℕ × ℕ → ℤ = λ p a. pos (one_where (a.1 == p)) -ℤ pos (one_where (a.0 == p)) in
    let place = range_at 1 n i 0 within in
    let key : flow_key suffix (suc i) ≡ no_key (1 + i) =
    ap (λ (fs : List (ℕ → ℤ)). get_or fs i (λ k. pos 0)) (map_twice key_weight _ places) ∙ at_of no_key places i (λ k. pos 0) 0 there in
    let arc : flow_arc suffix (suc i) ≡ through (1 + i) =
    ap (λ (fs : List (ℕ × ℕ → ℤ)). get_or fs i (λ a. pos 0)) (map_twice arc_weight _ places) ∙ at_of through places i (λ a. pos 0) 0 there ∙ ap through place in
    subst (λ (f : ℕ → ℤ). IsFlowRow m f (flow_arc suffix (suc i))) (sym key) (subst (λ (g : ℕ × ℕ → ℤ). IsFlowRow m (λ k. pos 0) g) (sym arc) (through_row m (1 + i) (omega arith)))

pub flow_rows_count : (start : Ground) (suffix : List ℕ) → length (flow_rows_of (with_goal start (Suffix suffix))) ≡ length (flow_weighings (Suffix suffix))
flow_rows_count start suffix = length-map (flow_weighings (Suffix suffix)) _

pub flow_row_at : (start : Ground) (suffix : List ℕ) (j : ℕ) → j < length (flow_weighings (Suffix suffix))
    → get_or (flow_rows_of (with_goal start (Suffix suffix))) j empty_row ≡ row_by (pos 0) (weights_over (with_goal start (Suffix suffix)) (flow_key suffix j) (flow_arc suffix j))
flow_row_at start suffix j lt = rows_at key_weight arc_weight (with_goal start (Suffix suffix)) (flow_weighings (Suffix suffix)) j lt
  where
    rows_at : {W : Type 0} (key : W → ℕ → ℤ) (arc : W → ℕ × ℕ → ℤ) (start : Ground) (ws : List W) (j : ℕ) → j < length ws
        → get_or (map (λ w. row_by (pos 0) (weights_over start (key w) (arc w))) ws) j empty_row
        ≡ row_by (pos 0) (weights_over start (get_or (map key ws) j (λ k. pos 0)) (get_or (map arc ws) j (λ a. pos 0)))
    rows_at key arc start [] j lt = absurd (omega (arith, lt))
    rows_at key arc start (w ∷ ws) zero lt = refl
    rows_at key arc start (w ∷ ws) (suc j) lt = rows_at key arc start ws j (omega (arith, lt))
