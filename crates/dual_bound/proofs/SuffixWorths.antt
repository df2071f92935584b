-- What a replaced ballot counts in the rows of a suffix, by its key, and what the arcs of new ones count.
use Rattle.std.proofs.Common.{◌≡◌, ℕ, ◌+◌, ◌-◌, ◌≤◌, List, map, ap, refl, ◌∙◌, arith}
use Rattle.std.specs.Prelude.{ℤ, pos, ◌-ℤ◌, ◌*ℤ◌}
use Rattle.std.specs.List.{flat_map, range_with_len}
use Rattle.std.proofs.lemmas.Int.{ints}
use Rattle.signature_class.specs.declared.limits.TheConstants.{MOST_PLACES}
use Rattle.sig_graph.specs.Paths.{path_sum}
use Rattle.sig_graph.specs.Rows.{is_first_from, one_where, row_weight_of}
use Rattle.goal_rows.specs.KeyCounts.{is_held}
use Rattle.goal_rows.specs.Programs.{arc_weight, held_rows, key_weight}
use Rattle.dual_bound.specs.Weighing.{places_by, row_arcs, row_places, rows_bring}
use Rattle.dual_bound.proofs.HeldPlaces.{alike_on_places, from_places, held_by_place, places_are_path, row_places_compared, rows_by_places}
use Rattle.dual_bound.proofs.Keyed.{sum_z-made}
use Rattle.dual_bound.proofs.PathArcs.{row_sum, rows_on_path}
use Rattle.dual_bound.proofs.SideBySide.{mixed, mixed_alike, mixed_minus}

-- what rows that are made of two places count is what they count by the places
mixed_by_places : {W : Type 0} (held : ℕ → ℕ → W) (f : W → ℤ) (g : ℕ → ℕ → ℤ) (m : ℕ) (ls : List ℕ) → ((i j : ℕ) → f (held i j) ≡ g i j)
    → mixed f ls (flat_map (λ i. map (λ j. held i j) (range_with_len (i + 1) (m - (i + 1)))) (range_with_len 0 m)) ≡ mixed (λ r. g (r.0 - 1) (r.1 - 1)) ls (row_places m)
mixed_by_places held f g m ls same =
    ap (mixed f ls) (rows_by_places held m)
    ∙ sum_z-made (λ v. pos v.0 *ℤ f v.1) (from_places held) ls (row_places m)
    ∙ mixed_alike (λ r. f (from_places held r)) (λ r. g (r.0 - 1) (r.1 - 1)) ls (row_places m)
    (alike_on_places m (λ r. f (from_places held r)) (λ r. g (r.0 - 1) (r.1 - 1)) (row_places m) (row_places_compared m) (λ i j some from to. same (i - 1) (j - 1)))

held_weight_is : (m key i j : ℕ) → m ≤ MOST_PLACES → 1 ≤ i → i ≤ j → j ≤ m
    → pos (one_where (is_held (i - 1) (i - 1) key)) -ℤ pos (one_where (is_held (i - 1) (j - 1) key)) ≡ pos 0 -ℤ row_sum (places_by m key) (i, j)
held_weight_is m key i j few some from to =
    let one = held_by_place m (i - 1) (i - 1) key (omega (arith, some, from, to)) (omega (arith, some, from, to)) few in
    let two = held_by_place m (i - 1) (j - 1) key (omega (arith, some, from, to)) (omega (arith, some, from, to)) few in
    let i_back : i - 1 + 1 ≡ i = omega (arith, some) in
    let j_back : j - 1 + 1 ≡ j = omega (arith, some, from) in
    let first = ap one_where one ∙ ap (λ n. one_where (is_first_from n (places_by m key) n)) i_back in
    let second = ap one_where two ∙ ap (λ n. one_where (is_first_from n (places_by m key) (j - 1 + 1))) i_back ∙ ap (λ n. one_where (is_first_from i (places_by m key) n)) j_back in
    omega (arith, ints, first, second)

-- a replaced ballot is worth what its path costs
pub suffix_key_worth : (m key : ℕ) (rows : List ℕ) → m ≤ MOST_PLACES
    → mixed (λ w. key_weight w key) rows (held_rows m) ≡ pos 0 -ℤ path_sum m (row_arcs m rows) 0 (places_by m key)
suffix_key_worth m key rows few =
    let path = places_by m key in
    let made : mixed (λ w. key_weight w key) rows (held_rows m)
    ≡ mixed (λ r. pos (one_where (is_held (r.0 - 1) (r.0 - 1) key)) -ℤ pos (one_where (is_held (r.0 - 1) (r.1 - 1) key))) rows (row_places m)
    = mixed_by_places _ (λ w. key_weight w key) (λ i j. pos (one_where (is_held i i key)) -ℤ pos (one_where (is_held i j key))) m rows (λ i j. refl) in
    made
    ∙ mixed_alike (λ r. pos (one_where (is_held (r.0 - 1) (r.0 - 1) key)) -ℤ pos (one_where (is_held (r.0 - 1) (r.1 - 1) key))) (λ r. pos 0 -ℤ row_sum path r) rows (row_places m)
    (alike_on_places m (λ r. pos (one_where (is_held (r.0 - 1) (r.0 - 1) key)) -ℤ pos (one_where (is_held (r.0 - 1) (r.1 - 1) key))) (λ r. pos 0 -ℤ row_sum path r) (row_places m) (row_places_compared m)
    (λ i j some from to. held_weight_is m key i j few some from to))
    ∙ mixed_minus (row_sum path) rows (row_places m)
    ∙ ap (λ z. pos 0 -ℤ z) (rows_on_path m rows path (places_are_path m key))

pub suffix_arc_worth : (m : ℕ) (a : ℕ × ℕ) (rows : List ℕ) → mixed (λ w. arc_weight w a) rows (held_rows m) ≡ rows_bring m rows a
suffix_arc_worth m a rows =
    let made : mixed (λ w. arc_weight w a) rows (held_rows m) ≡ mixed (λ r. row_weight_of (r.0 - 1 + 1) (r.1 - 1 + 1) a) rows (row_places m)
    = mixed_by_places _ (λ w. arc_weight w a) (λ i j. row_weight_of (i + 1) (j + 1) a) m rows (λ i j. refl) in
    made
    ∙ mixed_alike (λ r. row_weight_of (r.0 - 1 + 1) (r.1 - 1 + 1) a) (λ r. row_weight_of r.0 r.1 a) rows (row_places m)
    (alike_on_places m (λ r. row_weight_of (r.0 - 1 + 1) (r.1 - 1 + 1) a) (λ r. row_weight_of r.0 r.1 a) (row_places m) (row_places_compared m)
    (λ i j some from to.
    let i_back : i - 1 + 1 ≡ i = omega (arith, some) in
    let j_back : j - 1 + 1 ≡ j = omega (arith, some, from) in
    ap (λ n. row_weight_of n (j - 1 + 1) a) i_back ∙ ap (λ n. row_weight_of i n a) j_back))
