-- What paths bring, arc by arc: by rows and by limits.
use Rattle.std.proofs.Common.{◌≡◌, ℕ, zero, suc, ◌+◌, ◌-◌, ◌<◌, ◌≤◌, List, [], ◌∷◌, ◌++◌, Bool, true, false, cond, map, ap, refl, sym, ◌∙◌, inl, inr, arith}
use Rattle.std.specs.Prelude.{◌==◌, ◌&&◌, ◌||◌, ℤ, pos, ◌+ℤ◌, ◌-ℤ◌, ◌*ℤ◌}
use Rattle.std.specs.List.{flat_map, list_any, range_with_len, zip}
use Rattle.std.proofs.lemmas.Bool.{cases_eq}
use Rattle.std.proofs.lemmas.Int.{ints}
use Rattle.std.proofs.lemmas.List.Concat.{flat_map-cons}
use Rattle.mov_base.specs.Sums.{sum_z}
use Rattle.mov_base.proofs.Signed.{sum_z-add, sum_z-scale, sum_z-zero}
use Rattle.irv_count.proofs.Members.{differ_test, same_test}
use Rattle.row_program.specs.declared.Feature.{Feature}
use Rattle.row_program.specs.declared.Feature.TheVariants.{From, Arc}
use Rattle.row_program.specs.declared.Limit.{Limit}
use Rattle.sig_graph.specs.Paths.{IsPath, IsPathFrom, arcs_of, path_arcs, path_sum}
use Rattle.sig_graph.specs.Rows.{is_first_from, one_where, row_weight_of}
use Rattle.sig_graph.proofs.ArcNumbers.{get_or-each}
use Rattle.sig_graph.proofs.RowArcs.{row_by_arcs}
use Rattle.goal_rows.specs.Suffixes.{arcs_from}
use Rattle.dual_bound.specs.Weighing.{is_arc, limits_bring, row_arcs, row_places, rows_bring, signed}

-- where each arc has a weight of its own, a path has those of its arcs
pub by_arcs : (weight : ℕ × ℕ → ℤ) (m u : ℕ) (path : List ℕ) → IsPathFrom m u path → path_sum m (map weight (arcs_of m)) u path ≡ sum_z weight (path_arcs u path)
by_arcs weight m u [] is = refl
by_arcs weight m u (x ∷ path) is =
    let here = get_or-each weight m u x (pos 0) is.0 is.1 in
    let rest = by_arcs weight m x path is.2 in
    omega (arith, ints, here, rest)

-- ---- rows

-- what a path counts in the row of i and j
abbrev pub row_sum : List ℕ → ℕ × ℕ → ℤ
row_sum path r = pos (one_where (is_first_from r.0 path r.1)) -ℤ pos (one_where (is_first_from r.0 path r.0))

-- each of two places from 1 on, in their order
abbrev pub AllOrdered : List (ℕ × ℕ) → Type 0
AllOrdered [] = Unit {0}
AllOrdered (r ∷ rs) = (1 ≤ r.0) × (r.0 ≤ r.1) × AllOrdered rs

ordered_append : (rs qs : List (ℕ × ℕ)) → AllOrdered rs → AllOrdered qs → AllOrdered (rs ++ qs)
ordered_append [] qs one two = two
ordered_append (r ∷ rs) qs one two = (one.0, one.1, ordered_append rs qs one.2 two)

ordered_round : (i a n : ℕ) → 1 ≤ i → i ≤ a → AllOrdered (map (λ j. (i, j)) (range_with_len a n))
ordered_round i a zero some from = tt
ordered_round i a (suc n) some from = (some, from, ordered_round i (a + 1) n some (omega (arith, from)))

-- the row places that begin with i
abbrev pub round_at : ℕ → ℕ → List (ℕ × ℕ)
round_at m i = map (λ j. (i, j)) (range_with_len (i + 1) (m - i))

ordered_rounds : (m k n : ℕ) → 1 ≤ k → AllOrdered (flat_map (round_at m) (range_with_len k n))
ordered_rounds m k zero some = tt
ordered_rounds m k (suc n) some =
    rw (flat_map-cons (round_at m) k (range_with_len (k + 1) n))
    (ordered_append (round_at m k) (flat_map (round_at m) (range_with_len (k + 1) n)) (ordered_round k (k + 1) (m - k) some (omega arith)) (ordered_rounds m (k + 1) n (omega (arith, some))))

rows_by_path : (m : ℕ) (rows : List ℕ) (places : List (ℕ × ℕ)) (path : List ℕ) → IsPath m path → AllOrdered places
    → sum_z (λ v. pos v.0 *ℤ row_sum path v.1) (zip rows places) ≡ sum_z (λ a. sum_z (λ r. pos r.0 *ℤ row_weight_of r.1.0 r.1.1 a) (zip rows places)) (path_arcs 0 path)
rows_by_path m [] places path is all = sym (sum_z-zero (path_arcs 0 path))
rows_by_path m (l ∷ rows) [] path is all = sym (sum_z-zero (path_arcs 0 path))
rows_by_path m (l ∷ rows) (r ∷ places) path is all =
    let arcs = path_arcs 0 path in
    let one = sym (row_by_arcs m r.0 r.1 path all.0 all.1 is) ∙ by_arcs (row_weight_of r.0 r.1) m 0 path is in
    let head = ap (λ z. pos l *ℤ z) one ∙ sym (sum_z-scale l (row_weight_of r.0 r.1) arcs) in
    let rest = rows_by_path m rows places path is all.2 in
    let both = sum_z-add (λ a. pos l *ℤ row_weight_of r.0 r.1 a) (λ a. sum_z (λ q. pos q.0 *ℤ row_weight_of q.1.0 q.1.1 a) (zip rows places)) arcs in
    omega (arith, ints, head, rest, both)

-- what a path counts in all rows, times their multipliers
pub rows_on_path : (m : ℕ) (rows path : List ℕ) → IsPath m path → sum_z (λ v. pos v.0 *ℤ row_sum path v.1) (zip rows (row_places m)) ≡ path_sum m (row_arcs m rows) 0 path
rows_on_path m rows path is = rows_by_path m rows (row_places m) path is (ordered_rounds m 1 (m - 1) (omega arith)) ∙ sym (by_arcs (rows_bring m rows) m 0 path is)

-- ---- limits

pub flipped : (a b : ℕ) → (a == b) ≡ (b == a)
flipped a b = elim (cases_eq a b) [
  | inl same ↦ same_test a b same ∙ sym (same_test b a (sym same))
  | inr differ ↦ differ_test a b differ ∙ sym (differ_test b a (λ e. differ (sym e)))
]

-- a path from u has the feature as an arc
abbrev pub has_from : ℕ → List ℕ → Feature → Bool
has_from u path (From key) = false
has_from u path (Arc a b) = list_any (λ arc. (arc.0 == a) && (arc.1 == b)) (arcs_from u path)

-- an arc that begins before a path isn't on it
past : (m a b u : ℕ) (s : ℤ) (path : List ℕ) → a < u → IsPathFrom m u path → sum_z (λ arc. cond ((a == arc.0) && (b == arc.1)) s (pos 0)) (path_arcs u path) ≡ pos 0
past m a b u s [] lt is = refl
past m a b u s (x ∷ path) lt is =
    let rest = past m a b x s path (omega (arith, lt, is.0)) is.2 in
    let off = differ_test a u (λ e. omega (arith, e, lt)) in
    rw off (omega (arith, ints, rest))

once_step : (t l : Bool) (s tail : ℤ) → tail ≡ cond l s (pos 0) → (t ≡ true → tail ≡ pos 0) → cond t s (pos 0) +ℤ tail ≡ cond (t || l) s (pos 0)
once_step true l s tail is none = let z = none refl in omega (arith, ints, z)
once_step false l s tail is none = omega (arith, ints, is)

never_both : (a u : ℕ) (t : Bool) → (a ≡ u → ⊥) → ((a == u) && t) ≡ true → ⊥
never_both a u t differ on = let off = rw (differ_test a u differ) at on in cc

-- an arc is on a path at most once
once : (m a b u : ℕ) (s : ℤ) (path : List ℕ) → IsPathFrom m u path
    → sum_z (λ arc. cond ((a == arc.0) && (b == arc.1)) s (pos 0)) (path_arcs u path) ≡ cond (list_any (λ arc. (arc.0 == a) && (arc.1 == b)) (arcs_from u path)) s (pos 0)
once m a b u s [] is = refl
once m a b u s (x ∷ path) is =
    let rest = once m a b x s path is.2 in
    let more = list_any (λ arc. (arc.0 == a) && (arc.1 == b)) (arcs_from x path) in
    let none : ((a == u) && (b == x)) ≡ true → sum_z (λ arc. cond ((a == arc.0) && (b == arc.1)) s (pos 0)) (path_arcs x path) ≡ pos 0 =
    λ on. elim (cases_eq a u) [ inl e ↦ past m a b x s path (omega (arith, e, is.0)) is.2 | inr differ ↦ absurd (never_both a u (b == x) differ on) ] in
    once_step ((a == u) && (b == x)) more s (sum_z (λ arc. cond ((a == arc.0) && (b == arc.1)) s (pos 0)) (path_arcs x path)) rest none
    ∙ ap (λ t. cond ((t && (b == x)) || more) s (pos 0)) (flipped a u)
    ∙ ap (λ t. cond (((u == a) && t) || more) s (pos 0)) (flipped b x)

one_feature : (m u : ℕ) (s : ℤ) (path : List ℕ) (feature : Feature) → IsPathFrom m u path
    → sum_z (λ a. cond (is_arc a feature) s (pos 0)) (path_arcs u path) ≡ cond (has_from u path feature) s (pos 0)
one_feature m u s path (From key) is = sum_z-zero (path_arcs u path)
one_feature m u s path (Arc a b) is = once m a b u s path is

-- what limits bring on each arc is together what they bring by the path
pub limits_on_path : (m : ℕ) (path ls : List ℕ) (limits : List Limit) → IsPath m path
    → sum_z (λ a. limits_bring (is_arc a) ls limits) (path_arcs 0 path) ≡ limits_bring (has_from 0 path) ls limits
limits_on_path m path [] limits is = sum_z-zero (path_arcs 0 path)
limits_on_path m path (l ∷ ls) [] is = sum_z-zero (path_arcs 0 path)
limits_on_path m path (l ∷ ls) (limit ∷ limits) is =
    let both = sum_z-add (λ a. cond (is_arc a limit.feature) (signed limit l) (pos 0)) (λ a. limits_bring (is_arc a) ls limits) (path_arcs 0 path) in
    let head = one_feature m 0 (signed limit l) path limit.feature is in
    let rest = limits_on_path m path ls limits is in
    omega (arith, ints, both, head, rest)
