-- Limits with their multipliers: their value before any replacement, and what replacements bring by them.
use Rattle.std.proofs.Common.{◌≡◌, ℕ, ◌+◌, List, [], ◌∷◌, Bool, true, false, cond, map, ap, refl, ◌∙◌, arith}
use Rattle.std.specs.Prelude.{pos, ◌+ℤ◌, ◌-ℤ◌, ◌*ℤ◌}
use Rattle.std.specs.List.{zip}
use Rattle.std.proofs.lemmas.Int.{ints}
use Rattle.row_program.specs.declared.Feature.{Feature}
use Rattle.row_program.specs.declared.Limit.{Limit}
use Rattle.sig_graph.specs.Rows.{one_where}
use Rattle.goal_rows.specs.Elections.{Election}
use Rattle.goal_rows.specs.Nodes.{Kept, counted_for, kept_limit}
use Rattle.goal_rows.specs.declared.goals.Goal.{Goal}
use Rattle.dual_bound.specs.CutTest.{base_of, change_by}
use Rattle.dual_bound.specs.Weighing.{limit_start, limits_bring, signed, times_all}

-- ---- before any replacement

abbrev kept_by : Bool → ℕ → (List ℕ × List ℕ → ℕ) → Kept
kept_by t value count =
    cond t (record { start = pos value; change = λ swap. pos 0 -ℤ pos (count swap) }) (record { start = pos 0 -ℤ pos value; change = λ swap. pos (count swap) })

start_by : (t : Bool) (value : ℕ) (count : List ℕ × List ℕ → ℕ) → (kept_by t value count).start ≡ cond t (pos value) (pos 0 -ℤ pos value)
start_by true value count = refl
start_by false value count = refl

pub limits_start : (e : Election) (goal : Goal) (ls : List ℕ) (limits : List Limit) → base_of (zip ls (map (kept_limit e goal) limits)) ≡ times_all ls (map limit_start limits)
limits_start e goal [] limits = refl
limits_start e goal (l ∷ ls) [] = refl
limits_start e goal (l ∷ ls) (limit ∷ limits) =
    let here = ap (λ z. pos l *ℤ z) (start_by limit.at_most limit.value (counted_for e goal limit.feature)) in
    let rest = limits_start e goal ls limits in
    omega (arith, ints, here, rest)

-- ---- what a replacement brings

change_by_kind : (t : Bool) (value : ℕ) (count : List ℕ × List ℕ → ℕ) (swap : List ℕ × List ℕ) → (kept_by t value count).change swap ≡ cond t (pos 0 -ℤ pos (count swap)) (pos (count swap))
change_by_kind true value count swap = refl
change_by_kind false value count swap = refl

-- one that counts by two tests brings what it brings by each
by_tests : (t f g : Bool) (l : ℕ) → pos l *ℤ cond t (pos 0 -ℤ pos (one_where f + one_where g)) (pos (one_where f + one_where g))
    ≡ cond f (cond t (pos 0 -ℤ pos l) (pos l)) (pos 0) +ℤ cond g (cond t (pos 0 -ℤ pos l) (pos l)) (pos 0)
by_tests true true true l = omega (arith, ints)
by_tests true true false l = omega (arith, ints)
by_tests true false true l = omega (arith, ints)
by_tests true false false l = omega (arith, ints)
by_tests false true true l = omega (arith, ints)
by_tests false true false l = omega (arith, ints)
by_tests false false true l = omega (arith, ints)
by_tests false false false l = omega (arith, ints)

one_limit : (e : Election) (goal : Goal) (swap : List ℕ × List ℕ) (by from : Feature → Bool) (l : ℕ) (limit : Limit)
    → counted_for e goal limit.feature swap ≡ one_where (from limit.feature) + one_where (by limit.feature)
    → pos l *ℤ (kept_limit e goal limit).change swap ≡ cond (from limit.feature) (signed limit l) (pos 0) +ℤ cond (by limit.feature) (signed limit l) (pos 0)
one_limit e goal swap by from l limit counts =
    ap (λ z. pos l *ℤ z) (change_by_kind limit.at_most limit.value (counted_for e goal limit.feature) swap)
    ∙ ap (λ n. pos l *ℤ cond limit.at_most (pos 0 -ℤ pos n) (pos n)) counts
    ∙ by_tests limit.at_most (from limit.feature) (by limit.feature) l

-- where the old ballot counts by one test of the feature, and the new one by another
pub limits_change : (e : Election) (goal : Goal) (swap : List ℕ × List ℕ) (by from : Feature → Bool) (ls : List ℕ) (limits : List Limit)
    → ((feature : Feature) → counted_for e goal feature swap ≡ one_where (from feature) + one_where (by feature))
    → change_by (zip ls (map (kept_limit e goal) limits)) swap ≡ limits_bring from ls limits +ℤ limits_bring by ls limits
limits_change e goal swap by from [] limits counts = refl
limits_change e goal swap by from (l ∷ ls) [] counts = refl
limits_change e goal swap by from (l ∷ ls) (limit ∷ limits) counts =
    let here = one_limit e goal swap by from l limit (counts limit.feature) in
    let rest = limits_change e goal swap by from ls limits counts in
    omega (arith, ints, here, rest)

-- nothing comes by a test that nothing passes
pub none_bring : (ls : List ℕ) (limits : List Limit) → limits_bring (λ feature. false) ls limits ≡ pos 0
none_bring [] limits = refl
none_bring (l ∷ ls) [] = refl
none_bring (l ∷ ls) (limit ∷ limits) = let rest = none_bring ls limits in omega (arith, ints, rest)
