-- The ends of what limits leave a variable.
use Rattle.std.proofs.Common.{ℕ, suc, ◌≤◌, List, [], ◌∷◌, Bool, true, false, cond, arith, All}
use Rattle.std.specs.Prelude.{max, min}
use Rattle.row_program.specs.declared.Feature.{Feature}
use Rattle.row_program.specs.declared.Limit.{Limit}
use Rattle.goal_rows.specs.Cells.{Variable, high_end, low_end, same_feature}

pub high_below : (limits : List Limit) (v : Variable) → high_end limits v ≤ v.end
high_below [] v = omega arith
high_below (limit ∷ limits) v = by limit.at_most (same_feature v.feature limit.feature) (high_below limits v)
  where
    by : (a t : Bool) → high_end limits v ≤ v.end → cond a (cond t (min limit.value (high_end limits v)) (high_end limits v)) (high_end limits v) ≤ v.end
    by true true le = omega (arith, le)
    by true false le = le
    by false t le = le

pub low_below : (n : ℕ) (limits : List Limit) (f : Feature) → All (λ limit. limit.value ≤ n) limits → low_end limits f ≤ n
low_below n [] f small = omega arith
low_below n (limit ∷ limits) f small = by limit.at_most (same_feature f limit.feature) (low_below n limits f (λ k d lt. small (suc k) d (omega (arith, lt)))) (small 0 limit (omega arith))
  where
    by : (a t : Bool) → low_end limits f ≤ n → limit.value ≤ n → cond a (low_end limits f) (cond t (max limit.value (low_end limits f)) (low_end limits f)) ≤ n
    by true t le here = le
    by false true le here = omega (arith, le, here)
    by false false le here = le
