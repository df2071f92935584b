-- What a replaced ballot is worth in the rows and limits of a node, by its key, and what the arcs of new ones are.
use Rattle.std.proofs.Common.{◌≡◌, ℕ, ◌+◌, ◌-◌, ◌*◌, ◌≤◌, List, [], ◌∷◌, Bool, true, false, cond, length, map, refl, ap, ◌∙◌, inl, inr, arith}
use Rattle.std.specs.Prelude.{ℤ, pos, ◌+ℤ◌, ◌-ℤ◌, ◌*ℤ◌, ◌≤ℤ◌, unsigned_abs}
use Rattle.std.specs.Int.{int_max}
use Rattle.std.proofs.Math.IntN.{negsuc}
use Rattle.std.proofs.Math.Nat.{mul-le-mul_left}
use Rattle.std.proofs.lemmas.Bool.{cases_lt}
use Rattle.std.proofs.lemmas.Int.{int_max_is, ints}
use Rattle.mov_base.specs.Sums.{add_up}
use Rattle.row_program.specs.declared.Feature.{Feature}
use Rattle.row_program.specs.declared.Feature.TheVariants.{From, Arc}
use Rattle.row_program.specs.declared.Limit.{Limit}
use Rattle.goal_rows.specs.Programs.{has_ends, has_key}
use Rattle.dual_bound.specs.Weighing.{gain_over, is_arc, is_from, limits_bring, over_weight, signed, times_all}
use Rattle.node_bounds.proofs.RowValues.{limit_arc, limit_key}
use Rattle.dual_bound.proofs.SideBySide.{minus_inside, mixed}

-- ---- limits

same_key : (key : ℕ) (feature : Feature) → has_key key feature ≡ is_from key feature
same_key key (From other) = refl
same_key key (Arc u p) = refl

same_arc : (a : ℕ × ℕ) (feature : Feature) → has_ends a feature ≡ is_arc a feature
same_arc a (From key) = refl
same_arc a (Arc u p) = refl

one_times : (t at_most : Bool) (l : ℕ) → pos l *ℤ cond t (cond at_most (pos 0 -ℤ pos 1) (pos 1)) (pos 0) ≡ cond t (cond at_most (pos 0 -ℤ pos l) (pos l)) (pos 0)
one_times true true l = omega (arith, ints)
one_times true false l = omega (arith, ints)
one_times false at_most l = omega (arith, ints)

pub limits_by_key : (key : ℕ) (ls : List ℕ) (limits : List Limit) → mixed (limit_key key) ls limits ≡ limits_bring (is_from key) ls limits
limits_by_key key [] limits = refl
limits_by_key key (l ∷ ls) [] = refl
limits_by_key key (l ∷ ls) (limit ∷ limits) =
    let here = one_times (has_key key limit.feature) limit.at_most l ∙ ap (λ t. cond t (signed limit l) (pos 0)) (same_key key limit.feature) in
    let rest = limits_by_key key ls limits in
    omega (arith, ints, here, rest)

pub limits_by_arc : (a : ℕ × ℕ) (ls : List ℕ) (limits : List Limit) → mixed (limit_arc a) ls limits ≡ limits_bring (is_arc a) ls limits
limits_by_arc a [] limits = refl
limits_by_arc a (l ∷ ls) [] = refl
limits_by_arc a (l ∷ ls) (limit ∷ limits) =
    let here = one_times (has_ends a limit.feature) limit.at_most l ∙ ap (λ t. cond t (signed limit l) (pos 0)) (same_arc a limit.feature) in
    let rest = limits_by_arc a ls limits in
    omega (arith, ints, here, rest)

-- ---- covers

-- a replaced ballot is worth the whole of the multipliers less what it costs
pub cover_key_worth : {W : Type 0} (over : ℕ → W) (f : W → ℤ) (x key : ℕ) (rows js : List ℕ) → ((j : ℕ) → f (over j) ≡ pos 1 -ℤ over_weight x key j) → length rows ≡ length js
    → mixed f rows (map over js) ≡ pos (add_up (λ l. l) rows) -ℤ times_all rows (map (over_weight x key) js)
cover_key_worth over f x key [] js weighs long = refl
cover_key_worth over f x key (l ∷ rows) [] weighs long = absurd (omega (arith, long))
cover_key_worth over f x key (l ∷ rows) (j ∷ js) weighs long =
    let rest = cover_key_worth over f x key rows js weighs (omega (arith, long)) in
    let here = ap (λ z. pos l *ℤ z) (weighs j) in
    let apart = minus_inside l (pos 1) (over_weight x key j) in
    omega (arith, ints, rest, here, apart)

-- ---- pairs

cut_off_pos : (n : ℕ) → unsigned_abs (int_max (pos n) (pos 0)) ≡ n
cut_off_pos n = ap unsigned_abs (let e : int_max (pos n) (pos 0) ≡ pos n = omega (arith, ints, int_max_is (pos n) (pos 0)) in e)

cut_off_none : (d : ℤ) → d ≤ℤ pos 0 → unsigned_abs (int_max d (pos 0)) ≡ 0
cut_off_none d le = ap unsigned_abs (let e : int_max d (pos 0) ≡ pos 0 = omega (arith, ints, le, int_max_is d (pos 0)) in e)

-- a gain of so many times a difference is so many times what is above
pair_gain : (l b key : ℕ) (d : ℤ) → d ≡ (pos l *ℤ pos b) -ℤ (pos l *ℤ pos key) → unsigned_abs (int_max d (pos 0)) ≡ l * (b - key)
pair_gain l b key d is = elim (cases_lt b key) [
  | inl less ↦
      let none : b - key ≡ 0 = omega (arith, less) in
      let le : l * b ≤ l * key = mul-le-mul_left l (omega (arith, less)) in
      rw none (cut_off_none d (omega (arith, ints, is, le)) ∙ omega arith)
  | inr more ↦
      let whole : b ≡ key + (b - key) = omega (arith, more) in
      let product : l * b ≡ l * key + l * (b - key) = ap (λ n. l * n) whole ∙ omega arith in
      let e : d ≡ pos (l * (b - key)) = omega (arith, ints, is, product) in
      ap (λ z. unsigned_abs (int_max z (pos 0))) e ∙ cut_off_pos (l * (b - key))
]

pub pair_key_worth : (l key : ℕ) (lone : ℤ) → pos 0 ≤ℤ lone
    → gain_over (pos l *ℤ lone) ((pos l *ℤ (pos key -ℤ pos 1024)) -ℤ pos 0) ≡ l * (unsigned_abs (lone +ℤ pos 1024) - key)
pair_key_worth l key (pos n) some =
    let low = minus_inside l (pos key) (pos 1024) in
    pair_gain l (n + 1024) key ((pos l *ℤ pos n) -ℤ ((pos l *ℤ (pos key -ℤ pos 1024)) -ℤ pos 0)) (omega (arith, ints, low))
pair_key_worth l key (negsuc n) some = absurd (omega (arith, ints, some))
