-- What is counted of classes of ballots, class by class.
use Rattle.std.proofs.Common.{ℕ, zero, suc, List, [], ◌∷◌, ◌++◌, Bool, true, false, ◌≡◌, ◌<◌, ◌≤◌, ◌+◌, ◌-◌, ◌*◌, ◌∙◌, cond, length, get_or, map, take, ap, sym, refl, arith}
use Rattle.std.specs.Prelude.{find}
use Rattle.std.specs.List.{range_with_len}
use Rattle.std.proofs.lemmas.List.{append_assoc, take_more}
use Rattle.std.proofs.lemmas.List.FromFn.{map-range_with_len_more}
use Rattle.mov_base.specs.Sums.{add_up}
use Rattle.mov_base.proofs.Sums.{add_up-append}
use Rattle.goal_rows.specs.KeyCounts.{counted_by}

-- a class more
class_step : (f : ℕ × ℕ → ℕ) (classes : List (ℕ × ℕ)) (k : ℕ) → k < length classes → add_up f (take (k + 1) classes) ≡ add_up f (take k classes) + f (get_or classes k (0, 0))
class_step f classes k lt =
    let j = add_up-append f (take k classes) (get_or classes k (0, 0) ∷ []) in
    rw (take_more classes k (0, 0) lt) (omega (arith, j))

pub part_few : (f : ℕ × ℕ → ℕ) (classes : List (ℕ × ℕ)) (k : ℕ) → add_up f (take k classes) ≤ add_up f classes
part_few f [] zero = omega arith
part_few f [] (suc k) = omega arith
part_few f (c ∷ classes) zero = omega arith
part_few f (c ∷ classes) (suc k) = omega (arith, part_few f classes k)

pub counts_more : (classes : List (ℕ × ℕ)) (k n sum : ℕ) → k < length classes → n ≡ (get_or classes k (0, 0)).1 → sum ≤ add_up (λ c. c.1) (take k classes)
    → sum + n ≤ add_up (λ c. c.1) (take (k + 1) classes)
counts_more classes k n sum lt n_is so_far = let h = class_step (λ c. c.1) classes k lt in omega (arith, h, n_is, so_far)

pub counts_same : (classes : List (ℕ × ℕ)) (k sum : ℕ) → k < length classes → sum ≤ add_up (λ c. c.1) (take k classes) → sum ≤ add_up (λ c. c.1) (take (k + 1) classes)
counts_same classes k sum lt so_far = let h = class_step (λ c. c.1) classes k lt in omega (arith, h, so_far)

pub class_passes : (passes : ℕ → Bool) (classes : List (ℕ × ℕ)) (k key n sum : ℕ) → k < length classes → key ≡ (get_or classes k (0, 0)).0 → n ≡ (get_or classes k (0, 0)).1
    → passes key ≡ true → sum ≡ counted_by passes (take k classes) → sum + n ≡ counted_by passes (take (k + 1) classes)
class_passes passes classes k key n sum lt key_is n_is on so_far =
    let h = class_step (λ c. c.1 * cond (passes c.0) 1 0) classes k lt in
    let t = ap passes (sym key_is) ∙ on in
    let e = rw t at h in
    omega (arith, e, n_is, so_far)

pub class_fails : (passes : ℕ → Bool) (classes : List (ℕ × ℕ)) (k key sum : ℕ) → k < length classes → key ≡ (get_or classes k (0, 0)).0 → passes key ≡ false
    → sum ≡ counted_by passes (take k classes) → sum ≡ counted_by passes (take (k + 1) classes)
class_fails passes classes k key sum lt key_is off so_far =
    let h = class_step (λ c. c.1 * cond (passes c.0) 1 0) classes k lt in
    let t = ap passes (sym key_is) ∙ off in
    let e = rw t at h in
    omega (arith, e, so_far)

-- the search goes on behind a number that fails
pub find_next : (test : ℕ → Bool) (n k : ℕ) → k < n → test k ≡ false → find test (range_with_len (k + 1) (n - (k + 1))) ≡ find test (range_with_len k (n - k))
find_next test n k lt fails = let e : n - k ≡ suc (n - (k + 1)) = omega arith in rw (e, fails) refl

-- a value more in a row of values
pub value_more : {X : Type 0} (f : ℕ → X) (i j : ℕ) (before sums : List X) → i + 1 ≤ j → sums ≡ before ++ map f (range_with_len (i + 1) (j - (i + 1)))
    → sums ++ f j ∷ [] ≡ before ++ map f (range_with_len (i + 1) ((j + 1) - (i + 1)))
value_more f i j before sums le is =
    let e : (j + 1) - (i + 1) ≡ (j - (i + 1)) + 1 = omega arith in
    let n : (i + 1) + (j - (i + 1)) ≡ j = omega arith in
    rw (e, map-range_with_len_more f (i + 1) (j - (i + 1)) j n, is) (append_assoc before (map f (range_with_len (i + 1) (j - (i + 1)))) (f j ∷ []))
