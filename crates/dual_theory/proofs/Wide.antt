-- Which programs are wide, and by which number.
use Rattle.std.proofs.Common.{ℕ, zero, suc, ◌≡◌, ◌<◌, ◌≤◌, ◌^◌, arith, refl, ap, sym, ◌∙◌, inl, inr, ◌⊎◌, ⊎_elim, subst, List, [], ◌∷◌, ◌++◌, length, get_or, map, Some, None, Bool, leb}
use Rattle.std.specs.Prelude.{pos, ◌<ℤ◌, find}
use Prim.Native.Nat.{◌∣◌}
use Rattle.std.specs.List.{All, range_with_len}
use Rattle.std.proofs.lemmas.Bool.{cases_eq, cases_lt, cases_Bool, cond-true, cond-false, leb-true, leb-false}
use Rattle.std.proofs.lemmas.List.{get_or_past}
use Rattle.std.proofs.lemmas.List.FromFn.{length-map-range_with_len, get_or-map-range_with_len}
use Rattle.std.proofs.lemmas.Nat.Gcd.{dvd_refl, dvd_trans, le_of_dvd}
use Rattle.row_program.specs.Forms.{Table, first_large_of}
use Rattle.row_program.specs.Method.{leaving, step, run_of, IsBest, IsNever, HasLargeNumber, IsWide}
use Rattle.row_program.specs.declared.program.Program.{Program}
use Rattle.dual_theory.specs.Ends.{common_den, lowest_den, point_whole, point_den, large_in_point, IsWideSize}
use Rattle.dual_theory.proofs.FormValues.{IsRun}
use Rattle.dual_theory.specs.Runs.{value_den}
use Rattle.dual_theory.proofs.Found.{none_some, some_same, find_some, find_none}
use Rattle.dual_theory.proofs.Chosen.{step_stays_best, step_stays_never}
use Rattle.dual_theory.proofs.Runs.{run_kept}
use Rattle.dual_theory.proofs.Rising.{value_den_positive}
use Rattle.dual_theory.proofs.Multiples.{lcm_left}
use Rattle.dual_theory.proofs.Best.{common_den_above, lowest_den_above, best_point}
use Rattle.dual_theory.proofs.Unique.{least_unique}

-- ---- the end of a run
pub run_stays : (p : Program) (k j : ℕ) → step (run_of p k) ≡ run_of p k → k ≤ j → run_of p j ≡ run_of p k
run_stays p k zero e l = let z : 0 ≡ k = omega (arith, l) in ap (run_of p) z
run_stays p k (suc j) e l =
    ⊎_elim
    (λ (is : k ≡ suc j). ap (run_of p) (sym is))
    (λ apart. ap step (run_stays p k j e (omega (arith, l, apart))) ∙ e)
    (cases_eq k (suc j))

pub later_narrow : (p : Program) (k : ℕ) → step (run_of p k) ≡ run_of p k → ((j : ℕ) → j ≤ k → first_large_of (run_of p j).rows ≡ None) → (j : ℕ) → first_large_of (run_of p j).rows ≡ None
later_narrow p k e narrow j =
    ⊎_elim
    (λ (past : k < j). ap (λ (t : Table). first_large_of t.rows) (run_stays p k j e (omega (arith, past))) ∙ narrow k (omega arith))
    (λ low. narrow j low)
    (cases_lt k j)

-- two forms at which the run ends in Best are one
pub best_forms : (p : Program) (j k : ℕ) → IsBest (run_of p j) → IsBest (run_of p k) → run_of p j ≡ run_of p k
best_forms p j k a b =
    ⊎_elim
    (λ (less : j < k). sym (run_stays p j k (step_stays_best (run_of p j) a) (omega (arith, less))))
    (λ more. run_stays p k j (step_stays_best (run_of p k) b) more)
    (cases_lt j k)

not_both : (p : Program) (j k : ℕ) → IsBest (run_of p j) → IsNever (run_of p k) → ⊥
not_both p j k best never =
    ⊎_elim
    (λ (less : j < k). none_some (leaving (run_of p k)) never.0 (ap leaving (run_stays p j k (step_stays_best (run_of p j) best) (omega (arith, less))) ∙ best) never.1)
    (λ more. none_some (leaving (run_of p j)) never.0 best (ap leaving (run_stays p k j (step_stays_never (run_of p k) never.0 never.1 never.2) more) ∙ never.1))
    (cases_lt j k)

-- ---- the numbers of a point
find_front : (p : ℕ → Bool) (xs ys : List ℕ) → find p (xs ++ ys) ≡ None → (find p xs ≡ None) × (find p ys ≡ None)
find_front p [] ys e = (refl, e)
find_front p (x ∷ xs) ys e =
    ⊎_elim
    (λ t. none_some (find p (x ∷ xs ++ ys)) x e (cond-true (p x) (Some x) (find p (xs ++ ys)) t))
    (λ f. let rest = find_front p xs ys (sym (cond-false (p x) (Some x) (find p (xs ++ ys)) f) ∙ e) in (cond-false (p x) (Some x) (find p xs) f ∙ rest.0, rest.1))
    (cases_Bool (p x))

find_at : (p : ℕ → Bool) (xs : List ℕ) (x : ℕ) → find p xs ≡ Some x → (k : ℕ) × (k < length xs) × (get_or xs k 0 ≡ x)
find_at p [] x e = none_some None x refl e
find_at p (y ∷ xs) x e =
    ⊎_elim
    (λ t. (0, omega arith, some_same (find p (y ∷ xs)) y x (cond-true (p y) (Some y) (find p xs) t) e))
    (λ f. let rest = find_at p xs x (sym (cond-false (p y) (Some y) (find p xs) f) ∙ e) in (suc rest.0, omega (arith, rest.1), rest.2))
    (cases_Bool (p y))

find_parts : (p : ℕ → Bool) (xs ys : List ℕ) (x : ℕ) → find p (xs ++ ys) ≡ Some x → (find p xs ≡ Some x) ⊎ (find p ys ≡ Some x)
find_parts p [] ys x e = inr e
find_parts p (y ∷ xs) ys x e =
    ⊎_elim
    (λ t. inl (cond-true (p y) (Some y) (find p xs) t ∙ sym (cond-true (p y) (Some y) (find p (xs ++ ys)) t) ∙ e))
    (λ f. ⊎_elim (λ here. inl (cond-false (p y) (Some y) (find p xs) f ∙ here)) (λ there. inr there) (find_parts p xs ys x (sym (cond-false (p y) (Some y) (find p (xs ++ ys)) f) ∙ e)))
    (cases_Bool (p y))

abbrev large : ℕ → Bool
large x = leb (2 ^ 63) x

abbrev dens : Table → ℕ → List ℕ
dens t n = map (common_den t) (range_with_len 1 n)

den_at : (t : Table) (n k : ℕ) → k < n → get_or (dens t n) k 0 ≡ common_den t (suc k)
den_at t n k h = get_or-map-range_with_len (common_den t) 1 n k (suc k) 0 h (omega arith)

pub small_point : (p : Program) (t : Table) → large_in_point p t ≡ None → (point_den p t < 2 ^ 63) × All (λ x. x < 2 ^ 63) (point_whole p t)
small_point p t e = let both = find_front large (dens t (length p.costs)) (point_whole p t) e in (of_dens (length p.costs) both.0, λ k d h. leb-false (2 ^ 63) (get_or (point_whole p t) k d) (find_none large (point_whole p t) both.1 k d h))
  where
    of_dens : (n : ℕ) → find large (dens t n) ≡ None → common_den t n < 2 ^ 63
    of_dens zero f = omega arith
    of_dens (suc n) f =
        let off = find_none large (dens t (suc n)) f n 0 (omega (arith, length-map-range_with_len (common_den t) 1 (suc n))) in
        subst (λ (m : ℕ). m < 2 ^ 63) (den_at t (suc n) n (omega arith)) (leb-false (2 ^ 63) (get_or (dens t (suc n)) n 0) off)

-- a denominator on the way divides the last
den_divides : (t : Table) (positive : (n : ℕ) → 0 < common_den t n) (lowest_above : (n : ℕ) → 0 < lowest_den t n) (i n : ℕ) → i ≤ n → common_den t i ∣ common_den t n
den_divides t positive lowest_above i zero h = let e : i ≡ 0 = omega (arith, h) in subst (λ (k : ℕ). common_den t k ∣ common_den t 0) (sym e) (dvd_refl (common_den t 0))
den_divides t positive lowest_above i (suc n) h =
    ⊎_elim
    (λ (e : i ≡ suc n). subst (λ (k : ℕ). common_den t k ∣ common_den t (suc n)) (sym e) (dvd_refl (common_den t (suc n))))
    (λ apart. dvd_trans (common_den t i) (den_divides t positive lowest_above i n (omega (arith, h, apart))) (lcm_left (common_den t n) (lowest_den t n) (positive n) (lowest_above n)))
    (cases_eq i (suc n))

pub large_point : (p : Program) (t : Table) (size : ℕ) → IsRun p t → large_in_point p t ≡ Some size → HasLargeNumber (point_whole p t) (point_den p t)
large_point p t size run e =
    ⊎_elim
    (λ early.
    let at = find_at large (dens t (length p.costs)) size early in
    let inside : at.0 < length p.costs = omega (arith, at.1, length-map-range_with_len (common_den t) 1 (length p.costs)) in
    let is : common_den t (suc at.0) ≡ size = sym (den_at t (length p.costs) at.0 inside) ∙ at.2 in
    let big = leb-true (2 ^ 63) size (find_some large (dens t (length p.costs)) size early) in
    let grows : common_den t (suc at.0) ≤ point_den p t = le_of_dvd (common_den_above t positive (length p.costs)) (den_divides t (common_den_above t positive) (lowest_den_above t positive) (suc at.0) (length p.costs) (omega (arith, inside))) in
    inl (omega (arith, is, big, grows)))
    (λ late.
    let at = find_at large (point_whole p t) size late in
    let big = leb-true (2 ^ 63) size (find_some large (point_whole p t) size late) in
    inr (at.0, subst (λ (x : ℕ). 2 ^ 63 ≤ x) (sym at.2) big))
    (find_parts large (dens t (length p.costs)) (point_whole p t) size e)
  where
    positive : (v : ℕ) → pos 0 <ℤ value_den t v
    positive v = value_den_positive t v run.shape

-- ---- wide programs
pub wide_size : (p : Program) (size : ℕ) → IsWideSize p size → IsWide p
wide_size p size (inl form) = inl (form.0, (size, form.1))
wide_size p size (inr point) = inr (point.0, point_whole p (run_of p point.0), point_den p (run_of p point.0), point.1, best_point p (run_of p point.0) (run_kept p point.0) point.1, large_point p (run_of p point.0) size (run_kept p point.0) point.3)

not_large : (whole : List ℕ) (den : ℕ) → den < 2 ^ 63 → All (λ x. x < 2 ^ 63) whole → HasLargeNumber whole den → ⊥
not_large whole den h a (inl big) = omega (arith, h, big)
not_large whole den h a (inr at) =
    ⊎_elim
    (λ (inside : at.0 < length whole). let low = a at.0 0 inside in let big = at.1 in omega (arith, low, big))
    (λ past. let z = get_or_past whole at.0 0 past in let big = at.1 in omega (arith, z, big))
    (cases_lt at.0 (length whole))

pub not_wide_best : (p : Program) (k : ℕ) → IsBest (run_of p k) → ((j : ℕ) → j ≤ k → first_large_of (run_of p j).rows ≡ None) → large_in_point p (run_of p k) ≡ None → IsWide p → ⊥
not_wide_best p k best narrow none (inl form) = none_some (first_large_of (run_of p form.0).rows) form.1.0 (later_narrow p k (step_stays_best (run_of p k) best) narrow form.0) form.1.1
not_wide_best p k best narrow none (inr point) =
    let t = run_of p k in
    let one = least_unique p point.1 point.2 (point_whole p t) (point_den p t) point.4 (best_point p t (run_kept p k) best) in
    let small = small_point p t none in
    not_large (point_whole p t) (point_den p t) small.0 small.1 (subst (λ (d : ℕ). HasLargeNumber (point_whole p t) d) one.1 (subst (λ (xs : List ℕ). HasLargeNumber xs point.2) one.0 point.5))

pub not_wide_never : (p : Program) (k : ℕ) → IsNever (run_of p k) → ((j : ℕ) → j ≤ k → first_large_of (run_of p j).rows ≡ None) → IsWide p → ⊥
not_wide_never p k never narrow (inl form) = none_some (first_large_of (run_of p form.0).rows) form.1.0 (later_narrow p k (step_stays_never (run_of p k) never.0 never.1 never.2) narrow form.0) form.1.1
not_wide_never p k never narrow (inr point) = not_both p point.0 k point.3 never

-- ---- one number at most
pub one_size : (p : Program) (a b : ℕ) → IsWideSize p a → IsWideSize p b → a ≡ b
one_size p a b (inl x) (inl y) =
    ⊎_elim
    (λ (less : x.0 < y.0). none_some (first_large_of (run_of p x.0).rows) a (y.2 x.0 less) x.1)
    (λ rest. ⊎_elim
    (λ (more : y.0 < x.0). none_some (first_large_of (run_of p y.0).rows) b (x.2 y.0 more) y.1)
    (λ other. let e : y.0 ≡ x.0 = omega (arith, rest, other) in some_same (first_large_of (run_of p x.0).rows) a b x.1 (ap (λ (k : ℕ). first_large_of (run_of p k).rows) (sym e) ∙ y.1))
    (cases_lt y.0 x.0))
    (cases_lt x.0 y.0)
one_size p a b (inl x) (inr y) = none_some (first_large_of (run_of p x.0).rows) a (y.2 x.0) x.1
one_size p a b (inr x) (inl y) = none_some (first_large_of (run_of p y.0).rows) b (x.2 y.0) y.1
one_size p a b (inr x) (inr y) = some_same (large_in_point p (run_of p x.0)) a b x.3 (ap (large_in_point p) (best_forms p x.0 y.0 x.1 y.1) ∙ y.3)
