-- The values of all variables of a program are linear in those of its own.
use Rattle.std.proofs.Common.{ℕ, zero, suc, ◌≡◌, ◌<◌, ◌≤◌, ◌+◌, ◌-◌, arith, refl, ap, sym, ◌∙◌, ⊎_elim, length, get_or}
use Rattle.std.specs.Prelude.{ℤ, pos, ◌+ℤ◌, ◌*ℤ◌, ◌<ℤ◌, slice_index_or}
use Rattle.std.proofs.Math.Path.{fun_ext}
use Rattle.std.proofs.lemmas.Int.{ints}
use Rattle.std.proofs.lemmas.Bool.{cases_eq, cases_lt}
use Rattle.std.proofs.lemmas.Bool.Decides.{nat_tests}
use Rattle.row_program.specs.Sums.{sum_from}
use Rattle.row_program.specs.Forms.{coefficient, empty_row}
use Rattle.row_program.specs.declared.program.Row.{Row}
use Rattle.row_program.specs.declared.program.Program.{Program}
use Rattle.exact_num.proofs.Ring.{mul_add, leaf, plus, times, same}
use Rattle.pivot_form.proofs.Sums.{zero_times}
use Rattle.dual_theory.proofs.FormValues.{cost_at, row_at, value_of}
use Rattle.dual_theory.proofs.Sums.{sum_from-zero}
use Rattle.dual_theory.proofs.Directions.{combined}

-- ---- by the kind of the variable
pub value_cost : (p : Program) (x : ℕ → ℤ) (d : ℤ) (j : ℕ) → j ≡ 0 → value_of p x d j ≡ cost_at p x
value_cost p x d j h = grind (arith, nat_tests)

pub value_own : (p : Program) (x : ℕ → ℤ) (d : ℤ) (j : ℕ) → 0 < j → j ≤ length p.costs → value_of p x d j ≡ x (j - 1)
value_own p x d j h k = grind (arith, nat_tests)

pub value_slack : (p : Program) (x : ℕ → ℤ) (d : ℤ) (j : ℕ) → length p.costs < j → value_of p x d j ≡ row_at (length p.costs) (slice_index_or p.rows (j - (1 + length p.costs)) empty_row) x d
value_slack p x d j h = grind (arith, nat_tests)

pub by_kind : {P : Type 0} (n j : ℕ) → (j ≡ 0 → P) → (0 < j → j ≤ n → P) → (n < j → P) → P
by_kind n j a b c = ⊎_elim (λ e. a e) (λ apart. ⊎_elim (λ past. c past) (λ low. b (omega (arith, apart)) low) (cases_lt n j)) (cases_eq j 0)

-- ---- linear
term_linear : (k a m b n : ℤ) → k *ℤ (a *ℤ m +ℤ b *ℤ n) ≡ a *ℤ (k *ℤ m) +ℤ b *ℤ (k *ℤ n)
term_linear k a m b n = let K = leaf k in let A = leaf a in let B = leaf b in let M = leaf m in let N = leaf n in same (times K (plus (times A M) (times B N))) (plus (times A (times K M)) (times B (times K N))) (omega arith)

pub sum_linear : (n v : ℕ) (k x z : ℕ → ℤ) (a b : ℤ) → sum_from n v (λ u. k u *ℤ combined a x b z u) ≡ a *ℤ sum_from n v (λ u. k u *ℤ x u) +ℤ b *ℤ sum_from n v (λ u. k u *ℤ z u)
sum_linear zero v k x z a b = omega (arith, ints)
sum_linear (suc n) v k x z a b = omega (arith, ints, term_linear (k v) a (x v) b (z v), sum_linear n (suc v) k x z a b, mul_add a (k v *ℤ x v) (sum_from n (suc v) (λ u. k u *ℤ x u)), mul_add b (k v *ℤ z v) (sum_from n (suc v) (λ u. k u *ℤ z u)))

row_linear : (n : ℕ) (row : Row) (x z : ℕ → ℤ) (a b d e : ℤ) → row_at n row (combined a x b z) (a *ℤ d +ℤ b *ℤ e) ≡ a *ℤ row_at n row x d +ℤ b *ℤ row_at n row z e
row_linear n row x z a b d e =
    omega (
      arith,
      ints,
      term_linear row.constant a d b e,
      sum_linear n 0 (coefficient row.terms) x z a b,
      mul_add a (row.constant *ℤ d) (sum_from n 0 (λ u. coefficient row.terms u *ℤ x u)),
      mul_add b (row.constant *ℤ e) (sum_from n 0 (λ u. coefficient row.terms u *ℤ z u)),
    )

pub linear : (p : Program) (x z : ℕ → ℤ) (a b d e : ℤ) (j : ℕ) → value_of p (combined a x b z) (a *ℤ d +ℤ b *ℤ e) j ≡ combined a (value_of p x d) b (value_of p z e) j
linear p x z a b d e j =
    by_kind (length p.costs) j
    (λ h. value_cost p (combined a x b z) (a *ℤ d +ℤ b *ℤ e) j h ∙ sum_linear (length p.costs) 0 (λ v. pos (get_or p.costs v 0)) x z a b ∙ sym (both (value_cost p x d j h) (value_cost p z e j h)))
    (λ h k. value_own p (combined a x b z) (a *ℤ d +ℤ b *ℤ e) j h k ∙ sym (both (value_own p x d j h k) (value_own p z e j h k)))
    (λ h. value_slack p (combined a x b z) (a *ℤ d +ℤ b *ℤ e) j h ∙ row_linear (length p.costs) (slice_index_or p.rows (j - (1 + length p.costs)) empty_row) x z a b d e ∙ sym (both (value_slack p x d j h) (value_slack p z e j h)))
  where
    both : {m n k l : ℤ} → m ≡ k → n ≡ l → a *ℤ m +ℤ b *ℤ n ≡ a *ℤ k +ℤ b *ℤ l
    both f g = cc

-- of directions
pub linear_direction : (p : Program) (x z : ℕ → ℤ) (a b : ℤ) → value_of p (combined a x b z) (pos 0) ≡ combined a (value_of p x (pos 0)) b (value_of p z (pos 0))
linear_direction p x z a b = fun_ext (λ j. ap (λ (d : ℤ). value_of p (combined a x b z) d j) none ∙ linear p x z a b (pos 0) (pos 0) j)
  where
    none : pos 0 ≡ a *ℤ pos 0 +ℤ b *ℤ pos 0
    none = omega (arith, ints)

-- of values and a direction
pub linear_base : (p : Program) (x z : ℕ → ℤ) (a b d : ℤ) → value_of p (combined a x b z) (a *ℤ d) ≡ combined a (value_of p x d) b (value_of p z (pos 0))
linear_base p x z a b d = fun_ext (λ j. ap (λ (e : ℤ). value_of p (combined a x b z) e j) none ∙ linear p x z a b d (pos 0) j)
  where
    none : a *ℤ d ≡ a *ℤ d +ℤ b *ℤ pos 0
    none = omega (arith, ints)

-- ---- where all are 0
pub value_zero : (p : Program) (x : ℕ → ℤ) (j : ℕ) → ((v : ℕ) → v < length p.costs → x v ≡ pos 0) → value_of p x (pos 0) j ≡ pos 0
value_zero p x j h =
    by_kind (length p.costs) j
    (λ e. value_cost p x (pos 0) j e ∙ sum_from-zero (length p.costs) 0 (λ v. pos (get_or p.costs v 0) *ℤ x v) (λ u a l. zero_times (pos (get_or p.costs u 0)) (x u) (h u (omega (arith, l)))))
    (λ k l. value_own p x (pos 0) j k l ∙ h (j - 1) (omega (arith, k, l)))
    (λ k. value_slack p x (pos 0) j k ∙ row_zero (slice_index_or p.rows (j - (1 + length p.costs)) empty_row))
  where
    row_zero : (row : Row) → row_at (length p.costs) row x (pos 0) ≡ pos 0
    row_zero row =
        let sum : sum_from (length p.costs) 0 (λ v. coefficient row.terms v *ℤ x v) ≡ pos 0 = sum_from-zero (length p.costs) 0 (λ v. coefficient row.terms v *ℤ x v) (λ u a l. zero_times (coefficient row.terms u) (x u) (h u (omega (arith, l)))) in
        let constant : row.constant *ℤ pos 0 ≡ pos 0 = zero_times row.constant (pos 0) refl in
        omega (arith, ints, sum, constant)

-- a direction isn't 0 at all variables of the program
pub not_all_zero : (p : Program) (x : ℕ → ℤ) (j : ℕ) → pos 0 <ℤ value_of p x (pos 0) j → ((v : ℕ) → 0 ≤ v → v < 0 + (1 + length p.costs) → value_of p x (pos 0) v ≡ pos 0) → ⊥
not_all_zero p x j above all =
    let z = value_zero p x j (λ v l. ap x (back v) ∙ sym (value_own p x (pos 0) (v + 1) (omega arith) (omega (arith, l))) ∙ all (v + 1) (omega arith) (omega (arith, l))) in
    absurd (omega (arith, ints, above, z))
  where
    back : (v : ℕ) → v ≡ v + 1 - 1
    back v = omega arith
