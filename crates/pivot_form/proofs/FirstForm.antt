-- The first form of a program.
use Rattle.std.proofs.Common.{ℕ, zero, suc, ◌≡◌, ◌≢◌, ◌<◌, ◌≤◌, ◌+◌, ◌-◌, ◌^◌, arith, refl, ap, sym, ◌∙◌, List, [], ◌∷◌, length, get_or, subst, ⊎_elim, cond, None}
use Rattle.std.specs.Prelude.{ℤ, pos, ◌<ℤ◌, unsigned_abs, slice_index_or, ◌==◌}
use lib.IntN.{neg_ℤ}
use Prim.Native.Nat.{◌∣◌}
use Rattle.std.specs.List.{All, AllPairs}
use Rattle.std.proofs.lemmas.Int.{ints}
use Rattle.std.proofs.lemmas.Bool.{cases_lt, cases_eq}
use Rattle.std.proofs.lemmas.Bool.Decides.{nat_tests}
use Rattle.std.proofs.lemmas.List.{get_or_past}
use Rattle.std.proofs.lemmas.List.FromFn.{get_or-map-range_with_len, length-map-range_with_len}
use Rattle.std.proofs.Math.Nat.{eq-one_of_dvd-one}
use Rattle.row_program.specs.declared.program.Term.{Term}
use Rattle.row_program.specs.declared.program.Row.{Row}
use Rattle.row_program.specs.declared.program.Program.{Program}
use Rattle.row_program.specs.Bounds.{IsRow}
use Rattle.row_program.specs.Forms.{entry, row_of, basic_of, tableau, IsSolved, IsReduced, first_large_of, coefficient, variable_count, empty_row, cost_entry, slack_entry, first_entry, first_basic, first_row, first_form}
use Rattle.pivot_form.specs.Invariant.{IsEquation, IsForm}
use Rattle.pivot_form.proofs.Equations.{all_at, none_from_small_rows}

-- ---- coefficients
pub coefficient_none : (terms : List Term) (v : ℕ) → All (λ t. t.variable ≢ v) terms → coefficient terms v ≡ pos 0
coefficient_none [] v a = refl
coefficient_none (t ∷ terms) v a =
    let apart : t.variable ≢ v = a zero t (omega arith) in
    let rest = coefficient_none terms v (λ k d h. a (suc k) d (omega (arith, h))) in
    let first : cond (t.variable == v) t.times (pos 0) ≡ pos 0 = grind (arith, nat_tests) in
    omega (arith, ints, first, rest)

tail_apart : (t : Term) (terms : List Term) → AllPairs (λ s u. s.variable ≢ u.variable) (t ∷ terms) → All (λ u. u.variable ≢ t.variable) terms
tail_apart t terms p = λ k d h. λ e. p zero (suc k) d (omega arith) (omega (arith, h)) (sym e)

pub coefficient_small : (terms : List Term) (v : ℕ) → AllPairs (λ s t. s.variable ≢ t.variable) terms → All (λ t. unsigned_abs t.times < 2 ^ 31) terms → unsigned_abs (coefficient terms v) < 2 ^ 31
coefficient_small [] v p a = omega arith
coefficient_small (t ∷ terms) v p a =
    ⊎_elim
    (λ (e : t.variable ≡ v).
    let first : cond (t.variable == v) t.times (pos 0) ≡ t.times = grind (arith, nat_tests) in
    let rest : coefficient terms v ≡ pos 0 = coefficient_none terms v (subst (λ (x : ℕ). All (λ u. u.variable ≢ x) terms) e (tail_apart t terms p)) in
    omega (arith, ints, first, rest, a zero t (omega arith)))
    (λ apart.
    let first : cond (t.variable == v) t.times (pos 0) ≡ pos 0 = grind (arith, nat_tests) in
    let rest = coefficient_small terms v (λ i j d h k. p (suc i) (suc j) d (omega (arith, h)) (omega (arith, k))) (λ k d h. a (suc k) d (omega (arith, h))) in
    omega (arith, ints, first, rest))
    (cases_eq t.variable v)

-- ---- entries
pub cost_own : (costs : List ℕ) (j : ℕ) → j ≡ 0 → cost_entry costs j ≡ pos 1
cost_own costs j h = grind (arith, nat_tests)

pub cost_at : (costs : List ℕ) (j : ℕ) → 0 < j → cost_entry costs j ≡ neg_ℤ (pos (get_or costs (j - 1) 0))
cost_at costs j h = grind (arith, nat_tests)

pub cost_past : (costs : List ℕ) (j : ℕ) → length costs < j → cost_entry costs j ≡ pos 0
cost_past costs j h = cost_at costs j (omega arith) ∙ ap (λ (n : ℕ). neg_ℤ (pos n)) (get_or_past costs (j - 1) 0 (omega arith))

pub slack_first : (n m i : ℕ) (row : Row) (j : ℕ) → j ≡ 0 → slack_entry n m i row j ≡ pos 0
slack_first n m i row j h = grind (arith, nat_tests)

pub slack_variable : (n m i : ℕ) (row : Row) (j : ℕ) → 0 < j → j ≤ n → slack_entry n m i row j ≡ neg_ℤ (coefficient row.terms (j - 1))
slack_variable n m i row j h k = grind (arith, nat_tests)

pub slack_constant : (n m i : ℕ) (row : Row) (j : ℕ) → j ≡ 1 + n + m → slack_entry n m i row j ≡ row.constant
slack_constant n m i row j h = grind (arith, nat_tests)

pub slack_own : (n m i : ℕ) (row : Row) (j : ℕ) → i < m → j ≡ 1 + n + i → slack_entry n m i row j ≡ pos 1
slack_own n m i row j h k = grind (arith, nat_tests)

pub slack_other : (n m i : ℕ) (row : Row) (j : ℕ) → n < j → j ≢ 1 + n + m → j ≢ 1 + n + i → slack_entry n m i row j ≡ pos 0
slack_other n m i row j h k l = grind (arith, nat_tests)

cost_small : (costs : List ℕ) (j : ℕ) → All (λ c. c ≤ 1) costs → unsigned_abs (cost_entry costs j) < 2 ^ 63
cost_small costs j a =
    ⊎_elim
    (λ e. let is = cost_own costs j e in omega (arith, ints, is))
    (λ apart. ⊎_elim
    (λ (inside : j - 1 < length costs). let is = cost_at costs j (omega (arith, apart)) in omega (arith, ints, is, a (j - 1) 0 inside))
    (λ (past : length costs ≤ j - 1). let is = cost_past costs j (omega (arith, past, apart)) in omega (arith, ints, is))
    (cases_lt (j - 1) (length costs)))
    (cases_eq j 0)

slack_small : (n m i : ℕ) (row : Row) (j : ℕ) → i < m → IsRow n row → unsigned_abs (slack_entry n m i row j) < 2 ^ 63
slack_small n m i row j h good =
    ⊎_elim
    (λ e. let is = slack_first n m i row j e in omega (arith, ints, is))
    (λ apart. ⊎_elim
    (λ (inside : j < n + 1). let is = slack_variable n m i row j (omega (arith, apart)) (omega (arith, inside)) in omega (arith, ints, is, coefficient_small row.terms (j - 1) good.one_each good.small_terms))
    (λ (past : n + 1 ≤ j). ⊎_elim
    (λ e. let is = slack_constant n m i row j e in omega (arith, ints, is, good.small_constant))
    (λ off. ⊎_elim
    (λ e. let is = slack_own n m i row j h e in omega (arith, ints, is))
    (λ away. let is = slack_other n m i row j (omega (arith, past)) off away in omega (arith, ints, is))
    (cases_eq j (1 + n + i)))
    (cases_eq j (1 + n + m)))
    (cases_lt j (n + 1)))
    (cases_eq j 0)

pub row_at : (p : Program) (i : ℕ) → i < length p.rows + 1 → row_of (first_form p) i ≡ first_row p i
row_at p i h = get_or-map-range_with_len (first_row p) 0 (length p.rows + 1) i i [] h (omega arith)

pub row_entry : (p : Program) (i j : ℕ) → j < variable_count p + 1 → get_or (first_row p i) j (pos 0) ≡ first_entry p i j
row_entry p i j l = get_or-map-range_with_len (first_entry p i) 0 (variable_count p + 1) j j (pos 0) l (omega arith)

pub first_at : (p : Program) (i j : ℕ) → i < length p.rows + 1 → j < variable_count p + 1 → entry (first_form p) i j ≡ first_entry p i j
first_at p i j h l = ap (λ (row : List ℤ). get_or row j (pos 0)) (row_at p i h) ∙ row_entry p i j l

pub basic_at : (p : Program) (i : ℕ) → i < length p.rows + 1 → basic_of (first_form p) i ≡ first_basic (length p.costs) i
basic_at p i h = get_or-map-range_with_len (first_basic (length p.costs)) 0 (length p.rows + 1) i i 0 h (omega arith)

pub height_is : (p : Program) → length (first_form p).rows ≡ length p.rows + 1
height_is p = length-map-range_with_len (first_row p) 0 (length p.rows + 1)

-- ---- each equation is solved for its basic variable
basic_within : (n m i : ℕ) → i < m + 1 → first_basic n i < 1 + n + m
basic_within n m zero h = omega arith
basic_within n m (suc i) h = omega (arith, h)

own_entry : (p : Program) (i : ℕ) → i < length p.rows + 1 → first_entry p i (first_basic (length p.costs) i) ≡ pos 1
own_entry p zero h = cost_own p.costs 0 refl
own_entry p (suc i) h = slack_own (length p.costs) (length p.rows) i (slice_index_or p.rows i empty_row) (1 + length p.costs + i) (omega (arith, h)) refl

other_entry : (p : Program) (i k : ℕ) → i < length p.rows + 1 → k < length p.rows + 1 → k ≢ i → first_entry p k (first_basic (length p.costs) i) ≡ pos 0
other_entry p zero zero h l apart = absurd (apart refl)
other_entry p zero (suc k) h l apart = slack_first (length p.costs) (length p.rows) k (slice_index_or p.rows k empty_row) 0 refl
other_entry p (suc i) zero h l apart = cost_past p.costs (1 + length p.costs + i) (omega arith)
other_entry p (suc i) (suc k) h l apart = slack_other (length p.costs) (length p.rows) k (slice_index_or p.rows k empty_row) (1 + length p.costs + i) (omega arith) (λ e. absurd (omega (arith, h, e))) (λ e. apart (omega (arith, e)))

pub first_solved : (p : Program) → IsSolved (tableau (first_form p))
first_solved p = record {
  within = λ i h. subst (λ (b : ℕ). b < variable_count p) (sym (basic_at p i (low i h))) (basic_within (length p.costs) (length p.rows) i (low i h));
  positive = λ i h. subst (λ (x : ℤ). pos 0 <ℤ x) (sym (at_basic i i (low i h) (low i h) ∙ own_entry p i (low i h))) (omega (arith, ints));
  clear = λ i k h l apart. at_basic i k (low i h) (low k l) ∙ other_entry p i k (low i h) (low k l) apart;
}
  where
    low : (i : ℕ) → i < length (first_form p).rows → i < length p.rows + 1
    low i h = omega (arith, h, height_is p)

    at_basic : (i k : ℕ) → i < length p.rows + 1 → k < length p.rows + 1 → entry (first_form p) k (basic_of (first_form p) i) ≡ first_entry p k (first_basic (length p.costs) i)
    at_basic i k h l = ap (λ (b : ℕ). entry (first_form p) k b) (basic_at p i h) ∙ first_at p k (first_basic (length p.costs) i) l (omega (arith, basic_within (length p.costs) (length p.rows) i h))

-- ---- the equations
entry_small : (p : Program) (i j : ℕ) → i < length p.rows + 1 → unsigned_abs (first_entry p i j) < 2 ^ 63
entry_small p zero j h = cost_small p.costs j p.bounds.small_costs
entry_small p (suc i) j h = slack_small (length p.costs) (length p.rows) i (slice_index_or p.rows i empty_row) j (omega (arith, h)) (p.bounds.good_rows i empty_row (omega (arith, h)))

pub first_equation : (p : Program) (i : ℕ) → i < length p.rows + 1 → IsEquation (variable_count p) (first_row p i)
first_equation p i h = record {
  width = wide;
  small = all_at (λ x. unsigned_abs x < 2 ^ 63) (first_row p i) (λ k l. subst (λ (x : ℤ). unsigned_abs x < 2 ^ 63) (sym (row_entry p i k (omega (arith, l, wide)))) (entry_small p i k h));
  primitive = λ d all. eq-one_of_dvd-one (subst (λ (n : ℕ). d ∣ n) (ap unsigned_abs (row_entry p i (first_basic (length p.costs) i) (omega (arith, basic_within (length p.costs) (length p.rows) i h)) ∙ own_entry p i h)) (all (first_basic (length p.costs) i) (pos 0) (omega (arith, wide, basic_within (length p.costs) (length p.rows) i h))));
}
  where
    wide : length (first_row p i) ≡ variable_count p + 1
    wide = length-map-range_with_len (first_entry p i) 0 (variable_count p + 1)

pub first_is_form : (p : Program) → IsForm (first_form p)
first_is_form p = record {
  equations = λ k d h. subst (IsEquation (variable_count p)) (sym (get_or-map-range_with_len (first_row p) 0 (length p.rows + 1) k k d (omega (arith, h, height_is p)) (omega arith))) (first_equation p k (omega (arith, h, height_is p)));
  basics = length-map-range_with_len (first_basic (length p.costs)) 0 (length p.rows + 1) ∙ sym (height_is p);
  solved = first_solved p;
}

pub first_reduced : (p : Program) → IsReduced (first_form p)
first_reduced p k d h = let form = first_is_form p in let e = form.equations k d h in (e.width, e.primitive)

pub first_narrow : (p : Program) → first_large_of (first_form p).rows ≡ None
first_narrow p = none_from_small_rows (first_form p).rows (λ k d h. let form = first_is_form p in let e = form.equations k d h in e.small)

-- ---- the equations as code makes them
pub basic_more : (variables i j : ℕ) → i + 1 ≡ j → first_basic variables j ≡ 1 + variables + i
basic_more variables i zero e = absurd (omega (arith, e))
basic_more variables i (suc j) e = omega (arith, e)
