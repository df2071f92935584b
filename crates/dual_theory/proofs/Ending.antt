-- Every run ends, in Best, in Never, or at a form with a large entry.
use Rattle.std.proofs.Common.{ℕ, zero, suc, ◌≡◌, ◌<◌, ◌≤◌, arith, ap, sym, ◌∙◌, inl, inr, ◌⊎◌, ⊎_elim, subst, None}
use Rattle.std.proofs.lemmas.Bool.{cases_eq}
use Rattle.row_program.specs.Forms.{Table, first_form, first_large_of}
use Rattle.row_program.specs.Method.{leaving, entering, run_of, IsBest, IsWide}
use Rattle.row_program.specs.declared.program.Program.{Program}
use Rattle.pivot_form.proofs.FirstForm.{first_narrow}
use Rattle.dual_theory.specs.Measures.{measure}
use Rattle.dual_theory.specs.Ends.{large_in_point, HasEnd}
use Rattle.dual_theory.specs.Runs.{GoesOn}
use Rattle.dual_theory.proofs.Found.{option_cases}
use Rattle.dual_theory.proofs.Chosen.{step_is_next, step_stays_best}
use Rattle.dual_theory.proofs.Runs.{run_kept}
use Rattle.dual_theory.proofs.Falling.{measure_falls}
use Rattle.dual_theory.proofs.Wide.{later_narrow, wide_size, not_wide_best, not_wide_never}

pub measure_falls_on : (p : Program) (k : ℕ) → GoesOn (run_of p k) → first_large_of (run_of p k).rows ≡ None → first_large_of (run_of p (suc k)).rows ≡ None → measure (run_of p (suc k)) < measure (run_of p k)
measure_falls_on p k goes narrow later =
    let is = step_is_next (run_of p k) goes.0 goes.1 goes.2 goes.3 in
    subst (λ (t : Table). measure t < measure (run_of p k)) (sym is) (measure_falls p (run_of p k) goes.0 goes.1 (run_kept p k) goes.2 goes.3 narrow (sym (ap (λ (t : Table). first_large_of t.rows) is) ∙ later))

abbrev IsNarrowTo : Program → ℕ → Type 0
IsNarrowTo p k = (j : ℕ) → j ≤ k → first_large_of (run_of p j).rows ≡ None

narrow_more : (p : Program) (k : ℕ) → IsNarrowTo p k → first_large_of (run_of p (suc k)).rows ≡ None → IsNarrowTo p (suc k)
narrow_more p k narrow later j h = ⊎_elim (λ (e : j ≡ suc k). ap (λ (i : ℕ). first_large_of (run_of p i).rows) e ∙ later) (λ apart. narrow j (omega (arith, h, apart))) (cases_eq j (suc k))

best_end : (p : Program) (k : ℕ) → IsNarrowTo p k → IsBest (run_of p k) → HasEnd p
best_end p k narrow best =
    ⊎_elim
    (λ none. inr (k, inl best, not_wide_best p k best narrow none))
    (λ some. inl (some.0, inr (k, best, later_narrow p k (step_stays_best (run_of p k) best) narrow, some.1)))
    (option_cases (large_in_point p (run_of p k)))

-- the run ends here, or goes on to a form without large entries
one_more : (p : Program) (k : ℕ) → IsNarrowTo p k → (GoesOn (run_of p k) → first_large_of (run_of p (suc k)).rows ≡ None → HasEnd p) → HasEnd p
one_more p k narrow on =
    ⊎_elim
    (λ best. best_end p k narrow best)
    (λ out. ⊎_elim
    (λ none. inr (k, inr (out.0, out.1, none), not_wide_never p k (out.0, out.1, none) narrow))
    (λ there. ⊎_elim
    (λ none. on (out.0, there.0, out.1, there.1) none)
    (λ some. inl (some.0, inl (suc k, some.1, λ j h. narrow j (omega (arith, h)))))
    (option_cases (first_large_of (run_of p (suc k)).rows)))
    (option_cases (entering (run_of p k) out.0)))
    (option_cases (leaving (run_of p k)))

-- with so much of the measure left
ends_from : (fuel : ℕ) (p : Program) (k : ℕ) → IsNarrowTo p k → measure (run_of p k) ≤ fuel → HasEnd p
ends_from zero p k narrow low = one_more p k narrow (λ goes later. absurd (let falls = measure_falls_on p k goes (narrow k (omega arith)) later in omega (arith, falls, low)))
ends_from (suc fuel) p k narrow low = one_more p k narrow (λ goes later. ends_from fuel p (suc k) (narrow_more p k narrow later) (let falls = measure_falls_on p k goes (narrow k (omega arith)) later in omega (arith, falls, low)))

pub ends : (p : Program) → HasEnd p
ends p = ends_from (measure (first_form p)) p 0 (λ j h. let z : j ≡ 0 = omega (arith, h) in ap (λ (i : ℕ). first_large_of (run_of p i).rows) z ∙ first_narrow p) (omega arith)

pub wide_or_not : (p : Program) → IsWide p ⊎ (IsWide p → ⊥)
wide_or_not p = ⊎_elim (λ wide. inl (wide_size p wide.0 wide.1)) (λ other. inr other.2) (ends p)
