-- Forms that the method reaches by forms without large entries.
use Rattle.std.proofs.Common.{ℕ, suc, ◌≡◌, ◌≢◌, ◌<◌, ◌+◌, ◌/◌, arith, refl, ap, sym, ◌∙◌, subst, List, [], length, None, Some, inl, inr, ⊎_elim}
use Rattle.std.specs.Prelude.{pos, Option, unsigned_abs, ◌<ℤ◌}
use Rattle.std.proofs.lemmas.Bool.{cases_eq}
use Rattle.std.proofs.lemmas.List.{get_or_default, length-map}
use Rattle.std.proofs.lemmas.List.FromFn.{length-map-range_with_len}
use Rattle.row_program.specs.declared.program.Program.{Program}
use Rattle.row_program.specs.Points.{IsPoint, IsLeastCost, IsLeastPoint}
use Rattle.row_program.specs.Forms.{Table, entry, right_side, tableau, first_form, next_form, first_large_of, variable_count, basic_of, IsNonbasic}
use Rattle.row_program.specs.Method.{leaving, entering, run_of, step, IsBest, IsNever, IsWide}
use Rattle.pivot_form.specs.Invariant.{IsForm, IsEquation}
use Rattle.pivot_form.proofs.Equations.{small_rows_from_none}
use Rattle.dual_theory.proofs.FormValues.{IsRun}
use Rattle.dual_theory.specs.Ends.{IsWideSize, large_in_point, point_whole, point_den}
use Rattle.dual_theory.specs.Multipliers.{multipliers_of, slack_sizes, divisor_of, BoundsCost, RulesOut}
use Rattle.dual_theory.proofs.Wide.{not_wide_best, not_wide_never, later_narrow}
use Rattle.dual_theory.specs.Measures.{measure}
use Rattle.dual_theory.proofs.Runs.{run_kept, value_count_is, leaving_not_cost}
use Rattle.dual_theory.proofs.Chosen.{leaving_row, entering_column, entering_negative, entering_free, step_is_next, step_stays_best}
use Rattle.dual_theory.proofs.Falling.{measure_falls}
use Rattle.dual_theory.proofs.CallerLemmas.{IsLeastCost_at_best, IsLeastPoint_at_best, BoundsCost_at_best, no_point_at_never, RulesOut_at_never}
use Rattle.lex_dual.specs.Choices.{places_of}
use Rattle.lex_dual.specs.Reached.{IsReached}
use Rattle.lex_dual.proofs.Tables.{length-places_of}

pub form_of : (p : Program) (t : Table) → IsRun p t → first_large_of t.rows ≡ None → IsForm t
form_of p t run none = record {
  equations = λ k d h. subst (IsEquation t.variables) (sym (get_or_default t.rows k d [] h)) (record { width = run.shape.widths k h; small = small_rows_from_none t.rows none k [] h; primitive = run.reduced k h });
  basics = run.shape.basics;
  solved = run.shape.solved;
}

module _ (p : Program) (t : Table) (reached : IsReached p t) where
  pub reached_run : IsRun p t
  reached_run = subst (IsRun p) (sym reached.is) (run_kept p reached.pivots)

  pub reached_narrow : first_large_of t.rows ≡ None
  reached_narrow = ap (λ (u : Table). first_large_of u.rows) reached.is ∙ reached.narrow reached.pivots (omega arith)

  pub reached_form : IsForm t
  reached_form = form_of p t reached_run reached_narrow

  pub reached_variables : t.variables ≡ variable_count p
  reached_variables = let run = reached_run in run.variables

  pub reached_height : 0 < length t.rows
  reached_height = let run = reached_run in omega (arith, run.height)

  pub reached_places : (places : List (Option ℕ)) → places ≡ places_of t → length places ≡ 1 + length p.costs
  reached_places places e = ap length e ∙ length-places_of t ∙ value_count_is p t reached_run

  pub cost_entry : pos 0 <ℤ entry t 0 0
  cost_entry = let run = reached_run in subst (λ (k : ℕ). pos 0 <ℤ entry t 0 k) run.cost_first (run.shape.solved.positive 0 reached_height)

  pub wide_point : IsBest t → (size : ℕ) → large_in_point p t ≡ Some size → IsWideSize p size
  wide_point best size some =
      let there : IsBest (run_of p reached.pivots) = subst IsBest reached.is best in
      inr (reached.pivots, there, later_narrow p reached.pivots (step_stays_best (run_of p reached.pivots) there) reached.narrow, sym (ap (large_in_point p) reached.is) ∙ some)

  -- ---- what the last form says
  best_run : IsBest t → IsBest (run_of p reached.pivots)
  best_run best = subst IsBest reached.is best

  pub least_cost : IsBest t → IsLeastCost p (right_side t 0) (entry t 0 0)
  least_cost best = subst (λ (u : Table). IsLeastCost p (right_side u 0) (entry u 0 0)) (sym reached.is) (IsLeastCost_at_best p reached.pivots (best_run best))

  pub least_point : IsBest t → IsLeastPoint p (point_whole p t) (point_den p t)
  least_point best = subst (λ (u : Table). IsLeastPoint p (point_whole p u) (point_den p u)) (sym reached.is) (IsLeastPoint_at_best p reached.pivots (best_run best))

  pub bounds_cost : IsBest t → BoundsCost p (multipliers_of p t 0) (right_side t 0) (entry t 0 0)
  bounds_cost best = subst (λ (u : Table). BoundsCost p (multipliers_of p u 0) (right_side u 0) (entry u 0 0)) (sym reached.is) (BoundsCost_at_best p reached.pivots (best_run best))

  pub not_wide_at_best : IsBest t → large_in_point p t ≡ None → IsWide p → ⊥
  not_wide_at_best best none = not_wide_best p reached.pivots (subst IsBest reached.is best) reached.narrow (sym (ap (large_in_point p) reached.is) ∙ none)

  module _ (r : ℕ) (leaves : leaving t ≡ Some r) where
    pub not_wide_at_never : entering t r ≡ None → IsWide p → ⊥
    not_wide_at_never none = not_wide_never p reached.pivots (subst IsNever reached.is (r, leaves, none)) reached.narrow

    abbrev never_run : entering t r ≡ None → IsNever (run_of p reached.pivots)
    never_run none = (r, subst (λ (u : Table). leaving u ≡ Some r) reached.is leaves, subst (λ (u : Table). entering u r ≡ None) reached.is none)

    pub no_point : entering t r ≡ None → (whole : List ℕ) (den : ℕ) → IsPoint p whole den → ⊥
    no_point none = no_point_at_never p reached.pivots (never_run none)

    pub rules_out : entering t r ≡ None → RulesOut p (multipliers_of p t r)
    rules_out none = subst (λ (u : Table). RulesOut p (multipliers_of p u r)) (sym reached.is) (RulesOut_at_never p reached.pivots (never_run none))

    pub leaves_within : r < length t.rows
    leaves_within = let run = reached_run in leaving_row t r run.shape.basics leaves

    pub leaves_not_cost : basic_of t r ≢ 0
    leaves_not_cost = let both = leaving_not_cost p t r reached_run leaves in both.1

    module _ (c : ℕ) (enters : entering t r ≡ Some c) where
      pub enters_within : c < t.variables
      enters_within = entering_column t r c enters

      pub enters_nonbasic : IsNonbasic (tableau t) c
      enters_nonbasic = let run = reached_run in entering_free t r c run.shape.solved leaves_within (entering_negative t r c enters)

      next_is : next_form t r c ≡ run_of p (suc reached.pivots)
      next_is = sym (step_is_next t r c leaves enters) ∙ ap step reached.is

      pub reached_next : first_large_of (next_form t r c).rows ≡ None → IsReached p (next_form t r c)
      reached_next none = record {
        pivots = suc reached.pivots;
        is = next_is;
        narrow = λ j h. ⊎_elim
            (λ (at : j ≡ suc reached.pivots). ap (λ (k : ℕ). first_large_of (run_of p k).rows) at ∙ sym (ap (λ (u : Table). first_large_of u.rows) next_is) ∙ none)
            (λ before. reached.narrow j (omega (arith, h, before)))
            (cases_eq j (suc reached.pivots));
      }

      pub wide_next : (size : ℕ) → first_large_of (next_form t r c).rows ≡ Some size → IsWideSize p size
      wide_next size some = inl (suc reached.pivots, sym (ap (λ (u : Table). first_large_of u.rows) next_is) ∙ some, λ j h. reached.narrow j (omega (arith, h)))

      pub falls : first_large_of (next_form t r c).rows ≡ None → measure (next_form t r c) < measure t
      falls none = measure_falls p t r c reached_run leaves enters reached_narrow none

pub reached_first : (p : Program) → first_large_of (first_form p).rows ≡ None → IsReached p (first_form p)
reached_first p none = record { pivots = 0; is = refl; narrow = λ j h. let at : j ≡ 0 = omega (arith, h) in ap (λ (k : ℕ). first_large_of (run_of p k).rows) at ∙ none }

pub each_multiplier : (p : Program) (t : Table) (row : ℕ) → length (multipliers_of p t row) ≡ p.kept
each_multiplier p t row = length-map (slack_sizes p t row) (λ x. x / divisor_of (slack_sizes p t row)) ∙ length-map-range_with_len (λ i. unsigned_abs (entry t row (1 + length p.costs + i))) 0 p.kept
