use Rattle.std.proofs.Common.{arith, ℕ, ◌≡◌, ap, sym, ◌∙◌, subst, rules, length, List, Some}
use Rattle.std.specs.Prelude.{ℤ, ◌*ℤ◌}
use Rattle.std.proofs.lemmas.Int.{ints, to_z-of_z}
use Rattle.std.specs.Int.RustNames.{FitsSigned}
use mir.Syntax.{w64}
use mir.Val.{to_z, of_z}
use Rattle.row_program.specs.Forms.{Table, entry, right_side}
use Rattle.std.proofs.lemmas.Result.{err_from_is_err_and}
use Rattle.row_program.specs.Points.{IsLeastPoint}
use Rattle.row_program.specs.Method.{IsBest, IsWide}
use Rattle.dual_theory.proofs.Wide.{wide_size}
use Rattle.dual_theory.specs.Ends.{IsWideSize, large_in_point, point_whole}
use Rattle.dual_theory.specs.Multipliers.{IsLowest, slack_sizes, multipliers_of, BoundsCost}
use Rattle.dual_theory.proofs.Unique.{same_cost}
use Rattle.dual_theory.proofs.Shown.{same_bound, lowest_is}
use Rattle.lex_dual.proofs.Points.{if_wide}
use Rattle.lex_dual.proofs.Reaching.{reached_form, reached_variables, reached_height, reached_places, cost_entry, wide_point, least_cost, least_point, bounds_cost, not_wide_at_best, each_multiplier}
use Rattle.lex_dual.proofs.method.best.Goals as goal

pub right-requires : goal.right-requires
right-requires c = reached_height c.args.program.now c.args.form.now c.requires.reached

pub entry-requires-clause-row : goal.entry-requires-clause-row
entry-requires-clause-row c = reached_height c.args.program.now c.args.form.now c.requires.reached

pub entry-requires-clause-column : goal.entry-requires-clause-column
entry-requires-clause-column c = omega (arith, reached_variables c.args.program.now c.args.form.now c.requires.reached)

pub new-value-requires : goal.new-value-requires
new-value-requires c =
    let fits : FitsSigned w64 c.entry.result = search rules in
    let above = cost_entry c.args.program.now c.args.form.now c.requires.reached in
    omega (arith, ints, above, c.entry.ensures)

pub multipliers-requires-clause-form : goal.multipliers-requires-clause-form
multipliers-requires-clause-form c = reached_form c.args.program.now c.args.form.now c.requires.reached

pub multipliers-requires-clause-variables : goal.multipliers-requires-clause-variables
multipliers-requires-clause-variables c = reached_variables c.args.program.now c.args.form.now c.requires.reached

pub multipliers-requires-clause-row : goal.multipliers-requires-clause-row
multipliers-requires-clause-row c = reached_height c.args.program.now c.args.form.now c.requires.reached

pub point-requires-clause-form : goal.point-requires-clause-form
point-requires-clause-form c = reached_form c.args.program.now c.args.form.now c.requires.reached

pub point-requires-clause-variables : goal.point-requires-clause-variables
point-requires-clause-variables c = reached_places c.args.program.now c.args.form.now c.requires.reached c.args.places.now c.requires.places

pub returns-in_err-point-clause-size : goal.returns-in_err-point-clause-size
returns-in_err-point-clause-size c =
    let p = c.args.program.now in
    let t = c.args.form.now in
    let q = err_from_is_err_and c.from_residual-in_err-point.result c.from_residual-in_err-point.ensures.1 in
    rw (q.1, q.2) (if_wide (λ (size : ℕ). large_in_point p t ≡ Some size) (IsWideSize p) c.in_err-point.field-0.0 (λ size some. wide_point p t c.requires.reached c.requires.best size some) c.in_err-point.ensures.numbers)

pub returns-in_err-point-clause-wide : goal.returns-in_err-point-clause-wide
returns-in_err-point-clause-wide c =
    let p = c.args.program.now in
    let t = c.args.form.now in
    let q = err_from_is_err_and c.from_residual-in_err-point.result c.from_residual-in_err-point.ensures.1 in
    rw (q.1, q.2) (if_wide (λ (size : ℕ). large_in_point p t ≡ Some size) (λ (size : ℕ). IsWide p) c.in_err-point.field-0.0 (λ size some. wide_size p size (wide_point p t c.requires.reached c.requires.best size some)) c.in_err-point.ensures.numbers)

-- the value, in lowest terms, is that of the cost
same_value : (num den a b r e : ℤ) → FitsSigned w64 r → FitsSigned w64 e → a *ℤ to_z w64 (of_z w64 e) ≡ to_z w64 (of_z w64 r) *ℤ b → r ≡ num → e ≡ den → a *ℤ den ≡ num *ℤ b
same_value num den a b r e fr fe h i j =
    let value : a *ℤ e ≡ r *ℤ b = simp to_z-of_z at h in
    ap (λ (x : ℤ). a *ℤ x) (sym j) ∙ value ∙ ap (λ (x : ℤ). x *ℤ b) i

pub returns-clause-cost : goal.returns-clause-cost
returns-clause-cost c =
    let p = c.args.program.now in
    let t = c.args.form.now in
    let value = same_value (right_side t 0) (entry t 0 0) c.new-value.result.num c.new-value.result.den c.right.result c.entry.result (search rules) (search rules) c.new-value.ensures c.right.ensures c.entry.ensures in
    same_cost p (right_side t 0) (entry t 0 0) c.new-value.result.num c.new-value.result.den (least_cost p t c.requires.reached c.requires.best) c.new-value.result.positive value

pub returns-clause-point : goal.returns-clause-point
returns-clause-point c =
    let p = c.args.program.now in
    let t = c.args.form.now in
    subst (λ (whole : List ℕ). IsLeastPoint p whole c.in_ok-point.point.den) (sym c.in_ok-point.ensures.numbers) (subst (IsLeastPoint p (point_whole p t)) (sym c.in_ok-point.ensures.den) (least_point p t c.requires.reached c.requires.best))

pub returns-clause-shown : goal.returns-clause-shown
returns-clause-shown c =
    let p = c.args.program.now in
    let t = c.args.form.now in
    let value = same_value (right_side t 0) (entry t 0 0) c.new-value.result.num c.new-value.result.den c.right.result c.entry.result (search rules) (search rules) c.new-value.ensures c.right.ensures c.entry.ensures in
    subst (λ (ms : List ℕ). BoundsCost p ms c.new-value.result.num c.new-value.result.den) (sym c.in_ok-multipliers.ensures)
    (same_bound p (multipliers_of p t 0) (right_side t 0) (entry t 0 0) c.new-value.result.num c.new-value.result.den (bounds_cost p t c.requires.reached c.requires.best) (cost_entry p t c.requires.reached) c.new-value.result.positive value)

pub returns-clause-each_row : goal.returns-clause-each_row
returns-clause-each_row c = ap length c.in_ok-multipliers.ensures ∙ each_multiplier c.args.program.now c.args.form.now 0

pub returns-clause-lowest : goal.returns-clause-lowest
returns-clause-lowest c = subst IsLowest (sym c.in_ok-multipliers.ensures) (lowest_is (slack_sizes c.args.program.now c.args.form.now 0))

pub returns-clause-narrow : goal.returns-clause-narrow
returns-clause-narrow c = not_wide_at_best c.args.program.now c.args.form.now c.requires.reached c.requires.best c.in_ok-point.ensures.none

pub returns-clause-read : goal.returns-clause-read
returns-clause-read c =
    let p = c.args.program.now in
    let reached = c.requires.reached in
    (reached.pivots, subst IsBest reached.is c.requires.best, c.in_ok-multipliers.ensures ∙ ap (λ (t : Table). multipliers_of p t 0) reached.is)
