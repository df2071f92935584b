use Rattle.std.proofs.Common.{arith, ◌≡◌, ap, sym, ◌∙◌, ◌<◌, length, subst}
use Rattle.std.proofs.lemmas.Result.{err_from_is_err_and}
use Rattle.std.proofs.lemmas.List.{with_items_is}
use Rattle.row_program.specs.Forms.{Table, next_form}
use Rattle.dual_theory.specs.Measures.{measure}
use Rattle.lex_dual.specs.Choices.{places_of}
use Rattle.lex_dual.specs.Reached.{IsReached}
use Rattle.dual_theory.proofs.Rising.{rises, none_twice, columns_positive}
use Rattle.dual_theory.proofs.Wide.{wide_size}
use Rattle.lex_dual.proofs.Reaching.{reached_form, reached_variables, reached_next, enters_nonbasic, leaves_not_cost, wide_next, falls}
use Rattle.lex_dual.proofs.method.solve_in.Goals as goal

pub returns-in_err-form-clause-rises : goal.returns-in_err-form-clause-rises
returns-in_err-form-clause-rises c = rises c.args.program.now

pub returns-in_err-form-clause-none_twice : goal.returns-in_err-form-clause-none_twice
returns-in_err-form-clause-none_twice c = none_twice c.args.program.now

pub returns-in_err-form-clause-columns : goal.returns-in_err-form-clause-columns
returns-in_err-form-clause-columns c = columns_positive c.args.program.now

pub returns-in_err-places-clause-rises : goal.returns-in_err-places-clause-rises
returns-in_err-places-clause-rises c = rises c.args.program.now

pub returns-in_err-places-clause-none_twice : goal.returns-in_err-places-clause-none_twice
returns-in_err-places-clause-none_twice c = none_twice c.args.program.now

pub returns-in_err-places-clause-columns : goal.returns-in_err-places-clause-columns
returns-in_err-places-clause-columns c = columns_positive c.args.program.now

pub returns-in_err-candidates-clause-rises : goal.returns-in_err-candidates-clause-rises
returns-in_err-candidates-clause-rises c = rises c.args.program.now

pub returns-in_err-candidates-clause-none_twice : goal.returns-in_err-candidates-clause-none_twice
returns-in_err-candidates-clause-none_twice c = none_twice c.args.program.now

pub returns-in_err-candidates-clause-columns : goal.returns-in_err-candidates-clause-columns
returns-in_err-candidates-clause-columns c = columns_positive c.args.program.now

pub returns-in_default-entering-clause-rises : goal.returns-in_default-entering-clause-rises
returns-in_default-entering-clause-rises c = rises c.args.program.now

pub returns-in_default-entering-clause-none_twice : goal.returns-in_default-entering-clause-none_twice
returns-in_default-entering-clause-none_twice c = none_twice c.args.program.now

pub returns-in_default-entering-clause-columns : goal.returns-in_default-entering-clause-columns
returns-in_default-entering-clause-columns c = columns_positive c.args.program.now

pub returns-in_err-form-2-clause-rises : goal.returns-in_err-form-2-clause-rises
returns-in_err-form-2-clause-rises c = rises c.args.program.now

pub returns-in_err-form-2-clause-none_twice : goal.returns-in_err-form-2-clause-none_twice
returns-in_err-form-2-clause-none_twice c = none_twice c.args.program.now

pub returns-in_err-form-2-clause-columns : goal.returns-in_err-form-2-clause-columns
returns-in_err-form-2-clause-columns c = columns_positive c.args.program.now

pub returns-clause-rises : goal.returns-clause-rises
returns-clause-rises c = rises c.args.program.now

pub returns-clause-none_twice : goal.returns-clause-none_twice
returns-clause-none_twice c = none_twice c.args.program.now

pub returns-clause-columns : goal.returns-clause-columns
returns-clause-columns c = columns_positive c.args.program.now

pub leaving-requires : goal.leaving-requires
leaving-requires c = reached_form c.args.program.now c.loop-row.form c.loop-row.invariant.reached

pub entering-requires-clause-form : goal.entering-requires-clause-form
entering-requires-clause-form c = reached_form c.args.program.now c.loop-row.form c.loop-row.invariant.reached

pub exchange-requires-clause-form : goal.exchange-requires-clause-form
exchange-requires-clause-form c = reached_form c.args.program.now c.loop-row.form c.loop-row.invariant.reached

pub entering-requires-clause-room : goal.entering-requires-clause-room
entering-requires-clause-room c = omega (arith, reached_variables c.args.program.now c.loop-row.form c.loop-row.invariant.reached, c.loop-row.invariant.room)

pub exchange-requires-clause-nonbasic : goal.exchange-requires-clause-nonbasic
exchange-requires-clause-nonbasic c = enters_nonbasic c.args.program.now c.loop-row.form c.loop-row.invariant.reached c.in-Some.row (sym c.in-Some.ensures.value) c.in-Some-entering.column (sym c.in-Some-entering.ensures.value)

pub pivot-requires-clause-not_cost : goal.pivot-requires-clause-not_cost
pivot-requires-clause-not_cost c = leaves_not_cost c.args.program.now c.loop-row.form c.loop-row.invariant.reached c.in-Some.row (sym c.in-Some.ensures.value)

pub pivot-requires-clause-nonbasic : goal.pivot-requires-clause-nonbasic
pivot-requires-clause-nonbasic c = enters_nonbasic c.args.program.now c.loop-row.form c.loop-row.invariant.reached c.in-Some.row (sym c.in-Some.ensures.value) c.in-Some-entering.column (sym c.in-Some-entering.ensures.value)

pub returns-in_err-form-2-clause-size : goal.returns-in_err-form-2-clause-size
returns-in_err-form-2-clause-size c =
    let size = wide_next c.args.program.now c.loop-row.form c.loop-row.invariant.reached c.in-Some.row (sym c.in-Some.ensures.value) c.in-Some-entering.column (sym c.in-Some-entering.ensures.value) c.in_err-form-2.field-0.0.size c.in_err-form-2.ensures.value in
    let q = err_from_is_err_and c.from_residual-in_err-form-2.result c.from_residual-in_err-form-2.ensures.1 in
    rw (q.1, q.2) size

pub returns-in_err-form-2-clause-wide : goal.returns-in_err-form-2-clause-wide
returns-in_err-form-2-clause-wide c =
    let size = wide_next c.args.program.now c.loop-row.form c.loop-row.invariant.reached c.in-Some.row (sym c.in-Some.ensures.value) c.in-Some-entering.column (sym c.in-Some-entering.ensures.value) c.in_err-form-2.field-0.0.size c.in_err-form-2.ensures.value in
    let q = err_from_is_err_and c.from_residual-in_err-form-2.result c.from_residual-in_err-form-2.ensures.1 in
    rw (q.1, q.2) (wide_size c.args.program.now c.in_err-form-2.field-0.0.size size)

pub loop-row-smaller : goal.loop-row-smaller
loop-row-smaller c =
    let next : c.in_ok-form-2.form ≡ next_form c.loop-row.form c.in-Some.row c.in-Some-entering.column = c.in_ok-form-2.ensures.value in
    subst (λ (t : Table). measure t < measure c.loop-row.form) (sym next) (falls c.args.program.now c.loop-row.form c.loop-row.invariant.reached c.in-Some.row (sym c.in-Some.ensures.value) c.in-Some-entering.column (sym c.in-Some-entering.ensures.value) c.in_ok-form-2.ensures.narrow)

pub loop-row-preserved : goal.loop-row-preserved
loop-row-preserved c =
    let p = c.args.program.now in
    let next : c.in_ok-form-2.form ≡ next_form c.loop-row.form c.in-Some.row c.in-Some-entering.column = c.in_ok-form-2.ensures.value in
    let same_length : length c.exchange.new.places ≡ c.loop-row.places.len = omega (arith, c.exchange.auto.places, c.as_mut_slice.ensures.len) in
    record {
      reached = subst (IsReached p) (sym next) (reached_next p c.loop-row.form c.loop-row.invariant.reached c.in-Some.row (sym c.in-Some.ensures.value) c.in-Some-entering.column (sym c.in-Some-entering.ensures.value) c.in_ok-form-2.ensures.narrow);
      places = with_items_is c.loop-row.places c.exchange.new.places same_length ∙ c.exchange.ensures ∙ ap places_of (sym next);
      room = omega (arith, reached_variables p c.loop-row.form c.loop-row.invariant.reached, c.entering.ensures.room);
    }
