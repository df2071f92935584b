use Rattle.std.proofs.Common.{ℕ, ◌≡◌, ◌<◌, List, Bool, true, false, Some, None, cond, length, get_or, ap, sym, subst, ◌∙◌, arith, rules}
use Rattle.std.specs.Prelude.{pos, nat_lt, int_lt}
use Rattle.std.specs.List.{position}
use mir.Val.{SFits}
use mir.Syntax.{w128}
use Rattle.std.proofs.lemmas.Bool.Decides.{nat_tests}
use Rattle.std.proofs.lemmas.Int.{to_z-of_z}
use Rattle.std.proofs.lemmas.List.Sums.{position_or_len_is}
use Rattle.row_program.specs.Forms.{empty_row}
use Rattle.row_program.specs.declared.program.Row.{Row}
use Rattle.dual_bound.specs.CellCuts.{is_broken}
use Rattle.dual_bound.proofs.cell_rows.first_broken.Goals as goal

first_at : (p : Row → Bool) (xs : List Row) (r : ℕ) (d : Row) → r < length xs → ((k : ℕ) → k < r → p (get_or xs k d) ≡ false) → p (get_or xs r d) ≡ true → position p xs ≡ Some r
first_at p xs r d lt fails on =
    let at = position_or_len_is p xs r d (omega (arith, lt)) fails (λ _. on) in
    let t : nat_lt r (length xs) ≡ true = grind (arith, nat_tests) in
    ap (λ n. cond (nat_lt n (length xs)) (Some n) None) at ∙ ap (λ b. cond b (Some r) None) t

nowhere : (p : Row → Bool) (xs : List Row) (d : Row) → ((k : ℕ) → k < length xs → p (get_or xs k d) ≡ false) → position p xs ≡ None
nowhere p xs d fails =
    let at = position_or_len_is p xs (length xs) d (omega arith) fails (λ lt. absurd (omega (arith, lt))) in
    let t : nat_lt (length xs) (length xs) ≡ false = grind (arith, nat_tests) in
    ap (λ n. cond (nat_lt n (length xs)) (Some n) None) at ∙ ap (λ b. cond b (Some (length xs)) None) t

pub returns-then-value_at-lt0 : goal.returns-then-value_at-lt0
returns-then-value_at-lt0 c =
    let row = c.index-rows-r.result in
    let fits : SFits w128 c.value_at.result = search rules in
    let less : int_lt c.value_at.result (pos 0) ≡ true = simp to_z-of_z at c.if-value_at-lt0.true in
    let on : is_broken c.args.values.now row ≡ true = subst (λ z. int_lt z (pos 0) ≡ true) c.value_at.ensures less in
    sym (first_at (is_broken c.args.values.now) c.args.rows.now c.loop-r.r row c.loop-r-test.true (λ k lt. c.loop-r.invariant k row lt) (subst (λ x. is_broken c.args.values.now x ≡ true) c.index-rows-r.is on))

pub returns : goal.returns
returns c =
    sym (nowhere (is_broken c.args.values.now) c.args.rows.now empty_row (λ k lt. c.loop-r.invariant k empty_row (omega (arith, lt, c.loop-r-test.false, c.loop-r.auto.r-end))))
