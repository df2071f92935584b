use Rattle.std.proofs.Common.{arith, rules, ◌≡◌, ◌∙◌, ap, sym, take, get_or, List}
use Rattle.std.specs.Prelude.{ℤ, pos}
use Rattle.std.specs.List.{fold}
use Rattle.std.specs.Int.RustNames.{FitsSigned}
use Rattle.std.proofs.lemmas.Int.{ints, to_z-of_z}
use Rattle.std.proofs.lemmas.List.{take_all}
use mir.Syntax.{w64}
use Rattle.exact_num.specs.Divisors.{gcd_with}
use Rattle.pivot_form.proofs.SmallRows.{started, stays_one}
use Rattle.pivot_form.proofs.small_rows.row_divisor.Goals as goal

pub returns-then-divisor-eq1 : goal.returns-then-divisor-eq1
returns-then-divisor-eq1 c =
    let row = c.args.row.now in
    let g = gcd_with 0 (get_or row c.args.own (pos 0)) in
    let front : fold gcd_with g (take c.loop-x.x-index row) ≡ 1 = omega (arith, ints, c.loop-x.invariant, c.if-divisor-eq1.true) in
    ap pos (sym (sym (started row c.args.own c.requires.own) ∙ stays_one g row c.loop-x.x-index front))

pub returns : goal.returns
returns c =
    let row = c.args.row.now in
    let g = gcd_with 0 (get_or row c.args.own (pos 0)) in
    let fits : FitsSigned w64 c.loop-x.divisor.value = search rules in
    let whole : take c.loop-x.x-index row ≡ row = take_all c.loop-x.x-index row (omega arith) in
    simp to_z-of_z (c.loop-x.invariant ∙ ap (λ (xs : List ℤ). pos (fold gcd_with g xs)) whole ∙ ap pos (started row c.args.own c.requires.own))
