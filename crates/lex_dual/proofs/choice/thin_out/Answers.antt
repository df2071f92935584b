use Rattle.std.proofs.Common.{arith, rules, refl, zero, suc, false, ◌≢◌, ap, sym, ◌∙◌, ◌≡◌, ◌<◌, ◌+◌, length, get_or, List, Option, drop, take, subst}
use Rattle.std.specs.Prelude.{ℤ, pos, negsuc, int_lt, ◌<ℤ◌, ◌*ℤ◌, ◌-ℤ◌}
use Rattle.std.proofs.lemmas.Int.{ints, to_z-of_z}
use Rattle.std.specs.Int.RustNames.{FitsSigned}
use mir.Syntax.{w64, w128}
use mir.Val.{of_z, to_z}
use Rattle.std.proofs.lemmas.List.{take_all, drop_all}
use Rattle.std.proofs.lemmas.List.Elements.{All-drop}
use Rattle.row_program.specs.Method.{column, value_count}
use Rattle.row_program.specs.Forms.{entry}
use lib.IntN.{neg_ℤ}
use Rattle.lex_dual.specs.Choices.{IsCandidate, coefficient_in, entering_among}
use Rattle.lex_dual.proofs.Tables.{length-places_of}
use Rattle.lex_dual.proofs.Thinning.{coefficient_is, none_left, own_inside, first_at, below_at, same_at, above_at, rest_has, rest_set, rest_more, untold}
use Rattle.lex_dual.proofs.choice.thin_out.Goals as goal
use Rattle.lex_dual.proofs.choice.thin_out.Goals.{then-difference-lt0, else-difference-lt0+then-difference-eq0, else-difference-lt0+else-difference-eq0}

zero_of : (x : ℤ) → FitsSigned w128 x → of_z w128 x ≡ 0 → x ≡ pos 0
zero_of x fits e = sym (to_z-of_z w128 x fits) ∙ ap (to_z w128) e ∙ omega (arith, ints)

above_of : (x : ℤ) → x ≢ pos 0 → int_lt x (pos 0) ≡ false → pos 0 <ℤ x
above_of (pos zero) apart not_below = absurd (apart refl)
above_of (pos (suc n)) apart not_below = omega (arith, ints)
above_of (negsuc n) apart not_below = absurd (omega (arith, ints, not_below))

pub loop-i-init : goal.loop-i-init
loop-i-init c =
    record {
      kept = first_at c.args.form.now c.args.row c.args.v c.args.left.now c.quotient_at-least.result.num c.quotient_at-least.result.den c.requires.some c.requires.all
          (c.quotient_at-least.ensures.num ∙ ap (λ (o : Option (List ℤ)). coefficient_in o c.args.v (get_or c.args.left.now 0 0)) c.equation_of-own.ensures.value ∙ coefficient_is c.args.form.now c.args.v (get_or c.args.left.now 0 0))
          (c.quotient_at-least.ensures.den ∙ ap (λ (xs : List ℤ). neg_ℤ (get_or xs (get_or c.args.left.now 0 0) (pos 0))) c.equation-leaving.ensures.value);
      rest = All-drop (IsCandidate c.args.form.now c.args.row) 1 c.args.left.now c.requires.all;
      behind = omega arith;
      small_num = c.quotient_at-least.ensures.small_num;
      small_den = c.quotient_at-least.ensures.small_den;
    }

pub quotient_at-quotient-requires-clause-inside : goal.quotient_at-quotient-requires-clause-inside
quotient_at-quotient-requires-clause-inside c =
    let candidate = rest_has c.args.form.now c.args.row c.loop-i.left c.loop-i.i (omega arith) c.loop-i.invariant.rest in
    omega (arith, candidate.0, c.equation-leaving.ensures.wide)

pub quotient_at-quotient-requires-clause-own : goal.quotient_at-quotient-requires-clause-own
quotient_at-quotient-requires-clause-own c =
    let candidate = rest_has c.args.form.now c.args.row c.loop-i.left c.loop-i.i (omega arith) c.loop-i.invariant.rest in
    own_inside c.equation_of-own.result c.args.form.now.variables (get_or c.loop-i.left c.loop-i.i 0) c.equation_of-own.ensures.wide candidate.0

pub quotient_at-quotient-requires-clause-candidate : goal.quotient_at-quotient-requires-clause-candidate
quotient_at-quotient-requires-clause-candidate c =
    let candidate = rest_has c.args.form.now c.args.row c.loop-i.left c.loop-i.i (omega arith) c.loop-i.invariant.rest in
    subst (λ (xs : List ℤ). get_or xs (get_or c.loop-i.left c.loop-i.i 0) (pos 0) <ℤ pos 0) (sym c.equation-leaving.ensures.value) candidate.1

pub loop-i-preserved : goal.loop-i-preserved
loop-i-preserved c =
    let t = c.args.form.now in
    let row = c.args.row in
    let num = c.loop-i.least.num in
    let den = c.loop-i.least.den in
    let left = c.loop-i.left in
    let i = c.loop-i.i in
    let x = c.quotient_at-quotient.result.num in
    let y = c.quotient_at-quotient.result.den in
    let within : c.args.v < value_count t = omega (arith, c.requires.v, ap length c.requires.places, length-places_of t) in
    let inside : i < length left = omega arith in
    let candidate = rest_has t row left i inside c.loop-i.invariant.rest in
    let fits : FitsSigned w128 c.cross-difference.result = search rules in
    let fits_x : FitsSigned w64 x = search rules in
    let fits_y : FitsSigned w64 y = search rules in
    let fits_num : FitsSigned w64 num = search rules in
    let fits_den : FitsSigned w64 den = search rules in
    let difference = simp to_z-of_z at c.cross-difference.ensures.value in
    let j = get_or left i 0 in
    let is_num : x ≡ column t j c.args.v = c.quotient_at-quotient.ensures.num ∙ ap (λ (o : Option (List ℤ)). coefficient_in o c.args.v j) c.equation_of-own.ensures.value ∙ coefficient_is t c.args.v j in
    let is_den : y ≡ neg_ℤ (entry t row j) = c.quotient_at-quotient.ensures.den ∙ ap (λ (xs : List ℤ). neg_ℤ (get_or xs j (pos 0))) c.equation-leaving.ensures.value in
    elim c.if-difference-lt0.branch [
      | then-difference-lt0 w ↦
          let test = simp to_z-of_z at w.if-difference-lt0.true in
          let low : (x *ℤ den -ℤ num *ℤ y) <ℤ pos 0 = omega (arith, ints, test, difference) in
          rw (w.left-is, w.least-is, w.kept-is) (record {
            kept = below_at t row c.args.v c.args.left.now num den left c.loop-i.kept i (get_or left i 0) x y within inside c.loop-i.invariant.behind refl is_num is_den c.loop-i.invariant.kept candidate low;
            rest = rest_set t row left i 0 (get_or left i 0) inside (omega arith) c.loop-i.invariant.rest;
            behind = omega arith;
            small_num = c.quotient_at-quotient.ensures.small_num;
            small_den = c.quotient_at-quotient.ensures.small_den;
          })
      | else-difference-lt0+then-difference-eq0 w ↦
          let none : x *ℤ den -ℤ num *ℤ y ≡ pos 0 = sym difference ∙ zero_of c.cross-difference.result fits w.if-difference-eq0.true in
          rw (w.left-is, w.least-is, w.kept-is) (record {
            kept = same_at t row c.args.v c.args.left.now num den left c.loop-i.kept i (get_or left i 0) x y within inside c.loop-i.invariant.behind refl is_num is_den c.loop-i.invariant.kept candidate none;
            rest = rest_set t row left i c.loop-i.kept (get_or left i 0) inside c.loop-i.invariant.behind c.loop-i.invariant.rest;
            behind = omega arith;
            small_num = c.loop-i.invariant.small_num;
            small_den = c.loop-i.invariant.small_den;
          })
      | else-difference-lt0+else-difference-eq0 w ↦
          let test = simp to_z-of_z at w.if-difference-lt0.false in
          let above = above_of c.cross-difference.result (λ e. w.if-difference-eq0.false (ap (of_z w128) e)) test in
          let high : pos 0 <ℤ (x *ℤ den -ℤ num *ℤ y) = omega (arith, ints, above, difference) in
          rw (w.left-is, w.least-is, w.kept-is) (record {
            kept = above_at t row c.args.v c.args.left.now num den left c.loop-i.kept i (get_or left i 0) x y within inside c.loop-i.invariant.behind refl is_num is_den c.loop-i.invariant.kept high;
            rest = rest_more t row left i inside c.loop-i.invariant.rest;
            behind = omega arith;
            small_num = c.loop-i.invariant.small_num;
            small_den = c.loop-i.invariant.small_den;
          })
    ]

pub returns-clause-value : goal.returns-clause-value
returns-clause-value c =
    let left = c.loop-i.left in
    none_left c.args.form.now c.args.row c.args.v c.args.left.now c.loop-i.least.num c.loop-i.least.den (take c.loop-i.kept left) (drop c.loop-i.i left) c.loop-i.invariant.kept (drop_all c.loop-i.i left (omega arith))

pub returns-then-not-tells_apart-clause-value : goal.returns-then-not-tells_apart-clause-value
returns-then-not-tells_apart-clause-value c =
    let t = c.args.form.now in
    let left = c.args.left.now in
    let within : c.args.v < value_count t = omega (arith, c.requires.v, ap length c.requires.places, length-places_of t) in
    ap (entering_among t c.args.row (c.args.v + 1)) (take_all (length left) left (omega arith))
    ∙ untold t c.args.row c.args.v left within (c.tells_apart.ensures c.if-not-tells_apart.true)
