use Rattle.std.proofs.Common.{arith, ap, ◌∙◌, ◌≡◌, ◌<◌, ◌^◌, subst, sym}
use Rattle.std.specs.Prelude.{ℤ, ◌*ℤ◌, ◌-ℤ◌, unsigned_abs}
use Rattle.std.proofs.lemmas.Int.{to_z-of_z, fits_signed_from_abs}
use Rattle.std.specs.Int.RustNames.{FitsSigned}
use mir.Syntax.{w64, w128}
use mir.Val.{to_z, of_z}
use Rattle.exact_num.specs.declared.limits.TheConstants.{WIDE}
use Rattle.exact_num.proofs.Bounds.{small_step, small_product}
use Rattle.exact_num.proofs.cross.Goals as goal

-- the product of two numbers of 64 bits, as it is kept in 128
abbrev kept : ℤ → ℤ → ℤ
kept p x = to_z w128 (of_z w128 (to_z w128 (of_z w128 (to_z w64 (of_z w64 p))) *ℤ to_z w128 (of_z w128 (to_z w64 (of_z w64 x)))))

kept_is : (p x : ℤ) → FitsSigned w64 p → FitsSigned w64 x → unsigned_abs p < WIDE → unsigned_abs x < WIDE → kept p x ≡ p *ℤ x
kept_is p x small_p small_x low_p low_x =
    let wide_p : FitsSigned w128 p = fits_signed_from_abs w128 p (omega (arith, low_p)) in
    let wide_x : FitsSigned w128 x = fits_signed_from_abs w128 x (omega (arith, low_x)) in
    let product : FitsSigned w128 (p *ℤ x) = small_product p x low_p low_x in
    simp to_z-of_z

difference_is : (c : goal.Start) → kept c.args.p c.args.x -ℤ kept c.args.q c.args.y ≡ c.args.p *ℤ c.args.x -ℤ c.args.q *ℤ c.args.y
difference_is c =
    ap (λ (z : ℤ). z -ℤ kept c.args.q c.args.y) (kept_is c.args.p c.args.x c.ranges.p c.ranges.x c.requires.small_p c.requires.small_x)
    ∙ ap (λ (z : ℤ). c.args.p *ℤ c.args.x -ℤ z) (kept_is c.args.q c.args.y c.ranges.q c.ranges.y c.requires.small_q c.requires.small_y)

size : (c : goal.Start) → unsigned_abs (c.args.p *ℤ c.args.x -ℤ c.args.q *ℤ c.args.y) < 2 ^ 127
size c = small_step c.args.p c.args.x c.args.q c.args.y c.requires.small_p c.requires.small_x c.requires.small_q c.requires.small_y

pub overflow_sub-result : goal.overflow_sub-result
overflow_sub-result c = subst (FitsSigned w128) (sym (difference_is c)) (fits_signed_from_abs w128 (c.args.p *ℤ c.args.x -ℤ c.args.q *ℤ c.args.y) (size c))

pub returns-clause-value : goal.returns-clause-value
returns-clause-value c = to_z-of_z w128 _ (overflow_sub-result c) ∙ difference_is c

pub returns-clause-small : goal.returns-clause-small
returns-clause-small c = subst (λ (z : ℤ). unsigned_abs z < 2 ^ 127) (sym (returns-clause-value c)) (size c)
