use Rattle.std.proofs.Common.{arith, ap, sym, ◌∙◌, ◌≡◌, ◌+◌, ◌-◌, ℕ, length, false, Some}
use Rattle.dual_theory.specs.Ends.{is_large, lcm_of, common_den}
use Rattle.lex_dual.proofs.Points.{large, not_large, found_in_map, none_in_map, none_more, common_more}
use Rattle.lex_dual.proofs.point.common_den.Goals as goal

pub returns-then-multiple-clause-value : goal.returns-then-multiple-clause-value
returns-then-multiple-clause-value c =
    let t = c.args.form.now in
    let v = c.loop-variable.variable in
    let is : c.lcm-multiple.result ≡ common_den t (v + 1) = c.lcm-multiple.ensures.value ∙ ap (λ (d : ℕ). lcm_of d c.lowest_at.result.den) c.loop-variable.invariant.value ∙ ap (lcm_of (common_den t v)) c.lowest_at.ensures.den ∙ sym (common_more t v (v + 1) (omega arith)) in
    found_in_map is_large (common_den t) 1 (length c.args.places.now - 1) (v + 1) (omega arith) (omega arith) (large (common_den t (v + 1)) (omega (arith, is))) (λ u h l. c.loop-variable.invariant.none u h (omega (arith, l)))
    ∙ sym (ap (λ (x : ℕ). Some x) is)

pub loop-variable-preserved : goal.loop-variable-preserved
loop-variable-preserved c =
    let t = c.args.form.now in
    let v = c.loop-variable.variable in
    let is : c.lcm-multiple.result ≡ common_den t (v + 1) = c.lcm-multiple.ensures.value ∙ ap (λ (d : ℕ). lcm_of d c.lowest_at.result.den) c.loop-variable.invariant.value ∙ ap (lcm_of (common_den t v)) c.lowest_at.ensures.den ∙ sym (common_more t v (v + 1) (omega arith)) in
    record {
      value = is;
      none = none_more (λ (u : ℕ). is_large (common_den t u) ≡ false) 1 v (v + 1) (omega arith) (λ u h l. c.loop-variable.invariant.none u h (omega (arith, l))) (not_large (common_den t (v + 1)) (omega (arith, is)));
      small = omega arith;
      positive = c.lcm-multiple.ensures.above c.loop-variable.invariant.positive;
    }

pub returns-clause-none : goal.returns-clause-none
returns-clause-none c = none_in_map is_large (common_den c.args.form.now) 1 (length c.args.places.now - 1) (λ u h l. c.loop-variable.invariant.none u h (omega arith))
