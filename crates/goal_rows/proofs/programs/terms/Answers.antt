use Rattle.std.proofs.Common.{[], ◌≡◌, ◌∙◌, get_or, w64, FitsSigned, sym, arith}
use Rattle.std.specs.Prelude.{pos}
use Rattle.std.proofs.lemmas.Int.{fits_signed_from_abs, to_z-of_z}
use Rattle.goal_rows.specs.Programs.{is_some_weight, term_at, weight_of}
use Rattle.goal_rows.proofs.Lists.{added_none, added_one}
use Rattle.goal_rows.proofs.programs.terms.Goals as goal
use Rattle.goal_rows.proofs.programs.terms.Goals.{then-is_some+in_ok-push, else-is_some}

pub loop-v-preserved : goal.loop-v-preserved
loop-v-preserved c =
    let weights = c.args.weights.now in
    let v = c.loop-v.v in
    let fits : FitsSigned w64 (get_or weights v (pos 0)) = fits_signed_from_abs w64 (get_or weights v (pos 0)) (let small = c.requires.small v (pos 0) c.loop-v-test.true in omega (arith, small)) in
    let is : c.is_some.result ≡ is_some_weight (get_or weights v (pos 0)) = simp to_z-of_z at c.is_some.ensures in
    elim c.if-is_some.branch [
      | then-is_some+in_ok-push w ↦
          let ok = simp to_z-of_z at w.in_ok-push.ensures.ok in
          w.terms-is ∙ ok
          ∙ added_one (term_at weights) (λ u. is_some_weight (weight_of weights u)) v [] c.loop-v.terms c.loop-v.invariant (sym is ∙ w.if-is_some.true)
      | else-is_some w ↦ w.terms-is
          ∙ added_none (term_at weights) (λ u. is_some_weight (weight_of weights u)) v [] c.loop-v.terms c.loop-v.invariant (sym is ∙ w.if-is_some.false)
    ]
