use Rattle.std.proofs.Common.{◌≡◌, ◌++◌, ◌∷◌, [], ◌∙◌, ap, refl}
use Rattle.std.specs.Prelude.{◌==◌, not, pos, ◌-ℤ◌}
use Rattle.irv_count.specs.Orders.{stands}
use Rattle.goal_rows.specs.KeyCounts.{is_over, lead_by}
use Rattle.goal_rows.proofs.Lists.{added_none, added_one, is_no_other, is_other}
use Rattle.goal_rows.proofs.sums.cover_values.Goals as goal
use Rattle.goal_rows.proofs.sums.cover_values.Goals.{then-j-x+in_ok-push_lead, else-j-x}

pub loop-j-preserved : goal.loop-j-preserved
loop-j-preserved c =
    let x = c.args.x in
    let j = c.loop-j.j in
    let classes = c.args.classes.now in
    elim c.if-j-x.branch [
      | then-j-x+in_ok-push_lead w ↦
          let v : pos w.over_count.result -ℤ pos w.under_count-under.result ≡ lead_by (is_over x j) (λ key. stands key j) classes =
          rw (w.over_count.ensures.value, w.under_count-under.ensures.value) refl in
          w.sums-is ∙ w.in_ok-push_lead.ensures ∙ ap (λ z. c.loop-j.sums ++ z ∷ []) v
          ∙ added_one (λ k. lead_by (is_over x k) (λ key. stands key k) classes) (λ k. not (k == x)) j [] c.loop-j.sums c.loop-j.invariant (is_other j x w.if-j-x.true)
      | else-j-x w ↦ w.sums-is
          ∙ added_none (λ k. lead_by (is_over x k) (λ key. stands key k) classes) (λ k. not (k == x)) j [] c.loop-j.sums c.loop-j.invariant (is_no_other j x w.if-j-x.false)
    ]
