use Rattle.std.proofs.Common.{◌≡◌, ◌<◌, ◌++◌, ◌∷◌, [], ◌∙◌, ap, refl, arith, get_or}
use Rattle.std.specs.Prelude.{pos, ◌-ℤ◌}
use Rattle.goal_rows.specs.KeyCounts.{counted_by, is_held, lead_by}
use Rattle.goal_rows.proofs.ClassCounts.{value_more}
use Rattle.goal_rows.proofs.sums.add_round.Goals as goal

pub loop-j-preserved : goal.loop-j-preserved
loop-j-preserved c =
    let i = c.args.i in
    let j = c.loop-j.j in
    let classes = c.args.classes.now in
    let held = c.held_counts-held.result in
    let few = c.requires.places in
    let il : i < 40 = (let w = c.requires.within in omega (arith, w, few)) in
    let jl : j < 40 = omega (arith, c.loop-j-test.true, few) in
    let a : get_or held c.from.result 0 ≡ counted_by (is_held i j) classes = ap (λ k. get_or held k 0) c.from.ensures ∙ c.held_counts-held.ensures.value j jl in
    let b : get_or held c.from-in-loop-j.result 0 ≡ counted_by (is_held i i) classes = ap (λ k. get_or held k 0) c.from-in-loop-j.ensures ∙ c.held_counts-held.ensures.value i il in
    let v : pos (get_or held c.from.result 0) -ℤ pos (get_or held c.from-in-loop-j.result 0) ≡ lead_by (is_held i j) (is_held i i) classes = rw (a, b) refl in
    c.in_ok-push_lead.ensures ∙ ap (λ z. c.loop-j.sums ++ z ∷ []) v
    ∙ value_more (λ k. lead_by (is_held i k) (is_held i i) classes) i j c.args.sums.now c.loop-j.sums c.loop-j.auto.j c.loop-j.invariant
