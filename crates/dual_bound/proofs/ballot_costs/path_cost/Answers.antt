use Rattle.std.proofs.Common.{◌≡◌, ◌<◌, ◌+◌, ◌-◌, length, get_or, true, false, sym, ap, ◌∙◌, arith}
use Rattle.std.specs.Prelude.{ℤ, pos}
use Rattle.std.proofs.lemmas.Int.{ints}
use Rattle.irv_count.specs.Orders.{stands}
use Rattle.sig_graph.specs.Paths.{path_sum, weight_at}
use Rattle.dual_bound.specs.Weighing.{places_by}
use Rattle.dual_bound.proofs.OldCosts.{path_passes, path_takes, places_from}
use Rattle.dual_bound.proofs.ballot_costs.path_cost.Goals as goal
use Rattle.dual_bound.proofs.ballot_costs.path_cost.Goals.{then-stands_in, else-stands_in}

pub loop-x-preserved : goal.loop-x-preserved
loop-x-preserved c =
    let m = c.args.m in
    let key = c.args.key in
    let arcs = c.args.arcs.now in
    let x = c.loop-x.x in
    let u = c.loop-x.u in
    let so_far = c.loop-x.invariant in
    elim c.if-stands_in.branch [
      | then-stands_in w ↦
          let within : w.arc_index.result < length arcs = omega (arith, w.arc_index.ensures.within, c.requires.arcs) in
          let weight : ℤ = get_or arcs w.arc_index.result (pos 0) in
          let small = c.requires.small w.arc_index.result (pos 0) within in
          let is : weight ≡ weight_at m arcs u x = ap (λ k. get_or arcs k (pos 0)) w.arc_index.ensures.number in
          let on : stands key (x - 1) ≡ true = sym c.stands_in.ensures ∙ w.if-stands_in.true in
          let t = path_takes m key u x arcs c.loop-x.sum weight (path_sum m arcs 0 (places_by m key)) (omega arith) on is (omega (arith, ints, so_far.total)) in
          let p = ap (λ v. path_sum m arcs v (places_from m key (x + 1))) w.u-is in
          record {
            before = omega (arith, w.u-is);
            total = omega (arith, ints, t, p, w.sum-is, small, so_far.bound);
            bound = omega (arith, ints, w.sum-is, small, so_far.bound);
          }
      | else-stands_in w ↦
          let off : stands key (x - 1) ≡ false = sym c.stands_in.ensures ∙ w.if-stands_in.false in
          let t = path_passes m key u x arcs c.loop-x.sum (path_sum m arcs 0 (places_by m key)) (omega arith) off (omega (arith, ints, so_far.total)) in
          let p = ap (λ v. path_sum m arcs v (places_from m key (x + 1))) w.u-is in
          record {
            before = omega (arith, w.u-is);
            total = omega (arith, ints, t, p, w.sum-is);
            bound = omega (arith, ints, w.sum-is, so_far.bound);
          }
    ]
