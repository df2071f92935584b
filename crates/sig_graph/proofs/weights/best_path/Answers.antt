use Rattle.std.proofs.Common.{◌≡◌, ◌+◌, ◌-◌, ◌<◌, ap, ℤ, length, rules, arith}
use Rattle.std.proofs.lemmas.Int.{to_z-of_z}
use Rattle.std.proofs.Math.IntN.{pos}
use Rattle.std.proofs.Math.ListN.{length-set}
use mir.Val.{SFits}
use mir.Syntax.{w128}
use Rattle.sig_graph.specs.Paths.{arcs_before}
use Rattle.sig_graph.proofs.ArcNumbers.{arcs_before-all}
use Rattle.sig_graph.proofs.BestPaths.{done_last, arcs_back, cells_more}
use Rattle.sig_graph.proofs.weights.best_path.Goals as goal
use Rattle.sig_graph.proofs.weights.best_path.Goals.{In-loop-u}

pub loop-u-init : goal.loop-u-init
loop-u-init c =
    rw c.from-last.ensures (
      omega arith,
      omega (arith, c.requires.weights, arcs_before-all c.args.m),
      cells_more c.args.m c.args.weights.now c.args.m c.args.best.now (pos 0) (omega (arith, c.requires.cells))
          (λ k lt le. absurd (omega arith)) (done_last _ _),
    )

-- where the arcs out of the place before begin
back : (c : In-loop-u) → c.loop-u.first ≡
    arcs_before c.args.m (c.loop-u.u - 1) + (c.from-last.result - (c.loop-u.u - 1))
back c = omega (arith, arcs_back c.args.m c.loop-u.u c.loop-u-test.true)

pub overflow_sub-first-in-loop-u : goal.overflow_sub-first-in-loop-u
overflow_sub-first-in-loop-u c = omega (arith, back c)

pub best_from-requires-clause-first : goal.best_from-requires-clause-first
best_from-requires-clause-first c = let h = ap (λ m. arcs_before m (c.loop-u.u - 1)) c.from-last.ensures in
    omega (arith, arcs_back c.args.m c.loop-u.u c.loop-u-test.true, h)

pub loop-u-preserved : goal.loop-u-preserved
loop-u-preserved c =
    let f : SFits w128 c.best_from.result = search rules in
    let done = rw c.from-last.ensures at c.best_from.ensures in
    let long : c.loop-u.u - 1 < length c.loop-u.best =
    omega (arith, c.loop-u.auto.best, length-set {A = ℤ}, c.requires.cells) in (
      omega arith,
      omega (arith, arcs_back c.args.m c.loop-u.u c.loop-u-test.true),
      rw to_z-of_z (cells_more c.args.m c.args.weights.now (c.loop-u.u - 1) c.loop-u.best c.best_from.result long
          (λ k lt le. c.loop-u.invariant.2 k (omega arith) le) done),
    )
