use Rattle.std.proofs.Common.{◌+◌, ◌-◌, ◌<◌, length, get_or, rules, arith}
use Rattle.std.proofs.lemmas.Int.{to_z-of_z}
use Rattle.std.proofs.Math.IntN.{pos}
use mir.Val.{SFits}
use mir.Syntax.{w128}
use Rattle.sig_graph.specs.Paths.{IsSmallWeight}
use Rattle.sig_graph.proofs.ArcNumbers.{arc_at-within}
use Rattle.sig_graph.proofs.BestPaths.{via_more, better_high, better_low}
use Rattle.sig_graph.proofs.weights.best_from.Goals as goal
use Rattle.sig_graph.proofs.weights.best_from.Goals.{In-loop-x, After-better-value}

within : (c : In-loop-x) → c.args.first + (c.loop-x.x - c.args.u - 1) < length c.args.weights.now
within c =
    let a = arc_at-within c.args.m c.args.u c.loop-x.x (omega arith) (omega arith) in
    omega (arith, c.requires.first, c.requires.weights)

within_after : (c : After-better-value) → c.args.first + (c.loop-x.x - c.args.u - 1) < length c.args.weights.now
within_after c =
    let a = arc_at-within c.args.m c.args.u c.loop-x.x (omega arith) (omega arith) in
    omega (arith, c.requires.first, c.requires.weights)

pub overflow_add-first : goal.overflow_add-first
overflow_add-first c = let h = within c in search rules

pub offset_bounds-weights-first : goal.offset_bounds-weights-first
offset_bounds-weights-first c = let h = within c in search rules

pub bounds-weights-first : goal.bounds-weights-first
bounds-weights-first c = let h = within c in search rules

pub loop-x-preserved : goal.loop-x-preserved
loop-x-preserved c =
    let f : SFits w128 c.better-value.result = search rules in
    let fw : SFits w128 (get_or c.args.weights.now (c.args.first + (c.loop-x.x - c.args.u - 1)) (pos 0)) =
    search rules in
    let fb : SFits w128 (get_or c.args.best.now c.loop-x.x (pos 0)) = search rules in
    let better = simp to_z-of_z at c.better-value.ensures in
    let at = rw c.requires.first at better in
    let weight = get_or c.args.weights.now (c.args.first + (c.loop-x.x - c.args.u - 1)) (pos 0) in
    let later = get_or c.args.best.now c.loop-x.x (pos 0) in
    let small : IsSmallWeight weight = c.requires.small (c.args.first + (c.loop-x.x - c.args.u - 1)) (pos 0)
    (within_after c) in
    let done = c.requires.later c.loop-x.x (omega arith) (omega arith) in
    rw to_z-of_z (
      via_more c.args.m c.args.weights.now c.args.u c.loop-x.x _ _ _
          (omega arith) (omega arith) c.loop-x.invariant.0 done.greatest at,
      better_low _ weight later _ c.loop-x.invariant.1 better,
      better_high _ _ c.loop-x.x _ _ _ _ (omega arith) (omega arith) c.loop-x.invariant.2 small done.at_most better,
    )
