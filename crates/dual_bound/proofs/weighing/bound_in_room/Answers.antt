use Rattle.std.proofs.Common.{ℕ, List, rules, map, subst, ◌+◌}
use Rattle.std.proofs.lemmas.Int.{to_z-of_z}
use Rattle.dual_bound.specs.Largest.{IsGreatestCut}
use Rattle.dual_bound.specs.Weighing.{cost_by, gain_by}
use Rattle.dual_bound.proofs.weighing.bound_in_room.Goals as goal
use mir.Val.{SFits}
use mir.Syntax.{w128}

pub returns-clause-value : goal.returns-clause-value
returns-clause-value c =
    let gains = λ (keys : List ℕ). map (gain_by c.weigh.result (cost_by c.args.start.now c.args.limits.now c.args.multipliers.now)) keys in (
      c.weigh.result,
      c.weigh.ensures.best,
      λ keys same.
          let f : SFits w128 c.base.result = search rules in
          let h = simp to_z-of_z at (c.greatest_cut.ensures.value _ (c.weigh.ensures.same keys same)) in
          subst (λ b. IsGreatestCut b (gains keys) (c.args.start.now.ballots + 1) c.greatest_cut.result) c.base.ensures.value h,
    )
