use Rattle.std.proofs.Common.{ℕ, List, get_or, ap, rules, ◌∙◌}
use Rattle.std.specs.Prelude.{pos, ◌*ℤ◌}
use Rattle.std.proofs.lemmas.Int.{to_z-of_z}
use Rattle.dual_bound.proofs.GoalCases.{best_of_pair}
use Rattle.dual_bound.proofs.class_gains.best_new.Goals as goal
use mir.Val.{SFits}
use mir.Syntax.{w128, w64}

pub returns-in-Pair-clause-best : goal.returns-in-Pair-clause-best
returns-in-Pair-clause-best c =
    let start = c.args.start.now in
    let fits : SFits w128 c.best_of_pair.result = search rules in
    let lone : SFits w64 start.lone = search rules in
    let value = simp to_z-of_z at c.best_of_pair.ensures.value in
    let row = ap (λ (ls : List ℕ). pos (get_or ls 0 0) *ℤ start.lone) c.of_rows-rows.ensures in
    best_of_pair start c.args.limits.now c.args.multipliers.now _ _ _ c.in-Pair.is (to_z-of_z w128 c.best_of_pair.result fits ∙ value ∙ row)
