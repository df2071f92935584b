use Rattle.std.proofs.Common.{◌≡◌, ◌∷◌, ◌++◌, [], ◌∙◌, ap, subst, sym}
use Rattle.search_leaves.specs.NewLeaves.{IsLeafOf}
use Rattle.search_leaves.proofs.PairLeaves.{one_for_pair, pair_leaf}
use Rattle.search_leaves.proofs.leaves.pair_leaf.Goals as goal

pub leaf_with-requires-clause-one_each : goal.leaf_with-requires-clause-one_each
leaf_with-requires-clause-one_each c =
    let one : c.push.new.self ≡ 1 ∷ [] = c.in_ok-push.ensures.ok ∙ ap (λ ls. ls ++ 1 ∷ []) c.new-multipliers.ensures in
    one_for_pair c.args.seed c.push.new.self c.requires.seed one

pub returns-clause-leaf : goal.returns-clause-leaf
returns-clause-leaf c e is =
    let one : c.push.new.self ≡ 1 ∷ [] = c.in_ok-push.ensures.ok ∙ ap (λ ls. ls ++ 1 ∷ []) c.new-multipliers.ensures in
    subst (IsLeafOf e c.args.seed) (sym c.leaf_with.ensures.leaf)
    (pair_leaf e c.args.seed c.push.new.self c.leaf_with.result.bound is one (c.leaf_with.ensures.bound e is.own))
