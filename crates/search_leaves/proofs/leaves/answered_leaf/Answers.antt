use Rattle.std.proofs.Common.{◌≡◌, ◌∙◌, ◌+◌, length, ap, subst, sym}
use Rattle.lex_dual.specs.Answers.{multipliers_in}
use Rattle.search_leaves.specs.NewLeaves.{IsLeafOf}
use Rattle.search_leaves.proofs.SolvedLeaves.{best_leaf, never_leaf}
use Rattle.search_leaves.proofs.leaves.answered_leaf.Goals as goal

pub returns-in-Best-clause-leaf : goal.returns-in-Best-clause-leaf
returns-in-Best-clause-leaf c e is =
    let a = c.requires.answer in
    let seed = c.args.seed in
    let one_each : length c.in-Best.multipliers ≡ length seed.start.sums + length seed.limits.items = ap (λ s. length (multipliers_in s)) (sym c.in-Best.is) ∙ a.each_row ∙ a.is.kept in
    subst (IsLeafOf e seed) (sym c.leaf_with.ensures.leaf)
    (best_leaf e c.args.covered seed c.args.solved c.in-Best.value c.in-Best.multipliers c.in-Best.point c.unless_covered.result c.leaf_with.result.bound is a c.in-Best.is
    c.unless_covered.ensures one_each (c.leaf_with.ensures.bound e is.own))

pub returns-in-Never-clause-leaf : goal.returns-in-Never-clause-leaf
returns-in-Never-clause-leaf c e is =
    let a = c.requires.answer in
    let seed = c.args.seed in
    let one_each : length c.in-Never.multipliers ≡ length seed.start.sums + length seed.limits.items = ap (λ s. length (multipliers_in s)) (sym c.in-Never.is) ∙ a.each_row ∙ a.is.kept in
    subst (IsLeafOf e seed) (sym c.leaf_with-in-Never.ensures.leaf)
    (never_leaf e c.args.covered seed c.args.solved c.in-Never.multipliers c.leaf_with-in-Never.result.bound is a c.in-Never.is one_each (c.leaf_with-in-Never.ensures.bound e is.own))
