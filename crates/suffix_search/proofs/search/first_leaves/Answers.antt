use Rattle.std.proofs.Common.{◌≡◌, ◌∙◌, ◌++◌, ◌∷◌, [], ap, sym, subst}
use Rattle.bound_tree.specs.Plain.{Cut}
use Rattle.goal_rows.specs.Nodes.{without_limits}
use Rattle.goal_rows.specs.Races.{IsGroundIn}
use Rattle.goal_rows.specs.declared.goals.Goal.TheVariants.{Root}
use Rattle.node_bounds.specs.Ceilings.{IsCeiling}
use Rattle.suffix_search.specs.Searches.{IsRunning}
use Rattle.suffix_search.proofs.Starts.{started}
use Rattle.suffix_search.proofs.search.first_leaves.Goals as goal

pub returns : goal.returns
returns c = λ p same some.
    let leaf = c.in_ok-first_leaf.field-0 in
    let facts = c.in_ok-first_leaf.ensures in
    let items : c.push.new.self.items ≡ leaf ∷ [] = c.in_ok-push.ensures.items ∙ ap (λ l. l ++ leaf ∷ []) c.new-leaves.ensures.items in
    subst (λ l. IsRunning p (Cut []) l) (sym items)
    (started p leaf (facts.leaf p same) facts.node facts.depth (subst (λ e. IsCeiling e (without_limits Root) leaf.bound) (sym same) facts.ceiling) (subst (λ e. IsGroundIn e leaf.start) (sym same) facts.ground) some)
