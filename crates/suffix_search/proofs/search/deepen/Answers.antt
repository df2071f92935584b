use Rattle.std.proofs.Common.{◌≡◌, ◌∙◌, [], ap, refl, subst, sym}
use Rattle.bound_tree.specs.Plain.{Cut}
use Rattle.search_leaves.specs.Found.{problem_of}
use Rattle.suffix_search.specs.Searches.{IsRunning}
use Rattle.suffix_search.proofs.search.deepen.Goals as goal

pub turns-init : goal.turns-init
turns-init c =
    let p = problem_of c.args.race.now c.args.upper c.args.budget in
    let tree : c.leaf-tree.result ≡ Cut [] = c.leaf-tree.ensures ∙ ap Cut c.new-2.ensures in
    subst (λ t. IsRunning p t c.in_ok-leaves.leaves.items) (sym tree) (c.in_ok-leaves.ensures p refl c.requires.some)
