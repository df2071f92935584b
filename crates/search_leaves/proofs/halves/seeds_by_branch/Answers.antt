use Rattle.std.proofs.Common.{◌≡◌, ◌∙◌, ◌++◌, ◌∷◌, [], All, List, ap, refl, subst, sym}
use Rattle.std.proofs.lemmas.List.Elements.{All-cons, All-nil}
use Rattle.search_leaves.specs.Kept.{IsSeedOf, branching_in, node_at}
use Rattle.search_leaves.proofs.HalfNodes.{high_is_half, low_is_half}
use Rattle.search_leaves.proofs.halves.seeds_by_branch.Goals as goal

pub half_seed-requires : goal.half_seed-requires
half_seed-requires c =
    let e = c.requires.0 in
    let leaf = c.args.leaf.now in
    (e, c.requires.1, low_is_half e (node_at leaf) (branching_in c.args.branching) _ c.requires.1.ranges c.requires.2 refl)

pub half_seed-requires-2 : goal.half_seed-requires-2
half_seed-requires-2 c =
    let e = c.requires.0 in
    let leaf = c.args.leaf.now in
    (e, c.requires.1, high_is_half e (node_at leaf) (branching_in c.args.branching) _ c.requires.1.ranges c.requires.2 refl)

pub returns-clause-seeds : goal.returns-clause-seeds
returns-clause-seeds c = λ e growing can.
    let leaf = c.args.leaf.now in
    let low = low_is_half e (node_at leaf) (branching_in c.args.branching) _ growing.ranges can refl in
    let high = high_is_half e (node_at leaf) (branching_in c.args.branching) _ growing.ranges can refl in
    let one = c.in_ok-half_seed.ensures.seed e growing low in
    let two = c.in_ok-half_seed-2.ensures.seed e growing high in
    let P = IsSeedOf e leaf in
    let a = c.in_ok-half_seed.field-0 in
    let b = c.in_ok-half_seed-2.field-0 in
    let items : c.push-2.new.self.items ≡ a ∷ b ∷ [] = c.in_ok-push-2.ensures.items ∙ ap (λ l. l ++ b ∷ []) (c.in_ok-push.ensures.items ∙ ap (λ l. l ++ a ∷ []) c.new-seeds.ensures.items) in
    subst (All P) (sym items) (All-cons P a (b ∷ []) one (All-cons P b [] two (All-nil P)))
