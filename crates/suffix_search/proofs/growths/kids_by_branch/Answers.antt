use Rattle.std.proofs.Common.{◌≡◌, ◌∙◌, ap, refl, arith}
use Rattle.bound_tree.specs.Growth.{replaced}
use Rattle.bound_tree.specs.Plain.{Branch, Cut}
use Rattle.goal_rows.specs.Races.{election_of}
use Rattle.search_leaves.specs.Kept.{branching_in}
use Rattle.suffix_search.proofs.Kids.{branch_kids, count_of_leaves, two_seeds}
use Rattle.suffix_search.proofs.Results.{ok_gives}
use Rattle.suffix_search.proofs.growths.kids_by_branch.Goals as goal

pub index-requires : goal.index-requires
index-requires c =
    let e = election_of c.args.race.now in
    let two = two_seeds c.in_ok-seeds.seeds.items _ _ c.in_ok-seeds.ensures.nodes in
    let count = count_of_leaves e c.in_ok-seeds.seeds.items c.in_ok-kids.kids.items c.in_ok-kids.ensures in
    omega (arith, two, count)

pub index-requires-2 : goal.index-requires-2
index-requires-2 c =
    let e = election_of c.args.race.now in
    let two = two_seeds c.in_ok-seeds.seeds.items _ _ c.in_ok-seeds.ensures.nodes in
    let count = count_of_leaves e c.in_ok-seeds.seeds.items c.in_ok-kids.kids.items c.in_ok-kids.ensures in
    omega (arith, two, count)

pub returns : goal.returns
returns c =
    let e = election_of c.args.race.now in
    let leaf = c.args.leaf.now in
    let b = branching_in c.in_ok-branching.branching in
    let may = c.requires.leaf.branch c.requires.bare in
    let can = c.in_ok-branching.ensures.halves e may in
    let branched = c.in_ok-branching.ensures.branching e may in
    let low = c.index.result.now in
    let high = c.index-2.result.now in
    let grown = ok_gives c.grow_branch.result _ (c.in_ok-grown.ensures refl) c.grow_branch.ensures.grown in
    let lists : replaced c.args.number (Branch b.feature b.value (Cut c.in_ok-low.low) (Cut c.in_ok-high.high)) c.args.tree.now ≡ replaced c.args.number (Branch b.feature b.value (Cut low.multipliers) (Cut high.multipliers)) c.args.tree.now =
    ap (λ ms. replaced c.args.number (Branch b.feature b.value (Cut ms) (Cut c.in_ok-high.high)) c.args.tree.now) c.in_ok-low.ensures
    ∙ ap (λ ms. replaced c.args.number (Branch b.feature b.value (Cut low.multipliers) (Cut ms)) c.args.tree.now) c.in_ok-high.ensures in
    branch_kids e leaf c.args.number c.args.tree.now c.grow_branch.new.self b c.in_ok-seeds.seeds.items c.in_ok-kids.kids.items low high c.requires.bare branched can c.in_ok-seeds.ensures.nodes (c.in_ok-seeds.ensures.seeds e c.requires.leaf.growing can) c.in_ok-kids.ensures
    c.index.ensures c.index-2.ensures (grown ∙ lists)
