use Rattle.std.proofs.Common.{◌∙◌, List, ap, map, refl, arith}
use Rattle.search_leaves.specs.declared.leaves.Leaf.{Leaf}
use Rattle.bound_tree.specs.Growth.{cuts_of, replaced}
use Rattle.bound_tree.specs.Plain.{Split}
use Rattle.goal_rows.specs.Races.{election_of}
use Rattle.suffix_search.proofs.Kids.{cover_kids, cover_room}
use Rattle.suffix_search.proofs.NotRoot.{kids_below}
use Rattle.suffix_search.proofs.Results.{ok_gives}
use Rattle.suffix_search.proofs.growths.kids_by_cover.Goals as goal

pub new_leaves-requires-clause-below : goal.new_leaves-requires-clause-below
new_leaves-requires-clause-below c =
    kids_below (election_of c.args.race.now) c.args.leaf.now.start.goal c.in_ok-seeds.seeds.items c.requires.race.election.roots c.in_ok-seeds.ensures.nodes

pub grown-requires-clause-room : goal.grown-requires-clause-room
grown-requires-clause-room c = λ fault.
    let e = election_of c.args.race.now in
    let lists = c.in_ok-lists.ensures ∙ ap (λ (ls : List Leaf). map (λ (leaf : Leaf). leaf.multipliers) ls) c.deref.ensures.value in
    let room = cover_room e c.args.leaf.now c.args.number c.args.tree.now c.in_ok-seeds.seeds.items c.in_ok-kids.kids.items c.in_ok-lists.lists c.requires.covered c.requires.leaf c.in_ok-seeds.ensures.nodes c.in_ok-kids.ensures lists in
    let over = c.grow_split.ensures.too_many.0 fault in
    omega (arith, room, over)

pub returns : goal.returns
returns c =
    let e = election_of c.args.race.now in
    let leaf = c.args.leaf.now in
    let lists = c.in_ok-lists.ensures ∙ ap (λ (ls : List Leaf). map (λ (leaf : Leaf). leaf.multipliers) ls) c.deref.ensures.value in
    let grown = ok_gives c.grow_split.result _ (c.in_ok-grown.ensures refl) c.grow_split.ensures.grown in
    cover_kids e leaf c.args.number c.args.tree.now c.grow_split.new.self c.in_ok-seeds.seeds.items c.in_ok-kids.kids.items c.requires.covered c.in_ok-seeds.ensures.nodes c.in_ok-seeds.ensures.seeds c.in_ok-kids.ensures
    (grown ∙ ap (λ ls. replaced c.args.number (Split (cuts_of ls)) c.args.tree.now) lists)
