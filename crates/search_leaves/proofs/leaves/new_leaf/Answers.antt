use Rattle.std.proofs.Common.{◌≡◌, ◌∙◌, Err, IfOk, Ok, Result, sym}
use Rattle.std.proofs.lemmas.Bool.{false≢true}
use Rattle.goal_rows.specs.Elections.{Election}
use Rattle.goal_rows.specs.Races.{election_of}
use Rattle.search_theory.specs.Leaves.{IsCutTo}
use Rattle.search_leaves.specs.Kept.{leaf_of}
use Rattle.search_leaves.specs.NewLeaves.{AreOwn, IsCellSeed, IsLeafOf, IsOpenSeed, IsPairSeed}
use Rattle.search_leaves.specs.declared.leaves.Leaf.{Leaf as KeptLeaf}
use Rattle.search_leaves.specs.declared.seeds.Seed.{Seed}
use Rattle.search_leaves.proofs.leaves.new_leaf.Goals as goal

cut_of : {E : Type 0} (e : Election) (seed : Seed) (result : Result KeptLeaf E) → IfOk result (IsLeafOf e seed) → IfOk result (λ leaf. IsCutTo e seed.bound (leaf_of leaf))
cut_of e seed (Ok leaf) is = is.cut
cut_of e seed (Err fault) is = tt

own_of : {E : Type 0} (e : Election) (seed : Seed) (result : Result KeptLeaf E) → IfOk result (IsLeafOf e seed) → IfOk result (λ leaf. AreOwn e seed leaf.multipliers)
own_of e seed (Ok leaf) is = is.multipliers
own_of e seed (Err fault) is = tt

pub returns-then-is_pair-clause-multipliers : goal.returns-then-is_pair-clause-multipliers
returns-then-is_pair-clause-multipliers c =
    let e = election_of c.args.race.now in
    let is : IsPairSeed e c.args.seed = record { own = c.requires.seed; pair = sym c.is_pair.ensures ∙ c.if-is_pair.true } in
    own_of e c.args.seed c.pair_leaf.result (c.pair_leaf.ensures.leaf e is)

pub returns-then-is_complete_cell-clause-multipliers : goal.returns-then-is_complete_cell-clause-multipliers
returns-then-is_complete_cell-clause-multipliers c =
    let e = election_of c.args.race.now in
    let is : IsCellSeed e c.args.seed = record { own = c.requires.seed; cell = c.is_complete_cell.ensures.0 c.if-is_complete_cell.true } in
    own_of e c.args.seed c.cell_leaf.result (c.cell_leaf.ensures.leaf e is)

-- where neither a pair nor a cell is at hand
abbrev open_seed : (c : goal.After-solved_leaf) → IsOpenSeed (election_of c.args.race.now) c.has_cover-covered.result c.args.seed
open_seed c = record {
  own = c.requires.seed;
  below = c.requires.below;
  other = sym c.is_pair.ensures ∙ c.if-is_pair.false;
  no_cell = λ cell. false≢true (sym c.if-is_complete_cell.false ∙ c.is_complete_cell.ensures.1 cell);
  cover = sym c.has_cover-covered.ensures;
}

pub returns-else-is_complete_cell-clause-cut : goal.returns-else-is_complete_cell-clause-cut
returns-else-is_complete_cell-clause-cut c =
    let e = election_of c.args.race.now in
    cut_of e c.args.seed c.solved_leaf.result (c.solved_leaf.ensures e (open_seed c))

pub returns-else-is_complete_cell-clause-multipliers : goal.returns-else-is_complete_cell-clause-multipliers
returns-else-is_complete_cell-clause-multipliers c =
    let e = election_of c.args.race.now in
    own_of e c.args.seed c.solved_leaf.result (c.solved_leaf.ensures e (open_seed c))
