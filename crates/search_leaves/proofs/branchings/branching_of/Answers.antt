use Rattle.std.proofs.Common.{◌≡◌, ◌∙◌, All, List, Some, None, ap, refl, subst, sym}
use Rattle.row_program.specs.declared.Feature.TheVariants.{From}
use Rattle.row_program.specs.declared.Limit.{Limit}
use Rattle.goal_rows.specs.Cells.{variables_of}
use Rattle.dual_bound.specs.CellCuts.{features_of}
use Rattle.search_leaves.specs.Branched.{HasPart, IsBranched, IsOpenAt, IsPartAt, IsWideAt}
use Rattle.search_theory.specs.Branchings.{Branching, Values}
use Rattle.search_leaves.specs.Kept.{branching_in, node_at, values_of}
use Rattle.search_leaves.proofs.BranchedLeaves.{at_floor, halves_at_floor, halves_in_middle, in_middle, numbers_small}
use Rattle.search_leaves.proofs.WholeValues.{has_part}
use Rattle.search_leaves.proofs.branchings.branching_of.Goals as goal

pub floor_of-requires-clause-small : goal.floor_of-requires-clause-small
floor_of-requires-clause-small c =
    let e = c.requires.0 in
    let leaf = c.args.leaf.now in
    let part = subst (λ o. IsOpenAt e leaf (values_of o)) c.in-Some.is c.requires.1.part in
    numbers_small e leaf (record { feature = From 0; value = 0 }) c.requires.1 (record { whole = c.in-Some.point.whole; den = c.in-Some.point.den }) part.0

pub floor_of-requires-clause-part : goal.floor_of-requires-clause-part
floor_of-requires-clause-part c =
    let e = c.requires.0 in
    let leaf = c.args.leaf.now in
    let part = subst (λ o. IsOpenAt e leaf (values_of o)) c.in-Some.is c.requires.1.part in
    has_part e (node_at leaf) (record { whole = c.in-Some.point.whole; den = c.in-Some.point.den }) part.0 part.1

pub returns-in-Some-clause-branching : goal.returns-in-Some-clause-branching
returns-in-Some-clause-branching c = λ e may.
    let leaf = c.args.leaf.now in
    let part = subst (λ o. IsOpenAt e leaf (values_of o)) c.in-Some.is may.part in
    let q : Values = record { whole = c.in-Some.point.whole; den = c.in-Some.point.den } in
    let b = branching_in c.floor_of.result in
    let found = subst (λ fs. IsPartAt fs q.whole q.den b) (c.deref.ensures.value ∙ c.in_ok-features.ensures) c.floor_of.ensures in
    subst (λ o. IsBranched e leaf (values_of o) b) (sym c.in-Some.is) (at_floor e leaf b may q part.0 found)

pub returns-in-Some-clause-halves : goal.returns-in-Some-clause-halves
returns-in-Some-clause-halves c = λ e may.
    let leaf = c.args.leaf.now in
    let part = subst (λ o. IsOpenAt e leaf (values_of o)) c.in-Some.is may.part in
    let q : Values = record { whole = c.in-Some.point.whole; den = c.in-Some.point.den } in
    let b = branching_in c.floor_of.result in
    let found = subst (λ fs. IsPartAt fs q.whole q.den b) (c.deref.ensures.value ∙ c.in_ok-features.ensures) c.floor_of.ensures in
    halves_at_floor e leaf b may q part.0 found

pub returns-clause-branching : goal.returns-clause-branching
returns-clause-branching c = λ e may.
    let leaf = c.args.leaf.now in
    let b = branching_in c.middle_of.result in
    let found = subst (λ (ls : List Limit). IsWideAt (variables_of leaf.start) ls b) c.as_slice.ensures.value c.middle_of.ensures in
    subst (λ o. IsBranched e leaf (values_of o) b) (sym c.in-None.is) (in_middle e leaf b may found)

pub returns-clause-halves : goal.returns-clause-halves
returns-clause-halves c = λ e may.
    let leaf = c.args.leaf.now in
    let b = branching_in c.middle_of.result in
    halves_in_middle e leaf b may (subst (λ (ls : List Limit). IsWideAt (variables_of leaf.start) ls b) c.as_slice.ensures.value c.middle_of.ensures)
