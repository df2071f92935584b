use Rattle.std.proofs.Common.{◌≡◌, ℕ, ◌+◌, ◌<◌, List, Some, length, ap, subst, sym, ◌∙◌, All}
use Rattle.std.proofs.lemmas.List.Quantifiers.{position-Some}
use Rattle.exact_num.specs.declared.limits.TheConstants.{WIDE}
use Rattle.row_program.specs.Bounds.{IsRow}
use Rattle.row_program.specs.Forms.{empty_row}
use Rattle.row_program.specs.declared.program.Row.{Row}
use Rattle.row_program.specs.declared.program.Term.{Term}
use Rattle.goal_rows.specs.Cells.{cell_values}
use Rattle.goal_rows.specs.Nodes.{node_of}
use Rattle.goal_rows.specs.Programs.{point_cost_of}
use Rattle.dual_bound.specs.CellCuts.{is_broken}
use Rattle.dual_bound.specs.CutTest.{AreMultipliers, IsBound}
use Rattle.dual_bound.proofs.CellBeyond.{cell_beyond}
use Rattle.dual_bound.proofs.CellCosts.{cell_cost}
use Rattle.dual_bound.proofs.CellMultipliers.{broken_is, multipliers_are, multipliers_count, terms_within}
use Rattle.dual_bound.proofs.CellVariables.{features_count, values_count}
use Rattle.dual_bound.proofs.Sizes.{few_classes}
use Rattle.dual_bound.proofs.cell_cuts.cell_cut.Goals as goal

pub program_of-requires-clause-few : goal.program_of-requires-clause-few
program_of-requires-clause-few c = few_classes c.requires.start.0 c.args.start.now c.requires.start.1

pub first_broken-broken-requires-clause-rows : goal.first_broken-broken-requires-clause-rows
first_broken-broken-requires-clause-rows c =
    let costs = c.in_ok-program.program.costs in
    let n : length c.as_slice.result.now ≡ length costs =
    ap length (c.as_slice.ensures ∙ c.in_ok-values.ensures.each) ∙ values_count c.args.start.now c.args.limits.now ∙ sym (ap length c.in_ok-program.ensures.costs) in
    subst (λ k. All (IsRow k) c.as_slice-rows.result.now) (sym n)
    (subst (λ (rows : List Row). All (IsRow (length costs)) rows) (sym c.as_slice-rows.ensures) c.in_ok-program.program.bounds.good_rows)

pub case_of-case-requires-clause-within : goal.case_of-case-requires-clause-within
case_of-case-requires-clause-within c =
    let costs = c.in_ok-program.program.costs in
    let rows = c.as_slice-rows.result.now in
    let n : length c.as_slice-2.result.now ≡ length costs =
    ap length (c.as_slice-2.ensures ∙ c.in_ok-values.ensures.each) ∙ values_count c.args.start.now c.args.limits.now ∙ sym (ap length c.in_ok-program.ensures.costs) in
    let good = subst (λ (xs : List Row). All (IsRow (length costs)) xs) (sym c.as_slice-rows.ensures) c.in_ok-program.program.bounds.good_rows in
    let low = λ (r : ℕ) (e : c.first_broken-broken.result ≡ Some r). (position-Some (is_broken c.as_slice.result.now) rows r empty_row (sym c.first_broken-broken.ensures ∙ e)).0 in
    subst (λ k. All (λ (t : Term). t.variable < k) c.terms-terms.result.now) (sym n)
    (subst (λ (ts : List Term). All (λ (t : Term). t.variable < length costs) ts) (sym c.terms-terms.ensures) (terms_within (length costs) rows c.first_broken-broken.result good low))

pub add_given-requires-clause-within : goal.add_given-requires-clause-within
add_given-requires-clause-within c =
    let costs = c.in_ok-program.program.costs in
    let rows = c.as_slice-rows.result.now in
    let n : length c.deref-2.result.now ≡ length costs =
    ap length (c.deref-2.ensures.value ∙ c.in_ok-features.ensures) ∙ features_count c.args.start.now ∙ sym (ap length c.in_ok-program.ensures.costs) in
    let good = subst (λ (xs : List Row). All (IsRow (length costs)) xs) (sym c.as_slice-rows.ensures) c.in_ok-program.program.bounds.good_rows in
    let low = λ (r : ℕ) (e : c.first_broken-broken.result ≡ Some r). (position-Some (is_broken c.as_slice.result.now) rows r empty_row (sym c.first_broken-broken.ensures ∙ e)).0 in
    subst (λ k. All (λ (t : Term). t.variable < k) c.terms-terms.result.now) (sym n)
    (subst (λ (ts : List Term). All (λ (t : Term). t.variable < length costs) ts) (sym c.terms-terms.ensures) (terms_within (length costs) rows c.first_broken-broken.result good low))

pub returns-clause-each : goal.returns-clause-each
returns-clause-each c =
    let start = c.args.start.now in
    let limits = c.args.limits.now in
    let rows = c.as_slice-rows.ensures ∙ c.in_ok-program.ensures.rows in
    let broken = broken_is start limits c.as_slice.result.now c.as_slice-rows.result.now c.first_broken-broken.result (c.as_slice.ensures ∙ c.in_ok-values.ensures.each) rows c.first_broken-broken.ensures in
    multipliers_are start limits c.as_slice-rows.result.now c.first_broken-broken.result c.terms-terms.result.now c.case_of-case.result c.deref-2.result.now c.len.result c.in_ok-multipliers.multipliers
    c.add_given.new.multipliers broken rows c.terms-terms.ensures c.case_of-case.ensures (c.deref-2.ensures.value ∙ c.in_ok-features.ensures) c.len.ensures c.in_ok-multipliers.ensures
    c.in_ok-add_given.ensures

pub returns-clause-one_each : goal.returns-clause-one_each
returns-clause-one_each c = record {
  one_each = ap length (returns-clause-each c) ∙ multipliers_count c.args.start.now c.args.limits.now;
  small = subst (λ (ls : List ℕ). All (λ l. l < WIDE) ls) c.multipliers.view_is c.multipliers.invariant;
}

pub returns-clause-cost : goal.returns-clause-cost
returns-clause-cost c point e is =
    let start = c.args.start.now in
    let limits = c.args.limits.now in
    let same = returns-clause-each c in
    let are = subst (λ (ls : List ℕ). AreMultipliers start limits ls) same (returns-clause-one_each c) in
    subst (λ (ls : List ℕ). IsBound e (node_of start limits) ls (point_cost_of start (cell_values start limits))) (sym same) (cell_cost e start limits is (c.requires.limits e is) c.requires.cell are point)

pub returns-clause-beyond : goal.returns-clause-beyond
returns-clause-beyond c never e is =
    let start = c.args.start.now in
    let limits = c.args.limits.now in
    let same = returns-clause-each c in
    let are = subst (λ (ls : List ℕ). AreMultipliers start limits ls) same (returns-clause-one_each c) in
    subst (λ (ls : List ℕ). IsBound e (node_of start limits) ls (start.ballots + 1)) (sym same) (cell_beyond e start limits is (c.requires.limits e is) c.requires.cell are never)
