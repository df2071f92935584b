use Rattle.std.proofs.Common.{List, ◌≡◌, ◌++◌, ◌+◌, ◌∙◌, length, ap, subst, arith}
use Rattle.std.specs.Prelude.{All}
use Rattle.row_program.specs.Bounds.{IsRow}
use Rattle.row_program.specs.declared.program.Row.{Row}
use Rattle.goal_rows.specs.Programs.{class_rows_of, costs_of, flow_rows_of, goal_rows_of, limit_rows_of, program_rows}
use Rattle.goal_rows.proofs.GroundSizes.{classes_small, few_arcs, few_sums, program_fits}
use Rattle.goal_rows.proofs.programs.program_of.Goals as goal

pub add_goal_rows-requires-clause-few : goal.add_goal_rows-requires-clause-few
add_goal_rows-requires-clause-few c =
    let few = few_arcs c.args.start.now c.requires.start in
    let same = ap length (c.deref-2.ensures.value ∙ c.in_ok-arcs.ensures) in
    omega (arith, few, same, c.requires.few)

pub add_limit_rows-requires-clause-few : goal.add_limit_rows-requires-clause-few
add_limit_rows-requires-clause-few c =
    let few = few_arcs c.args.start.now c.requires.start in
    let same = ap length (c.deref-3.ensures.value ∙ c.in_ok-arcs.ensures) in
    omega (arith, few, same, c.requires.few)

pub add_class_rows-requires-clause-small : goal.add_class_rows-requires-clause-small
add_class_rows-requires-clause-small c = classes_small c.args.start.now c.requires.start

pub add_class_rows-requires-clause-few : goal.add_class_rows-requires-clause-few
add_class_rows-requires-clause-few c =
    let few = few_arcs c.args.start.now c.requires.start in
    let same = ap length c.in_ok-arcs.ensures in
    omega (arith, few, same, c.requires.few, c.len.ensures)

pub add_flow_rows-requires-clause-few : goal.add_flow_rows-requires-clause-few
add_flow_rows-requires-clause-few c =
    let few = few_arcs c.args.start.now c.requires.start in
    let same = ap length (c.deref-4.ensures.value ∙ c.in_ok-arcs.ensures) in
    omega (arith, few, same, c.requires.few)

pub overflow_add-result : goal.overflow_add-result
overflow_add-result c =
    let few = few_sums c.args.start.now c.requires.start in
    let some = c.requires.start in
    let limits = (c.requires.limits some.0 some.1).few in
    omega (arith, few, limits, c.len-2.ensures)

pub invariant_of-result : goal.invariant_of-result
invariant_of-result c =
    let start = c.args.start.now in
    let limits = c.args.limits.now in
    let some = c.requires.start in
    let rows : c.add_flow_rows.new.rows ≡ program_rows start limits =
    c.in_ok-add_flow_rows.ensures.rows
    ∙ ap (λ (xs : List Row). xs ++ flow_rows_of start) (c.in_ok-add_class_rows.ensures.rows
    ∙ ap (λ (xs : List Row). xs ++ class_rows_of start.classes) (c.in_ok-add_limit_rows.ensures.rows
    ∙ ap (λ (xs : List Row). xs ++ limit_rows_of start limits) (c.in_ok-add_goal_rows.ensures.rows
    ∙ ap (λ (xs : List Row). xs ++ goal_rows_of start) c.new-rows.ensures))) in
    let same = ap length (c.deref-4.ensures.value ∙ c.in_ok-arcs.ensures) in
    let good = subst (λ n. All (IsRow (length start.classes + n)) c.add_flow_rows.new.rows) same c.in_ok-add_flow_rows.ensures.good in
    let costs = c.in_ok-costs.ensures ∙ ap (costs_of start.classes) (c.deref.ensures.value ∙ c.in_ok-arcs.ensures) in
    record {
      bounds = program_fits start limits c.in_ok-costs.costs c.add_flow_rows.new.rows (c.len-2.result + length limits) some (c.requires.limits some.0 some.1).few c.requires.few costs rows good
          (ap (λ n. n + length limits) c.len-2.ensures);
    }
