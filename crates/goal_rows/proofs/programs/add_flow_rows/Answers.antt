use Rattle.std.proofs.Common.{◌+◌, length}
use Rattle.std.specs.Prelude.{pos}
use Rattle.std.proofs.lemmas.List.Elements.{All-push}
use Rattle.row_program.specs.Bounds.{IsRow}
use Rattle.goal_rows.specs.Programs.{row_by, weights_by}
use Rattle.goal_rows.proofs.ProgramRows.{made_more}
use Rattle.goal_rows.proofs.programs.add_flow_rows.Goals as goal

pub loop-weighing-preserved : goal.loop-weighing-preserved
loop-weighing-preserved c =
    let classes = c.args.start.now.classes in
    let arcs = c.args.arcs.now in
    let items = c.deref-weighing-items.result.now in
    let rows = c.loop-weighing.rows in
    let so_far = c.loop-weighing.invariant in
    rw c.in_ok-push.ensures.ok (record {
      rows = made_more (λ weighing. row_by (pos 0) (weights_by weighing classes arcs)) items c.loop-weighing.weighing-index _ c.args.rows.now rows c.in_ok-row_of.field-0
          c.loop-weighing-test.true c.in_ok-row_of.ensures.value so_far.rows;
      good = All-push (IsRow (length classes + length arcs)) rows c.in_ok-row_of.field-0 so_far.good c.in_ok-row_of.ensures.row;
    })
