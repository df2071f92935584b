use Rattle.std.proofs.Common.{◌+◌, length, FitsSigned, w64}
use Rattle.std.proofs.lemmas.Int.{to_z-of_z}
use Rattle.std.proofs.lemmas.List.Elements.{All-push}
use Rattle.row_program.specs.Bounds.{IsRow}
use Rattle.goal_rows.specs.Programs.{row_by, value_before, weights_by}
use Rattle.goal_rows.specs.declared.weighings.Weighing.TheVariants.{Limited}
use Rattle.goal_rows.proofs.ProgramRows.{few_fit, limit_made, made_more}
use Rattle.goal_rows.proofs.programs.add_limit_rows.Goals as goal

pub loop-limit-preserved : goal.loop-limit-preserved
loop-limit-preserved c =
    let classes = c.args.start.now.classes in
    let arcs = c.args.arcs.now in
    let limits = c.args.limits.now in
    let i = c.loop-limit.limit-index in
    let rows = c.loop-limit.rows in
    let so_far = c.loop-limit.invariant in
    let n = c.value_before-constant.result in
    let row = c.in_ok-row_of.field-0 in
    let fits : FitsSigned w64 c.value_before-constant.result = few_fit c.value_before-constant.result c.value_before-constant.ensures.small in
    let is = simp to_z-of_z at c.in_ok-row_of.ensures.value in
    rw c.in_ok-push.ensures.ok (record {
      rows = made_more (λ limit. row_by (value_before limit) (weights_by (Limited limit) classes arcs)) limits i _ c.args.rows.now rows row
          c.loop-limit-test.true (limit_made limits i _ classes arcs n row c.value_before-constant.ensures.value is) so_far.rows;
      good = All-push (IsRow (length classes + length arcs)) rows row so_far.good c.in_ok-row_of.ensures.row;
    })
