use Rattle.std.proofs.Common.{[], ◌∷◌, ◌++◌, ◌+◌, ◌<◌, ◌∙◌, length, get_or, ap, arith}
use Rattle.std.proofs.lemmas.List.Elements.{All-push}
use Rattle.row_program.specs.Bounds.{IsRow}
use Rattle.goal_rows.specs.Programs.{class_row}
use Rattle.goal_rows.proofs.GroundSizes.{class_small}
use Rattle.goal_rows.proofs.ProgramRows.{item_more}
use Rattle.goal_rows.proofs.programs.add_class_rows.Goals as goal

pub class_row-requires : goal.class_row-requires
class_row-requires c = omega (arith, class_small c.args.classes.now c.loop-k.k, c.count.ensures, c.requires.small)

pub loop-k-preserved : goal.loop-k-preserved
loop-k-preserved c =
    let classes = c.args.classes.now in
    let k = c.loop-k.k in
    let n = length classes + c.args.others in
    let rows = c.loop-k.rows in
    let so_far = c.loop-k.invariant in
    let few : k < n = (let e = c.len-k-end.ensures.value in omega (arith, e, c.loop-k-test.true)) in
    rw c.in_ok-push.ensures.ok (record {
      rows = ap (λ r. rows ++ r ∷ []) (c.in_ok-class_row.ensures.value ∙ ap (class_row k) c.count.ensures)
          ∙ item_more (λ j. class_row j (get_or classes j (0, 0)).1) 0 k k c.args.rows.now rows (omega arith) so_far.rows;
      good = All-push (IsRow n) rows c.in_ok-class_row.field-0 so_far.good (c.in_ok-class_row.ensures.row n few);
    })
