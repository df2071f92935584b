use Rattle.std.proofs.Common.{refl, ◌≡◌, ◌+◌, ◌∙◌, ◌++◌, ◌∷◌, [], List, Vec, ap, sym, subst, get_or, length}
use Rattle.std.specs.Prelude.{ℤ}
use Rattle.row_program.specs.Forms.{empty_row}
use Rattle.pivot_form.specs.Invariant.{row_lists}
use Rattle.pivot_form.specs.Starts.{AreFirstRows}
use Rattle.pivot_form.proofs.ClassPairs.{row_read}
use Rattle.pivot_form.proofs.Equations.{row_lists-push}
use Rattle.pivot_form.proofs.FirstSlots.{cost_first, row_added, row_left_out, rows_more, rows_none, slack_kept}
use Rattle.pivot_form.proofs.Starts.{no_cost_pair}
use Rattle.pivot_form.proofs.start.short_rows.Goals as goal
use Rattle.pivot_form.proofs.start.short_rows.Goals.{then-is_none+in_ok-short_row+in_ok-push-2, else-is_none}

pub loop-i-init : goal.loop-i-init
loop-i-init c =
    let p = c.args.program.now in
    let pairs = c.args.pairs.now in
    let v = c.in_ok-short_cost.field-0 in
    let made = c.in_ok-short_cost.ensures in
    let rows : row_lists c.push.new.self.items ≡ v.items ∷ [] =
    ap row_lists c.in_ok-push.ensures.items ∙ row_lists-push c.in_ok-rows.rows.items v ∙ ap (λ (xs : List (Vec ℤ _)). row_lists xs ++ v.items ∷ []) c.in_ok-rows.ensures in
    subst (AreFirstRows p pairs 1) (sym rows)
    (rows_more p pairs [] v.items 0 1 (rows_none p pairs) refl (no_cost_pair (length p.costs) p.rows (length p.rows) pairs c.requires.pairs)
    (cost_first p c.as_slice.result.now v.items c.as_slice.ensures made.width made.columns made.own made.right))

pub loop-i-preserved : goal.loop-i-preserved
loop-i-preserved c =
    let p = c.args.program.now in
    let pairs = c.args.pairs.now in
    let i = c.loop-i.i in
    let n = c.len-variables.result in
    elim c.if-is_none.branch [
      | then-is_none+in_ok-short_row+in_ok-push-2 w ↦
          let v = w.in_ok-short_row.field-0 in
          let made = w.in_ok-short_row.ensures in
          let row : c.row-item.result ≡ get_or p.rows i empty_row = row_read p.rows c.as_slice-row-items.result.now i c.row-item.result c.as_slice-row-items.ensures c.loop-i-test.true c.row-item.is in
          let rows : row_lists c.if-is_none.rows.items ≡ row_lists c.loop-i.rows.items ++ v.items ∷ [] =
          ap (λ (x : Vec (Vec ℤ _) _). row_lists x.items) w.rows-is ∙ ap row_lists w.in_ok-push-2.ensures.items ∙ row_lists-push c.loop-i.rows.items v in
          subst (AreFirstRows p pairs (i + 1 + 1)) (sym rows)
          (row_added p pairs (row_lists c.loop-i.rows.items) n i c.is_none.result c.len-variables.ensures c.loop-i.invariant c.is_none.ensures w.if-is_none.true v.items
          (slack_kept p n i c.row-item.result v.items c.len-variables.ensures row made.width made.columns made.own made.right))
      | else-is_none w ↦
          subst (λ (x : Vec (Vec ℤ _) _). AreFirstRows p pairs (i + 1 + 1) (row_lists x.items)) (sym w.rows-is)
          (row_left_out p pairs (row_lists c.loop-i.rows.items) n i c.is_none.result c.len-variables.ensures c.loop-i.invariant c.is_none.ensures w.if-is_none.false)
    ]
