use Rattle.std.proofs.Common.{arith, rules, ◌≡◌, ◌<◌, ◌+◌, ◌∙◌, ap, sym, subst, length, get_or, List, Option, ℕ, Vec}
use Rattle.std.proofs.lemmas.Int.{to_z-of_z}
use Rattle.std.specs.Int.RustNames.{FitsSigned}
use mir.Syntax.{w64}
use Rattle.std.proofs.lemmas.List.{with_items_is}
use Rattle.row_program.specs.declared.program.Row.{Row}
use Rattle.row_program.specs.Bounds.{IsRow}
use Rattle.row_program.specs.Forms.{empty_row}
use Rattle.pivot_form.specs.declared.places.Pair.{Pair}
use Rattle.pivot_form.specs.Starts.{ArePairs, IsClassRow, paired_up}
use Rattle.pivot_form.proofs.ClassPairs.{class_within, pairs_more, pairs_past, row_read}
use Rattle.pivot_form.proofs.pairs.pairs_of.Goals as goal
use Rattle.pivot_form.proofs.pairs.pairs_of.Goals.{then-i-program+in-Some, else-i-program}

pub pair_up-requires-clause-variable : goal.pair_up-requires-clause-variable
pair_up-requires-clause-variable c =
    let p = c.args.program.now in
    let i = c.loop-i.i in
    let n = length p.costs in
    let inside : i < length p.rows = omega (arith, c.loop-i-test.true, ap length c.as_slice-row-items.ensures) in
    let row : c.row-item.result ≡ get_or p.rows i empty_row = row_read p.rows c.as_slice-row-items.result.now i c.row-item.result c.as_slice-row-items.ensures c.loop-i-test.true c.row-item.is in
    let good : IsRow n c.row-item.result = subst (IsRow n) (sym row) (p.bounds.good_rows i empty_row inside) in
    let low : c.in-Some.variable < n = class_within n c.row-item.result c.in-Some.variable c.in-Some.ensures good in
    omega (arith, low, c.loop-i.invariant.width, ap length c.as_mut_slice.ensures.value)

pub loop-i-preserved : goal.loop-i-preserved
loop-i-preserved c =
    let p = c.args.program.now in
    let i = c.loop-i.i in
    let n = length p.costs in
    elim c.if-i-program.branch [
      | then-i-program+in-Some w ↦
          let f = w.in-Some.variable in
          let inside : i < length p.rows = omega (arith, c.loop-i-test.true, ap length c.as_slice-row-items.ensures) in
          let row : c.row-item.result ≡ get_or p.rows i empty_row = row_read p.rows c.as_slice-row-items.result.now i c.row-item.result c.as_slice-row-items.ensures c.loop-i-test.true c.row-item.is in
          let good : IsRow n c.row-item.result = subst (IsRow n) (sym row) (p.bounds.good_rows i empty_row inside) in
          let low : f < n = class_within n c.row-item.result f w.in-Some.ensures good in
          let class_row : IsClassRow (get_or p.rows i empty_row) f = subst (λ (r : Row). IsClassRow r f) row w.in-Some.ensures in
          let small = good.small_constant in
          let fits : FitsSigned w64 c.row-item.result.constant = search rules in
          let given : w.pair_up.new.pairs ≡ paired_up w.as_mut_slice.result.now (1 + f) (1 + c.len-variables.result + i) c.row-item.result.constant = simp to_z-of_z at w.pair_up.ensures in
          let made : w.pair_up.new.pairs ≡ paired_up c.loop-i.pairs.items (1 + f) (1 + n + i) c.row-item.result.constant =
          given
          ∙ ap (λ (xs : List (Option Pair)). paired_up xs (1 + f) (1 + c.len-variables.result + i) c.row-item.result.constant) w.as_mut_slice.ensures.value
          ∙ ap (λ (x : ℕ). paired_up c.loop-i.pairs.items (1 + f) (1 + x + i) c.row-item.result.constant) c.len-variables.ensures in
          let items : c.if-i-program.pairs.items ≡ w.pair_up.new.pairs =
          ap (λ (v : Vec (Option Pair) _). v.items) w.pairs-is ∙ with_items_is c.loop-i.pairs w.pair_up.new.pairs (w.pair_up.auto.pairs ∙ ap length w.as_mut_slice.ensures.value ∙ sym c.loop-i.pairs.ok.0) in
          subst (ArePairs n p.rows (i + 1)) (sym (items ∙ made))
          (pairs_more n p.rows i (i + 1) f c.row-item.result.constant c.loop-i.pairs.items c.loop-i.invariant (omega arith) inside low class_row (ap (λ (r : Row). r.constant) row))
      | else-i-program w ↦ subst (λ (v : Vec (Option Pair) _). ArePairs n p.rows (i + 1) v.items) (sym w.pairs-is) (pairs_past n p.rows i (i + 1) c.loop-i.pairs.items c.loop-i.invariant (omega arith))
    ]
