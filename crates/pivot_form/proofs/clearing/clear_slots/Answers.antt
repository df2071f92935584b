use Rattle.std.proofs.Common.{arith, ap, sym, ◌∙◌, subst, ◌≡◌, ◌+◌, ℕ, length, get_or, List, [], Option, Bool, cond, set}
use Rattle.std.specs.Prelude.{ℤ}
use Rattle.row_program.specs.Forms.{first_large}
use Rattle.pivot_form.specs.Invariant.{IsEquation, row_lists}
use Rattle.pivot_form.specs.Kept.{cleared_by, is_slot, next_by}
use Rattle.pivot_form.proofs.Equations.{map_front_from_all, length-row_lists}
use Rattle.pivot_form.proofs.NextForm.{current_row, written_row}
use Rattle.pivot_form.proofs.clearing.clear_slots.Goals as goal

-- the row as the call of `renew_short` is given it
given : (c : goal.After-renew_short-arg-1) → c.as_mut_slice.result.now ≡ get_or (row_lists c.args.rows.now) c.loop-k.k []
given c = c.as_mut_slice.ensures.value ∙ current_row (next_by c.args.width c.args.lead.now.column c.args.lead.now.own c.args.lead.now.row.now c.args.slot) c.loop-k.rows c.args.rows.now c.loop-k.k c.index-rows-k.result c.loop-k.invariant.rows (omega arith)

equation : (c : goal.After-renew_short-arg-1) → IsEquation (c.args.width + 1) c.as_mut_slice.result.now
equation c = subst (IsEquation (c.args.width + 1)) (sym (given c)) (c.requires.equations c.loop-k.k (omega arith))

-- what is made of it
chosen : (width column k : ℕ) (p : ℤ) (lead row source : List ℤ) (slot : Option ℕ) (own : Bool) → row ≡ source → own ≡ is_slot slot k
    → cond own (set lead width p) (cleared_by column p lead row) ≡ next_by width column p lead slot k source
chosen width column k p lead row source slot own same is =
    ap (λ (xs : List ℤ). cond own (set lead width p) (cleared_by column p lead xs)) same
    ∙ ap (λ (b : Bool). cond b (set lead width p) (cleared_by column p lead source)) is

pub renew_short-requires-clause-wide : goal.renew_short-requires-clause-wide
renew_short-requires-clause-wide c = let e = equation c in omega (arith, e.width)

pub renew_short-requires-clause-small_row : goal.renew_short-requires-clause-small_row
renew_short-requires-clause-small_row c = let e = equation c in e.small

pub renew_short-requires-clause-primitive : goal.renew_short-requires-clause-primitive
renew_short-requires-clause-primitive c = let e = equation c in e.primitive

pub renew_short-requires-clause-narrow : goal.renew_short-requires-clause-narrow
renew_short-requires-clause-narrow c =
    let row = get_or (row_lists c.args.rows.now) c.loop-k.k [] in
    ap first_large (chosen c.args.width c.args.lead.now.column c.loop-k.k c.args.lead.now.own c.args.lead.now.row.now c.as_mut_slice.result.now row c.args.slot c.is_slot-own.result (given c) c.is_slot-own.ensures)
    ∙ c.requires.narrow c.loop-k.k (omega arith)

pub loop-k-preserved : goal.loop-k-preserved
loop-k-preserved c =
    let f = next_by c.args.width c.args.lead.now.column c.args.lead.now.own c.args.lead.now.row.now c.args.slot in
    let lent : c.as_mut_slice.result.now ≡ (get_or c.loop-k.rows c.loop-k.k c.index-rows-k.result).items = c.as_mut_slice.ensures.value in
    let row = get_or (row_lists c.args.rows.now) c.loop-k.k [] in
    let same_row : c.as_mut_slice.result.now ≡ row = lent ∙ current_row f c.loop-k.rows c.args.rows.now c.loop-k.k c.index-rows-k.result c.loop-k.invariant.rows (omega arith) in
    let new : c.renew_short.new.row ≡ f c.loop-k.k row = c.renew_short.ensures ∙ chosen c.args.width c.args.lead.now.column c.loop-k.k c.args.lead.now.own c.args.lead.now.row.now c.as_mut_slice.result.now row c.args.slot c.is_slot-own.result same_row c.is_slot-own.ensures in
    record {
      rows = written_row f c.loop-k.rows c.args.rows.now c.loop-k.k c.index-rows-k.result c.renew_short.new.row c.loop-k.invariant.rows (omega arith) (omega arith) (omega (arith, c.renew_short.auto.row, ap length lent)) new;
      room = omega (arith, c.renew_short.auto.scratch, c.loop-k.invariant.room);
    }

pub returns : goal.returns
returns c =
    c.loop-k.invariant.rows ∙ map_front_from_all (next_by c.args.width c.args.lead.now.column c.args.lead.now.own c.args.lead.now.row.now c.args.slot) c.loop-k.k 0 (row_lists c.args.rows.now) (omega (arith, length-row_lists c.args.rows.now))
