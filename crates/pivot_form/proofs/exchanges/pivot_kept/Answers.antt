use Rattle.std.proofs.Common.{arith, ap, sym, ◌∙◌, subst, ◌≡◌, ◌<◌, ℕ, length, get_or, List, [], Some}
use Rattle.std.specs.Prelude.{ℤ, pos, unsigned_abs, Vec}
use Rattle.std.specs.List.{All}
use Rattle.exact_num.specs.declared.limits.TheConstants.{WIDE}
use Rattle.row_program.specs.Forms.{turned}
use Rattle.pivot_form.specs.Invariant.{row_lists}
use Rattle.pivot_form.specs.Kept.{exchanged, short_row, table_of}
use Rattle.pivot_form.specs.Shorts.{IsShort, store_of}
use Rattle.pivot_form.proofs.Equations.{length-row_lists, row_lists-get}
use Rattle.pivot_form.proofs.Steps.{exchanged_narrow, kept_nonzero, kept_slot, kept_step, row_equation, row_small}
use Rattle.pivot_form.proofs.exchanges.pivot_kept.Goals as goal

-- the row of a slot as it is lent
given : {A : Type 0} (rows : List (Vec ℤ A)) (k : ℕ) (v : Vec ℤ A) (xs : List ℤ) → xs ≡ v.items → v ≡ get_or rows k v → k < length (row_lists rows) → xs ≡ get_or (row_lists rows) k []
given rows k v xs lent is l = lent ∙ ap (λ (w : Vec ℤ _). w.items) is ∙ sym (row_lists-get rows k v (omega (arith, l, length-row_lists rows)))

pub turn-requires-clause-small : goal.turn-requires-clause-small
turn-requires-clause-small c =
    let s = store_of c.args.short.now in
    let slot = kept_slot s c.args.row c.args.entering c.args.column c.requires.short c.requires.row c.requires.entering c.requires.column c.requires.nonzero c.requires.narrow c.args.slot c.requires.kept in
    subst (All (λ x. unsigned_abs x < WIDE)) (sym (given c.args.short.now.rows.items c.args.slot c.index.result.now c.as_slice.result.now c.as_slice.ensures.value c.index.ensures slot)) (row_small s c.args.slot c.requires.short slot)

pub turn-requires-clause-nonzero : goal.turn-requires-clause-nonzero
turn-requires-clause-nonzero c = λ f.
    let s = store_of c.args.short.now in
    let slot = kept_slot s c.args.row c.args.entering c.args.column c.requires.short c.requires.row c.requires.entering c.requires.column c.requires.nonzero c.requires.narrow c.args.slot c.requires.kept in
    let row = given c.args.short.now.rows.items c.args.slot c.index.result.now c.as_slice.result.now c.as_slice.ensures.value c.index.ensures slot in
    kept_nonzero s c.args.row c.args.entering c.args.column c.requires.short c.requires.row c.requires.entering c.requires.column c.requires.nonzero c.requires.narrow c.args.slot c.requires.kept (sym (ap (λ (xs : List ℤ). get_or xs c.args.column (pos 0)) row) ∙ f)

pub exchange-requires-clause-equations : goal.exchange-requires-clause-equations
exchange-requires-clause-equations c = λ k l. row_equation (store_of c.args.short.now) k c.requires.short (omega (arith, l, length-row_lists c.args.short.now.rows.items))

pub exchange-requires-clause-narrow : goal.exchange-requires-clause-narrow
exchange-requires-clause-narrow c = λ k l.
    let s = store_of c.args.short.now in
    let slot = kept_slot s c.args.row c.args.entering c.args.column c.requires.short c.requires.row c.requires.entering c.requires.column c.requires.nonzero c.requires.narrow c.args.slot c.requires.kept in
    let row = given c.args.short.now.rows.items c.args.slot c.index.result.now c.as_slice.result.now c.as_slice.ensures.value c.index.ensures slot in
    let lead : c.turn.new.lead ≡ turned c.args.column (short_row s c.args.slot) = c.turn.ensures.value ∙ ap (turned c.args.column) row in
    let step = kept_step s c.args.row c.args.entering c.args.column c.requires.short c.requires.row c.requires.entering c.requires.column c.requires.nonzero c.requires.narrow c.args.slot c.requires.kept in
    rw lead (exchanged_narrow s c.args.row (get_or s.basis c.args.row 0) c.args.entering c.args.column (turned c.args.column (short_row s c.args.slot)) (Some c.args.slot) k step.0 (omega (arith, l, length-row_lists c.args.short.now.rows.items)))

pub returns-clause-short : goal.returns-clause-short
returns-clause-short c =
    let s = store_of c.args.short.now in
    let slot = kept_slot s c.args.row c.args.entering c.args.column c.requires.short c.requires.row c.requires.entering c.requires.column c.requires.nonzero c.requires.narrow c.args.slot c.requires.kept in
    let row = given c.args.short.now.rows.items c.args.slot c.index.result.now c.as_slice.result.now c.as_slice.ensures.value c.index.ensures slot in
    let lead : c.turn.new.lead ≡ turned c.args.column (short_row s c.args.slot) = c.turn.ensures.value ∙ ap (turned c.args.column) row in
    let step = kept_step s c.args.row c.args.entering c.args.column c.requires.short c.requires.row c.requires.entering c.requires.column c.requires.nonzero c.requires.narrow c.args.slot c.requires.kept in
    subst IsShort (sym (c.exchange.ensures ∙ ap (λ (xs : List ℤ). exchanged s c.args.row (get_or s.basis c.args.row 0) c.args.entering c.args.column xs (Some c.args.slot)) lead)) step.0

pub returns-clause-value : goal.returns-clause-value
returns-clause-value c =
    let s = store_of c.args.short.now in
    let slot = kept_slot s c.args.row c.args.entering c.args.column c.requires.short c.requires.row c.requires.entering c.requires.column c.requires.nonzero c.requires.narrow c.args.slot c.requires.kept in
    let row = given c.args.short.now.rows.items c.args.slot c.index.result.now c.as_slice.result.now c.as_slice.ensures.value c.index.ensures slot in
    let lead : c.turn.new.lead ≡ turned c.args.column (short_row s c.args.slot) = c.turn.ensures.value ∙ ap (turned c.args.column) row in
    let step = kept_step s c.args.row c.args.entering c.args.column c.requires.short c.requires.row c.requires.entering c.requires.column c.requires.nonzero c.requires.narrow c.args.slot c.requires.kept in
    ap table_of (c.exchange.ensures ∙ ap (λ (xs : List ℤ). exchanged s c.args.row (get_or s.basis c.args.row 0) c.args.entering c.args.column xs (Some c.args.slot)) lead) ∙ step.1
