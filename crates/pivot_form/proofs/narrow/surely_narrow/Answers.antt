use Rattle.std.proofs.Common.{◌≡◌, ⊎_elim, ◌∙◌, ◌<◌, ◌≤◌, ◌+◌, ◌*◌, ap, sym, subst, refl, arith, ℕ, length, get_or, unsigned_abs, List, []}
use Rattle.std.specs.Prelude.{ℤ, pos, Vec}
use Rattle.std.specs.List.{All}
use Rattle.std.proofs.lemmas.Bool.{cases_lt}
use Rattle.exact_num.specs.declared.limits.TheConstants.{WIDE}
use Rattle.pivot_form.specs.Invariant.{row_lists}
use Rattle.pivot_form.specs.Kept.{cell, short_row}
use Rattle.pivot_form.specs.Shorts.{store_of}
use Rattle.pivot_form.proofs.Equations.{length-row_lists, row_lists-get}
use Rattle.pivot_form.proofs.Shorts.{kept_bits}
use Rattle.pivot_form.proofs.Sizes.{bounded_narrow}
use Rattle.pivot_form.proofs.Steps.{row_small}
use Rattle.pivot_form.proofs.narrow.surely_narrow.Goals as goal
use Rattle.pivot_form.proofs.narrow.surely_narrow.Goals.{else-k-slot-via-then-k-slot+else-not-row_fits, else-k-slot-via-else-k-slot}

-- the row of a slot as it is lent
given : {A : Type 0} (all rows : List (Vec ℤ A)) (k : ℕ) (v : Vec ℤ A) (xs : List ℤ) → all ≡ rows → xs ≡ v.items → v ≡ get_or all k v → k < length all → xs ≡ get_or (row_lists rows) k []
given all rows k v xs same lent is l =
    lent ∙ ap (λ (w : Vec ℤ _). w.items) is ∙ sym (row_lists-get all k v l) ∙ ap (λ (vs : List (Vec ℤ _)). get_or (row_lists vs) k []) same

pub most-most_lead-requires : goal.most-most_lead-requires
most-most_lead-requires c =
    let s = store_of c.args.short.now in
    let slot = c.requires.short.store.kept (get_or s.basis c.args.row 0) c.args.slot (c.requires.short.store.basics c.args.row c.requires.row) c.requires.kept in
    subst (All (λ x. unsigned_abs x < WIDE))
    (sym (given c.args.short.now.rows.items c.args.short.now.rows.items c.args.slot c.index.result.now c.as_slice.result.now refl c.as_slice.ensures.value c.index.ensures (omega (arith, slot, length-row_lists c.args.short.now.rows.items))))
    (row_small s c.args.slot c.requires.short slot)

-- the other slot's row
lent : (c : goal.After-as_slice-then-k-slot) → c.as_slice-then-k-slot.result.now ≡ short_row (store_of c.args.short.now) c.loop-k.k
lent c = given c.deref-other-items.result.now c.args.short.now.rows.items c.loop-k.k c.other-item.result c.as_slice-then-k-slot.result.now c.deref-other-items.ensures.value c.as_slice-then-k-slot.ensures.value c.other-item.is c.loop-k-test.true

low : (c : goal.After-as_slice-then-k-slot) → c.loop-k.k < length (store_of c.args.short.now).rows
low c = omega (arith, c.loop-k-test.true, ap length c.deref-other-items.ensures.value, length-row_lists c.args.short.now.rows.items)

pub row_fits-requires-clause-within : goal.row_fits-requires-clause-within
row_fits-requires-clause-within c =
    let inside = c.requires.short.store.columns c.args.entering c.args.column c.requires.entering c.requires.column in
    let wide = ap length (lent c) ∙ c.requires.short.store.widths c.loop-k.k (low c) in
    omega (arith, inside, wide)

pub row_fits-requires-clause-small : goal.row_fits-requires-clause-small
row_fits-requires-clause-small c = subst (All (λ x. unsigned_abs x < WIDE)) (sym (lent c)) (row_small (store_of c.args.short.now) c.loop-k.k c.requires.short (low c))

pub loop-k-preserved : goal.loop-k-preserved
loop-k-preserved c = λ i h apart there.
    let s = store_of c.args.short.now in
    ⊎_elim
    (λ (before : i < c.loop-k.k). c.loop-k.invariant i before apart there)
    (λ past.
    let same : i ≡ c.loop-k.k = omega (arith, h, past) in
    elim c.else-k-slot.branch [
      | else-k-slot-via-then-k-slot+else-not-row_fits w ↦
          let row = given c.deref-other-items.result.now c.args.short.now.rows.items c.loop-k.k c.other-item.result w.as_slice-then-k-slot.result.now c.deref-other-items.ensures.value w.as_slice-then-k-slot.ensures.value c.other-item.is c.loop-k-test.true ∙ ap (short_row s) (sym same) in
          subst (λ (xs : List ℤ). All (λ x. (c.unsigned_abs-p.result * unsigned_abs x + unsigned_abs (get_or xs c.args.column (pos 0)) * c.most-most_lead.result) * (c.args.most_sum + 1) < WIDE) xs) row
          (w.row_fits.ensures w.if-not-row_fits.false (λ f. there (ap (λ (xs : List ℤ). get_or xs c.args.column (pos 0)) (sym row) ∙ f)))
      | else-k-slot-via-else-k-slot w ↦ absurd (apart (same ∙ w.if-k-slot.false))
    ])
    (cases_lt i c.loop-k.k)

pub returns : goal.returns
returns c = λ t.
    let s = store_of c.args.short.now in
    let slot = c.requires.short.store.kept (get_or s.basis c.args.row 0) c.args.slot (c.requires.short.store.basics c.args.row c.requires.row) c.requires.kept in
    let lead = given c.args.short.now.rows.items c.args.short.now.rows.items c.args.slot c.index.result.now c.as_slice.result.now refl c.as_slice.ensures.value c.index.ensures (omega (arith, slot, length-row_lists c.args.short.now.rows.items)) in
    let p : c.unsigned_abs-p.result ≡ unsigned_abs (cell s c.args.slot c.args.column) = c.unsigned_abs-p.ensures.value ∙ ap unsigned_abs (kept_bits c.cell.result c.cell.ensures.small ∙ c.cell.ensures.value) in
    let lead_fits : c.most-most_lead.result * (c.args.most_sum + 1) < WIDE = subst (λ (n : ℕ). n * (c.args.most_sum + 1) < WIDE) c.from.ensures (c.fits.ensures c.if-not-fits.false) in
    bounded_narrow s c.args.row c.args.entering c.args.column c.args.slot c.args.most_sum c.most-most_lead.result c.requires.short c.requires.sums c.requires.row c.requires.entering c.requires.column c.requires.kept c.requires.nonzero
    (subst (All (λ x. unsigned_abs x ≤ c.most-most_lead.result)) lead c.most-most_lead.ensures.most) lead_fits
    (λ l h apart there. subst (λ (n : ℕ). All (λ x. (n * unsigned_abs x + unsigned_abs (cell s l c.args.column) * c.most-most_lead.result) * (c.args.most_sum + 1) < WIDE) (short_row s l)) p
    (c.loop-k.invariant l (omega (arith, h, c.loop-k-test.false, ap length c.deref-other-items.ensures.value, length-row_lists c.args.short.now.rows.items)) apart there))
