use Rattle.std.proofs.Common.{arith, ap, sym, ◌∙◌, subst, ◌≡◌, ◌<◌, ◌+◌, ℕ, length, get_or, set, List, [], Some, refl}
use Rattle.std.specs.Prelude.{ℤ, pos, ◌*ℤ◌, ◌-ℤ◌, unsigned_abs, Vec}
use Rattle.std.specs.List.{All}
use Rattle.std.specs.Vec.{with_items}
use Rattle.std.proofs.lemmas.List.{get_or_default, with_items_is}
use Rattle.std.proofs.lemmas.Int.{fits_signed_from_abs, to_z-of_z}
use mir.Syntax.{w64}
use mir.Val.{to_z, of_z}
use Rattle.exact_num.specs.declared.limits.TheConstants.{WIDE}
use Rattle.pivot_form.specs.declared.places.Pair.{Pair}
use Rattle.pivot_form.specs.declared.places.Place.TheVariants.{Column, Kept, Paired}
use Rattle.pivot_form.specs.Invariant.{row_lists}
use Rattle.pivot_form.specs.Kept.{Store, cell, flipped, mirrored, pair_of, place_of, short_row}
use Rattle.pivot_form.specs.Shorts.{IsBasic, IsShort, store_of}
use Rattle.pivot_form.proofs.Equations.{length-row_lists, row_lists-get, row_lists-set}
use Rattle.pivot_form.proofs.Shorts.{cell_small, mirror_right, right_small, sum_small}
use Rattle.pivot_form.proofs.exchanges.flip.Goals as goal

abbrev kept : ℤ → ℤ
kept p = to_z w64 (of_z w64 p)

module _ (s : Store) (b k : ℕ) (p : Pair) (is : IsShort s) (inside : b < length s.places) (paired : place_of s b ≡ Paired) (pair : pair_of s b ≡ Some p) (other : place_of s p.other ≡ Kept k) where
  same_sum : kept p.sum ≡ p.sum
  same_sum = to_z-of_z w64 p.sum (fits_signed_from_abs w64 p.sum (sum_small s b p is inside pair))

  slot : k < length s.rows
  slot = let good = is.store.pairs b p inside pair in is.store.kept p.other k good.0 other

  narrow : unsigned_abs (cell s k s.width *ℤ p.sum -ℤ cell s k (s.width + 1)) < WIDE
  narrow =
      let basic : IsBasic s b = record { within = inside; no_column = λ j e. let f : Column j ≡ Paired = sym e ∙ paired in cc } in
      subst (λ (x : ℤ). unsigned_abs x < WIDE) (mirror_right s b p is basic paired pair k other) (right_small s b is basic)

-- the row of a slot as it is lent
given : {A : Type 0} (rows : List (Vec ℤ A)) (k : ℕ) (v : Vec ℤ A) (xs : List ℤ) → xs ≡ v.items → v ≡ get_or rows k v → k < length (row_lists rows) → xs ≡ get_or (row_lists rows) k []
given rows k v xs lent is l = lent ∙ ap (λ (w : Vec ℤ _). w.items) is ∙ sym (row_lists-get rows k v (omega (arith, l, length-row_lists rows)))

pub mirror-requires-clause-wide : goal.mirror-requires-clause-wide
mirror-requires-clause-wide c =
    let s = store_of c.args.short.now in
    let k = slot s c.args.basic c.args.slot c.args.pair c.requires.short c.requires.within c.requires.paired c.requires.pair c.requires.other in
    ap length (given c.args.short.now.rows.items c.args.slot c.index_mut.result.now c.as_mut_slice.result.now c.as_mut_slice.ensures.value c.index_mut.ensures.value k) ∙ c.requires.short.store.widths c.args.slot k

pub mirror-requires-clause-small_row : goal.mirror-requires-clause-small_row
mirror-requires-clause-small_row c =
    let s = store_of c.args.short.now in
    let k = slot s c.args.basic c.args.slot c.args.pair c.requires.short c.requires.within c.requires.paired c.requires.pair c.requires.other in
    subst (All (λ x. unsigned_abs x < WIDE)) (sym (given c.args.short.now.rows.items c.args.slot c.index_mut.result.now c.as_mut_slice.result.now c.as_mut_slice.ensures.value c.index_mut.ensures.value k))
    (λ j d h. subst (λ (x : ℤ). unsigned_abs x < WIDE) (sym (get_or_default (short_row s c.args.slot) j d (pos 0) h))
    (cell_small s c.args.slot j c.requires.short k (omega (arith, h, c.requires.short.store.widths c.args.slot k))))

pub mirror-requires-clause-narrow : goal.mirror-requires-clause-narrow
mirror-requires-clause-narrow c =
    let s = store_of c.args.short.now in
    let k = slot s c.args.basic c.args.slot c.args.pair c.requires.short c.requires.within c.requires.paired c.requires.pair c.requires.other in
    let row = given c.args.short.now.rows.items c.args.slot c.index_mut.result.now c.as_mut_slice.result.now c.as_mut_slice.ensures.value c.index_mut.ensures.value k in
    rw (same_sum s c.args.basic c.args.slot c.args.pair c.requires.short c.requires.within c.requires.paired c.requires.pair c.requires.other, row)
    (narrow s c.args.basic c.args.slot c.args.pair c.requires.short c.requires.within c.requires.paired c.requires.pair c.requires.other)

-- what is left of the vectors
flipped_same : (s : Store) (b : ℕ) (p : Pair) (k : ℕ) (rows : List (List ℤ)) → rows ≡ set s.rows k (mirrored s.width p.sum (short_row s k))
    → record { width = s.width; basis = s.basis; places = set (set s.places b (Kept k)) p.other Paired; pairs = s.pairs; rows = rows } ≡ flipped s b p k
flipped_same s b p k rows e = rw e refl

pub returns : goal.returns
returns c =
    let s = store_of c.args.short.now in
    let vec = c.index_mut.result.now in
    let k = slot s c.args.basic c.args.slot c.args.pair c.requires.short c.requires.within c.requires.paired c.requires.pair c.requires.other in
    let row = given c.args.short.now.rows.items c.args.slot vec c.as_mut_slice.result.now c.as_mut_slice.ensures.value c.index_mut.ensures.value k in
    let new : (with_items vec c.mirror.new.row).items ≡ c.mirror.new.row = with_items_is vec c.mirror.new.row (omega (arith, c.mirror.auto.row, ap length c.as_mut_slice.ensures.value) ∙ sym vec.ok.0) in
    let mirror_is : c.mirror.new.row ≡ mirrored c.args.short.now.width c.args.pair.sum (short_row s c.args.slot)
    = c.mirror.ensures ∙ rw (same_sum s c.args.basic c.args.slot c.args.pair c.requires.short c.requires.within c.requires.paired c.requires.pair c.requires.other, row) refl in
    flipped_same s c.args.basic c.args.pair c.args.slot _ (row_lists-set c.args.short.now.rows.items c.args.slot (with_items vec c.mirror.new.row) ∙ ap (set (row_lists c.args.short.now.rows.items) c.args.slot) (new ∙ mirror_is))
