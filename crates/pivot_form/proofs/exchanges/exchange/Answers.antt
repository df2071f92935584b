use Rattle.std.proofs.Common.{arith, ap, sym, ◌∙◌, subst, ◌≡◌, ◌<◌, ℕ, length, get_or, set, List, [], Option, refl}
use Rattle.std.specs.Prelude.{ℤ, pos, unsigned_abs}
use Rattle.std.specs.Vec.{with_items}
use Rattle.std.proofs.lemmas.List.{get_or_read, with_items_is}
use Rattle.std.proofs.lemmas.Int.{fits_signed_from_abs, to_z-of_z}
use mir.Syntax.{w64}
use mir.Val.{to_z, of_z}
use Rattle.exact_num.specs.declared.limits.TheConstants.{WIDE}
use Rattle.row_program.specs.Forms.{first_large, map_from}
use Rattle.pivot_form.specs.declared.places.Place.{Place}
use Rattle.pivot_form.specs.declared.places.Place.TheVariants.{Column, Paired}
use Rattle.pivot_form.specs.Invariant.{row_lists}
use Rattle.pivot_form.specs.Kept.{Store, exchanged, next_short}
use Rattle.pivot_form.specs.Shorts.{store_of}
use Rattle.pivot_form.proofs.Equations.{get_or-map_from, length-row_lists}
use Rattle.pivot_form.proofs.exchanges.exchange.Goals as goal

abbrev kept : ℤ → ℤ
kept p = to_z w64 (of_z w64 p)

kept_is : (x : ℤ) → unsigned_abs x < WIDE → kept x ≡ x
kept_is x small = to_z-of_z w64 x (fits_signed_from_abs w64 x small)

pub clear_slots-requires-clause-narrow : goal.clear_slots-requires-clause-narrow
clear_slots-requires-clause-narrow c = λ k l.
    let lead = c.args.lead.now in
    let w = c.args.short.now.width in
    let j = c.args.column in
    let p : kept (get_or lead j (pos 0)) ≡ get_or lead j (pos 0) = kept_is (get_or lead j (pos 0)) (c.requires.small_lead j (pos 0) (omega (arith, c.requires.same_lead, c.requires.within))) in
    let q : kept (get_or lead w (pos 0)) ≡ get_or lead w (pos 0) = kept_is (get_or lead w (pos 0)) (c.requires.small_lead w (pos 0) (omega (arith, c.requires.same_lead))) in
    let rows : c.as_mut_slice.result.now ≡ c.args.short.now.rows.items = c.as_mut_slice.ensures.value in
    let m : k < length (row_lists c.args.short.now.rows.items) = omega (arith, l, ap length rows, length-row_lists c.args.short.now.rows.items) in
    rw (p, q, rows) (sym (ap first_large (get_or-map_from (next_short w j lead c.args.slot) 0 (row_lists c.args.short.now.rows.items) k k [] m (omega arith))) ∙ c.requires.narrow k (omega (arith, l, ap length rows)))

-- what is left of the vectors
exchanged_same : (s : Store) (r b b' e j : ℕ) (lead : List ℤ) (slot : Option ℕ) (place : Place) (rows : List (List ℤ)) → b' ≡ b → place ≡ get_or s.places b' Paired → rows ≡ map_from (next_short s.width j lead slot) 0 s.rows
    → record { width = s.width; basis = set s.basis r e; places = set (set s.places b' (Column j)) e place; pairs = s.pairs; rows = rows } ≡ exchanged s r b e j lead slot
exchanged_same s r b b' e j lead slot place rows same place_is rows_are = rw (place_is, rows_are, same) refl

pub returns : goal.returns
returns c =
    let short = c.args.short.now in
    let lead = c.args.lead.now in
    let w = short.width in
    let j = c.args.column in
    let b = c.index-basic.result.now in
    let p : kept (get_or lead j (pos 0)) ≡ get_or lead j (pos 0) = kept_is (get_or lead j (pos 0)) (c.requires.small_lead j (pos 0) (omega (arith, c.requires.same_lead, c.requires.within))) in
    let q : kept (get_or lead w (pos 0)) ≡ get_or lead w (pos 0) = kept_is (get_or lead w (pos 0)) (c.requires.small_lead w (pos 0) (omega (arith, c.requires.same_lead))) in
    let rows : c.as_mut_slice.result.now ≡ short.rows.items = c.as_mut_slice.ensures.value in
    let basic : b ≡ get_or short.basics.items c.args.row 0 = get_or_read short.basics.items c.args.row b c.requires.row c.index-basic.ensures 0 in
    let within : b < length short.places.items = subst (λ (x : ℕ). x < length short.places.items) (sym basic) c.requires.basic in
    let place = get_or_read short.places.items b c.index-place.result.now within c.index-place.ensures Paired in
    let new : (with_items short.rows c.clear_slots.new.rows).items ≡ c.clear_slots.new.rows = with_items_is short.rows c.clear_slots.new.rows (omega (arith, c.clear_slots.auto.rows, ap length rows) ∙ sym short.rows.ok.0) in
    exchanged_same (store_of short) c.args.row (get_or short.basics.items c.args.row 0) b c.args.entering j lead c.args.slot c.index-place.result.now _ basic place
    (ap row_lists new ∙ c.clear_slots.ensures ∙ rw (p, q, rows) refl)
