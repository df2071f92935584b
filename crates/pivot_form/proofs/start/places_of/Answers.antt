use Rattle.std.proofs.Common.{arith, ◌≡◌, ◌+◌, ◌∙◌, Vec, ap, map, subst, sym, ℕ}
use Rattle.std.specs.Prelude.{is_some, not}
use Rattle.std.specs.List.{range_with_len}
use Rattle.pivot_form.specs.declared.places.Place.{Place}
use Rattle.pivot_form.specs.declared.places.Place.TheVariants.{Column, Kept, Paired}
use Rattle.pivot_form.specs.Starts.{first_place, pair_in}
use Rattle.pivot_form.proofs.FirstSlots.{item_behind, kept_there, next_kept, next_paired, paired_there, place_in_column, place_pushed}
use Rattle.pivot_form.proofs.start.places_of.Goals as goal
use Rattle.pivot_form.proofs.start.places_of.Goals.{then-is_none+in_ok-push-3, else-is_none+in_ok-push-4}

pub loop-column-preserved : goal.loop-column-preserved
loop-column-preserved c =
    let i = c.loop-column.column in
    place_pushed c.args.variables c.args.pairs.now (i + 1) (Column i) c.loop-column.places.items c.push-in-loop-column.new.self.items c.in_ok-push-2.ensures.items c.loop-column.invariant
    (place_in_column c.args.variables c.args.pairs.now (i + 1) i c.loop-column-test.true (omega arith))

pub loop-pair-preserved : goal.loop-pair-preserved
loop-pair-preserved c =
    let n = c.args.variables in
    let pairs = c.args.pairs.now in
    let i = c.loop-pair.pair-index in
    let v = 1 + n + i in
    let slot = c.loop-pair.slot in
    let next = c.loop-pair.invariant.next in
    let test : is_some (pair_in pairs v) ≡ not c.is_none.result = ap is_some (sym (item_behind pairs (1 + n) i c.loop-pair-test.true)) ∙ c.is_none.ensures in
    let more : 1 + n + (i + 1) ≡ v + 1 = omega arith in
    elim c.if-is_none.branch [
      | then-is_none+in_ok-push-3 w ↦ record {
        placed = subst (λ (k : ℕ). c.if-is_none.places.items ≡ map (first_place n pairs) (range_with_len 0 k)) (sym more) (place_pushed n pairs v (Kept slot) c.loop-pair.places.items c.if-is_none.places.items (ap (λ (x : Vec Place _). x.items) w.places-is ∙ w.in_ok-push-3.ensures.items) c.loop-pair.invariant.placed
            (kept_there n pairs v slot c.is_none.result (omega arith) test next w.if-is_none.true));
        next = λ e h. w.slot-is ∙ next_kept n pairs v slot c.is_none.result (omega arith) test next w.if-is_none.true e (h ∙ more);
        few = omega (arith, w.slot-is);
      }
      | else-is_none+in_ok-push-4 w ↦ record {
        placed = subst (λ (k : ℕ). c.if-is_none.places.items ≡ map (first_place n pairs) (range_with_len 0 k)) (sym more) (place_pushed n pairs v Paired c.loop-pair.places.items c.if-is_none.places.items (ap (λ (x : Vec Place _). x.items) w.places-is ∙ w.in_ok-push-4.ensures.items) c.loop-pair.invariant.placed
            (paired_there n pairs v slot c.is_none.result (omega arith) test next w.if-is_none.false));
        next = λ e h. w.slot-is ∙ next_paired n pairs v slot c.is_none.result (omega arith) test next w.if-is_none.false e (h ∙ more);
        few = omega (arith, w.slot-is);
      }
    ]
