use Rattle.std.proofs.Common.{◌≡◌, ℕ, ◌≤◌, ◌+◌, map}
use Rattle.std.specs.List.{range_with_len}
use Rattle.pivot_form.specs.Starts.{first_place, slots_before}
use Rattle.pivot_form.proofs.start.places_of.Given as goal

abbrev pub invariant-loop-column : goal.invariant-loop-column
invariant-loop-column l = l.places.items ≡ map (first_place l.variables l.pairs) (range_with_len 0 (l.column + 1))

abbrev pub invariant-loop-pair : goal.invariant-loop-pair
invariant-loop-pair l = record {
  placed : l.places.items ≡ map (first_place l.variables l.pairs) (range_with_len 0 (1 + l.variables + l.pair-index));
  next : (e : ℕ) → l.variables + e ≡ 1 + l.variables + l.pair-index → l.slot ≡ slots_before l.variables l.pairs e;
  few : l.slot ≤ l.pair-index + 1;
}
