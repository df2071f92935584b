use Rattle.std.proofs.Common.{◌≡◌, ℕ, ◌+◌, suc, length, get_or, None, Some}
use Rattle.lex_dual.proofs.places.first_places.Given as goal

abbrev pub invariant-loop-cost : goal.invariant-loop-cost
invariant-loop-cost l = record {
  wide : length l.places.items ≡ l._cost-index + 1;
  cost : get_or l.places.items 0 None ≡ Some 0;
  others : (k : ℕ) → get_or l.places.items (suc k) None ≡ None;
}
