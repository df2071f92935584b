use Rattle.std.proofs.Common.{ℕ, ◌<◌, ◌≤◌, ◌≡◌, ◌-◌}
use Rattle.condorcet_count.specs.Preferences.{count_at}
use Rattle.condorcet_count.proofs.matrix.set_prefs.Given as goal

abbrev pub invariant-loop-x : goal.invariant-loop-x
invariant-loop-x l = record {
  prefs : (x y : ℕ) → x < l.c → y < l.c → x < l.x → count_at l.c l.counts x y ≡ count_at l.c l.initial.counts x x - count_at l.c l.initial.counts x y;
  rest : (x y : ℕ) → x < l.c → y < l.c → l.x ≤ x → count_at l.c l.counts x y ≡ count_at l.c l.initial.counts x y;
}
