use Rattle.std.proofs.Common.{◌≡◌, ℕ, ◌<◌, ◌≤◌, get_or, take}
use Rattle.std.specs.Prelude.{pos}
use lib.IntN.{neg_ℤ}
use Rattle.row_program.specs.Forms.{coefficient}
use Rattle.pivot_form.proofs.start.write_terms.Given as goal

abbrev pub invariant-loop-term : goal.invariant-loop-term
invariant-loop-term l = record {
  written : (v : ℕ) → v < l.variables → get_or l.row v (pos 0) ≡ neg_ℤ (coefficient (take l.term-index l.terms) v);
  rest : (k : ℕ) → l.variables ≤ k → get_or l.row k (pos 0) ≡ get_or l.fn.row k (pos 0);
}
