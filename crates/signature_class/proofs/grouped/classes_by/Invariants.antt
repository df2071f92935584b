use Rattle.std.proofs.Common.{ℕ, List, ◌≡◌, take}
use Rattle.std.specs.Borrow.{Bor}
use Rattle.mov_base.specs.Sums.{add_up}
use Rattle.signature_class.specs.Classes.{classes_by}
use Rattle.signature_class.proofs.grouped.classes_by.Given as goal

abbrev pub invariant-loop-i : goal.invariant-loop-i
invariant-loop-i g l = record {
  classes : (value : List ℕ → ℕ) → ((row : Bor (List ℕ)) (k : ℕ) → goal.F-post g l.key row k → k ≡ value row.now)
      → l.classes ≡ classes_by value (take l.i l.kinds);
  counted : add_up (λ c. c.1) l.classes ≡ add_up (λ k. k.1) (take l.i l.kinds);
}
