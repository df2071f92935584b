use Rattle.std.proofs.Common.{◌≡◌, ◌++◌, ◌∷◌, take}
use Rattle.std.specs.List.{flat_map}
use Rattle.text_lines.proofs.written.push_numbers.Given as goal

abbrev pub invariant-loop-number : goal.invariant-loop-number
invariant-loop-number g l = l.out.items ≡ l.initial.out.items ++ flat_map (λ n. 32 ∷ g.I.Integer.text n) (take l.number-index l.numbers)
