-- Numbers that were read are within their limits.
use Rattle.std.proofs.Common.{◌≡◌, ℕ, ◌<◌, List, [], ◌∷◌, Ok, sym, arith}
use Rattle.std.specs.Prelude.{All}
use Rattle.std.specs.List.{AllByRecursion}
use Rattle.std.proofs.lemmas.List.Elements.{All-from_recursion}
use Rattle.exact_num.specs.declared.limits.TheConstants.{WIDE}
use Rattle.text_lines.specs.Forms.{numbers_of}
use Rattle.text_lines.proofs.Many.{IsWithin, numbers_take}
use Rattle.cert_text.specs.declared.limits.TheConstants.{GREATEST_MULTIPLIER}

below : (ns : List ℕ) → AllByRecursion (IsWithin 0 GREATEST_MULTIPLIER) ns → AllByRecursion (λ n. n < WIDE) ns
below [] h = tt
below (n ∷ ns) h = (omega (arith, h.0.1), below ns h.1)

pub small_multipliers : (fields : List (List ℕ)) (ns : List ℕ) → Ok ns ≡ numbers_of 0 GREATEST_MULTIPLIER fields → All (λ n. n < WIDE) ns
small_multipliers fields ns e = All-from_recursion _ ns (below ns (numbers_take 0 GREATEST_MULTIPLIER fields ns (omega arith) (sym e)).within)
