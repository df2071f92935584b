-- Trees whose multipliers aren't wide.
use Rattle.std.specs.Prelude.{◌<◌, All}
use Rattle.exact_num.specs.declared.limits.TheConstants.{WIDE}
use Rattle.bound_tree.specs.Plain.{Plain, Kids, Split, Branch, Cut, None, More}

-- each multiplier of the tree is below 2^63
abbrev mutual
  pub AreNarrow : Plain → Type 0
  AreNarrow (Split kids) = AllNarrow kids
  AreNarrow (Branch feature value low high) = AreNarrow low × AreNarrow high
  AreNarrow (Cut multipliers) = All (λ number. number < WIDE) multipliers

  pub AllNarrow : Kids → Type 0
  AllNarrow None = Unit {0}
  AllNarrow (More kid kids) = AreNarrow kid × AllNarrow kids
