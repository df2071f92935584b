-- The fault that names a number.
use Rattle.std.specs.Prelude.{ℕ}
use Rattle.lex_dual.specs.declared.solved.SolveFault.{SolveFault}
use Rattle.lex_dual.specs.declared.solved.SolveFault.TheVariants.{Wide, Memory}

-- what holds of the number that the fault names
abbrev pub IfWide : (ℕ → Type 0) → SolveFault → Type 0
IfWide P (Wide size) = P size
IfWide P Memory = Unit {0}
