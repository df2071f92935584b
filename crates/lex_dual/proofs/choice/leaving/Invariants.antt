use Rattle.lex_dual.specs.Choices.{IsFirstNegative}
use Rattle.lex_dual.proofs.choice.leaving.Given as goal

abbrev pub invariant-loop-row : goal.invariant-loop-row
invariant-loop-row l = IsFirstNegative l.form l.row l.found
