use Rattle.std.proofs.Common.{arith, ℕ, ◌<◌, ◌^◌, sym, subst, List}
use Rattle.std.specs.List.{All}
use Rattle.lex_dual.proofs.Numbers.{lowest_zero, all_quotients}
use Rattle.lex_dual.proofs.multipliers.reduce.Goals as goal

pub returns-then-divisor-gt0-clause-small : goal.returns-then-divisor-gt0-clause-small
returns-then-divisor-gt0-clause-small c = subst (λ (xs : List ℕ). All (λ x. x < 2 ^ 63) xs) (sym c.divide.ensures) (all_quotients c.divisor-divisor.result (2 ^ 63) c.args.numbers.now c.requires)

pub returns-else-divisor-gt0-clause-value : goal.returns-else-divisor-gt0-clause-value
returns-else-divisor-gt0-clause-value c = lowest_zero c.args.numbers.now (omega arith)
