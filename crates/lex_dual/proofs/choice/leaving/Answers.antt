use Rattle.std.proofs.Common.{arith, sym, subst, ◌≡◌, length}
use Rattle.std.specs.Prelude.{ℕ}
use Rattle.lex_dual.specs.Choices.{IsFirstNegative}
use Rattle.lex_dual.proofs.Choices.{first_leaves}
use Rattle.lex_dual.proofs.choice.leaving.Goals as goal

pub returns-clause-value : goal.returns-clause-value
returns-clause-value c =
    let all : c.loop-row.row ≡ length c.args.form.now.rows = omega arith in
    sym (first_leaves c.args.form.now c.loop-row.found c.requires (subst (λ (n : ℕ). IsFirstNegative c.args.form.now n c.loop-row.found) all c.loop-row.invariant))
