use Rattle.std.proofs.Common.{arith, rules, ◌≡◌, ◌<◌, ℕ, length, get_or}
use Rattle.std.specs.Prelude.{pos}
use Rattle.std.proofs.lemmas.Int.{to_z-of_z}
use mir.Syntax.{w64}
use Rattle.pivot_form.proofs.Steps.{pair_written}
use Rattle.pivot_form.proofs.exchanges.write_pair.Goals as goal

pub returns : goal.returns
returns c =
    let none : (k : ℕ) → k < length c.fill.new.self → get_or c.fill.new.self k (pos 0) ≡ pos 0 = λ k l. search rules in
    rw (to_z-of_z w64 c.args.sum c.ranges.sum) (pair_written c.args.width c.args.column c.args.sum c.fill.new.self (omega (arith, c.requires.wide, c.fill.ensures.len)) none c.requires.within)
