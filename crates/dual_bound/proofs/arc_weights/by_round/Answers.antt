use Rattle.std.proofs.Common.{◌<◌, ◌≤◌, ◌⊎◌, get_or, sym, ap, inl, inr, arith}
use Rattle.std.proofs.lemmas.Int.{ints}
use Rattle.dual_bound.proofs.RoundSums.{round_none, round_over, round_to}
use Rattle.dual_bound.proofs.arc_weights.by_round.Goals as goal

pub returns-then-x-i-clause-value : goal.returns-then-x-i-clause-value
returns-then-x-i-clause-value c =
    let apart : (c.args.i ≤ c.args.u) ⊎ (c.args.x < c.args.i) = elim c.if-x-i.either [ inl late ↦ inl late | inr less ↦ inr less.1 ] in
    sym (round_none c.args.i c.args.u c.args.x c.args.round.now apart)

pub returns-then-x-i-2-clause-value : goal.returns-then-x-i-2-clause-value
returns-then-x-i-2-clause-value c =
    let is = round_to c.args.i c.args.u c.args.x c.args.round.now c.if-x-i.false.0 c.if-x-i-2.true in
    omega (arith, ints, is, c.total.ensures.value, c.total.ensures.small, c.requires.few)

pub returns-else-x-i-2-clause-value : goal.returns-else-x-i-2-clause-value
returns-else-x-i-2-clause-value c =
    let over : c.args.i < c.args.x = (let differ = c.if-x-i-2.false in omega (arith, c.if-x-i.false.1, differ)) in
    let is = round_over c.args.i c.args.u c.args.x c.args.round.now c.if-x-i.false.0 over c.requires.ends in
    let e = ap (λ k. get_or c.args.round.now k 0) c.from.ensures in
    omega (arith, ints, is, e, c.from-else-x-i-2.ensures)
