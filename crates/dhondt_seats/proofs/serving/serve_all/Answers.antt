use Rattle.std.proofs.Common.{arith, ◌≡◌, ◌∙◌}
use Rattle.dhondt_seats.proofs.Shares.{fresh, reported}
use Rattle.dhondt_seats.proofs.serving.serve_all.Goals as goal

pub loop-init : goal.loop-init
loop-init c =
    let f = fresh _ _ c.requires.parties c.requires.none in
    record { served = f.0; all = f.1 }

pub returns-clause-reported : goal.returns-clause-reported
returns-clause-reported c =
    let e : c.loop.counter ≡ c.args.s = omega arith in
    reported _ _ _ c.loop.invariant.served (c.loop.invariant.all ∙ e)
