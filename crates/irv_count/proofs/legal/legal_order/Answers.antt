use Rattle.std.proofs.Common.{rules, ◌<◌, arith, refl}
use Rattle.irv_count.proofs.Legality.{legal_begun, legal_stepped, not_legal}
use Rattle.irv_count.proofs.legal.legal_order.Goals as goal

pub loop-i-init : goal.loop-i-init
loop-i-init c = record { to = rw (c.all_of-standing.ensures, c.candidates.ensures.value) (legal_begun _ _); counts = c.requires.size }

pub loop-i-preserved : goal.loop-i-preserved
loop-i-preserved c =
    let below : c.loop-i.i < c.args.roll.now.c = let l = c.requires.order.long in let t = c.loop-i-test.true in omega arith in
    record {
      to = legal_stepped _ _ _ _ _ c.candidates.ensures.poll c.requires.order below c.loop-i.invariant.to (c.if-not-is_least_held.ensures.0 refl) c.without-standing.ensures.others c.without-standing.ensures.gone c.without-standing.ensures.fits;
      counts = search rules;
    }

pub returns-then-not-is_least_held : goal.returns-then-not-is_least_held
returns-then-not-is_least_held c =
    let below : c.loop-i.i < c.args.roll.now.c = let l = c.requires.order.long in let t = c.loop-i-test.true in omega arith in
    (λ t. absurd (cc), λ legal. absurd (not_legal _ _ _ _ c.candidates.ensures.poll below c.loop-i.invariant.to (λ least. let k = c.if-not-is_least_held.ensures.1 least in cc) legal))
