use Rattle.std.proofs.Common.{rules, arith, ◌≡◌, ◌*◌, length, length-append}
use Rattle.irv_count.proofs.HeldRows.{held_stepped}
use Rattle.irv_count.proofs.Part.{begun, ended, fresh, stepped}
use Rattle.irv_count.proofs.Members.{not_contained}
use Rattle.irv_count.proofs.orders.order_by.Goals as goal

pub loop-i-init : goal.loop-i-init
loop-i-init c = record {
  part = rw (c.new-order.ensures, c.all_of-standing.ensures, c.candidates-2.ensures.value) (begun _ _);
  long = rw c.new-order.ensures (search rules);
  held = rw c.new-order.ensures (λ i x lt. absurd (omega arith));
}

pub push-requires : goal.push-requires
push-requires c = not_contained _ _ (fresh _ _ _ _ _ _ c.loop-i.invariant.part c.next_out-out.ensures.out)

pub loop-i-preserved : goal.loop-i-preserved
loop-i-preserved c =
    let row : c.loop-i.i * c.from-c.result ≡ length c.loop-i.order * c.args.roll.now.c = cc in
    record {
      part = rw c.in_ok-push.ensures.ok (stepped _ _ _ _ _ _ c.candidates.ensures.poll c.loop-i.invariant.part c.next_out-out.ensures.out c.without-standing.ensures.others c.without-standing.ensures.gone c.without-standing.ensures.fits);
      long = rw c.in_ok-push.ensures.ok (let k = c.loop-i.invariant.long in simp length-append (omega arith));
      held = rw c.in_ok-push.ensures.ok (held_stepped _ _ _ _ _ _ _ _ _ c.candidates.ensures.poll c.loop-i.invariant.part c.loop-i.invariant.held (search rules) (omega arith) row (search rules) c.next_out-out.ensures.held);
    }

pub returns : goal.returns
returns c = record { order = ended _ _ _ _ c.loop-i.invariant.part (search rules); held = search rules }
