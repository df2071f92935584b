use Rattle.std.proofs.Common.{◌<◌, length, arith}
use Rattle.signature_class.proofs.KindClasses.{classes_more, counted_more, room_of_kind}
use Rattle.signature_class.proofs.grouped.classes_by.Goals as goal

pub add-requires-clause-few : goal.add-requires-clause-few
add-requires-clause-few g c =
    let within : c.loop-i.i < length c.args.kinds.now = (let e = c.len-i-end.ensures.value in omega (arith, e, c.loop-i-test.true)) in
    room_of_kind c.loop-i.i c.args.kinds.now c.count.result c.key.result c.loop-i.classes within c.count.ensures c.loop-i.invariant.counted c.len-i-end.ensures.few

pub loop-i-preserved : goal.loop-i-preserved
loop-i-preserved g c =
    let within : c.loop-i.i < length c.args.kinds.now = (let e = c.len-i-end.ensures.value in omega (arith, e, c.loop-i-test.true)) in
    rw c.in_ok-add.ensures.added (record {
      classes = λ value is. classes_more value c.loop-i.i c.args.kinds.now c.row.result.now c.count.result c.key.result c.loop-i.classes within c.row.ensures
          c.count.ensures (is c.row.result c.key.result c.key.ensures) (c.loop-i.invariant.classes value is);
      counted = counted_more c.loop-i.i c.args.kinds.now c.count.result c.key.result c.loop-i.classes within c.count.ensures c.loop-i.invariant.counted;
    })
