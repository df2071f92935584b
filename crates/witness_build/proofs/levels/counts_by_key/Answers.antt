use Rattle.std.proofs.Common.{arith, ◌≡◌, ◌<◌, ◌≤◌, ◌+◌, length, get_or, set, length-set, ap, ◌∙◌}
use Rattle.std.proofs.lemmas.List.{get_or_default}
use Rattle.witness_build.proofs.Tables.{tabled_few, tabled_more, tabled_passed}
use Rattle.witness_build.proofs.levels.counts_by_key.Goals as goal
use Rattle.witness_build.proofs.levels.counts_by_key.Goals.{then-key-len, else-key-len}

pub overflow_add-index_mut : goal.overflow_add-index_mut
overflow_add-index_mut c =
    let within : c.loop-i.i < length c.args.classes.now = (let e = c.len-i-end.ensures.value in omega (arith, e, c.loop-i-test.true)) in
    let below : c.key-key.result < c.args.end = (let e = c.len.ensures in let s = c.loop-i.invariant.size in omega (arith, e, s, c.if-key-len.true)) in
    let inner : c.key-key.result < length c.loop-i.counts.items = (let s = c.loop-i.invariant.size in omega (arith, s, below)) in
    let old = get_or_default c.loop-i.counts.items c.key-key.result c.index_mut.result.now 0 inner in
    let few = tabled_few c.args.end c.loop-i.i c.key-key.result c.count.result c.args.classes.now c.loop-i.counts.items within c.key-key.ensures c.count.ensures below c.loop-i.invariant.each in
    let value = c.index_mut.ensures.value in
    omega (arith, few, old, value, c.requires.few)

pub loop-i-preserved : goal.loop-i-preserved
loop-i-preserved c =
    let within : c.loop-i.i < length c.args.classes.now = (let e = c.len-i-end.ensures.value in omega (arith, e, c.loop-i-test.true)) in
    elim c.if-key-len.branch [
      | then-key-len w ↦
          let below : c.key-key.result < c.args.end = (let e = c.len.ensures in let s = c.loop-i.invariant.size in let t = w.if-key-len.true in omega (arith, e, s, t)) in
          let inner : c.key-key.result < length c.loop-i.counts.items = (let s = c.loop-i.invariant.size in omega (arith, s, below)) in
          let old = get_or_default c.loop-i.counts.items c.key-key.result w.index_mut.result.now 0 inner in
          let value = w.index_mut.ensures.value in
          let new : w.index_mut.result.now + w.count.result ≡ get_or c.loop-i.counts.items c.key-key.result 0 + w.count.result = omega (arith, old, value) in
          let items : c.if-key-len.counts.items ≡ set c.loop-i.counts.items c.key-key.result (w.index_mut.result.now + w.count.result) = ap (λ v. v.items) w.counts-is in
          rw (items, new) (record {
            size = length-set c.loop-i.counts.items c.key-key.result _ ∙ c.loop-i.invariant.size;
            each = tabled_more c.args.end c.loop-i.i c.key-key.result w.count.result c.args.classes.now c.loop-i.counts.items within c.key-key.ensures w.count.ensures below
                c.loop-i.invariant.size c.loop-i.invariant.each;
          })
      | else-key-len w ↦
          let past : c.args.end ≤ c.key-key.result = (let e = c.len.ensures in let s = c.loop-i.invariant.size in let t = w.if-key-len.false in omega (arith, e, s, t)) in
          let items : c.if-key-len.counts.items ≡ c.loop-i.counts.items = ap (λ v. v.items) w.counts-is in
          rw items (record {
            size = c.loop-i.invariant.size;
            each = tabled_passed c.args.end c.loop-i.i c.key-key.result c.args.classes.now c.loop-i.counts.items within c.key-key.ensures past c.loop-i.invariant.each;
          })
    ]
