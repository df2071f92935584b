use Rattle.std.proofs.Common.{◌≡◌, ◌+◌, ◌∙◌, ℕ, List, ap, get_or, sym, take, arith}
use Rattle.std.specs.Prelude.{nat_eq}
use Rattle.signature_class.specs.Classes.{add_class}
use Rattle.search_leaves.proofs.ClassCopies.{one_more, pair_is}
use Rattle.search_leaves.proofs.copies.classes_copy.Goals as goal

pub add-requires-clause-few : goal.add-requires-clause-few
add-requires-clause-few c =
    let classes = c.args.classes.now in
    let c' : ℕ × ℕ = (c.key.result, c.count.result) in
    let is = pair_is c' (get_or classes c.loop-i.i (0, 0)) c.key.ensures c.count.ensures in
    let within = c.loop-i-test.true in
    let step = one_more classes c.loop-i.copy c.loop-i.i c' c.len-i-end.ensures.classes (omega (arith, within, c.len-i-end.ensures.value)) is c.loop-i.invariant in
    let small = c.requires.small c.loop-i.i (0, 0) (omega (arith, within, c.len-i-end.ensures.value)) in
    let few = step.few in
    omega (arith, few, small, c.count.ensures)

pub loop-i-preserved : goal.loop-i-preserved
loop-i-preserved c =
    let classes = c.args.classes.now in
    let c' : ℕ × ℕ = (c.key.result, c.count.result) in
    let is = pair_is c' (get_or classes c.loop-i.i (0, 0)) c.key.ensures c.count.ensures in
    let within = c.loop-i-test.true in
    let step = one_more classes c.loop-i.copy c.loop-i.i c' c.len-i-end.ensures.classes (omega (arith, within, c.len-i-end.ensures.value)) is c.loop-i.invariant in
    c.in_ok-add.ensures.added ∙ step.added
