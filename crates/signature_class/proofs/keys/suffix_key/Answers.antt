use Rattle.std.proofs.Common.{rules, ◌∷◌, ◌++◌, ◌∙◌, [], append_assoc, ap, sym}
use Rattle.signature_class.proofs.KeyBits.{key_more, none_set}
use Rattle.signature_class.proofs.KeptPlaces.{kept_some}
use Rattle.signature_class.proofs.keys.suffix_key.Goals as goal

pub loop-place-init : goal.loop-place-init
loop-place-init c = ([], search rules, none_set)

pub overflow_sub-place : goal.overflow_sub-place
overflow_sub-place c =
    let done = c.loop-place.invariant in
    kept_some c.args.suffix.now c.args.row.now done.0 c.in-Some.place c.next.new.self (ap (λ rest. done.0 ++ rest) (sym c.in-Some.ensures.steps) ∙ done.1)

pub loop-place-preserved : goal.loop-place-preserved
loop-place-preserved c =
    let done = c.loop-place.invariant in
    let p = c.in-Some.place in
    let kept = ap (λ rest. done.0 ++ rest) (sym c.in-Some.ensures.steps) ∙ done.1 in
    let some = kept_some c.args.suffix.now c.args.row.now done.0 p c.next.new.self kept in
    (done.0 ++ p ∷ [], append_assoc done.0 (p ∷ []) c.next.new.self ∙ kept, key_more done.0 p c.loop-place.key c.with_bit-key.result some c.with_bit-key.ensures done.2)
