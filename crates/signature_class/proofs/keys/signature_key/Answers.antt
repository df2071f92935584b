use Rattle.std.proofs.Common.{◌+◌, ◌≤◌, ◌<◌, ◌∙◌, length, take, get_or, ap, sym, arith}
use Rattle.std.proofs.lemmas.List.{take_all, take_more}
use Rattle.irv_count.specs.Orders.{member, stands}
use Rattle.signature_class.specs.Signatures.{places_key}
use Rattle.signature_class.specs.declared.limits.TheConstants.{MOST_PLACES}
use Rattle.signature_class.proofs.KeyBits.{key_more, none_set, stands_bits}
use Rattle.signature_class.proofs.keys.signature_key.Goals as goal

pub loop-place-init : goal.loop-place-init
loop-place-init c = none_set

pub loop-place-preserved : goal.loop-place-preserved
loop-place-preserved c =
    let places = c.args.places.now in
    let i = c.loop-place.place-index in
    let within : i < length places = omega arith in
    let some : 1 ≤ get_or places i 0 = (c.requires i 0 within).0 in
    key_more (take i places) (get_or places i 0) c.loop-place.key c.with_bit-key.result some c.with_bit-key.ensures c.loop-place.invariant
    ∙ ap places_key (sym (take_more places i 0 within))

pub returns-clause-bits : goal.returns-clause-bits
returns-clause-bits c = λ k lt.
    let all = take_all c.loop-place.place-index c.args.places.now (omega arith) in
    ap (λ n. stands n k) (c.loop-place.invariant ∙ ap places_key all) ∙ stands_bits MOST_PLACES (λ i. member (i + 1) c.args.places.now) k lt
