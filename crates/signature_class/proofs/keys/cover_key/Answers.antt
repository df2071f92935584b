use Rattle.std.proofs.Common.{◌<◌, ◌∙◌, length, take, get_or, refl, ap, sym, arith}
use Rattle.std.proofs.lemmas.List.{take_more}
use Rattle.irv_count.specs.Orders.{member}
use Rattle.signature_class.specs.Signatures.{bits_of}
use Rattle.signature_class.specs.declared.limits.TheConstants.{MOST_PLACES}
use Rattle.signature_class.proofs.Covers.{up_to_here, up_to_later}
use Rattle.signature_class.proofs.KeyBits.{members_more, none_set}
use Rattle.signature_class.proofs.keys.cover_key.Goals as goal

pub loop-y-init : goal.loop-y-init
loop-y-init c = record { key = none_set; left = refl }

pub returns-then-y-x : goal.returns-then-y-x
returns-then-y-x c =
    let row = c.args.row.now in
    let i = c.loop-y.y-index in
    let within : i < length row = omega arith in
    members_more (take i row) (get_or row i 0) c.loop-y.key c.with_bit-key.result c.with_bit-key.ensures c.loop-y.invariant.key
    ∙ ap (λ xs. bits_of MOST_PLACES (λ y. member y xs)) (up_to_here c.args.x i row within c.if-y-x.true ∙ c.loop-y.invariant.left)

pub loop-y-preserved : goal.loop-y-preserved
loop-y-preserved c =
    let row = c.args.row.now in
    let i = c.loop-y.y-index in
    let within : i < length row = omega arith in
    record {
      key = members_more (take i row) (get_or row i 0) c.loop-y.key c.with_bit-key.result c.with_bit-key.ensures c.loop-y.invariant.key
          ∙ ap (λ xs. bits_of MOST_PLACES (λ y. member y xs)) (sym (take_more row i 0 within));
      left = up_to_later c.args.x i row within c.if-y-x.false ∙ c.loop-y.invariant.left;
    }
