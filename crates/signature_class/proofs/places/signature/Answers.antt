use Rattle.std.proofs.Common.{rules, ◌≡◌, ◌+◌, ◌∷◌, ◌∙◌, length, append_assoc, length-append, ap, sym, subst, arith}
use Rattle.signature_class.specs.Signatures.{ArePlaces, signature_of}
use Rattle.signature_class.proofs.KeptPlaces.{signature_few, signature_places}
use Rattle.signature_class.proofs.places.signature.Goals as goal

pub push_reserved-requires : goal.push_reserved-requires
push_reserved-requires c =
    let few = signature_few c.args.suffix.now c.args.row.now in
    let rest : c.loop-place.place-iterator ≡ c.in-Some.place ∷ c.next.new.self = c.in-Some.ensures.steps in
    let kept : length c.loop-place.places.items + length c.loop-place.place-iterator ≡ length (signature_of c.args.suffix.now c.args.row.now) =
    sym (length-append c.loop-place.places.items c.loop-place.place-iterator) ∙ ap length c.loop-place.invariant.kept in
    let some = ap length rest in
    (omega arith, omega arith)

pub loop-place-preserved : goal.loop-place-preserved
loop-place-preserved c =
    let rest : c.loop-place.place-iterator ≡ c.in-Some.place ∷ c.next.new.self = c.in-Some.ensures.steps in
    let whole = rw rest at c.loop-place.invariant.kept in
    record {
      kept = rw (c.push_reserved.ensures.items, append_assoc) whole;
      inline = search rules;
    }

pub returns-clause-places : goal.returns-clause-places
returns-clause-places c =
    let same : c.loop-place.places.items ≡ signature_of c.args.suffix.now c.args.row.now = search rules in
    subst (ArePlaces (length c.args.suffix.now)) (sym same) (signature_places c.args.suffix.now c.args.row.now)
