use Rattle.std.proofs.Common.{◌∙◌, ◌∷◌, [], ap, arith, length, length-append, sym}
use Rattle.std.proofs.lemmas.List.{length-map, map-append}
use Rattle.ballot_csv.proofs.NameFacts.{any_named, one_named}
use Rattle.ballot_csv.proofs.names.NameIndex.add.Goals as goal

pub returns-then-contains : goal.returns-then-contains
returns-then-contains c = record {
  added = rw (← c.self.view_is) (sym (any_named c.self.inside.names.items c.args.name.now) ∙ sym (rw c.deref.ensures.value at c.contains.ensures.value) ∙ c.if-contains.true);
}

pub invariant_of-self-2 : goal.invariant_of-self-2
invariant_of-self-2 c =
    let names = c.self.inside.names.items in
    let none = sym (any_named names c.args.name.now) ∙ sym (rw c.deref.ensures.value at c.contains.ensures.value) ∙ c.if-contains.false in
    let size = length-append names (c.args.name ∷ []) in
    let old = ap length (sym c.self.view_is) ∙ length-map names (λ n. n.now) in
    rw c.in_ok-push.ensures.items (omega (arith, size, old, c.requires), one_named names c.args.name c.self.invariant.1 none)

pub returns : goal.returns
returns c =
    let names = c.self.inside.names.items in
    let none = sym (any_named names c.args.name.now) ∙ sym (rw c.deref.ensures.value at c.contains.ensures.value) ∙ c.if-contains.false in
    record {
      added = rw (← c.self.view_is) (none, rw c.in_ok-push.ensures.items (map-append (λ n. n.now) names (c.args.name ∷ [])));
    }
