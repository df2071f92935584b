use Rattle.std.proofs.Common.{rules, ◌≡◌, ◌≤◌, ◌+◌, ◌∙◌, Some, None, ap, sym, subst, arith}
use Rattle.std.specs.Prelude.{nat_eq}
use Rattle.std.specs.Map.{lookup}
use Rattle.std.specs.Option.{option_copied_mut}
use Rattle.ballot_form.specs.declared.limits.TheConstants.{MOST_BALLOTS}
use Rattle.indexmap.specs.IndexMap.{insert_entry}
use Rattle.signature_class.specs.Classes.{IsClassList, add_class, count_of}
use Rattle.signature_class.proofs.Counts.{added, found_count, raised, still_classes}
use Rattle.signature_class.proofs.classes.Classes.add.Goals as goal

pub overflow_add-known : goal.overflow_add-known
overflow_add-known c =
    let here = c.self.inside.counts.entries in
    let found : lookup (nat_eq c.args.key) here ≡ Some c.in-Some.known.now = sym c.get_mut.ensures.value ∙ ap option_copied_mut c.in-Some.is in
    let count : count_of nat_eq c.args.key c.args.self.now ≡ c.in-Some.known.now = ap (count_of nat_eq c.args.key) (sym c.self.view_is) ∙ found_count nat_eq c.args.key c.in-Some.known.now here found in
    let few : c.in-Some.known.now + c.args.count ≤ MOST_BALLOTS = (let f = c.requires.few in omega (arith, f, count)) in
    search rules

pub invariant_of-self : goal.invariant_of-self
invariant_of-self c =
    let here = c.self.inside.counts.entries in
    let v = c.in-Some.known.now in
    let found : lookup (nat_eq c.args.key) here ≡ Some v = sym c.get_mut.ensures.value ∙ ap option_copied_mut c.in-Some.is in
    subst IsClassList (sym ((c.get_mut.follows.holds (v + c.args.count)).0 ∙ raised nat_eq c.args.key c.args.count v here found))
    (still_classes c.args.key c.args.count here c.requires.some c.self.invariant)

pub invariant_of-self-in_ok-insert-in-None : goal.invariant_of-self-in_ok-insert-in-None
invariant_of-self-in_ok-insert-in-None c =
    let here = c.self.inside.counts.entries in
    let none : lookup (nat_eq c.args.key) here ≡ None = sym c.get_mut.ensures.value ∙ ap option_copied_mut c.in-None.is in
    subst IsClassList (sym (c.in_ok-insert-in-None.ensures.entries ∙ ap (λ m. insert_entry nat_eq m.entries c.args.key c.args.count) c.get_mut.follows.holds-at-none
    ∙ added nat_eq c.args.key c.args.count here none))
    (still_classes c.args.key c.args.count here c.requires.some c.self.invariant)

pub returns-in-Some-clause-added : goal.returns-in-Some-clause-added
returns-in-Some-clause-added c =
    let here = c.self.inside.counts.entries in
    let v = c.in-Some.known.now in
    let found : lookup (nat_eq c.args.key) here ≡ Some v = sym c.get_mut.ensures.value ∙ ap option_copied_mut c.in-Some.is in
    (c.get_mut.follows.holds (v + c.args.count)).0 ∙ raised nat_eq c.args.key c.args.count v here found ∙ ap (add_class nat_eq c.args.key c.args.count) c.self.view_is

pub returns-in_ok-insert-in-None-clause-added : goal.returns-in_ok-insert-in-None-clause-added
returns-in_ok-insert-in-None-clause-added c =
    let here = c.self.inside.counts.entries in
    let none : lookup (nat_eq c.args.key) here ≡ None = sym c.get_mut.ensures.value ∙ ap option_copied_mut c.in-None.is in
    c.in_ok-insert-in-None.ensures.entries ∙ ap (λ m. insert_entry nat_eq m.entries c.args.key c.args.count) c.get_mut.follows.holds-at-none
    ∙ added nat_eq c.args.key c.args.count here none ∙ ap (add_class nat_eq c.args.key c.args.count) c.self.view_is
