use Rattle.std.proofs.Common.{rules, ℕ, List, ◌≡◌, ◌≤◌, ◌+◌, ◌∙◌, Some, None, ap, sym, subst, arith}
use Rattle.std.specs.Map.{lookup}
use Rattle.std.specs.Option.{option_copied_mut}
use Rattle.std.specs.Str.{bytes_eq}
use Rattle.indexmap.specs.IndexMap.{insert_entry}
use Rattle.ballot_form.specs.declared.limits.TheConstants.{MOST_BALLOTS}
use Rattle.mov_base.specs.Sums.{add_up}
use Rattle.signature_class.specs.Classes.{AreKinds, add_class, count_of, seen}
use Rattle.signature_class.proofs.Counts.{added_row, count_le, found_row, raised_row, same_row, still_kinds, sum-times_one}
use Rattle.signature_class.proofs.parts.Kinds.add_times.Goals as goal

-- there is room as well by what the map has
room : (n : ℕ) {cs self : List (List ℕ × ℕ)} → cs ≡ self → add_up (λ c. c.1) self + n ≤ MOST_BALLOTS → add_up (λ c. c.1) cs + n ≤ MOST_BALLOTS
room n same few = rw same few

pub overflow_add-known : goal.overflow_add-known
overflow_add-known c =
    let here = c.self.inside.counts.entries in
    let found : lookup (same_row c.args.row) here ≡ Some c.in-Some.known.now = sym c.get_mut.ensures.value ∙ ap option_copied_mut c.in-Some.is in
    let count : count_of bytes_eq c.args.row.now c.args.self.now ≡ c.in-Some.known.now = ap (count_of bytes_eq c.args.row.now) (sym c.self.view_is) ∙ found_row c.args.row c.in-Some.known.now here found in
    let most = count_le bytes_eq c.args.row.now c.args.self.now in
    let few : c.in-Some.known.now + c.args.count ≤ MOST_BALLOTS = (let f = c.requires.few in omega (arith, f, count, most, sum-times_one c.args.self.now)) in
    search rules

pub invariant_of-self : goal.invariant_of-self
invariant_of-self c =
    let here = c.self.inside.counts.entries in
    let v = c.in-Some.known.now in
    let found : lookup (same_row c.args.row) here ≡ Some v = sym c.get_mut.ensures.value ∙ ap option_copied_mut c.in-Some.is in
    subst AreKinds (sym (ap seen (c.get_mut.follows.holds (v + c.args.count)).0 ∙ raised_row c.args.row c.args.count v here found))
    (still_kinds c.args.row.now c.args.count (seen here) c.requires.some (room c.args.count c.self.view_is c.requires.few) c.self.invariant)

pub invariant_of-self-in_ok-insert-in-None : goal.invariant_of-self-in_ok-insert-in-None
invariant_of-self-in_ok-insert-in-None c =
    let here = c.self.inside.counts.entries in
    let none : lookup (same_row c.args.row) here ≡ None = sym c.get_mut.ensures.value ∙ ap option_copied_mut c.in-None.is in
    subst AreKinds (sym (ap seen (c.in_ok-insert-in-None.ensures.entries ∙ ap (λ m. insert_entry same_row m.entries c.args.row c.args.count) c.get_mut.follows.holds-at-none)
    ∙ added_row c.args.row c.args.count here none))
    (still_kinds c.args.row.now c.args.count (seen here) c.requires.some (room c.args.count c.self.view_is c.requires.few) c.self.invariant)

pub returns-in-Some-clause-added : goal.returns-in-Some-clause-added
returns-in-Some-clause-added c =
    let here = c.self.inside.counts.entries in
    let v = c.in-Some.known.now in
    let found : lookup (same_row c.args.row) here ≡ Some v = sym c.get_mut.ensures.value ∙ ap option_copied_mut c.in-Some.is in
    ap seen (c.get_mut.follows.holds (v + c.args.count)).0 ∙ raised_row c.args.row c.args.count v here found ∙ ap (add_class bytes_eq c.args.row.now c.args.count) c.self.view_is

pub returns-in_ok-insert-in-None-clause-added : goal.returns-in_ok-insert-in-None-clause-added
returns-in_ok-insert-in-None-clause-added c =
    let here = c.self.inside.counts.entries in
    let none : lookup (same_row c.args.row) here ≡ None = sym c.get_mut.ensures.value ∙ ap option_copied_mut c.in-None.is in
    ap seen (c.in_ok-insert-in-None.ensures.entries ∙ ap (λ m. insert_entry same_row m.entries c.args.row c.args.count) c.get_mut.follows.holds-at-none)
    ∙ added_row c.args.row c.args.count here none ∙ ap (add_class bytes_eq c.args.row.now c.args.count) c.self.view_is
