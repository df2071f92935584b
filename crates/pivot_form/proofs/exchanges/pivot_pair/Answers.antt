use Rattle.std.proofs.Common.{arith, ap, sym, ◌∙◌, subst, ◌≡◌, ◌<◌, get_or, List, None}
use Rattle.std.specs.Prelude.{ℤ, pos, ◌<ℤ◌, unsigned_abs}
use Rattle.std.specs.List.{All}
use Rattle.std.proofs.lemmas.Int.{fits_signed_from_abs, to_z-of_z}
use mir.Syntax.{w64}
use mir.Val.{to_z, of_z}
use Rattle.exact_num.specs.declared.limits.TheConstants.{WIDE}
use Rattle.pivot_form.specs.Kept.{exchanged, pair_row, table_of}
use Rattle.pivot_form.specs.Shorts.{IsShort, store_of}
use Rattle.pivot_form.proofs.Equations.{length-row_lists}
use Rattle.pivot_form.proofs.Shorts.{sum_small}
use Rattle.pivot_form.proofs.Steps.{exchanged_narrow, pair_positive, pair_small, pair_step, row_equation}
use Rattle.pivot_form.proofs.exchanges.pivot_pair.Goals as goal

kept_is : (x : ℤ) → unsigned_abs x < WIDE → to_z w64 (of_z w64 x) ≡ x
kept_is x small = to_z-of_z w64 x (fits_signed_from_abs w64 x small)

pub exchange-requires-clause-equations : goal.exchange-requires-clause-equations
exchange-requires-clause-equations c = λ k l. row_equation (store_of c.args.short.now) k c.requires.short (omega (arith, l, length-row_lists c.args.short.now.rows.items))

pub exchange-requires-clause-small_lead : goal.exchange-requires-clause-small_lead
exchange-requires-clause-small_lead c =
    let s = store_of c.args.short.now in
    let sum = kept_is c.args.pair.sum (sum_small s (get_or s.basis c.args.row 0) c.args.pair c.requires.short (c.requires.short.store.basics c.args.row c.requires.row) c.requires.pair) in
    subst (All (λ x. unsigned_abs x < WIDE)) (sym (c.write_pair.ensures ∙ ap (pair_row s.width c.args.column) sum))
    (pair_small s c.args.row c.args.entering c.args.column c.requires.short c.requires.row c.requires.entering c.requires.column c.requires.nonzero c.requires.narrow c.args.pair c.requires.other.0 c.requires.paired c.requires.pair c.requires.other.1)

pub exchange-requires-clause-positive : goal.exchange-requires-clause-positive
exchange-requires-clause-positive c =
    let s = store_of c.args.short.now in
    let sum = kept_is c.args.pair.sum (sum_small s (get_or s.basis c.args.row 0) c.args.pair c.requires.short (c.requires.short.store.basics c.args.row c.requires.row) c.requires.pair) in
    subst (λ (xs : List ℤ). pos 0 <ℤ get_or xs c.args.column (pos 0)) (sym (c.write_pair.ensures ∙ ap (pair_row s.width c.args.column) sum))
    (pair_positive s c.args.row c.args.entering c.args.column c.requires.short c.requires.row c.requires.entering c.requires.column c.requires.nonzero c.requires.narrow c.args.pair c.requires.other.0 c.requires.paired c.requires.pair c.requires.other.1)

pub exchange-requires-clause-narrow : goal.exchange-requires-clause-narrow
exchange-requires-clause-narrow c = λ k l.
    let s = store_of c.args.short.now in
    let sum = kept_is c.args.pair.sum (sum_small s (get_or s.basis c.args.row 0) c.args.pair c.requires.short (c.requires.short.store.basics c.args.row c.requires.row) c.requires.pair) in
    let step = pair_step s c.args.row c.args.entering c.args.column c.requires.short c.requires.row c.requires.entering c.requires.column c.requires.nonzero c.requires.narrow c.args.pair c.requires.other.0 c.requires.paired c.requires.pair c.requires.other.1 in
    rw (c.write_pair.ensures ∙ ap (pair_row s.width c.args.column) sum)
    (exchanged_narrow s c.args.row (get_or s.basis c.args.row 0) c.args.entering c.args.column (pair_row s.width c.args.column c.args.pair.sum) None k step.0 (omega (arith, l, length-row_lists c.args.short.now.rows.items)))

pub returns-clause-short : goal.returns-clause-short
returns-clause-short c =
    let s = store_of c.args.short.now in
    let sum = kept_is c.args.pair.sum (sum_small s (get_or s.basis c.args.row 0) c.args.pair c.requires.short (c.requires.short.store.basics c.args.row c.requires.row) c.requires.pair) in
    let step = pair_step s c.args.row c.args.entering c.args.column c.requires.short c.requires.row c.requires.entering c.requires.column c.requires.nonzero c.requires.narrow c.args.pair c.requires.other.0 c.requires.paired c.requires.pair c.requires.other.1 in
    subst IsShort (sym (c.exchange.ensures ∙ ap (λ (xs : List ℤ). exchanged s c.args.row (get_or s.basis c.args.row 0) c.args.entering c.args.column xs None) (c.write_pair.ensures ∙ ap (pair_row s.width c.args.column) sum))) step.0

pub returns-clause-value : goal.returns-clause-value
returns-clause-value c =
    let s = store_of c.args.short.now in
    let sum = kept_is c.args.pair.sum (sum_small s (get_or s.basis c.args.row 0) c.args.pair c.requires.short (c.requires.short.store.basics c.args.row c.requires.row) c.requires.pair) in
    let step = pair_step s c.args.row c.args.entering c.args.column c.requires.short c.requires.row c.requires.entering c.requires.column c.requires.nonzero c.requires.narrow c.args.pair c.requires.other.0 c.requires.paired c.requires.pair c.requires.other.1 in
    ap table_of (c.exchange.ensures ∙ ap (λ (xs : List ℤ). exchanged s c.args.row (get_or s.basis c.args.row 0) c.args.entering c.args.column xs None) (c.write_pair.ensures ∙ ap (pair_row s.width c.args.column) sum)) ∙ step.1
