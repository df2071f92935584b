use Rattle.std.proofs.Common.{rules, ◌∙◌, sym, subst, ap, ◌<◌, List, refl}
use Rattle.std.specs.Prelude.{ℤ, unsigned_abs}
use Rattle.std.specs.List.{All}
use Rattle.exact_num.specs.declared.limits.TheConstants.{WIDE}
use Rattle.exact_num.specs.Divisors.{primitive}
use Rattle.pivot_form.proofs.Equations.{primitive_factor}
use Rattle.pivot_form.proofs.Factors.{is_factor, kept, made_is}
use Rattle.pivot_form.proofs.SmallRows.{room_of, room_small}
use Rattle.pivot_form.proofs.small_rows.clear_small.Goals as goal

pub reduce_small-requires-clause-small : goal.reduce_small-requires-clause-small
reduce_small-requires-clause-small c =
    let f = c.new-factor.result in
    subst (λ (r : List ℤ). All (λ x. unsigned_abs x < WIDE) r) (sym c.combine_small.ensures)
    (room_small (kept f.den) (kept f.num) c.args.row.now c.args.lead.now c.requires.same
    (room_of (kept f.den) (kept f.num) c.args.most_lead c.args.row.now c.args.lead.now c.requires.same (c.if-not-has_room.ensures refl) c.requires.lead))

pub returns-clause-cleared : goal.returns-clause-cleared
returns-clause-cleared c = λ _.
    let f = c.new-factor.result in
    let is = is_factor c.args.p c.args.q c.new-factor.result c.requires.small_p c.requires.small_q c.requires.positive (search rules) c.new-factor.ensures in
    c.reduce_small.ensures ∙ ap primitive (made_is f c.args.row.now c.args.lead.now c.combine_small.new.row is.small_num is.small_den c.combine_small.ensures)
    ∙ primitive_factor c.args.p c.args.q f.num f.den c.args.row.now c.args.lead.now c.requires.positive f.positive is.equal
