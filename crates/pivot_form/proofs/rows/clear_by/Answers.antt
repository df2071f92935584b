use Rattle.std.proofs.Common.{arith, rules, ◌∙◌, sym, subst, ap, ◌<◌, ◌^◌, List}
use Rattle.std.specs.Prelude.{ℤ, unsigned_abs}
use Rattle.std.specs.List.{All}
use Rattle.exact_num.specs.declared.limits.TheConstants.{WIDE}
use Rattle.exact_num.specs.Divisors.{primitive}
use Rattle.pivot_form.proofs.Equations.{small_combination, primitive_factor}
use Rattle.pivot_form.proofs.Factors.{is_factor, kept_is, made_is}
use Rattle.pivot_form.proofs.rows.clear_by.Goals as goal

pub combine-requires-clause-small_q : goal.combine-requires-clause-small_q
combine-requires-clause-small_q c =
    let is = is_factor c.args.p c.args.q c.new-factor.result c.requires.small_p c.requires.small_q c.requires.positive (search rules) c.new-factor.ensures in
    subst (λ (z : ℤ). unsigned_abs z < WIDE) (sym (kept_is c.new-factor.result.num is.small_num)) is.small_num

pub reduce_row-requires : goal.reduce_row-requires
reduce_row-requires c =
    let f = c.new-factor.result in
    let is = is_factor c.args.p c.args.q c.new-factor.result c.requires.small_p c.requires.small_q c.requires.positive (search rules) c.new-factor.ensures in
    subst (λ (r : List ℤ). All (λ x. unsigned_abs x < 2 ^ 127) r) (sym (made_is f c.args.row.now c.args.lead.now c.combine.new.out is.small_num is.small_den c.combine.ensures))
    (small_combination f.den f.num c.args.row.now c.args.lead.now (omega (arith, c.requires.same_row, c.requires.same_lead)) is.small_den is.small_num c.requires.small_row c.requires.small_lead)

pub returns : goal.returns
returns c =
    let f = c.new-factor.result in
    let is = is_factor c.args.p c.args.q c.new-factor.result c.requires.small_p c.requires.small_q c.requires.positive (search rules) c.new-factor.ensures in
    c.reduce_row.ensures.value ∙ ap primitive (made_is f c.args.row.now c.args.lead.now c.combine.new.out is.small_num is.small_den c.combine.ensures)
    ∙ primitive_factor c.args.p c.args.q f.num f.den c.args.row.now c.args.lead.now c.requires.positive f.positive is.equal
