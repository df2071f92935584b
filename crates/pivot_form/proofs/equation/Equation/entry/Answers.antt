use Rattle.std.proofs.Common.{◌∙◌}
use Rattle.pivot_form.specs.Shorts.{store_of}
use Rattle.pivot_form.proofs.WholeRows.{lent_inside, lent_read, lent_small, lone_entry, own_entry}
use Rattle.pivot_form.proofs.equation.Equation.entry.Goals as goal

pub kept_entry-requires-clause-variable : goal.kept_entry-requires-clause-variable
kept_entry-requires-clause-variable c = lent_inside (store_of c.self.inside.short.now) c.self.inside.basic c.args.column c.args.self.now c.self.view_is c.requires

pub mirror_entry-requires-clause-variable : goal.mirror_entry-requires-clause-variable
mirror_entry-requires-clause-variable c = lent_inside (store_of c.self.inside.short.now) c.self.inside.basic c.args.column c.args.self.now c.self.view_is c.requires

pub returns-in-Own-clause-value : goal.returns-in-Own-clause-value
returns-in-Own-clause-value c =
    let s = store_of c.self.inside.short.now in
    let b = c.self.inside.basic in
    lent_read s b c.args.column c.args.self.now c.self.view_is c.requires c.kept_entry.result c.self.invariant.0 c.self.invariant.1 (c.kept_entry.ensures.value ∙ own_entry s b c.in-Own.slot c.args.column c.self.inside.origin c.self.invariant.2 c.in-Own.is)

pub returns-in-Mirror-clause-value : goal.returns-in-Mirror-clause-value
returns-in-Mirror-clause-value c = lent_read (store_of c.self.inside.short.now) c.self.inside.basic c.args.column c.args.self.now c.self.view_is c.requires c.mirror_entry.result c.self.invariant.0 c.self.invariant.1 c.mirror_entry.ensures

pub returns-in-Mirror-clause-small : goal.returns-in-Mirror-clause-small
returns-in-Mirror-clause-small c = lent_small (store_of c.self.inside.short.now) c.self.inside.basic c.args.column c.args.self.now c.self.view_is c.requires c.mirror_entry.result c.self.invariant.0 c.self.invariant.1 c.mirror_entry.ensures

pub returns-in-Lone-clause-value : goal.returns-in-Lone-clause-value
returns-in-Lone-clause-value c =
    let s = store_of c.self.inside.short.now in
    let b = c.self.inside.basic in
    lent_read s b c.args.column c.args.self.now c.self.view_is c.requires c.lone_entry.result c.self.invariant.0 c.self.invariant.1 (c.lone_entry.ensures ∙ lone_entry s b c.args.column c.in-Lone.pair c.self.inside.origin c.self.invariant.0 c.self.invariant.1 c.self.invariant.2 c.in-Lone.is)
