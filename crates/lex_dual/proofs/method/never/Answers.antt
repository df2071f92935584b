use Rattle.std.proofs.Common.{◌≡◌, ap, sym, ◌∙◌, subst, length, Some, None}
use Rattle.row_program.specs.Forms.{Table}
use Rattle.row_program.specs.Method.{leaving, entering}
use Rattle.dual_theory.specs.Multipliers.{IsLowest, slack_sizes, multipliers_of, RulesOut}
use Rattle.dual_theory.proofs.Shown.{lowest_is}
use Rattle.lex_dual.proofs.Reaching.{reached_form, reached_variables, leaves_within, not_wide_at_never, no_point, rules_out, each_multiplier}
use Rattle.lex_dual.proofs.method.never.Goals as goal

pub multipliers-requires-clause-form : goal.multipliers-requires-clause-form
multipliers-requires-clause-form c = reached_form c.args.program.now c.args.form.now c.requires.reached

pub multipliers-requires-clause-variables : goal.multipliers-requires-clause-variables
multipliers-requires-clause-variables c = reached_variables c.args.program.now c.args.form.now c.requires.reached

pub multipliers-requires-clause-row : goal.multipliers-requires-clause-row
multipliers-requires-clause-row c = leaves_within c.args.program.now c.args.form.now c.requires.reached c.args.row c.requires.leaving

pub returns-clause-point : goal.returns-clause-point
returns-clause-point c = no_point c.args.program.now c.args.form.now c.requires.reached c.args.row c.requires.leaving c.requires.none

pub returns-clause-shown : goal.returns-clause-shown
returns-clause-shown c = subst (RulesOut c.args.program.now) (sym c.in_ok-multipliers.ensures) (rules_out c.args.program.now c.args.form.now c.requires.reached c.args.row c.requires.leaving c.requires.none)

pub returns-clause-each_row : goal.returns-clause-each_row
returns-clause-each_row c = ap length c.in_ok-multipliers.ensures ∙ each_multiplier c.args.program.now c.args.form.now c.args.row

pub returns-clause-lowest : goal.returns-clause-lowest
returns-clause-lowest c = subst IsLowest (sym c.in_ok-multipliers.ensures) (lowest_is (slack_sizes c.args.program.now c.args.form.now c.args.row))

pub returns-clause-narrow : goal.returns-clause-narrow
returns-clause-narrow c = not_wide_at_never c.args.program.now c.args.form.now c.requires.reached c.args.row c.requires.leaving c.requires.none

pub returns-clause-read : goal.returns-clause-read
returns-clause-read c =
    let p = c.args.program.now in
    let row = c.args.row in
    let reached = c.requires.reached in
    (reached.pivots, row, subst (λ (t : Table). leaving t ≡ Some row) reached.is c.requires.leaving, subst (λ (t : Table). entering t row ≡ None) reached.is c.requires.none, c.in_ok-multipliers.ensures ∙ ap (λ (t : Table). multipliers_of p t row) reached.is)
