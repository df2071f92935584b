use Rattle.std.proofs.Common.{arith, rules, sym, ◌∙◌, ap, take, get_or, ◌≢◌}
use Rattle.std.specs.Prelude.{pos}
use Rattle.std.specs.List.{All}
use Rattle.std.proofs.lemmas.List.{get_or-take, get_or_default, length-take}
use Rattle.row_program.specs.declared.program.Term.{Term}
use Rattle.row_program.proofs.bounds.all_apart.Goals as goal

pub returns-then-not-lacks_variable : goal.returns-then-not-lacks_variable
returns-then-not-lacks_variable c = (
  (λ clash. absurd (search rules)),
  λ apart.
      let terms = c.args.terms.now in
      let i = c.loop-i.i in
      let none : Term = record { variable = 0; times = pos 0 } in
      let lacks : All (λ t. t.variable ≢ (get_or terms i none).variable) (take i terms) = λ k d h. λ e. apart k i d (omega (arith, h, length-take i terms)) (omega arith) (sym (ap (λ (t : Term). t.variable) (get_or-take i terms k d (omega (arith, h, length-take i terms)))) ∙ e ∙ ap (λ (t : Term). t.variable) (get_or_default terms i none d (omega arith))) in
      let yes = c.lacks_variable.ensures.1 lacks in
      absurd (search rules),
)
