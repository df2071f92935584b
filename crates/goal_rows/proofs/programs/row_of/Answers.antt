use Rattle.std.proofs.Common.{List, ◌≡◌, ◌++◌, ◌+◌, ◌<◌, ◌∙◌, length, map, FitsSigned, w64, ap, subst, sym}
use Rattle.std.specs.Prelude.{All, unsigned_abs}
use Rattle.std.proofs.lemmas.Int.{to_z-of_z}
use Rattle.row_program.specs.Bounds.{IsRow}
use Rattle.row_program.specs.declared.limits.TheConstants.{TERM_LIMIT}
use Rattle.row_program.specs.declared.program.Row.{Row}
use Rattle.row_program.specs.declared.program.Term.{Term}
use Rattle.goal_rows.specs.Programs.{arc_weight, terms_of, weights_by}
use Rattle.goal_rows.proofs.ProgramRows.{few_fit, small_row, weights_count}
use Rattle.goal_rows.proofs.programs.row_of.Goals as goal

pub returns : goal.returns
returns c =
    let constant = c.args.constant in
    let weighing = c.args.weighing in
    let classes = c.args.classes.now in
    let arcs = c.args.arcs.now in
    let all : c.add_arc_weights.new.weights ≡ weights_by weighing classes arcs =
    c.in_ok-add_arc_weights.ensures.value ∙ ap (λ ws. ws ++ map (arc_weight weighing) arcs) c.in_ok-weights.ensures.value in
    let given : c.in_ok-terms.terms ≡ terms_of (weights_by weighing classes arcs) = c.in_ok-terms.ensures ∙ ap terms_of (c.as_slice.ensures ∙ all) in
    let make : List Term → Row = λ ts. record { constant = constant; terms = ts } in
    let fits : FitsSigned w64 constant = few_fit constant c.requires.small in
    let small = subst (λ ws. All (λ w. unsigned_abs w < TERM_LIMIT) ws) all c.in_ok-add_arc_weights.ensures.small in
    let row = small_row constant (weights_by weighing classes arcs) (length classes + length arcs) c.requires.small small (weights_count weighing classes arcs) in
    simp to_z-of_z (record {
      value = ap make given;
      row = subst (λ ts. IsRow (length classes + length arcs) (make ts)) (sym given) row;
    })
