use Rattle.std.proofs.Common.{◌∙◌, ap, sym, subst, map, List, ◌<◌, ◌^◌}
use Rattle.std.specs.Prelude.{ℤ, unsigned_abs}
use Rattle.std.specs.List.{All}
use lib.IntN.{neg_ℤ}
use Rattle.pivot_form.proofs.Equations.{small_negated}
use Rattle.pivot_form.proofs.rows.turn.Goals as goal

pub returns-then-row-column-lt0-clause-small : goal.returns-then-row-column-lt0-clause-small
returns-then-row-column-lt0-clause-small c = subst (λ (r : List ℤ). All (λ x. unsigned_abs x < 2 ^ 63) r) (sym (c.negate.ensures ∙ ap (map neg_ℤ) c.copy_from_slice.ensures.after)) (small_negated c.args.row.now c.requires.small)
