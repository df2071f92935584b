use Rattle.std.proofs.Common.{◌≡◌, Bool, true, false, refl}
use Rattle.dual_bound.proofs.CellVariables.{all_fixed, fixed_arcs, fixed_classes}
use Rattle.dual_bound.proofs.cells.has_one_point.Goals as goal

clash : (b : Bool) → b ≡ false → b ≡ true → ⊥
clash true off on = cc
clash false off on = cc

pub returns-then-not-are_classes_fixed : goal.returns-then-not-are_classes_fixed
returns-then-not-are_classes_fixed c = (
  λ on. absurd (clash false refl on),
  λ cell. absurd (clash c.are_classes_fixed.result c.if-not-are_classes_fixed.true (c.are_classes_fixed.ensures.1 (fixed_classes c.args.start.now c.args.limits.now cell.one_value))),
)

pub returns-then-not-are_arcs_fixed : goal.returns-then-not-are_arcs_fixed
returns-then-not-are_arcs_fixed c =
    let is = rw c.places_of-m.ensures at c.are_arcs_fixed.ensures in (
      λ on. absurd (clash false refl on),
      λ cell. absurd (clash c.are_arcs_fixed.result c.if-not-are_arcs_fixed.true (is.1 (fixed_arcs c.args.start.now c.args.limits.now cell.one_value))),
    )

pub returns : goal.returns
returns c =
    let arcs = rw c.places_of-m.ensures at c.are_arcs_fixed.ensures in (
      λ on. record {
        featured = c.requires.features;
        on_variables = c.are_on_variables.ensures.0 on;
        one_value = all_fixed c.args.start.now c.args.limits.now (c.are_classes_fixed.ensures.0 c.if-not-are_classes_fixed.false) (arcs.0 c.if-not-are_arcs_fixed.false);
      },
      λ cell. c.are_on_variables.ensures.1 cell.on_variables,
    )
