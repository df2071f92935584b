use Rattle.std.proofs.Common.{ℕ, List, ◌++◌, ◌∙◌, map, ap, sym}
use Rattle.row_program.specs.declared.Feature.{Feature}
use Rattle.row_program.specs.declared.Feature.TheVariants.{Arc}
use Rattle.sig_graph.specs.Paths.{arcs_of}
use Rattle.dual_bound.specs.Sizes.{places_of}
use Rattle.dual_bound.proofs.CellVariables.{features_are, not_root}
use Rattle.dual_bound.proofs.SmallGrounds.{small_ground}
use Rattle.dual_bound.proofs.cell_variables.features.Goals as goal

pub places_of-requires : goal.places_of-requires
places_of-requires c = small_ground c.requires.start.0 c.args.start.now c.requires.start.1 (not_root c.args.start.now.goal c.requires.features)

pub returns : goal.returns
returns c =
    let arcs = λ (m : ℕ). map (λ (a : ℕ × ℕ). Arc a.0 a.1) (arcs_of m) in
    c.in_ok-add_arc_features.ensures
    ∙ ap (λ m. c.in_ok-features.features.items ++ arcs m) c.places_of.ensures
    ∙ ap (λ (xs : List Feature). xs ++ arcs (places_of c.args.start.now.goal)) c.in_ok-features.ensures
    ∙ sym (features_are c.args.start.now)
