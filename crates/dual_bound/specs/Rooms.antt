-- Room for every suffix: for its arcs, and for the start and its places.
use Rattle.std.specs.Prelude.{◌≡◌, length}
use Rattle.dual_bound.specs.declared.weighing.Tables.{Tables}
use Rattle.dual_bound.specs.declared.weighing.TheConstants.{MOST_ARCS, MOST_CELLS}

pub record HasTables (tables : Tables) : Type 0 where
  pub row_arcs : length tables.row_arcs.items ≡ MOST_ARCS
  pub arcs : length tables.arcs.items ≡ MOST_ARCS
  pub cells : length tables.cells.items ≡ MOST_CELLS
