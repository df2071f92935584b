-- What a form that is kept by slots and pairs stands for.
use Rattle.std.specs.Prelude.{ℕ, ◌≡◌, ◌≢◌, ◌<◌, ◌≤◌, ◌+◌, ◌^◌, ◌⊎◌, IfSome, List, Option, Some, unsigned_abs}
use Rattle.std.specs.List.{All}
use Rattle.row_program.specs.declared.limits.TheConstants.{TERM_LIMIT}
use Rattle.pivot_form.specs.declared.places.Pair.{Pair}
use Rattle.pivot_form.specs.declared.places.Place.TheVariants.{Column, Paired}
use Rattle.pivot_form.specs.declared.short.Short.{Short}
use Rattle.pivot_form.specs.Invariant.{IsForm, row_lists}
use Rattle.pivot_form.specs.Kept.{IsStore, Store, pair_of, place_of, table_of, variables_of}

abbrev pub store_of : Short → Store
store_of s = record {
  width = s.width;
  basis = s.basics.items;
  places = s.places.items;
  pairs = s.pairs.items;
  rows = row_lists s.rows.items;
}

-- what is kept is a form, whose entries are small
pub record IsShort (s : Store) : Type 0 where
  pub few : s.width + 2 < 2 ^ 63
  pub sums : (v : ℕ) (p : Pair) → v < variables_of s → pair_of s v ≡ Some p → unsigned_abs p.sum < TERM_LIMIT
  pub store : IsStore s
  pub form : IsForm (table_of s)

-- the variable is basic
pub record IsBasic (s : Store) (b : ℕ) : Type 0 where
  pub within : b < variables_of s
  pub no_column : (j : ℕ) → place_of s b ≢ Column j

-- the equation of the basic variable is kept, or its pair's other variable is nonbasic
abbrev pub StandsAlone : Store → ℕ → Type 0
StandsAlone s b = (place_of s b ≢ Paired) ⊎ ((p : Pair) × (pair_of s b ≡ Some p) × ((j : ℕ) × (place_of s p.other ≡ Column j)))

-- no pair's sum is greater in size
abbrev pub AreSumsUpTo : ℕ → List (Option Pair) → Type 0
AreSumsUpTo most pairs = All (λ pair. IfSome pair (λ q. unsigned_abs q.sum ≤ most)) pairs
