-- What an equation is read from.
use Rattle.std.specs.Prelude.{ℕ, ◌≡◌, Some}
use Rattle.pivot_form.specs.declared.equation.Origin.{Origin}
use Rattle.pivot_form.specs.declared.equation.Origin.TheVariants.{Own, Mirror, Lone}
use Rattle.pivot_form.specs.declared.places.Pair.{Pair}
use Rattle.pivot_form.specs.declared.places.Place.TheVariants.{Column, Kept, Paired}
use Rattle.pivot_form.specs.Kept.{Store, pair_of, place_of}

-- the equation of the basic variable follows from this pair
pub record IsPairs (s : Store) (b : ℕ) (p : Pair) : Type 0 where
  pub place : place_of s b ≡ Paired
  pub pair : pair_of s b ≡ Some p

-- the equation of the basic variable is read from this
abbrev pub IsOrigin : Store → ℕ → Origin → Type 0
IsOrigin s b (Own k) = place_of s b ≡ Kept k
IsOrigin s b (Mirror k p) = IsPairs s b p × (place_of s p.other ≡ Kept k)
IsOrigin s b (Lone p) = IsPairs s b p × ((j : ℕ) × (place_of s p.other ≡ Column j))
