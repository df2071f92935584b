-- What is promised of a file that is read whole, and of bytes that are written whole.
use Rattle.std.specs.Prelude.{◌≡◌, ◌⊎◌, ℕ, ◌≤◌, List, length, take, Option, Result, IsErrOf}
use Rattle.mov_edge.specs.Outside.{Rose, Took}
use Rattle.mov_edge.specs.declared.transfer.LoadFault.{LoadFault}
use Rattle.mov_edge.specs.declared.transfer.LoadFault.TheVariants.{Failed}

-- a count never falls, rises where the answer is Failed, unless that is excused, and stays at every other answer
pub record LoadCounts {T : Type 0} (before now : ℕ) (result : Result T LoadFault) (excused : Type 0) : Type 0 where
  pub later : before ≤ now
  pub failed : IsErrOf result Failed → Rose before now ⊎ excused
  pub kept : (IsErrOf result Failed → ⊥) → now ≡ before

-- a first part of the bytes was taken
abbrev pub TookFirst : Option (List ℕ) → Option (List ℕ) → List ℕ → Type 0
TookFirst old new bytes = (n : ℕ) × (n ≤ length bytes) × Took old new (take n bytes)
