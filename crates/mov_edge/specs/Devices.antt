-- The devices as contracts see them.
use Rattle.std.specs.Prelude.{◌≡◌, ℕ, List, Option, Contains}
use Rattle.mov_edge.specs.Outside.{Named, Place, next_count}

-- files in memory that give at most `step` bytes a call, and fail at the calls with the listed numbers
pub record FilesState : Type 0 where
  pub told : List Named
  pub at : Option Place
  pub begun : ℕ
  pub step : ℕ
  pub failing : List ℕ
  pub calls : ℕ
  pub faults : ℕ

-- a sink in memory with room for so many bytes, that takes at most `step` a call, and fails at the calls with the
-- listed numbers
pub record SinkState : Type 0 where
  pub taken : List ℕ
  pub room : ℕ
  pub step : ℕ
  pub failing : List ℕ
  pub calls : ℕ
  pub faults : ℕ

-- the files of the system: the one that is being read, how many times one was begun, and the count of faults
pub record DiskState : Type 0 where
  pub at : Option Place
  pub begun : ℕ
  pub faults : ℕ

-- the call after so many calls is listed
abbrev pub IsNextListed : List ℕ → ℕ → Type 0
IsNextListed failing calls = Contains failing (next_count calls)

-- the count of faults rises by one where the next call is listed, and only there
pub record CountsListed (failing : List ℕ) (calls before now : ℕ) : Type 0 where
  pub listed : IsNextListed failing calls → now ≡ next_count before
  pub other : (IsNextListed failing calls → ⊥) → now ≡ before
