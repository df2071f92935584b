-- What is left where a text was being added and memory ran out.
use Rattle.std.specs.Prelude.{◌≡◌, ◌≤◌, ℕ, List, ◌++◌, length, take}

-- a first part of the text was added, which may be none of it or all
abbrev pub AddedFirst : List ℕ → List ℕ → List ℕ → Type 0
AddedFirst old new text = (n : ℕ) × (n ≤ length text) × (new ≡ old ++ take n text)
