-- Lines and their fields.
use Rattle.std.specs.Prelude.{ℕ, ◌==◌, Bool, if◌then◌else◌, List, [], ◌∷◌, ◌++◌, drop}
use Rattle.std.specs.List.{slice_split, join_with_byte}

-- the fields of a line: what stands between single spaces
abbrev pub fields_of : List ℕ → List (List ℕ)
fields_of line = slice_split (λ b. b == 32) line

-- a line of these fields, joined by single spaces
abbrev pub line_of : List (List ℕ) → List ℕ
line_of fields = join_with_byte 32 fields

-- a line of these fields, ended by a line feed
abbrev pub line_text : List (List ℕ) → List ℕ
line_text fields = line_of fields ++ 10 ∷ []

-- a walk over the fields of a line: where the next one starts, and whether none is left
pub record Walk : Type 0 where
  pub line : List ℕ
  pub start : ℕ
  pub done : Bool

-- the fields that are still to come
abbrev pub ahead : Walk → List (List ℕ)
ahead w = if w.done then [] else fields_of (drop w.start w.line)
