-- What a source of files tells, what a sink has taken, and when their calls may fail.
use Rattle.std.specs.Prelude.{◌≡◌, ◌⊎◌, ℕ, ◌+◌, ◌-◌, ◌^◌, ◌<◌, ◌≤◌, min, cond, List, [], ◌∷◌, ◌++◌, length, take, drop, Option, Some, None, Result, OnOk, OnErr, bytes_eq, IsSomeAnd}

-- a file by its name and its bytes
pub record Named : Type 0 where
  pub name : List ℕ
  pub bytes : List ℕ

-- the file that is being read, and how many of its bytes were given
pub record Place : Type 0 where
  pub name : List ℕ
  pub given : ℕ

-- the bytes of the file of this name, if there is one
abbrev pub file_of : List ℕ → List Named → Option (List ℕ)
file_of name [] = None
file_of name (f ∷ fs) = cond (bytes_eq name f.name) (Some f.bytes) (file_of name fs)

-- it is told that the file of this name has these bytes
abbrev pub Tells : Option (List Named) → List ℕ → List ℕ → Type 0
Tells None name bytes = ⊥
Tells (Some files) name bytes = file_of name files ≡ Some bytes

-- it is told that there is no file of this name
abbrev pub Lacks : Option (List Named) → List ℕ → Type 0
Lacks None name = ⊥
Lacks (Some files) name = file_of name files ≡ None

-- more than so many bytes were taken of the file of this name
abbrev pub TookMore : Option Place → List ℕ → ℕ → Type 0
TookMore at name limit = IsSomeAnd at (λ p. (p.name ≡ name) × (limit < p.given))

-- the value of a count after one more, which stays at its last
abbrev pub next_count : ℕ → ℕ
next_count count = min (count + 1) (2 ^ 64 - 1)

-- a count is greater than before, or at its last value
abbrev pub Rose : ℕ → ℕ → Type 0
Rose before now = next_count before ≤ now

-- a count never falls, stays where the call succeeds, and rises where it fails, unless the failure is excused
pub record Counts {T E : Type 0} (before now : ℕ) (result : Result T E) (excused : Type 0) : Type 0 where
  pub later : before ≤ now
  pub kept : OnOk result (now ≡ before)
  pub failed : OnErr result (Rose before now ⊎ excused)

-- the next n bytes after those given are the first n of the buffer, and n is 0 for a buffer with room only at the end
pub record GivesNext (bytes : List ℕ) (given n : ℕ) (buf : List ℕ) : Type 0 where
  pub next : drop given bytes ≡ take n buf ++ drop (given + n) bytes
  pub ended : n ≡ 0 → 0 < length buf → drop given bytes ≡ []

-- these bytes were taken after those before them, where what was taken is told
abbrev pub Took : Option (List ℕ) → Option (List ℕ) → List ℕ → Type 0
Took None new bytes = new ≡ None
Took (Some xs) new bytes = new ≡ Some (xs ++ bytes)
