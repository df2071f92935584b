-- Lines in pieces.
use Rattle.std.proofs.Common.{ℕ, List, ◌++◌, ◌≡◌, ◌∙◌, Option, inl, inr}
use Rattle.std.specs.Prelude.{Result, Ok, Err, OnOk, OnErr, IsErr}
use Rattle.mov_edge.specs.Outside.{Counts, Rose, Took}
use Rattle.mov_edge.specs.Loads.{TookFirst}
use Rattle.mov_edge.proofs.Lines.{part_left, part_right, rose_from, rose_of, took_join}
use Rattle.mov_run.specs.Run.{Says, WritesAll}

pub writes_from : (o n : Option (List ℕ)) {T E : Type 0} (r : Result T E) (piece : List ℕ) (before now : ℕ) → OnOk r (Took o n piece) → OnErr r (TookFirst o n piece) → Counts before now r ⊥ → WritesAll o n before now r piece
writes_from o n (Ok x) piece before now whole part counts = (whole, counts.kept)
writes_from o n (Err e) piece before now whole part counts = (part, rose_of before now counts.failed)

-- a fault came in the first piece
pub cut_first : (o n : Option (List ℕ)) (a rest : List ℕ) (before now : ℕ) → TookFirst o n a × Rose before now → TookFirst o n (a ++ rest) × Rose before now
cut_first o n a rest before now w = (part_left o n a rest w.0, w.1)

-- the first piece went out whole
pub went_on : (o m n : Option (List ℕ)) {T E : Type 0} (r : Result T E) (a rest : List ℕ) (start before now : ℕ) → Took o m a × (before ≡ start) → WritesAll m n before now r rest → WritesAll o n start now r (a ++ rest)
went_on o m n (Ok x) a rest start before now first later = (took_join o m n a rest first.0 later.0, later.1 ∙ first.1)
went_on o m n (Err e) a rest start before now first later = (part_right o m n a rest first.0 later.0, rose_from start before now first.1 later.1)

pub says_from : (o n : Option (List ℕ)) {T E : Type 0} (r : Result T E) (line : List ℕ) (before now : ℕ) → WritesAll o n before now r line → Says o n before now line
says_from o n (Ok x) line before now w = inl w
says_from o n (Err e) line before now w = inr w

-- a fault came in the pieces after the first
pub cut_later : (o m n : Option (List ℕ)) (a rest : List ℕ) (start before now : ℕ) → Took o m a × (before ≡ start) → TookFirst m n rest × Rose before now → TookFirst o n (a ++ rest) × Rose start now
cut_later o m n a rest start before now first later = (part_right o m n a rest first.0 later.0, rose_from start before now first.1 later.1)

pub failed_at : (o n : Option (List ℕ)) {T E : Type 0} (r : Result T E) (piece : List ℕ) (before now : ℕ) → IsErr r → TookFirst o n piece × Rose before now → WritesAll o n before now r piece
failed_at o n (Ok x) piece before now none w = absurd (cc)
failed_at o n (Err e) piece before now some w = w
