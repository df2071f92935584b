-- Texts that are written in pieces, one after another.
use Rattle.std.proofs.Common.{ℕ, List, ◌++◌, ◌≡◌, ◌≤◌, ◌+◌, ◌⊎◌, length, take, Some, None, Option, ap, ◌∙◌, inl, inr, arith, append_assoc, length-append}
use Rattle.std.proofs.lemmas.List.{take-append-le}
use Rattle.std.proofs.Math.Seq.{take-append-add}
use Rattle.mov_edge.specs.Outside.{Took, Rose}
use Rattle.mov_edge.specs.Loads.{TookFirst}

-- what was taken in two pieces
pub took_join : (o m n : Option (List ℕ)) (a b : List ℕ) → Took o m a → Took m n b → Took o n (a ++ b)
took_join None m n a b p q = rw p at q
took_join (Some xs) m n a b p q = let r = rw p at q in r ∙ ap Some (append_assoc xs a b)

-- a first part of the first piece is one of both
pub part_left : (o n : Option (List ℕ)) (a b : List ℕ) → TookFirst o n a → TookFirst o n (a ++ b)
part_left o n a b p =
    let le : p.0 ≤ length a = p.1 in
    (p.0, simp length-append (omega arith), rw take-append-le p.2)

-- the first piece and a first part of the second are one of both
pub part_right : (o m n : Option (List ℕ)) (a b : List ℕ) → Took o m a → TookFirst m n b → TookFirst o n (a ++ b)
part_right o m n a b p q = (length a + q.0, (let le : q.0 ≤ length b = q.1 in simp length-append (omega arith)), rw take-append-add (took_join o m n a (take q.0 b) p q.2))

-- a failure without excuse
pub rose_of : (before now : ℕ) → Rose before now ⊎ ⊥ → Rose before now
rose_of before now (inl r) = r
rose_of before now (inr f) = absurd f

-- a count that had not moved before it rose
pub rose_from : (start before now : ℕ) → before ≡ start → Rose before now → Rose start now
rose_from start before now e r = rw e at r
