-- Bytes that are read or written in parts.
use Rattle.std.proofs.Common.{ℕ, List, ◌++◌, ◌≡◌, ◌<◌, ◌≤◌, ◌+◌, ◌-◌, length, take, drop, Some, None, Option, refl, sym, ap, ◌∙◌, arith, append_assoc, append-nil, length-append, length-drop, length-take}
use Rattle.std.proofs.lemmas.List.{take_rest, take-append-le}
use Rattle.std.proofs.Math.Seq.{take-add}
use Rattle.mov_edge.specs.Outside.{Took, GivesNext}

-- after the first i bytes, the first k of the others make the first i + k
pub took_more : (o m n : Option (List ℕ)) (xs : List ℕ) (i k : ℕ) → Took o m (take i xs) → Took m n (take k (take (length xs - i) (drop i xs))) → Took o n (take (i + k) xs)
took_more None m n xs i k p q = rw p at q
took_more (Some ys) m n xs i k p q =
    let r = rw p at q in
    r ∙ ap Some (append_assoc ys (take i xs) (take k (take (length xs - i) (drop i xs))) ∙ ap (λ t. ys ++ t) (ap (λ t. take i xs ++ take k t) (take_rest xs i) ∙ sym (take-add i k xs)))

-- a read of nothing, into a buffer with room, shows that the items are all the bytes
pub all_read : (bytes items buf : List ℕ) (n : ℕ) → bytes ≡ items ++ drop (length items) bytes → n ≡ 0 → 0 < length buf → GivesNext bytes (length items) n buf → items ≡ bytes
all_read bytes items buf n so none room gives = sym (so ∙ ap (λ t. items ++ t) (gives.ended none room) ∙ append-nil items)

-- what is put after the items is within the part of the buffer that was read into
pub first_of_read : (more items buf rest : List ℕ) (n : ℕ) → n ≤ length buf → more ≡ items ++ take n (buf ++ rest) → more ≡ items ++ take n buf
first_of_read more items buf rest n fits is = is ∙ ap (λ t. items ++ t) (take-append-le n buf rest fits)

-- a read of more than what is left to the limit shows a file that is longer than it
pub longer : (bytes items buf : List ℕ) (n limit : ℕ) → n ≤ length buf → length items ≤ limit → limit - length items < n → GivesNext bytes (length items) n buf → limit < length bytes
longer bytes items buf n limit fits within more gives =
    let e = ap length gives.next in
    omega (arith, simp (length-append, length-drop, length-take) at e)

-- the items with what was read after them are still the first bytes
pub read_more : (bytes items buf more : List ℕ) (n : ℕ) → n ≤ length buf → bytes ≡ items ++ drop (length items) bytes → GivesNext bytes (length items) n buf → more ≡ items ++ take n buf → bytes ≡ more ++ drop (length more) bytes
read_more bytes items buf more n fits so gives is =
    let len : length more ≡ length items + n = rw is (simp (length-append, length-take) (omega arith)) in
    so ∙ ap (λ t. items ++ t) gives.next ∙ sym (append_assoc items (take n buf) (drop (length items + n) bytes)) ∙ (rw len (rw is refl))
