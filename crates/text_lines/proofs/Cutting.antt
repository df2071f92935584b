-- Cutting a list at the first place of a byte.
use Rattle.std.proofs.Common.{◌≡◌, ℕ, ◌+◌, ◌-◌, ◌<◌, ◌≤◌, Bool, true, false, cond, not, eqb, ltb, List, [], ◌∷◌, length, take, drop, Some, None, refl, sym, ap, ◌∙◌, arith}
use Rattle.std.specs.List.{slice_split, count_by, position, position_or_len, onto_first}
use Rattle.std.proofs.lemmas.Bool.{ltb-false, ltb-true}
use Rattle.std.proofs.lemmas.List.Sums.{count_by-le-length}
use Rattle.std.proofs.lemmas.List.{take_rest, drop-drop, length-drop}
use Rattle.std.proofs.lemmas.List.Splits.{slice_split_first, slice_split-cons_no, length-slice_split}
use Rattle.text_lines.specs.Words.{Walk, ahead, fields_of}

pub some_place : (b : Bool) (n i : ℕ) → cond b (Some n) None ≡ Some i → (b ≡ true) × (n ≡ i)
some_place true n i e = (refl, cc)
some_place false n i e = absurd cc

pub no_place : (b : Bool) (n : ℕ) → cond b (Some n) None ≡ None → b ≡ false
no_place true n e = absurd cc
no_place false n e = refl

-- where no element passes the list is one part
no_cut_at : {X : Type 0} (p : X → Bool) (x : X) (xs : List X) (b : Bool) → p x ≡ b → (length xs ≤ position_or_len p xs → slice_split p xs ≡ xs ∷ []) → length (x ∷ xs) ≤ cond (not b) (1 + position_or_len p xs) 0 → slice_split p (x ∷ xs) ≡ (x ∷ xs) ∷ []
no_cut_at p x xs true e rest h = absurd (omega arith)
no_cut_at p x xs false e rest h = slice_split-cons_no p x xs e ∙ ap (onto_first x) (rest (omega arith))

pub no_cut : {X : Type 0} (p : X → Bool) (xs : List X) → length xs ≤ position_or_len p xs → slice_split p xs ≡ xs ∷ []
no_cut p [] h = refl
no_cut p (x ∷ xs) h = no_cut_at p x xs (p x) refl (no_cut p xs) h

pub cut_none : {X : Type 0} (p : X → Bool) (xs : List X) → position p xs ≡ None → slice_split p xs ≡ xs ∷ []
cut_none p xs e = no_cut p xs (ltb-false _ _ (no_place (ltb (position_or_len p xs) (length xs)) (position_or_len p xs) e))

pub cut_some : {X : Type 0} (p : X → Bool) (xs : List X) (i : ℕ) (d : X) → position p xs ≡ Some i → (i < length xs) × (slice_split p xs ≡ take i xs ∷ slice_split p (drop (i + 1) xs))
cut_some p xs i d e =
    let at = some_place (ltb (position_or_len p xs) (length xs)) (position_or_len p xs) i e in
    let lt : position_or_len p xs < length xs = ltb-true _ _ at.0 in
    (omega (arith, at.1), slice_split_first p xs d lt ∙ ap (λ k. take k xs ∷ slice_split p (drop (k + 1) xs)) at.1)

-- a step of a walk
pub step_some : (w : Walk) (i : ℕ) → w.done ≡ false → position (λ b. eqb b 32) (take (length w.line - w.start) (drop w.start w.line)) ≡ Some i
    → ahead w ≡ take i (take (length w.line - w.start) (drop w.start w.line)) ∷ ahead (record { line = w.line; start = w.start + i + 1; done = w.done })
step_some w i e at =
    let rest = take_rest w.line w.start in
    let cut = cut_some (λ b. eqb b 32) (take (length w.line - w.start) (drop w.start w.line)) i 0 at in
    let tail : drop (i + 1) (take (length w.line - w.start) (drop w.start w.line)) ≡ drop (w.start + i + 1) w.line = ap (drop (i + 1)) rest ∙ drop-drop (i + 1) w.start w.line ∙ ap (λ k. drop k w.line) (omega arith) in
    rw e (ap fields_of (sym rest) ∙ cut.1 ∙ ap (λ t. take i (take (length w.line - w.start) (drop w.start w.line)) ∷ fields_of t) tail)

pub step_none : (w : Walk) → w.done ≡ false → position (λ b. eqb b 32) (take (length w.line - w.start) (drop w.start w.line)) ≡ None
    → ahead w ≡ take (length w.line - w.start) (drop w.start w.line) ∷ []
step_none w e at = rw e (ap fields_of (sym (take_rest w.line w.start)) ∙ cut_none (λ b. eqb b 32) (take (length w.line - w.start) (drop w.start w.line)) at)

few : (p : ℕ → Bool) (xs : List ℕ) → count_by p xs ≤ length xs
few p xs = count_by-le-length p xs

room_at : (line : List ℕ) (start : ℕ) (done : Bool) → length (cond done [] (fields_of (drop start line))) ≤ length line + 1
room_at line start true = omega arith
room_at line start false = omega (arith, length-slice_split (λ b. eqb b 32) (drop start line), few (λ b. eqb b 32) (drop start line), length-drop start line)

-- no more fields than bytes and one
pub ahead_room : (w : Walk) → length (ahead w) ≤ length w.line + 1
ahead_room w = room_at w.line w.start w.done
