-- What is held in the rounds so far, row by row.
use Rattle.std.proofs.Common.{ℕ, List, [], ◌∷◌, ◌++◌, Option, ◌≡◌, ◌<◌, ◌≤◌, ◌+◌, ◌*◌, ◌∙◌, length, take, get_or, ap, sym, subst, inl, inr, arith, length-append}
use Rattle.std.specs.Prelude.{not}
use Rattle.std.proofs.Math.Nat.{mul_comm}
use Rattle.std.proofs.Math.Seq.{length-take-le, take-append_seam}
use Rattle.std.proofs.lemmas.Bool.{cases_lt}
use Rattle.std.proofs.lemmas.List.{get_or-append_right, get_or-take, get_or_append_left, take-append-le}
use Rattle.std.proofs.lemmas.Nat.{mul-add-lt, mul-le}
use borrow.Rule.Slice.PartMut.{post_of, put_mid}
use Rattle.ballot_form.specs.Ballots.{IsPoll, Poll}
use Rattle.irv_count.specs.Orders.{held_count, member, stands, AreHeld}
use Rattle.irv_count.specs.Rounds.{IsPart}
use Rattle.irv_count.proofs.Holders.{held_by_bits}

-- a place before a part that is written, and one of the part
before_part : (a k n : ℕ) (xs ys : List ℕ) → n < a → a ≤ length xs → get_or (put_mid a k xs ys) n 0 ≡ get_or xs n 0
before_part a k n xs ys lt within =
    get_or_append_left (take a xs) (ys ++ post_of a k xs) 0 n (omega (arith, length-take-le a xs within)) ∙ get_or-take a xs n 0 lt

in_part : (a k n y : ℕ) (xs ys : List ℕ) → n ≡ a + y → y < length ys → a ≤ length xs → get_or (put_mid a k xs ys) n 0 ≡ get_or ys y 0
in_part a k n y xs ys at lt within =
    get_or-append_right (take a xs) (ys ++ post_of a k xs) a n 0 (length-take-le a xs within) (omega arith)
    ∙ ap (λ m. get_or (ys ++ post_of a k xs) m 0) (omega (arith, at)) ∙ get_or_append_left ys (post_of a k xs) 0 y lt

-- a round more, whose row is the part that begins at a
pub held_stepped : (against : Option ℕ) (p : Poll) (order : List ℕ) (standing a k x : ℕ) (held counts : List ℕ) → IsPoll p → IsPart against p order standing
    → AreHeld p order held → length held ≡ p.c * p.c → length order < p.c → a ≡ length order * p.c → length counts ≡ p.c
    → ((y : ℕ) → y < length counts → get_or counts y 0 ≡ held_count (stands standing) p.ballots y)
    → AreHeld p (order ++ x ∷ []) (put_mid a k held counts)
held_stepped against p order standing a k x held counts is part so square some begins size here j y lt yc =
    let within : a ≤ length held = omega (arith, begins, square, mul-le (length order) p.c p.c p.c (omega arith) (omega arith)) in
    elim (cases_lt j (length order)) [
      | inl l ↦
          let place : j * p.c + y < a = omega (arith, begins, mul-add-lt j p.c y (length order) l yc, mul_comm (length order) p.c) in
          let gone : take j (order ++ x ∷ []) ≡ take j order = take-append-le j order (x ∷ []) (omega arith) in
          before_part a k (j * p.c + y) held counts place within
          ∙ subst (λ g. get_or held (j * p.c + y) 0 ≡ held_count (λ z. not (member z g)) p.ballots y) (sym gone) (so j y l yc)
      | inr g ↦
          let last : j ≡ length order = omega (arith, g, lt, length-append order (x ∷ [])) in
          let place : j * p.c + y ≡ a + y = ap (λ i. i * p.c + y) last ∙ ap (λ m. m + y) (sym begins) in
          let gone : take j (order ++ x ∷ []) ≡ order = ap (λ i. take i (order ++ x ∷ [])) last ∙ take-append_seam order (x ∷ []) in
          in_part a k (j * p.c + y) y held counts place (omega arith) within ∙ here y (omega arith)
          ∙ held_by_bits (λ z. not (member z order)) p.c standing p.ballots y is.valid part.set
          ∙ ap (λ g. held_count (λ z. not (member z g)) p.ballots y) (sym gone)
    ]
