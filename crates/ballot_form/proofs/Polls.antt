-- Polls with more ballots, kept as marks and cells.
use Rattle.std.proofs.Common.{ℕ, zero, suc, List, [], ◌∷◌, Some, ◌≡◌, ◌+◌, ◌≤◌, ◌++◌, ◌^◌, ◌<◌, ◌∙◌, All, length, replicate, arith, subst, sym, ap, slice_get}
use Rattle.std.proofs.lemmas.List.{append-nil}
use Rattle.std.proofs.lemmas.List.Elements.{All-append, All-replicate}
use Rattle.ballot_form.specs.declared.limits.TheConstants.{MOST_BALLOTS, MOST_CANDIDATES}
use Rattle.ballot_form.specs.declared.marks.Mark.{Mark}
use Rattle.ballot_form.specs.Ballots.{IsValidBallot, Poll, IsPoll}
use Rattle.ballot_form.specs.Marks.{AreKept, AreMarks, ballots_of, last_row, next_first}
use Rattle.ballot_form.proofs.Kept.{cells_few, length_ballots, more_equal, more_other}
use Rattle.ballot_form.proofs.Lengths.{length_valid}

All_at : {X : Type 0} (P : X → Type 0) (xs : List X) (i : ℕ) (x : X) → All P xs → slice_get xs i ≡ Some x → P x
All_at P [] i x all at = absurd (cc)
All_at P (y ∷ ys) zero x all at = let e : y ≡ x = cc in subst P e (all 0 y (omega arith))
All_at P (y ∷ ys) (suc i) x all at = All_at P ys i x (λ k d lt. all (suc k) d (omega arith)) at

-- a ballot of a poll p, whose fields are q
pub valid_at : (p q : Poll) (i : ℕ) (row : List ℕ) → IsPoll q → q ≡ p → slice_get p.ballots i ≡ Some row → IsValidBallot p.c row
valid_at p q i row is view at = subst (λ (r : Poll). slice_get r.ballots i ≡ Some row → IsValidBallot r.c row) view (All_at (IsValidBallot q.c) q.ballots i row is.valid) at

-- how many ballots are kept
pub all_counted : (c len : ℕ) (marks : List Mark) (cells : List ℕ) → AreKept c len marks cells → length (ballots_of marks cells len) ≡ len
all_counted c len marks cells kept = omega (arith, length_ballots marks cells len kept.rising, kept.first)

pub len_of : (c len : ℕ) (marks : List Mark) (cells : List ℕ) (p : Poll) → AreKept c len marks cells → record { c = c; ballots = ballots_of marks cells len } ≡ p → length p.ballots ≡ len
len_of c len marks cells p kept view = ap (λ (q : Poll). length q.ballots) (sym view) ∙ all_counted c len marks cells kept

pub valid_for : (p q : Poll) (row : List ℕ) → q ≡ p → IsValidBallot p.c row → IsValidBallot q.c row
valid_for p q row view valid = subst (λ (r : Poll). IsValidBallot r.c row) (sym view) valid

-- so many cells, and those of a ballot, can be counted
pub cells_fit : (c len : ℕ) (marks : List Mark) (cells row : List ℕ) (p : Poll) → AreKept c len marks cells → record { c = c; ballots = ballots_of marks cells len } ≡ p → IsValidBallot p.c row
    → length cells + length row < 2 ^ 32
cells_fit c len marks cells row p kept view valid =
    let most : p.c ≤ MOST_CANDIDATES = subst (λ (q : Poll). q.c ≤ MOST_CANDIDATES) view kept.poll.most in
    omega (arith, cells_few c len marks cells kept.poll.most kept.poll.valid kept.rising, kept.start, kept.poll.few, length_valid p.c row valid, most)

poll_more : (c len n : ℕ) (marks marks' : List Mark) (cells cells' row : List ℕ) → AreKept c len marks cells → IsValidBallot c row → len + n ≤ MOST_BALLOTS
    → ballots_of marks' cells' (len + n) ≡ ballots_of marks cells len ++ replicate n row → AreMarks marks' cells' (len + n) → next_first marks' (len + n) ≡ 0
    → IsPoll (record { c = c; ballots = ballots_of marks' cells' (len + n) })
poll_more c len n marks marks' cells cells' row kept valid few more are first = record {
  some = kept.poll.some;
  most = kept.poll.most;
  few = omega (arith, length_ballots marks' cells' (len + n) are, first, few);
  valid = subst (All (IsValidBallot c)) (sym more)
      (All-append (IsValidBallot c) (ballots_of marks cells len) (replicate n row) kept.poll.valid (All-replicate (IsValidBallot c) n row valid));
}

-- no ballots more
pub none_more : (c len n : ℕ) (marks : List Mark) (cells row : List ℕ) → n ≡ 0
    → (ballots_of marks cells (len + n) ≡ ballots_of marks cells len ++ replicate n row) × (AreKept c len marks cells → AreKept c (len + n) marks cells)
none_more c len n marks cells row none =
    let e : len + n ≡ len = omega arith in
    rw e (rw none (sym (append-nil _)), λ kept. kept)

-- more ballots of the last run
pub equal_more : (c len n : ℕ) (marks : List Mark) (cells row : List ℕ) → AreKept c len marks cells → last_row marks cells ≡ Some row → IsValidBallot c row → len + n ≤ MOST_BALLOTS
    → AreKept c (len + n) marks cells
equal_more c len n [] cells row kept last valid few = absurd (cc)
equal_more c len n (m ∷ ms) cells row kept last valid few =
    let more = more_equal (m ∷ ms) cells len n row kept.rising last in
    record {
      few = few;
      poll = poll_more c len n (m ∷ ms) (m ∷ ms) cells cells row kept valid few more.0 more.1 kept.first;
      rising = more.1;
      start = kept.start;
      first = kept.first;
    }

-- a run more
pub other_more : (c len n : ℕ) (marks : List Mark) (cells row : List ℕ) → AreKept c len marks cells → 1 ≤ n → (last_row marks cells ≡ Some row → ⊥) → IsValidBallot c row → len + n ≤ MOST_BALLOTS
    → AreKept c (len + n) (marks ++ record { start = length cells; first = len } ∷ []) (cells ++ row)
other_more c len n [] cells row kept some other valid few =
    let more = more_other [] cells len n row kept.rising some other in
    record {
      few = few;
      poll = poll_more c len n [] (record { start = length cells; first = len } ∷ []) cells (cells ++ row) row kept valid few more.0 more.1 kept.first;
      rising = more.1;
      start = kept.start;
      first = kept.first;
    }
other_more c len n (m ∷ ms) cells row kept some other valid few =
    let more = more_other (m ∷ ms) cells len n row kept.rising some other in
    record {
      few = few;
      poll = poll_more c len n (m ∷ ms) (m ∷ ms ++ record { start = length cells; first = len } ∷ []) cells (cells ++ row) row kept valid few more.0 more.1 kept.first;
      rising = more.1;
      start = kept.start;
      first = kept.first;
    }
