-- The first run of a roll.
use Rattle.std.proofs.Common.{ℕ, zero, suc, List, ◌∷◌, ◌++◌, ◌≡◌, ◌≤◌, ◌+◌, ◌-◌, All, replicate, arith, refl, subst, length-append}
use Rattle.ballot_form.specs.declared.limits.TheConstants.{MOST_BALLOTS}
use Rattle.ballot_form.specs.declared.marks.Mark.{Mark}
use Rattle.ballot_form.specs.declared.runs.Run.{Run}
use Rattle.ballot_form.specs.Ballots.{IsPoll, IsValidBallot}
use Rattle.ballot_form.specs.Marks.{AreMarks, ballots_of, next_first, row_of}
use Rattle.ballot_form.specs.Runs.{IsFirstRun, Left}
use Rattle.ballot_form.proofs.Kept.{first_le}

front_valid : (c n : ℕ) (row : List ℕ) (rest : List (List ℕ)) → 1 ≤ n → All (IsValidBallot c) (replicate n row ++ rest) → IsValidBallot c row
front_valid c zero row rest some valid = absurd (omega arith)
front_valid c (suc n) row rest some valid = valid 0 row (omega arith)

rest_valid : (c n : ℕ) (row : List ℕ) (rest : List (List ℕ)) → All (IsValidBallot c) (replicate n row ++ rest) → All (IsValidBallot c) rest
rest_valid c zero row rest valid = valid
rest_valid c (suc n) row rest valid = rest_valid c n row rest (λ i d lt. valid (suc i) d (omega arith))

-- the later runs are those of a poll
later_poll : (c len : ℕ) (m : Mark) (ms : List Mark) (cells : List ℕ) → IsPoll (record { c = c; ballots = ballots_of (m ∷ ms) cells len }) → IsPoll (record { c = c; ballots = ballots_of ms cells len })
later_poll c len m ms cells is = record {
  some = is.some;
  most = is.most;
  few = omega (arith, is.few, length-append (replicate (next_first ms len - m.first) (row_of m ms cells)) (ballots_of ms cells len));
  valid = rest_valid c (next_first ms len - m.first) (row_of m ms cells) (ballots_of ms cells len) is.valid;
}

-- the first run
first_run : (old : Left) (c len : ℕ) (m : Mark) (ms : List Mark) (cells : List ℕ) (run : Run) → IsPoll (record { c = c; ballots = ballots_of (m ∷ ms) cells len })
    → AreMarks (m ∷ ms) cells len → len ≤ MOST_BALLOTS → record { c = c; first = next_first (m ∷ ms) len + 1; ballots = ballots_of (m ∷ ms) cells len } ≡ old
    → run.row.now ≡ row_of m ms cells → run.first ≡ m.first + 1 → run.count ≡ next_first ms len - m.first
    → IsFirstRun old run (record { c = c; first = next_first ms len + 1; ballots = ballots_of ms cells len })
first_run old c len m ms cells run is are few view row first count =
    let found : IsFirstRun (record { c = c; first = m.first + 1; ballots = ballots_of (m ∷ ms) cells len }) run (record { c = c; first = next_first ms len + 1; ballots = ballots_of ms cells len }) = record {
      joined = rw (count, row) refl;
      some = omega (arith, are.1);
      longest = rw row are.2;
      numbered = first;
      after = omega (arith, are.1);
      same = refl;
      valid = rw row (front_valid c (next_first ms len - m.first) (row_of m ms cells) (ballots_of ms cells len) (omega (arith, are.1)) is.valid);
      few = omega (arith, are.1, first_le ms cells len are.3);
    } in
    subst (λ (left : Left). IsFirstRun left run (record { c = c; first = next_first ms len + 1; ballots = ballots_of ms cells len })) view found

-- the same, where the marks are those of a roll
pub later_kept : (c len : ℕ) (marks : List Mark) (m : Mark) (ms : List Mark) (cells : List ℕ) → IsPoll (record { c = c; ballots = ballots_of marks cells len }) × (AreMarks marks cells len × (len ≤ MOST_BALLOTS))
    → marks ≡ m ∷ ms → IsPoll (record { c = c; ballots = ballots_of ms cells len }) × (AreMarks ms cells len × (len ≤ MOST_BALLOTS))
later_kept c len marks m ms cells is e =
    let is' = subst (λ (marks : List Mark). IsPoll (record { c = c; ballots = ballots_of marks cells len }) × (AreMarks marks cells len × (len ≤ MOST_BALLOTS))) e is in
    (later_poll c len m ms cells is'.0, (is'.1.0.3, is'.1.1))

pub first_given : (old : Left) (c len : ℕ) (marks : List Mark) (m : Mark) (ms : List Mark) (cells : List ℕ) (run : Run) → IsPoll (record { c = c; ballots = ballots_of marks cells len }) × (AreMarks marks cells len × (len ≤ MOST_BALLOTS))
    → record { c = c; first = next_first marks len + 1; ballots = ballots_of marks cells len } ≡ old → marks ≡ m ∷ ms
    → run.row.now ≡ row_of m ms cells → run.first ≡ m.first + 1 → run.count ≡ next_first ms len - m.first
    → IsFirstRun old run (record { c = c; first = next_first ms len + 1; ballots = ballots_of ms cells len })
first_given old c len marks m ms cells run is view e row first count =
    let is' = subst (λ (marks : List Mark). IsPoll (record { c = c; ballots = ballots_of marks cells len }) × (AreMarks marks cells len × (len ≤ MOST_BALLOTS))) e is in
    let view' = subst (λ (marks : List Mark). record { c = c; first = next_first marks len + 1; ballots = ballots_of marks cells len } ≡ old) e view in
    first_run old c len m ms cells run is'.0 is'.1.0 is'.1.1 view' row first count
