-- Seats by D'Hondt's quotients, as in a textbook of voting rules; the choice among equal quotients is this project's own. A party
-- with v votes has the quotients v / 1, v / 2, v / 3 and so on: its quotient at place q is v / q. Quotients are compared by
-- products, so that none is divided.
use Rattle.std.specs.Prelude.{◌≡◌, ℕ, ◌+◌, ◌*◌, ◌<◌, ◌≤◌, ◌==◌, nat_lt, ◌&&◌, ◌||◌, Bool, List, length, map, slice_index, count_by}
use Rattle.std.specs.List.{range_with_len}
use Rattle.mov_base.specs.Sums.{add_up}
use Rattle.ballot_form.specs.Ballots.{Poll}
use Rattle.ballot_form.specs.Scores.{first_count}

-- the votes of each party: how many ballots put it first
abbrev pub votes_of : Poll → List ℕ
votes_of p = map (λ a. first_count p.ballots a) (range_with_len 0 p.c)

-- party b's quotient at place r comes before party a's at place q: it is higher, or it is equal and of a lower-numbered party, or
-- of the same party at an earlier place
abbrev pub precedes : List ℕ → ℕ → ℕ → ℕ → ℕ → Bool
precedes votes b r a q =
    nat_lt (slice_index votes a * r) (slice_index votes b * q)
    || ((slice_index votes a * r == slice_index votes b * q) && (nat_lt b a || ((b == a) && nat_lt r q)))

-- how many quotients come before party a's at place q, of all parties' at the places 1 to s
abbrev pub before : List ℕ → ℕ → ℕ → ℕ → ℕ
before votes s a q = add_up (λ b. count_by (λ r. precedes votes b r a q) (range_with_len 1 s)) (range_with_len 0 (length votes))

-- how many quotients of party a are among the first s of all
abbrev pub seats_of : List ℕ → ℕ → ℕ → ℕ
seats_of votes s a = count_by (λ q. nat_lt (before votes s a q) s) (range_with_len 1 s)

-- the reported seats of each party, of s in all
abbrev pub reported_seats : List ℕ → ℕ → List ℕ
reported_seats votes s = map (λ a. seats_of votes s a) (range_with_len 0 (length votes))

-- the seats of all parties
abbrev pub seats_in_all : List ℕ → ℕ
seats_in_all shares = add_up (λ n. n) shares

-- no party's last quotient is below another one's next
abbrev pub IsFair : List ℕ → List ℕ → Type 0
IsFair votes shares = (a b : ℕ) → a < length votes → b < length votes → 1 ≤ slice_index shares a
    → slice_index votes b * slice_index shares a ≤ slice_index votes a * (slice_index shares b + 1)

-- an allocation of s seats: they add up to s, and are shared so that no party's last quotient is below another one's next
pub record IsAllocation (votes : List ℕ) (s : ℕ) (shares : List ℕ) : Type 0 where
  pub parties : length shares ≡ length votes
  pub all : seats_in_all shares ≡ s
  pub fair : IsFair votes shares
