-- Signatures: who holds a ballot in turn, where the candidates of a suffix go out in its order. And keys, numbers that
-- stand for sets. After Magrino, Rivest, Shen and Wagner (2011) and Blom, Stuckey, Teague and Tidhar (2016).
use Rattle.std.specs.Prelude.{ℕ, ◌+◌, ◌-◌, ◌^◌, ◌<◌, ◌≤◌, ◌==◌, nat_lt, nat_le, Bool, if◌then◌else◌}
use Rattle.std.specs.Prelude.{List, [], ◌∷◌, All, AllPairs, Option, drop, find, slice_index}
use Rattle.std.specs.List.{range_with_len}
use Rattle.irv_count.specs.Orders.{holder, member}
use Rattle.ballot_form.specs.Scores.{is_some_of}
use Rattle.mov_base.specs.Sums.{add_up}
use Rattle.signature_class.specs.declared.limits.TheConstants.{MOST_PLACES}

-- ---- places

-- the place of a candidate in a list whose first candidate has the place i; 0 where it isn't there
abbrev pub place_from : ℕ → List ℕ → ℕ → ℕ
place_from i [] x = 0
place_from i (y ∷ suffix) x = if y == x then i else place_from (i + 1) suffix x

-- the place of a candidate in a suffix, from 1: the first goes out first, the last wins; 0 where it isn't there
abbrev pub place_in : List ℕ → ℕ → ℕ
place_in suffix x = place_from 1 suffix x

-- the candidate at a place of a suffix, from 1
abbrev pub candidate_at : List ℕ → ℕ → ℕ
candidate_at suffix p = slice_index suffix (p - 1)

-- places of a suffix of m candidates, strictly ascending
pub record ArePlaces (m : ℕ) (places : List ℕ) : Type 0 where
  pub within : All (λ p. (1 ≤ p) × (p ≤ m)) places
  pub ascending : AllPairs (λ p q. p < q) places

-- the first of the places that is at least i
abbrev pub first_from : ℕ → List ℕ → Option ℕ
first_from i places = find (λ p. nat_le i p) places

-- ---- signatures

-- the places on a ballot that are greater than m and than all kept before them
abbrev pub kept_from : List ℕ → ℕ → List ℕ → List ℕ
kept_from suffix m [] = []
kept_from suffix m (x ∷ ballot) =
    if nat_lt m (place_in suffix x) then place_in suffix x ∷ kept_from suffix (place_in suffix x) ballot
    else kept_from suffix m ballot

-- the signature of a ballot under a suffix: the places of the candidates who hold it in turn
abbrev pub signature_of : List ℕ → List ℕ → List ℕ
signature_of suffix ballot = kept_from suffix 0 ballot

-- those of a suffix who stand in round i, from 1: the candidates at the places from i on
abbrev pub stands_in_round : List ℕ → ℕ → ℕ → Bool
stands_in_round suffix i x = member x (drop (i - 1) suffix)

-- where z and all candidates of a suffix stand, z holds the ballot: it stands there before those that the ballot ranks
abbrev pub holds_before : ℕ → List ℕ → List ℕ → Bool
holds_before z suffix ballot = is_some_of (holder (λ x. member x (z ∷ suffix)) ballot) z

-- ---- keys

-- the number with these bits set, of the first n
unfoldable pub bits_of : ℕ → (ℕ → Bool) → ℕ
bits_of n test = add_up (λ k. if test k then 2 ^ k else 0) (range_with_len 0 n)

-- the key of a list of places: bit p - 1 for each place p
abbrev pub places_key : List ℕ → ℕ
places_key places = bits_of MOST_PLACES (λ k. member (k + 1) places)

-- the key of a ballot under a suffix: that of its signature
abbrev pub suffix_key : List ℕ → List ℕ → ℕ
suffix_key suffix ballot = places_key (signature_of suffix ballot)

-- a ballot up to a candidate, or whole where it doesn't rank it
abbrev pub up_to : ℕ → List ℕ → List ℕ
up_to x [] = []
up_to x (y ∷ ballot) = if y == x then y ∷ [] else y ∷ up_to x ballot

-- the key of a ballot under the cover of x: bit y for each y before x, and x itself where it is ranked
abbrev pub cover_key : ℕ → List ℕ → ℕ
cover_key x ballot = bits_of MOST_PLACES (λ y. member y (up_to x ballot))

-- each candidate on a ballot has a bit of its own
abbrev pub HaveBits : List ℕ → Type 0
HaveBits ballot = All (λ y. y < MOST_PLACES) ballot
