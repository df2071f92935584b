-- One round of the count, and the rounds so far.
use Rattle.std.specs.Prelude.{◌≤◌, ◌≡◌, ◌⊎◌, ℕ, zero, suc, ◌+◌, ◌<◌, ◌^◌, not, Bool, true, false, cond, List, length, take, slice_index, Option, Some, None}
use Rattle.ballot_form.specs.Ballots.{Poll}
use Rattle.irv_count.specs.Orders.{stands, GoesFirst, member, held_count, left_after}

-- how many of the numbers below n pass
abbrev pub count_to : ℕ → (ℕ → Bool) → ℕ
count_to zero test = 0
count_to (suc n) test = count_to n test + cond (test n) 1 0

-- the bits are those of the set, among c candidates
pub record AreBitsOf (c : ℕ) (set : ℕ → Bool) (standing : ℕ) : Type 0 where
  pub fits : standing < 2 ^ c
  pub bits : (x : ℕ) → x < c → stands standing x ≡ set x

-- with these counts x goes before y
abbrev pub Goes : Option ℕ → ℕ → ℕ → ℕ → ℕ → Type 0
Goes against mine x its y = (mine < its) ⊎ ((mine ≡ its) × GoesFirst against x y)

-- x is the one to go of those below n who stand
pub record IsOut (against : Option ℕ) (count : ℕ → ℕ) (standing n x : ℕ) : Type 0 where
  pub below : x < n
  pub among : stands standing x ≡ true
  pub first : (y : ℕ) → y < n → stands standing y ≡ true → (y ≡ x) ⊎ Goes against (count x) x (count y) y

-- the one to go of those below n who stand, and none where no one stands
abbrev pub IsBest : Option ℕ → (ℕ → ℕ) → ℕ → ℕ → Option ℕ → Type 0
IsBest against count standing n None = (y : ℕ) → y < n → stands standing y ≡ false
IsBest against count standing n (Some x) = IsOut against count standing n x

-- of the best so far and x the one that goes before the other
abbrev pub IsEarlier : Option ℕ → List ℕ → Option ℕ → ℕ → ℕ → Type 0
IsEarlier against counts None x out = out ≡ x
IsEarlier against counts (Some b) x out =
    ((out ≡ x) × Goes against (slice_index counts x) x (slice_index counts b) b × ((against ≡ Some b) → slice_index counts x < slice_index counts b))
    ⊎ ((out ≡ b) × Goes against (slice_index counts b) b (slice_index counts x) x)

-- none of those below n who stand has a smaller count
abbrev pub IsLeast : (ℕ → ℕ) → ℕ → ℕ → ℕ → Type 0
IsLeast count standing n x = (y : ℕ) → y < n → stands standing y ≡ true → count x ≤ count y

-- the first places of an order by a choice at the ties, and the set of bits of those who are left
pub record IsPart (against : Option ℕ) (p : Poll) (order : List ℕ) (standing : ℕ) : Type 0 where
  pub set : AreBitsOf p.c (λ x. not (member x order)) standing
  pub below : (i : ℕ) → i < length order → slice_index order i < p.c
  pub distinct : (i : ℕ) → i < length order → member (slice_index order i) (take i order) ≡ false
  pub some : count_to p.c (stands standing) + length order ≡ p.c
  pub first : (i y : ℕ) → i < length order → y < p.c → left_after order i y ≡ true
      → (y ≡ slice_index order i)
      ⊎ Goes against (held_count (left_after order i) p.ballots (slice_index order i)) (slice_index order i) (held_count (left_after order i) p.ballots y) y

-- at each of the first i places goes one of the least, and the set of bits is that of those who are left
pub record IsLegalTo (p : Poll) (order : List ℕ) (standing i : ℕ) : Type 0 where
  pub set : AreBitsOf p.c (left_after order i) standing
  pub least : (k y : ℕ) → k < i → y < p.c → left_after order k y ≡ true
      → held_count (left_after order k) p.ballots (slice_index order k) ≤ held_count (left_after order k) p.ballots y
