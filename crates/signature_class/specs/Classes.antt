-- Classes: items that have the same key are counted together. A class is a key and how many items have it.
use Rattle.std.specs.Prelude.{◌≡◌, ◌≢◌, ◌↔◌, ℕ, ◌+◌, ◌*◌, ◌≤◌, nat_eq, Bool, if◌then◌else◌}
use Rattle.std.specs.Prelude.{List, [], ◌∷◌, ◌++◌, map, take, Contains, All, AllPairs}
use Rattle.std.specs.Borrow.{Bor}
use Rattle.ballot_form.specs.declared.limits.TheConstants.{MOST_BALLOTS}
use Rattle.mov_base.specs.Sums.{add_up}

-- the classes after so many more items of the key: the count of its class rises, or a new class stands last
abbrev pub add_class : {X : Type 0} → (X → X → Bool) → X → ℕ → List (X × ℕ) → List (X × ℕ)
add_class same key n [] = (key, n) ∷ []
add_class same key n (c ∷ cs) = if same key c.0 then (c.0, c.1 + n) ∷ cs else c ∷ add_class same key n cs

-- so many more items of each key in turn
abbrev pub add_all : {X : Type 0} → (X → X → Bool) → List (X × ℕ) → List (X × ℕ) → List (X × ℕ)
add_all same cs [] = cs
add_all same cs (a ∷ more) = add_all same (add_class same a.0 a.1 cs) more

-- the classes of items that are keys themselves, each item counted in turn
abbrev pub classes_of : {X : Type 0} → (X → X → Bool) → List X → List (X × ℕ)
classes_of same xs = add_all same [] (map (λ x. (x, 1)) xs)

-- the keys of the classes
abbrev pub keys_of : {X : Type 0} → List (X × ℕ) → List X
keys_of cs = map (λ c. c.0) cs

-- each item is counted in its class, once: every sum over the items is the sum over the classes
abbrev pub IsGrouped : {X : Type 0} → List X → List (X × ℕ) → Type 0
IsGrouped {X} xs cs = (f : X → ℕ) → add_up f xs ≡ add_up (λ c. c.1 * f c.0) cs

-- a first part of the list has k, and not l
abbrev pub IsSeenBefore : {X : Type 0} → List X → X → X → Type 0
IsSeenBefore {X} xs k l = (before : List X) × (later : List X) × (xs ≡ before ++ later) × Contains before k
    × (Contains before l → ⊥)

-- the classes of items that are keys themselves: each key is that of some item, and each item's is one of them; no key
-- stands twice; each item is counted, once; the keys stand in the order in which they are first seen
pub record AreClasses {X : Type 0} (xs : List X) (cs : List (X × ℕ)) : Type 0 where
  pub keys : (x : X) → Contains xs x ↔ Contains (keys_of cs) x
  pub distinct : AllPairs (λ k l. k ≢ l) (keys_of cs)
  pub some : All (λ c. 1 ≤ c.1) cs
  pub counted : IsGrouped xs cs
  pub first_seen : AllPairs (IsSeenBefore xs) (keys_of cs)

-- distinct keys, each with a count of at least 1
pub record IsClassList {X : Type 0} (cs : List (X × ℕ)) : Type 0 where
  pub distinct : AllPairs (λ k l. k ≢ l) (keys_of cs)
  pub some : All (λ c. 1 ≤ c.1) cs

-- the kinds of the ballots of a roll: distinct ballots, each with how many there are of it
pub record AreKinds (kinds : List (List ℕ × ℕ)) : Type 0 where
  pub classes : IsClassList kinds
  pub few : add_up (λ k. k.1) kinds ≤ MOST_BALLOTS

-- the classes of ballots by a key, from their kinds
abbrev pub classes_by : (List ℕ → ℕ) → List (List ℕ × ℕ) → List (ℕ × ℕ)
classes_by key kinds = add_all nat_eq [] (map (λ k. (key k.0, k.1)) kinds)

-- how many items the class of the key has; none where there is no such class
abbrev pub count_of : {X : Type 0} → (X → X → Bool) → X → List (X × ℕ) → ℕ
count_of same key [] = 0
count_of same key (c ∷ cs) = if same key c.0 then c.1 else count_of same key cs

-- a ballot up to its first candidate
abbrev pub first_part : List ℕ → List ℕ
first_part ballot = take 1 ballot

-- classes of ballots that are borrowed, by the ballots
abbrev pub seen : List (Bor (List ℕ) × ℕ) → List (List ℕ × ℕ)
seen cs = map (λ c. (c.0.now, c.1)) cs
