-- The names of made candidates.
use Rattle.std.proofs.Common.{ℕ, true, List, [], ◌∷◌, ◌++◌, ◌≡◌, ◌≢◌, ◌<◌, ◌≤◌, ◌+◌, ◌∙◌, All, codes, decimal, length}
use Rattle.std.proofs.Common.{get_or, arith, refl, sym, subst, zero-add}
use Rattle.std.specs.List.{AllPairs, list_all, range_with_len}
use Rattle.std.specs.Fmt.{digits}
use Rattle.std.specs.Str.{chars, is_utf8}
use lib.Utf8.{encode}
use Rattle.std.proofs.lemmas.Fmt.{decimal_injective}
use Rattle.std.proofs.lemmas.List.{append_cancel_left}
use Rattle.std.proofs.lemmas.List.FromFn.{get_or-map-range_with_len, get_or-range_with_len, length-map-range_with_len}
use Rattle.std.proofs.lemmas.List.FromFn.{map-range_with_len_more}
use Rattle.std.proofs.lemmas.List.Sums.{AllPass-from_list_all}
use Rattle.ballot_form.specs.declared.limits.TheConstants.{MOST_CANDIDATES}
use Rattle.ballot_form.specs.Names.{is_name}
use Rattle.ballot_make.specs.Made.{name_of, names_made}

-- one name more
pub names_more : (x : ℕ) → names_made (x + 1) ≡ names_made x ++ name_of x ∷ []
names_more x = map-range_with_len_more name_of 0 x x (omega arith)

-- one name each
pub length_names : (c : ℕ) → length (names_made c) ≡ c
length_names c = length-map-range_with_len name_of 0 c

-- the name at a place
name_at : (c k : ℕ) (d : List ℕ) → k < length (names_made c) → get_or (names_made c) k d ≡ name_of k
name_at c k d below = get_or-map-range_with_len name_of 0 c k k d (omega (arith, length_names c)) (omega arith)

-- the names differ
pub names_distinct : (c : ℕ) → c ≤ MOST_CANDIDATES → AllPairs (λ x y. x ≢ y) (names_made c)
names_distinct c few i j d before below same =
    let later : j < c = omega (arith, length_names c) in
    let first : i < length (names_made c) = omega arith in
    let numbers : decimal i ≡ decimal j =
    append_cancel_left (codes "C") (decimal i) (decimal j) (sym (name_at c i d first) ∙ same ∙ name_at c j d below) in
    omega (arith, decimal_injective i j (omega arith) (omega arith) numbers)

all_admitted : list_all (λ x. is_name (name_of x)) (range_with_len 0 MOST_CANDIDATES) ≡ true
unfolding is_utf8 digits chars encode
all_admitted = refl

-- a ballot file admits the names
pub names_admitted : (c : ℕ) → c ≤ MOST_CANDIDATES → All (λ name. is_name name ≡ true) (names_made c)
names_admitted c few k d below =
    let within : k < MOST_CANDIDATES = omega (arith, length_names c) in
    let table : k < length (range_with_len 0 MOST_CANDIDATES) = within in
    let P : ℕ → Type 0 = λ x. is_name (name_of x) ≡ true in
    rw (name_at c k d below) (subst P (get_or-range_with_len 0 MOST_CANDIDATES k 0 within ∙ zero-add k)
    (AllPass-from_list_all (λ (x : ℕ). is_name (name_of x)) (range_with_len 0 MOST_CANDIDATES) all_admitted k 0 table))
