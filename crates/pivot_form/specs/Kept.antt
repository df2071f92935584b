-- Forms kept without what says nothing: the entries of basic variables, and the equations that follow from pairs.
--
-- Two variables are a pair where an equation says that they add up to a number. Such an equation is not kept. Where one of the
-- two is nonbasic, it is the other's equation; where both are basic, one of them has an equation that is kept, and that of the
-- other is the pair's, times the basic entry, less the one that is kept.
use Rattle.std.specs.Prelude.{ℕ, ℤ, pos, ◌≡◌, ◌≢◌, ◌<◌, ◌+◌, ◌+ℤ◌, ◌*ℤ◌, ◌-ℤ◌, ◌<ℤ◌, ◌==◌, if◌then◌else◌, List, [], length, map, slice_index, slice_index_or, slice_set, Bool, false, Option, Some, None}
use lib.IntN.{neg_ℤ}
use Rattle.std.specs.List.{range_with_len}
use Rattle.exact_num.specs.Divisors.{IsPrimitive, primitive}
use Rattle.row_program.specs.Forms.{Table, combination, map_from}
use Rattle.pivot_form.specs.declared.places.Pair.{Pair}
use Rattle.pivot_form.specs.declared.places.Place.{Place}
use Rattle.pivot_form.specs.declared.places.Place.TheVariants.{Column, Kept, Paired}

-- a form as it is kept: the number of columns, the basic variable of each equation, the place and the pair of each variable,
-- and for each slot the entries of the columns, the basic entry and the right side
pub record Store : Type 0 where
  pub width : ℕ
  pub basis : List ℕ
  pub places : List Place
  pub pairs : List (Option Pair)
  pub rows : List (List ℤ)

abbrev pub variables_of : Store → ℕ
variables_of s = length s.places

abbrev pub place_of : Store → ℕ → Place
place_of s v = slice_index_or s.places v Paired

abbrev pub pair_of : Store → ℕ → Option Pair
pair_of s v = slice_index_or s.pairs v None

-- ---- what a slot keeps
abbrev pub short_row : Store → ℕ → List ℤ
short_row s k = slice_index_or s.rows k []

abbrev pub cell : Store → ℕ → ℕ → ℤ
cell s k j = slice_index_or (short_row s k) j (pos 0)

abbrev pub own : Store → ℕ → ℤ
own s k = cell s k s.width

abbrev pub kept_right : Store → ℕ → ℤ
kept_right s k = cell s k (s.width + 1)

abbrev pub entry_at : Store → ℕ → Place → ℤ
entry_at s k (Column j) = cell s k j
entry_at s k (Kept l) = if l == k then own s k else pos 0
entry_at s k Paired = pos 0

-- the entry of the variable v in the equation that the slot k keeps
abbrev pub kept_entry : Store → ℕ → ℕ → ℤ
kept_entry s k v = entry_at s k (place_of s v)

-- ---- the equation of a basic variable
-- that of a pair
abbrev pub pair_entry : ℕ → ℕ → ℕ → ℤ
pair_entry a b v = (if v == a then pos 1 else pos 0) +ℤ (if v == b then pos 1 else pos 0)

abbrev pub entry_beside : Store → ℕ → Pair → Place → ℕ → ℤ
entry_beside s b pair (Column j) v = pair_entry b pair.other v
entry_beside s b pair (Kept k) v = own s k *ℤ pair_entry b pair.other v -ℤ kept_entry s k v
entry_beside s b pair Paired v = pos 0

abbrev pub entry_paired : Store → ℕ → Option Pair → ℕ → ℤ
entry_paired s b None v = pos 0
entry_paired s b (Some pair) v = entry_beside s b pair (place_of s pair.other) v

abbrev pub entry_by : Store → ℕ → Place → ℕ → ℤ
entry_by s b (Column j) v = pos 0
entry_by s b (Kept k) v = kept_entry s k v
entry_by s b Paired v = entry_paired s b (pair_of s b) v

abbrev pub entry_of : Store → ℕ → ℕ → ℤ
entry_of s b v = entry_by s b (place_of s b) v

abbrev pub right_beside : Store → Pair → Place → ℤ
right_beside s pair (Column j) = pair.sum
right_beside s pair (Kept k) = own s k *ℤ pair.sum -ℤ kept_right s k
right_beside s pair Paired = pos 0

abbrev pub right_paired : Store → Option Pair → ℤ
right_paired s None = pos 0
right_paired s (Some pair) = right_beside s pair (place_of s pair.other)

abbrev pub right_by : Store → ℕ → Place → ℤ
right_by s b (Column j) = pos 0
right_by s b (Kept k) = kept_right s k
right_by s b Paired = right_paired s (pair_of s b)

abbrev pub right_of : Store → ℕ → ℤ
right_of s b = right_by s b (place_of s b)

-- ---- the form
abbrev pub row_entry : Store → ℕ → ℕ → ℤ
row_entry s b v = if v == variables_of s then right_of s b else entry_of s b v

abbrev pub whole_row : Store → ℕ → List ℤ
whole_row s b = map (row_entry s b) (range_with_len 0 (variables_of s + 1))

abbrev pub table_of : Store → Table
table_of s = record { variables = variables_of s; rows = map (whole_row s) s.basis; basis = s.basis }

-- ---- what always holds of what is kept, whatever the size of the entries
pub record IsStore (s : Store) : Type 0 where
  pub all_pairs : length s.pairs ≡ length s.places
  pub widths : (k : ℕ) → k < length s.rows → length (short_row s k) ≡ s.width + 2
  pub basics : (i : ℕ) → i < length s.basis → slice_index s.basis i < variables_of s
  pub one_basic : (i k : ℕ) → i < length s.basis → k < length s.basis → i ≢ k → slice_index s.basis i ≢ slice_index s.basis k
  pub basic_place : (i j : ℕ) → i < length s.basis → place_of s (slice_index s.basis i) ≢ Column j
  pub other_place : (v : ℕ) → v < variables_of s → ((i : ℕ) → i < length s.basis → slice_index s.basis i ≢ v) → (j : ℕ) × (place_of s v ≡ Column j)
  pub columns : (v j : ℕ) → v < variables_of s → place_of s v ≡ Column j → j < s.width
  pub one_column : (v w j : ℕ) → v < variables_of s → w < variables_of s → place_of s v ≡ Column j → place_of s w ≡ Column j → v ≡ w
  pub all_columns : (j : ℕ) → j < s.width → (v : ℕ) × (v < variables_of s) × (place_of s v ≡ Column j)
  pub kept : (v k : ℕ) → v < variables_of s → place_of s v ≡ Kept k → k < length s.rows
  pub one_kept : (v w k : ℕ) → v < variables_of s → w < variables_of s → place_of s v ≡ Kept k → place_of s w ≡ Kept k → v ≡ w
  pub all_kept : (k : ℕ) → k < length s.rows → (i : ℕ) × (i < length s.basis) × (place_of s (slice_index s.basis i) ≡ Kept k)
  pub pairs : (v : ℕ) (p : Pair) → v < variables_of s → pair_of s v ≡ Some p
      → (p.other < variables_of s) × (p.other ≢ v) × (pair_of s p.other ≡ Some (record { other = v; sum = p.sum }))
  pub paired : (v : ℕ) → v < variables_of s → place_of s v ≡ Paired → (p : Pair) × (pair_of s v ≡ Some p) × (place_of s p.other ≢ Paired)
  pub one_paired : (v : ℕ) (p : Pair) → v < variables_of s → pair_of s v ≡ Some p → place_of s v ≢ Paired → place_of s p.other ≡ Paired
  pub positive : (k : ℕ) → k < length s.rows → pos 0 <ℤ own s k
  pub primitive : (k : ℕ) → k < length s.rows → IsPrimitive (short_row s k)

-- ---- a pivot of what is kept, where the lead is an equation's columns, basic entry and right side
-- the lead where the leaving variable has the column of the entering one, whose own entry is left out
abbrev pub moved : ℕ → ℕ → List ℤ → List ℤ
moved width j lead = slice_set (slice_set lead j (slice_index_or lead width (pos 0))) width (pos 0)

-- a row, cleared of the variable in the column j by an equation whose entry there is p and stands no more in the lead
abbrev pub cleared_by : ℕ → ℤ → List ℤ → List ℤ → List ℤ
cleared_by j p lead row = primitive (combination p (slice_set row j (pos 0)) (slice_index_or row j (pos 0)) lead)

-- a slot's row, cleared of the entering variable
abbrev pub cleared : ℕ → ℕ → List ℤ → List ℤ → List ℤ
cleared width j lead row = cleared_by j (slice_index_or lead j (pos 0)) (moved width j lead) row

-- what the entering variable's own slot keeps
abbrev pub taken : ℕ → ℕ → List ℤ → List ℤ
taken width j lead = slice_set (moved width j lead) width (slice_index_or lead j (pos 0))

abbrev pub is_slot : Option ℕ → ℕ → Bool
is_slot None k = false
is_slot (Some l) k = l == k

abbrev pub next_by : ℕ → ℕ → ℤ → List ℤ → Option ℕ → ℕ → List ℤ → List ℤ
next_by width j p lead slot k row = if is_slot slot k then slice_set lead width p else cleared_by j p lead row

abbrev pub next_short : ℕ → ℕ → List ℤ → Option ℕ → ℕ → List ℤ → List ℤ
next_short width j lead slot k row = next_by width j (slice_index_or lead j (pos 0)) (moved width j lead) slot k row

-- the form after the variable e, in the column j, took the place of the basic variable b of the equation r
abbrev pub exchanged : Store → ℕ → ℕ → ℕ → ℕ → List ℤ → Option ℕ → Store
exchanged s r b e j lead slot = record {
  width = s.width;
  basis = slice_set s.basis r e;
  places = slice_set (slice_set s.places b (Column j)) e (place_of s b);
  pairs = s.pairs;
  rows = map_from (next_short s.width j lead slot) 0 s.rows;
}

-- ---- the other equation of a pair is kept
-- the pair's equation, times the basic entry, less the row that a slot keeps
abbrev pub mirrored : ℕ → ℤ → List ℤ → List ℤ
mirrored width sum row =
    slice_set (slice_set (map neg_ℤ row) width (slice_index_or row width (pos 0)))
    (width + 1) (slice_index_or row width (pos 0) *ℤ sum -ℤ slice_index_or row (width + 1) (pos 0))

-- the slot k keeps the equation of b in place of that of its pair's other variable
abbrev pub flipped : Store → ℕ → Pair → ℕ → Store
flipped s b pair k = record {
  width = s.width;
  basis = s.basis;
  places = slice_set (slice_set s.places b (Kept k)) pair.other Paired;
  pairs = s.pairs;
  rows = slice_set s.rows k (mirrored s.width pair.sum (short_row s k));
}

-- ---- the lead of a pair's equation
-- w columns, of which the one with the number j has the entry 1, the entry 1 and the sum
abbrev pub pair_lead : ℕ → ℕ → ℤ → ℕ → ℤ
pair_lead w j sum i = if i == j then pos 1 else (if i == w then pos 1 else (if i == w + 1 then sum else pos 0))

abbrev pub pair_row : ℕ → ℕ → ℤ → List ℤ
pair_row w j sum = map (pair_lead w j sum) (range_with_len 0 (w + 2))
