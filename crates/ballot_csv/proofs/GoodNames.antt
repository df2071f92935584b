-- The names of a head without a fault are distinct, and each is one that a contest admits.
use Rattle.std.proofs.Common.{ℕ, List, [], ◌∷◌, ◌++◌, ◌≡◌, refl, sym, true, false, Option, Some, None, All, length, suc, zero, arith, inl, inr, append_assoc, subst, drop}
use Rattle.std.specs.Prelude.{AllPairs, ◌≢◌, ◌==◌, codes, nat_lt}
use Rattle.std.specs.List.{list_any}
use Rattle.std.specs.Str.{bytes_eq}
use Rattle.std.proofs.lemmas.Bool.{cases_Bool}
use Rattle.std.proofs.lemmas.List.{append-nil}
use Rattle.std.proofs.lemmas.List.Elements.{All-nil}
use Rattle.std.proofs.lemmas.List.Quantifiers.{all_pairs_push}
use Rattle.ballot_form.specs.Names.{is_name}
use Rattle.ballot_form.specs.declared.limits.TheConstants.{MOST_CANDIDATES}
use Rattle.ballot_csv.specs.HeadRecord.{filled_fault, head_fault, name_fault, names_fault, names_of, or_later, without_empty_end}
use Rattle.ballot_csv.specs.declared.fault.BallotKind.{BallotKind}
use Rattle.ballot_csv.proofs.NameFacts.{unequal}

-- no two names are the same
abbrev AreApart : List (List ℕ) → Type 0
AreApart names = AllPairs (λ x y. x ≢ y) names

-- each name is admitted
abbrev AreAdmitted : List (List ℕ) → Type 0
AreAdmitted names = All (λ name. is_name name ≡ true) names

-- a name without a fault is admitted, and unlike those before it
one_good : (before : List (List ℕ)) (cell : List ℕ) → name_fault before cell ≡ None → (is_name cell ≡ true) × (list_any (bytes_eq cell) before ≡ false)
one_good before cell none = elim (cases_Bool (is_name cell)) [
  | inl good ↦ elim (cases_Bool (list_any (bytes_eq cell) before)) [
    | inl twice ↦ cc (rw (good, twice) at none)
    | inr once ↦ (good, once)
  ]
  | inr bad ↦ cc (rw bad at none)
]

both_none : (first later : Option BallotKind) → or_later first later ≡ None → (first ≡ None) × (later ≡ None)
both_none None later none = (refl, none)
both_none (Some kind) later none = cc none

admitted_first : (cell : List ℕ) (cells : List (List ℕ)) → is_name cell ≡ true → AreAdmitted cells → AreAdmitted (cell ∷ cells)
admitted_first cell cells good all zero d within = good
admitted_first cell cells good all (suc k) d within = all k d (omega arith)

names_good : (before cells : List (List ℕ)) → AreApart before → names_fault before cells ≡ None → AreApart (before ++ cells) × AreAdmitted cells
names_good before [] apart none = (subst AreApart (sym (append-nil before)) apart, All-nil _)
names_good before (cell ∷ cells) apart none =
    let parts = both_none (name_fault before cell) (names_fault (before ++ cell ∷ []) cells) none in
    let good = one_good before cell parts.0 in
    let more = all_pairs_push (λ x y. x ≢ y) before cell apart (λ k d within. unequal before cell good.1 k d within) in
    let rest = names_good (before ++ cell ∷ []) cells more parts.1 in
    (subst AreApart (append_assoc before (cell ∷ []) cells) rest.0, admitted_first cell cells good.0 rest.1)

-- a head without a fault has names without a fault
filled_good : (cells : List (List ℕ)) → filled_fault cells ≡ None → names_fault [] (drop 1 cells) ≡ None
filled_good [] none = cc none
filled_good (first ∷ names) none = elim (cases_Bool (bytes_eq first (codes "ballots"))) [
  | inl ours ↦ elim (cases_Bool (length names == 0)) [
    | inl few ↦ cc (rw (ours, few) at none)
    | inr some ↦ elim (cases_Bool (nat_lt MOST_CANDIDATES (length names))) [
      | inl many ↦ cc (rw (ours, some, many) at none)
      | inr fits ↦ rw (ours, some, fits) at none
    ]
  ]
  | inr other ↦ cc (rw other at none)
]

no_pairs : AreApart []
no_pairs i j d below within = absurd (omega arith)

head_good : (cells names : List (List ℕ)) → head_fault cells ≡ None → names ≡ names_of cells → AreApart names × AreAdmitted names
head_good cells names none is =
    let good = names_good [] (names_of cells) no_pairs (filled_good (without_empty_end cells) none) in
    (subst AreApart (sym is) good.0, subst AreAdmitted (sym is) good.1)

pub distinct_names : (cells names : List (List ℕ)) → head_fault cells ≡ None → names ≡ names_of cells → AllPairs (λ x y. x ≢ y) names
distinct_names cells names none is = (head_good cells names none is).0

pub admitted_names : (cells names : List (List ℕ)) → head_fault cells ≡ None → names ≡ names_of cells → All (λ name. is_name name ≡ true) names
admitted_names cells names none is = (head_good cells names none is).1
