-- The head's cells without the empty ones at the end, and its names.
use Rattle.std.proofs.Common.{ℕ, List, [], ◌∷◌, ◌++◌, ◌≡◌, ◌<◌, ◌≤◌, ◌+◌, ◌-◌, ◌∙◌, refl, sym, ap, true, false, Some, None, length, suc, zero, arith, take, drop, get_or, inl, inr}
use Rattle.std.specs.Prelude.{slice_get, IsUtf8, codes, nat_lt, ◌==◌}
use Rattle.std.specs.Str.{bytes_eq, is_utf8}
use Rattle.std.proofs.lemmas.Bool.{cases_Bool}
use Rattle.std.proofs.lemmas.Str.{IsUtf8-from_is_utf8, is_utf8-from_IsUtf8}
use Rattle.std.proofs.lemmas.List.{drop_more}
use Rattle.std.proofs.lemmas.Grind.{common_steps}
use Rattle.std.proofs.lemmas.Option.{get_or_from_slice_get, slice_get_within}
use Rattle.ballot_form.specs.declared.limits.TheConstants.{MOST_CANDIDATES}
use Rattle.ballot_csv.specs.OneRecord.{is_empty}
use Rattle.ballot_csv.specs.HeadRecord.{before_filled, head_fault, name_fault, names_fault, or_later, without_empty_end}
use Rattle.ballot_csv.proofs.CellFacts.{until_more}

empty_last : (xs : List (List ℕ)) (x : List ℕ) → is_empty x ≡ true → without_empty_end (xs ++ x ∷ []) ≡ without_empty_end xs
unfolding without_empty_end
empty_last [] x e = rw e refl
empty_last (y ∷ xs) x e = ap (before_filled y) (empty_last xs x e)

filled_last : (xs : List (List ℕ)) (x : List ℕ) → is_empty x ≡ false → without_empty_end (xs ++ x ∷ []) ≡ xs ++ x ∷ []
unfolding without_empty_end
filled_last [] x e = rw e refl
filled_last (y ∷ []) x e = rw e refl
filled_last (y ∷ z ∷ xs) x e = ap (before_filled y) (filled_last (z ∷ xs) x e)

-- an empty cell at the end makes no difference
pub one_less : (xs : List (List ℕ)) (n m : ℕ) (x : List ℕ) → m ≡ n - 1 → 0 < n → slice_get xs m ≡ Some x → is_empty x ≡ true
    → without_empty_end (take n xs) ≡ without_empty_end xs → without_empty_end (take m xs) ≡ without_empty_end xs
one_less xs n m x is some at e all =
    let more : n ≡ m + 1 = omega (arith, is, some) in
    let here : without_empty_end (take n xs) ≡ without_empty_end (take m xs) = rw (more, until_more xs m x at) (empty_last (take m xs) x e) in
    sym here ∙ all

pub none_less : (xs : List (List ℕ)) (n m : ℕ) (x : List ℕ) → m ≡ n - 1 → 0 < n → slice_get xs m ≡ Some x → is_empty x ≡ false
    → without_empty_end (take n xs) ≡ without_empty_end xs → take n xs ≡ without_empty_end xs
none_less xs n m x is some at e all =
    let more : n ≡ m + 1 = omega (arith, is, some) in
    let here : without_empty_end (take n xs) ≡ take n xs = rw (more, until_more xs m x at) (filled_last (take m xs) x e) in
    sym here ∙ all

pub text_of_utf8 : (bs : List ℕ) → IsUtf8 bs → is_utf8 bs ≡ true
text_of_utf8 bs h = is_utf8-from_IsUtf8 bs h

pub no_text_of_utf8 : (bs : List ℕ) → (IsUtf8 bs → ⊥) → is_utf8 bs ≡ false
no_text_of_utf8 bs h = elim (cases_Bool (is_utf8 bs)) [ inl yes_it_is ↦ absurd (h (IsUtf8-from_is_utf8 bs yes_it_is)) | inr it_is_not ↦ it_is_not ]

-- the names from a place on, as far as another
pub next_name : (before cells : List (List ℕ)) (n i : ℕ) (x : List ℕ) → i < n → slice_get cells i ≡ Some x
    → names_fault before (drop i (take n cells)) ≡ or_later (name_fault before x) (names_fault (before ++ x ∷ []) (drop (i + 1) (take n cells)))
next_name before cells n i x below at =
    let within = slice_get_within cells i x at in
    let inside : i < length (take n cells) = grind (arith, common_steps) in
    let here : get_or (take n cells) i x ≡ x = grind (arith, common_steps, get_or_from_slice_get) in
    rw (drop_more (take n cells) i x inside, here) refl

pub last_name : (before cells : List (List ℕ)) (n i : ℕ) → n ≤ i → names_fault before (drop i (take n cells)) ≡ None
last_name before cells n i past =
    let none : drop i (take n cells) ≡ [] = grind (arith, common_steps) in
    rw none refl

pub at_none : (xs : List (List ℕ)) (n : ℕ) → n ≤ 0 → without_empty_end (take n xs) ≡ without_empty_end xs → [] ≡ without_empty_end xs
unfolding without_empty_end
at_none xs n none all =
    let empty : take n xs ≡ [] = grind (arith, common_steps) in
    rw empty at all

-- a head whose first cell is right has the fault of its names
pub head_good : (cells : List (List ℕ)) (n : ℕ) (first : List ℕ) → 1 < n → n ≤ MOST_CANDIDATES + 1 → n ≤ length cells → slice_get cells 0 ≡ Some first
    → bytes_eq first (codes "ballots") ≡ true → take n cells ≡ without_empty_end cells → head_fault cells ≡ names_fault [] (drop 1 (take n cells))
head_good [] n first some few within at ours filled = cc at
head_good (x ∷ cells) zero first some few within at ours filled = absurd (omega (arith, some))
head_good (x ∷ cells) (suc n) first some few within at ours filled =
    let here : x ≡ first = some_is x first at in
    let size : length (take n cells) ≡ n = grind (arith, common_steps) in
    let one : (n == 0) ≡ false = grind arith in
    let fits : nat_lt MOST_CANDIDATES n ≡ false = grind arith in
    rw (← filled, here, ours, size, one, fits) refl
  where
    some_is : (a b : List ℕ) → Some a ≡ Some b → a ≡ b
    some_is a b e = cc e
