-- Runs of ballots and replacements side by side.
use Rattle.std.proofs.Common.{ℕ, zero, suc, List, [], ◌∷◌, ◌++◌, ◌≡◌, ◌<◌, ◌≤◌, ◌+◌, ◌-◌, ◌==◌, ◌∙◌, true, false, sym, ap, replicate, append_assoc, refl, arith}
use Rattle.std.specs.Prelude.{IfSome, slice_get}
use Rattle.std.proofs.lemmas.List.{replicate-append-replicate}
use Rattle.std.proofs.lemmas.Bool.Decides.{nat_tests}
use Rattle.ballot_form.specs.Alterations.{IsAlterationFrom, after_from}

-- the numbers may end later
pub ends_later : (c i n m : ℕ) (changes : List (ℕ × List ℕ)) → n ≤ m → IsAlterationFrom c i n changes → IsAlterationFrom c i m changes
ends_later c i n m [] le is = tt
ends_later c i n m (change ∷ changes) le is = (is.0, omega (arith, le, is.1), is.2, ends_later c (change.0 + 1) n m changes le is.3)

-- the numbers may begin earlier
begins_earlier : (c i j n : ℕ) (changes : List (ℕ × List ℕ)) → j ≤ i → IsAlterationFrom c i n changes → IsAlterationFrom c j n changes
begins_earlier c i j n [] le is = tt
begins_earlier c i j n (change ∷ changes) le is = (omega (arith, le, is.0), is.1, is.2, is.3)

-- a ballot that no change names, and one that the first change names
one_kept : (c i n : ℕ) (row : List ℕ) (rows : List (List ℕ)) (changes : List (ℕ × List ℕ)) → IsAlterationFrom c (i + 1) n changes
    → after_from i (row ∷ rows) changes ≡ row ∷ after_from (i + 1) rows changes
one_kept c i n row [] [] is = refl
one_kept c i n row (next ∷ rows) [] is = refl
one_kept c i n row rows (change ∷ changes) is =
    let other : (change.0 == i) ≡ false = (let after = is.0 in grind (arith, nat_tests)) in
    rw other refl

one_replaced : (i : ℕ) (row : List ℕ) (rows : List (List ℕ)) (change : ℕ × List ℕ) (changes : List (ℕ × List ℕ)) → change.0 ≡ i
    → after_from i (row ∷ rows) (change ∷ changes) ≡ change.1 ∷ after_from (i + 1) rows changes
one_replaced i row rows change changes is =
    let here : (change.0 == i) ≡ true = grind (arith, nat_tests) in
    rw here refl

-- ballots that no change names
equal_kept : (c i j k n : ℕ) (row : List ℕ) (rows : List (List ℕ)) (changes : List (ℕ × List ℕ)) → j ≡ i + k → IsAlterationFrom c j n changes
    → after_from i (replicate k row ++ rows) changes ≡ replicate k row ++ after_from j rows changes
equal_kept c i j zero n row rows changes e is = ap (λ m. after_from m rows changes) (omega (arith, e))
equal_kept c i j (suc k) n row rows changes e is =
    one_kept c i n row (replicate k row ++ rows) changes (begins_earlier c j (i + 1) n changes (omega (arith, e)) is)
    ∙ ap (λ l. row ∷ l) (equal_kept c (i + 1) j k n row rows changes (omega (arith, e)) is)

-- a stretch of equal ballots, and the one behind it that the first change names
equal_then_replaced : (c i k l m n : ℕ) (row : List ℕ) (rows : List (List ℕ)) (change : ℕ × List ℕ) (changes : List (ℕ × List ℕ)) → change.0 ≡ i + k → m ≡ k + 1 + l
    → IsAlterationFrom c i n (change ∷ changes)
    → after_from i (replicate m row ++ rows) (change ∷ changes) ≡ (replicate k row ++ change.1 ∷ []) ++ after_from (change.0 + 1) (replicate l row ++ rows) changes
equal_then_replaced c i k l m n row rows change changes at all is =
    let split : replicate m row ≡ replicate k row ++ (row ∷ replicate l row) =
    ap (λ q. replicate q row) (omega (arith, all)) ∙ sym (replicate-append-replicate k (suc l) row) in
    let tail = row ∷ replicate l row ++ rows in
    ap (λ q. after_from i (q ++ rows) (change ∷ changes)) split
    ∙ ap (λ q. after_from i q (change ∷ changes)) (append_assoc (replicate k row) (row ∷ replicate l row) rows)
    ∙ equal_kept c i change.0 k n row tail (change ∷ changes) at (omega arith, is.1, is.2, is.3)
    ∙ ap (λ q. replicate k row ++ q) (one_replaced change.0 row (replicate l row ++ rows) change changes refl)
    ∙ sym (append_assoc (replicate k row) (change.1 ∷ []) (after_from (change.0 + 1) (replicate l row ++ rows) changes))

-- a stretch and a replaced ballot more
pub added_more : (out : List (List ℕ)) (row : List ℕ) (rows : List (List ℕ)) (change : ℕ × List ℕ) (left later : List (ℕ × List ℕ)) (c i n end : ℕ)
    → left ≡ change ∷ later → change.0 < end → IsAlterationFrom c i n left
    → ((out ++ replicate (change.0 - i) row) ++ change.1 ∷ []) ++ after_from (change.0 + 1) (replicate (end - (change.0 + 1)) row ++ rows) later
    ≡ out ++ after_from i (replicate (end - i) row ++ rows) left
added_more out row rows change left later c i n end split lt is =
    let is_split : IsAlterationFrom c i n (change ∷ later) = rw split at is in
    let stretch = replicate (change.0 - i) row in
    let rest = after_from (change.0 + 1) (replicate (end - (change.0 + 1)) row ++ rows) later in
    let here = equal_then_replaced c i (change.0 - i) (end - (change.0 + 1)) (end - i) n row rows change later (omega (arith, is_split.0)) (omega (arith, lt, is_split.0)) is_split in
    ap (λ q. q ++ rest) (append_assoc out stretch (change.1 ∷ [])) ∙ append_assoc out (stretch ++ change.1 ∷ []) rest
    ∙ ap (λ q. out ++ q) (sym here) ∙ ap (λ q. out ++ after_from i (replicate (end - i) row ++ rows) q) (sym split)

-- the last stretch
pub added_end : (out : List (List ℕ)) (row : List ℕ) (rows : List (List ℕ)) (left : List (ℕ × List ℕ)) (c i n end : ℕ) → i ≤ end → IsAlterationFrom c end n left
    → (out ++ replicate (end - i) row) ++ after_from end rows left ≡ out ++ after_from i (replicate (end - i) row ++ rows) left
added_end out row rows left c i n end le is =
    append_assoc out (replicate (end - i) row) (after_from end rows left)
    ∙ ap (λ q. out ++ q) (sym (equal_kept c i end (end - i) n row rows left (omega arith) is))

-- where the first number isn't before a number all begin at it
pub begins_at : (c i j n : ℕ) (changes : List (ℕ × List ℕ)) → IfSome (slice_get changes 0) (λ change. j ≤ change.0) → IsAlterationFrom c i n changes → IsAlterationFrom c j n changes
begins_at c i j n [] from is = tt
begins_at c i j n (change ∷ changes) from is = (from, is.1, is.2, is.3)
