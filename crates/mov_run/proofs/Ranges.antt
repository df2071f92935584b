-- What is said of each of a row of numbers, one after another.
use Rattle.std.proofs.Common.{ℕ, zero, suc, List, [], ◌∷◌, ◌++◌, ◌≡◌, ◌<◌, ◌≤◌, ◌+◌, ◌-◌, ◌∙◌, refl, sym, ap, arith, map, append-nil, append_assoc}
use Rattle.std.specs.Prelude.{Result, Ok, Err, OnOk}
use Rattle.std.specs.List.{flat_map, join_with_byte, range_with_len}
use Rattle.std.proofs.lemmas.List.{flat_map_more}
use Rattle.text_lines.specs.Words.{line_text}
use Rattle.ballot_form.specs.Ballots.{Poll}
use Rattle.ballot_form.specs.declared.rule.Rule.{Rule}
use Rattle.mov_run.specs.Tally.{AddsCount, IsCounted, for_each}

range_more : (a n j : ℕ) → a + n ≡ j → range_with_len a (n + 1) ≡ range_with_len a n ++ j ∷ []
range_more a zero j e = let same : a ≡ j = omega (arith, e) in rw same refl
range_more a (suc n) j e =
    let next : suc n + 1 ≡ suc (n + 1) = omega arith in
    rw next (ap (λ r. a ∷ r) (range_more (a + 1) n j (omega (arith, e))))

-- one number more
pub each_more : (say : ℕ → List ℕ) (start out more : List ℕ) (a n j : ℕ) → a + n ≡ j → out ≡ start ++ for_each a n say → more ≡ out ++ say j → more ≡ start ++ for_each a (n + 1) say
each_more say start out more a n j at so_far is =
    is ∙ ap (λ t. t ++ say j) so_far ∙ flat_map_more say start (range_with_len a n) j ∙ ap (λ r. start ++ flat_map say r) (sym (range_more a n j at))

-- the same is said of each
pub each_same : (f h : ℕ → List ℕ) (a n : ℕ) → ((x : ℕ) → a ≤ x → x < a + n → f x ≡ h x) → for_each a n f ≡ for_each a n h
each_same f h a zero same = refl
each_same f h a (suc n) same = rw (same a (omega arith) (omega arith), each_same f h (a + 1) n (λ x lo hi. same x (omega (arith, lo)) (omega (arith, hi)))) refl

pub map_same : (f h : ℕ → List ℕ) (a n : ℕ) → ((x : ℕ) → a ≤ x → x < a + n → f x ≡ h x) → map f (range_with_len a n) ≡ map h (range_with_len a n)
map_same f h a zero same = refl
map_same f h a (suc n) same = rw (same a (omega arith) (omega arith), map_same f h (a + 1) n (λ x lo hi. same x (omega (arith, lo)) (omega (arith, hi)))) refl

-- each further field comes after a space
pub join_after : (w : List ℕ) (fields : List (List ℕ)) → join_with_byte 32 (w ∷ fields) ≡ w ++ flat_map (λ f. 32 ∷ f) fields
join_after w [] = sym (append-nil w)
join_after w (f ∷ fields) = ap (λ t. w ++ 32 ∷ t) (join_after f fields)

join_both : (w : List ℕ) (words fields : List (List ℕ)) → join_with_byte 32 (w ∷ (words ++ fields)) ≡ join_with_byte 32 (w ∷ words) ++ flat_map (λ f. 32 ∷ f) fields
join_both w [] fields = join_after w fields
join_both w (v ∷ words) fields =
    ap (λ t. w ++ 32 ∷ t) (join_both v words fields) ∙ sym (append_assoc w (32 ∷ join_with_byte 32 (v ∷ words)) (flat_map (λ f. 32 ∷ f) fields))

-- a line of words and further fields, in pieces
pub line_in_pieces : (w : List ℕ) (words fields : List (List ℕ)) (start one two three : List ℕ) → one ≡ start ++ join_with_byte 32 (w ∷ words) → two ≡ one ++ flat_map (λ f. 32 ∷ f) fields
    → three ≡ two ++ 10 ∷ [] → three ≡ start ++ line_text (w ∷ (words ++ fields))
line_in_pieces w words fields start one two three is1 is2 is3 =
    let joined : two ≡ start ++ join_with_byte 32 (w ∷ (words ++ fields)) =
    is2 ∙ ap (λ t. t ++ flat_map (λ f. 32 ∷ f) fields) is1 ∙ append_assoc start (join_with_byte 32 (w ∷ words)) (flat_map (λ f. 32 ∷ f) fields)
    ∙ ap (λ t. start ++ t) (sym (join_both w words fields)) in
    is3 ∙ ap (λ t. t ++ 10 ∷ []) joined ∙ append_assoc start (join_with_byte 32 (w ∷ (words ++ fields))) (10 ∷ [])

-- two parts were added to a text, the second where all went well
pub adds_both : {T E : Type 0} (rule : Rule) (p : Poll) (a b old mid new : List ℕ) (r : Result T E) → IsCounted rule p (a ++ b) → mid ≡ old ++ a → OnOk r (new ≡ mid ++ b) → OnOk r (AddsCount rule p old new)
adds_both rule p a b old mid new (Ok x) counted first last = (a ++ b, counted, last ∙ ap (λ t. t ++ b) first ∙ append_assoc old a b)
adds_both rule p a b old mid new (Err e) counted first last = tt

-- the same, up to a number
pub each_next : (say : ℕ → List ℕ) (start out more : List ℕ) (a j : ℕ) → a ≤ j → out ≡ start ++ for_each a (j - a) say → more ≡ out ++ say j → more ≡ start ++ for_each a ((j + 1) - a) say
each_next say start out more a j le so_far is =
    let n : (j + 1) - a ≡ (j - a) + 1 = omega (arith, le) in
    rw n (each_more say start out more a (j - a) j (omega (arith, le)) so_far is)
