-- Lines and fields that are joined are cut again at the same places.
use Rattle.std.proofs.Common.{◌≡◌, ℕ, ◌+◌, ◌<◌, ◌^◌, Bool, true, false, not, eqb, ltb, List, [], ◌∷◌, ◌++◌, length, take, drop, get_or, Some, refl, sym, ap, ◌∙◌, arith}
use Rattle.std.specs.List.{slice_split, position, position_or_len, onto_first, list_all, AllByRecursion}
use Rattle.std.specs.Fmt.{decimal}
use Rattle.std.proofs.lemmas.Bool.{lt-ltb, eqb-true}
use Rattle.std.proofs.lemmas.List.{drop_more, take-append-drop, length-append}
use Rattle.std.proofs.lemmas.List.Splits.{slice_split-cons_no, slice_split-cons_yes}
use Rattle.std.proofs.lemmas.List.Quantifiers.{position-Some}
use Rattle.std.proofs.lemmas.Fmt.{digits_decimal}
use Rattle.text_lines.specs.Words.{fields_of, line_of}
use Rattle.std.specs.Char.{is_ascii_digit}
use Rattle.text_lines.proofs.Digits.{own}
use Rattle.text_lines.proofs.Inverse.{and_parts}

-- a list without a byte
abbrev pub lacks : ℕ → List ℕ → Bool
lacks c w = list_all (λ b. not (eqb b c)) w

not_true : (b : Bool) → not b ≡ true → b ≡ false
not_true true e = absurd cc
not_true false e = refl

pub split_alone : (c : ℕ) (w : List ℕ) → lacks c w ≡ true → slice_split (λ b. eqb b c) w ≡ w ∷ []
split_alone c [] h = refl
split_alone c (b ∷ bs) h =
    let p = and_parts (not (eqb b c)) (lacks c bs) h in
    slice_split-cons_no (λ b. eqb b c) b bs (not_true (eqb b c) p.0) ∙ ap (onto_first b) (split_alone c bs p.1)

same : (c : ℕ) → eqb c c ≡ true
same c = grind arith

pub split_joined : (c : ℕ) (w rest : List ℕ) → lacks c w ≡ true → slice_split (λ b. eqb b c) (w ++ c ∷ rest) ≡ w ∷ slice_split (λ b. eqb b c) rest
split_joined c [] rest h = slice_split-cons_yes (λ b. eqb b c) c rest (same c)
split_joined c (b ∷ bs) rest h =
    let p = and_parts (not (eqb b c)) (lacks c bs) h in
    slice_split-cons_no (λ b. eqb b c) b (bs ++ c ∷ rest) (not_true (eqb b c) p.0) ∙ ap (onto_first b) (split_joined c bs rest p.1)

-- fields without spaces and line ends
abbrev pub ArePlain : List (List ℕ) → Type 0
ArePlain fields = AllByRecursion (λ w. (lacks 32 w ≡ true) × (lacks 10 w ≡ true)) fields

pub fields_again : (w : List ℕ) (ws : List (List ℕ)) → ArePlain (w ∷ ws) → fields_of (line_of (w ∷ ws)) ≡ w ∷ ws
fields_again w [] h = split_alone 32 w h.0.0
fields_again w (v ∷ vs) h = split_joined 32 w (line_of (v ∷ vs)) h.0.0 ∙ ap (λ fs. w ∷ fs) (fields_again v vs h.1)

lacks_append : (c : ℕ) (v w : List ℕ) → lacks c v ≡ true → lacks c w ≡ true → lacks c (v ++ w) ≡ true
lacks_append c [] w h h' = h'
lacks_append c (b ∷ bs) w h h' = let p = and_parts (not (eqb b c)) (lacks c bs) h in rw (p.0, lacks_append c bs w p.1 h') refl

pub line_lacks : (fields : List (List ℕ)) → ArePlain fields → lacks 10 (line_of fields) ≡ true
line_lacks [] h = refl
line_lacks (w ∷ []) h = h.0.1
line_lacks (w ∷ v ∷ vs) h = lacks_append 10 w (32 ∷ line_of (v ∷ vs)) h.0.1 (line_lacks (v ∷ vs) h.1)

place_at : (c : ℕ) (w rest : List ℕ) → lacks c w ≡ true → position_or_len (λ b. eqb b c) (w ++ c ∷ rest) ≡ length w
place_at c [] rest h = rw (same c) refl
place_at c (b ∷ bs) rest h =
    let p = and_parts (not (eqb b c)) (lacks c bs) h in
    rw (not_true (eqb b c) p.0, place_at c bs rest p.1) (omega arith)

pub line_end_at : (c : ℕ) (w rest : List ℕ) → lacks c w ≡ true → position (λ b. eqb b c) (w ++ c ∷ rest) ≡ Some (length w)
line_end_at c w rest h =
    let n = place_at c w rest h in
    let lt : ltb (length w) (length (w ++ c ∷ rest)) ≡ true = lt-ltb _ _ (omega (arith, length-append w (c ∷ rest))) in
    rw (n, lt) refl

pub line_end_is : (c : ℕ) (text : List ℕ) (i : ℕ) → position (λ b. eqb b c) text ≡ Some i → text ≡ take i text ++ c ∷ drop (i + 1) text
line_end_is c text i e =
    let at = position-Some (λ b. eqb b c) text i 0 e in
    let byte : get_or text i 0 ≡ c = eqb-true _ _ at.1 in
    sym (take-append-drop i text) ∙ ap (λ (t : List ℕ). take i text ++ t) (drop_more text i 0 at.0) ∙ ap (λ (b : ℕ). take i text ++ b ∷ drop (i + 1) text) byte

other : (d c : ℕ) → c < 48 → is_ascii_digit d ≡ true → not (eqb d c) ≡ true
other d c low h = grind arith

digits_lack : (c : ℕ) (ds : List ℕ) → c < 48 → list_all is_ascii_digit ds ≡ true → lacks c ds ≡ true
digits_lack c [] low h = refl
digits_lack c (d ∷ ds) low h =
    let p = and_parts (is_ascii_digit d) (list_all is_ascii_digit ds) h in
    let one : not (eqb d c) ≡ true = other d c low p.0 in
    rw (one, digits_lack c ds low p.1) refl

pub number_plain : (n : ℕ) → n < 2 ^ 64 → (lacks 32 (decimal n) ≡ true) × (lacks 10 (decimal n) ≡ true)
number_plain n fits = (digits_lack 32 (decimal n) (omega arith) (digits_decimal own n fits), digits_lack 10 (decimal n) (omega arith) (digits_decimal own n fits))
