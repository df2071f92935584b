-- The line of the reported outcome, by its form.
use Rattle.std.proofs.Common.{◌≡◌, ℕ, ◌≤◌, Bool, true, false, cond, List, [], ◌∷◌, map, Ok, refl, sym, ap, ◌∙◌, subst, arith, inl, inr}
use Rattle.std.specs.Prelude.{codes, decimal}
use Rattle.std.specs.Char.{is_ascii_digit}
use Rattle.std.specs.Str.{bytes_eq}
use Rattle.std.specs.List.{list_all}
use Rattle.std.proofs.lemmas.Fmt.{digits_decimal}
use Rattle.ballot_form.specs.declared.rule.Rule.{Rule}
use Rattle.ballot_form.specs.declared.rule.Rule.TheVariants.{Plurality, Borda, Condorcet, Dhondt, Irv}
use Rattle.ballot_form.specs.declared.outcome.Outcome.{Outcome}
use Rattle.ballot_form.specs.declared.outcome.Outcome.TheVariants.{Winner, NoWinner, Seats}
use Rattle.text_lines.specs.Forms.{number_within, made, alone, one_of, count_of}
use Rattle.text_lines.proofs.Digits.{own}
use Rattle.text_lines.proofs.Many.{one_takes, one_again, same_fields}
use Rattle.text_lines.proofs.Joining.{ArePlain, number_plain}
use Rattle.cert_text.specs.HeadLines.{winner_fields, winner_or_none_fields, outcome_fields, reported_line}
use Rattle.cert_text.specs.CertText.{outcome_words, OutcomeFits}
use Rattle.cert_text.proofs.Forms.{IsFieldForm}
use Rattle.cert_text.proofs.Choices.{made_ok, chosen, word_is, after_ok, alone_ok, is_ok, small_plain}
use Rattle.cert_text.proofs.HeadForms.{count_takes, count_again}
use Rattle.ballot_form.specs.declared.limits.TheConstants.{MOST_SEATS}
use Rattle.cert_text.specs.declared.limits.TheConstants.{GREATEST_CANDIDATE}

abbrev IsOutcomeLine : Rule → ℕ → List (List ℕ) → Outcome → Type 0
IsOutcomeLine rule c fields x = (codes "reported" ∷ fields ≡ outcome_words x) × OutcomeFits rule c x

-- what a winner's number gives
winner_takes : (fields : List (List ℕ)) (x : Outcome) → winner_fields fields ≡ Ok x → (y : ℕ) × (y ≤ GREATEST_CANDIDATE) × (fields ≡ decimal y ∷ []) × (Winner y ≡ x)
winner_takes fields x e =
    let m = made_ok Winner (one_of 0 GREATEST_CANDIDATE fields) x e in
    let t = one_takes 0 GREATEST_CANDIDATE fields m.0 (omega arith) m.1 in
    (m.0, t.1.1, t.0, m.2)

put_behind : (fields fields' : List (List ℕ)) → fields ≡ fields' → codes "reported" ∷ fields ≡ codes "reported" ∷ fields'
put_behind fields fields' e = ap (λ (fs : List (List ℕ)). codes "reported" ∷ fs) e

none_takes : (c : ℕ) (fields : List (List ℕ)) (x : Outcome) → winner_or_none_fields fields ≡ Ok x → IsOutcomeLine Condorcet c fields x
none_takes c [] x e = absurd cc
none_takes c (f ∷ fields) x e = elim (chosen (bytes_eq f (codes "none")) (alone (Ok NoWinner) fields) (made Winner (alone (number_within 0 GREATEST_CANDIDATE f) fields)) (Ok x) e) [
  | inl a ↦
      let t = alone_ok (Ok NoWinner) fields x a.1 in
      subst (λ y. IsOutcomeLine Condorcet c (f ∷ fields) y) (is_ok NoWinner x t.1) (put_behind (f ∷ fields) (codes "none" ∷ []) (same_fields f (codes "none") fields [] (word_is f (codes "none") a.0) t.0), tt)
  | inr a ↦
      let w = winner_takes (f ∷ fields) x a.1 in
      subst (λ y. IsOutcomeLine Condorcet c (f ∷ fields) y) w.3 (put_behind (f ∷ fields) (decimal w.0 ∷ []) w.2, w.1)
]

outcome_takes : (rule : Rule) (c : ℕ) (fields : List (List ℕ)) (x : Outcome) → outcome_fields rule c fields ≡ Ok x → IsOutcomeLine rule c fields x
outcome_takes (Dhondt total) c fields x e =
    let m = made_ok Seats (count_of c 0 MOST_SEATS fields) x e in
    let t = count_takes c MOST_SEATS fields m.0 (omega arith) m.1 in
    subst (λ y. IsOutcomeLine (Dhondt total) c fields y) m.2 (put_behind fields (map decimal m.0) t.spelled, (t.count, t.small))
outcome_takes Condorcet c fields x e = none_takes c fields x e
outcome_takes Plurality c fields x e = let w = winner_takes fields x e in subst (λ y. IsOutcomeLine Plurality c fields y) w.3 (put_behind fields (decimal w.0 ∷ []) w.2, w.1)
outcome_takes Borda c fields x e = let w = winner_takes fields x e in subst (λ y. IsOutcomeLine Borda c fields y) w.3 (put_behind fields (decimal w.0 ∷ []) w.2, w.1)
outcome_takes Irv c fields x e = let w = winner_takes fields x e in subst (λ y. IsOutcomeLine Irv c fields y) w.3 (put_behind fields (decimal w.0 ∷ []) w.2, w.1)

reported_takes : (rule : Rule) (c : ℕ) (fields : List (List ℕ)) (x : Outcome) → reported_line rule c fields ≡ Ok x → (fields ≡ outcome_words x) × OutcomeFits rule c x
reported_takes rule c fields x e =
    let a = after_ok (codes "reported") (outcome_fields rule c) fields x e in
    let t = outcome_takes rule c a.0 x a.2 in
    (a.1 ∙ t.0, t.1)

winner_again : (y : ℕ) → y ≤ GREATEST_CANDIDATE → winner_fields (decimal y ∷ []) ≡ Ok (Winner y)
winner_again y h = ap (made Winner) (one_again 0 GREATEST_CANDIDATE y (omega arith) (omega arith, h))

-- digits are no word
not_none_at : (y : ℕ) (b : Bool) → y ≤ GREATEST_CANDIDATE → bytes_eq (decimal y) (codes "none") ≡ b → b ≡ false
not_none_at y false h e = refl
not_none_at y true h e =
    let is : decimal y ≡ codes "none" = word_is (decimal y) (codes "none") e in
    let digits : list_all is_ascii_digit (decimal y) ≡ true = digits_decimal own y (omega (arith, h)) in
    let no : list_all is_ascii_digit (codes "none") ≡ true = ap (list_all is_ascii_digit) (sym is) ∙ digits in
    absurd cc

not_none : (y : ℕ) → y ≤ GREATEST_CANDIDATE → bytes_eq (decimal y) (codes "none") ≡ false
not_none y h = not_none_at y (bytes_eq (decimal y) (codes "none")) h refl

condorcet_again : (y : ℕ) → y ≤ GREATEST_CANDIDATE → winner_or_none_fields (decimal y ∷ []) ≡ Ok (Winner y)
condorcet_again y h =
    ap (λ b. cond b (alone (Ok NoWinner) []) (made Winner (alone (number_within 0 GREATEST_CANDIDATE (decimal y)) []))) (not_none y h) ∙ winner_again y h

outcome_again : (rule : Rule) (c : ℕ) (x : Outcome) → OutcomeFits rule c x → reported_line rule c (outcome_words x) ≡ Ok x
outcome_again (Dhondt total) c (Seats seats) h = ap (made Seats) (count_again c MOST_SEATS seats (omega arith) h.0 h.1)
outcome_again (Dhondt total) c (Winner y) h = absurd h
outcome_again (Dhondt total) c NoWinner h = absurd h
outcome_again Condorcet c (Seats seats) h = absurd h
outcome_again Condorcet c (Winner y) h = condorcet_again y h
outcome_again Condorcet c NoWinner h = refl
outcome_again Plurality c (Seats seats) h = absurd h
outcome_again Plurality c (Winner y) h = winner_again y h
outcome_again Plurality c NoWinner h = absurd h
outcome_again Borda c (Seats seats) h = absurd h
outcome_again Borda c (Winner y) h = winner_again y h
outcome_again Borda c NoWinner h = absurd h
outcome_again Irv c (Seats seats) h = absurd h
outcome_again Irv c (Winner y) h = winner_again y h
outcome_again Irv c NoWinner h = absurd h

winner_plain : (y : ℕ) → y ≤ GREATEST_CANDIDATE → ArePlain (outcome_words (Winner y))
winner_plain y h = ((refl, refl), (number_plain y (omega (arith, h)), tt))

outcome_plain : (rule : Rule) (c : ℕ) (x : Outcome) → OutcomeFits rule c x → ArePlain (outcome_words x)
outcome_plain (Dhondt total) c (Seats seats) h = ((refl, refl), small_plain MOST_SEATS seats (omega arith) h.1)
outcome_plain (Dhondt total) c (Winner y) h = absurd h
outcome_plain (Dhondt total) c NoWinner h = absurd h
outcome_plain Condorcet c (Seats seats) h = absurd h
outcome_plain Condorcet c (Winner y) h = winner_plain y h
outcome_plain Condorcet c NoWinner h = ((refl, refl), ((refl, refl), tt))
outcome_plain Plurality c (Seats seats) h = absurd h
outcome_plain Plurality c (Winner y) h = winner_plain y h
outcome_plain Plurality c NoWinner h = absurd h
outcome_plain Borda c (Seats seats) h = absurd h
outcome_plain Borda c (Winner y) h = winner_plain y h
outcome_plain Borda c NoWinner h = absurd h
outcome_plain Irv c (Seats seats) h = absurd h
outcome_plain Irv c (Winner y) h = winner_plain y h
outcome_plain Irv c NoWinner h = absurd h

outcome_some : (x : Outcome) → (w : List ℕ) × (ws : List (List ℕ)) × (outcome_words x ≡ w ∷ ws)
outcome_some (Winner y) = (codes "reported", decimal y ∷ [], refl)
outcome_some NoWinner = (codes "reported", codes "none" ∷ [], refl)
outcome_some (Seats seats) = (codes "reported", map decimal seats, refl)

pub outcome_form : (rule : Rule) (c : ℕ) → IsFieldForm Outcome (reported_line rule c) outcome_words (OutcomeFits rule c)
outcome_form rule c = record { takes = reported_takes rule c; again = outcome_again rule c; plain = outcome_plain rule c; some = outcome_some }
