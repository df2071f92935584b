-- From the reported order to the lines of its rounds.
use Rattle.std.proofs.Common.{ℕ, List, [], ◌∷◌, None, ◌≡◌, ◌++◌, ◌<◌, ◌≤◌, ◌+◌, ◌-◌, ◌*◌, ◌∙◌, drop, suc, suc-mul, get_or, length, map, refl, sym, ap, arith}
use Rattle.std.specs.Prelude.{Bool, Result, OnOk, codes, decimal}
use Rattle.std.specs.List.{flat_map, join_with_byte, range_with_len, slice_range}
use Rattle.std.proofs.lemmas.Nat.{mul-le}
use Rattle.std.proofs.lemmas.List.{get_or-drop, get_or-take, length-drop, length-take}
use Rattle.std.proofs.lemmas.List.Folds.{flat_map-map}
use Rattle.ballot_form.specs.Ballots.{IsPoll, Poll}
use Rattle.ballot_form.specs.declared.outcome.Outcome.TheVariants.{Winner}
use Rattle.ballot_form.specs.declared.rule.Rule.TheVariants.{Irv}
use Rattle.irv_count.specs.Orders.{AreHeld, IsOrderBy, held_count, left_after, stands}
use Rattle.irv_count.specs.Rounds.{AreBitsOf}
use Rattle.goal_rows.proofs.OutcomesReported.{last_reported}
use Rattle.mov_run.specs.Tally.{AddsCount, IsCounted, for_each, held_field, reported_text, round_of, round_text, rounds_text}
use Rattle.mov_run.proofs.Ranges.{adds_both, line_in_pieces, map_same}

field_same : (s t : ℕ → Bool) (f h : ℕ → ℕ) (x : ℕ) → s x ≡ t x → f x ≡ h x → held_field s f x ≡ held_field t h x
field_same s t f h x one other = rw (one, other) refl

-- the round by the bits of those who are left, and by its row of what is held
pub round_same : (p : Poll) (order held counts : List ℕ) (standing i c out : ℕ) → IsPoll p → AreBitsOf p.c (left_after order i) standing → out ≡ get_or order i 0
    → c ≡ p.c → length held ≡ p.c * p.c → length order ≡ p.c → i < p.c → AreHeld p order held → counts ≡ slice_range held (i * c) (i * c + c)
    → round_text (length counts) (stands standing) (λ x. get_or counts x 0) i out ≡ round_of p order i
round_same p order held counts standing i c out is set at same size long within are part =
    let full : i * p.c + p.c ≤ p.c * p.c = row_within i p.c within in
    let lent : length counts ≡ p.c = ap length part ∙ ap (λ (n : ℕ). length (slice_range held (i * n) (i * n + n))) same ∙ omega (arith, length-take (i * p.c + p.c - i * p.c) (drop (i * p.c) held), length-drop (i * p.c) held, size, full) in
    let cell : (x : ℕ) → x < p.c → get_or counts x 0 ≡ held_count (left_after order i) p.ballots x =
    λ x l. ap (λ (row : List ℕ). get_or row x 0) part ∙ ap (λ (n : ℕ). get_or (slice_range held (i * n) (i * n + n)) x 0) same
    ∙ get_or-take (i * p.c + p.c - i * p.c) (drop (i * p.c) held) x 0 (omega (arith, l)) ∙ get_or-drop (i * p.c) held x 0 ∙ are i x (omega (arith, long, within)) l in
    let fields : map (held_field (stands standing) (λ x. get_or counts x 0)) (range_with_len 0 p.c) ≡ map (held_field (left_after order i) (held_count (left_after order i) p.ballots)) (range_with_len 0 p.c) =
    map_same (held_field (stands standing) (λ x. get_or counts x 0)) (held_field (left_after order i) (held_count (left_after order i) p.ballots)) 0 p.c (λ x lo hi. field_same (stands standing) (left_after order i) (λ x. get_or counts x 0) (held_count (left_after order i) p.ballots) x (set.bits x (omega (arith, hi))) (cell x (omega (arith, hi)))) in
    rw (lent, fields, at) refl
  where
    row_within : (i c : ℕ) → i < c → i * c + c ≤ c * c
    row_within i c l = omega (arith, suc-mul i c, mul-le (suc i) c c c (omega (arith, l)) (omega arith))

rounds_counted : (p : Poll) (order text : List ℕ) (x i : ℕ) → IsOrderBy None p order → i + 1 ≡ p.c → x ≡ get_or order i 0
    → text ≡ rounds_text p order ++ reported_text (Winner x) → IsCounted Irv p text
rounds_counted p order text x i by last at lines = record {
  count = rounds_text p order;
  outcome = Winner x;
  counted = (order, by, refl);
  reported = rw at (last_reported p order i by last);
  lines = lines;
}

pub rounds_added : {T E : Type 0} (p : Poll) (order : List ℕ) (x i : ℕ) (old mid new : List ℕ) (r : Result T E) → IsOrderBy None p order → i + 1 ≡ p.c → x ≡ get_or order i 0
    → mid ≡ old ++ rounds_text p order → OnOk r (new ≡ mid ++ reported_text (Winner x)) → OnOk r (AddsCount Irv p old new)
rounds_added p order x i old mid new r by last at first then =
    adds_both Irv p (rounds_text p order) (reported_text (Winner x)) old mid new r (rounds_counted p order _ x i by last at refl) first then

-- the line of a round, in pieces
pub round_in_pieces : (set : ℕ → Bool) (counts : List ℕ) (i out : ℕ) (start one two three : List ℕ)
    → one ≡ start ++ join_with_byte 32 (codes "round" ∷ decimal (i + 1) ∷ codes "out" ∷ decimal out ∷ codes "held" ∷ [])
    → two ≡ one ++ for_each 0 (length counts) (λ x. 32 ∷ held_field set (λ y. get_or counts y 0) x) → three ≡ two ++ 10 ∷ [] → three ≡ start ++ round_text (length counts) set (λ y. get_or counts y 0) i out
round_in_pieces set counts i out start one two three is1 is2 is3 =
    let fields : for_each 0 (length counts) (λ x. 32 ∷ held_field set (λ y. get_or counts y 0) x) ≡ flat_map (λ f. 32 ∷ f) (map (held_field set (λ y. get_or counts y 0)) (range_with_len 0 (length counts))) =
    sym (flat_map-map (λ f. 32 ∷ f) (held_field set (λ y. get_or counts y 0)) (range_with_len 0 (length counts))) in
    line_in_pieces (codes "round") (decimal (i + 1) ∷ codes "out" ∷ decimal out ∷ codes "held" ∷ []) (map (held_field set (λ y. get_or counts y 0)) (range_with_len 0 (length counts))) start one two three
    is1 (is2 ∙ ap (λ t. one ++ t) fields) is3
