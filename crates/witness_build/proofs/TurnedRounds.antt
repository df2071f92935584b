-- After the cuts of the last round the order against the winner ends in another candidate.
use Rattle.std.proofs.Common.{ℕ, zero, suc, List, [], ◌∷◌, ◌++◌, Bool, true, false, Some, None, All, ◌≡◌, ◌≢◌, ◌<◌, ◌≤◌, ◌+◌, ◌-◌, ◌*◌, ◌∙◌, cond, length, take, get_or, ap, sym, subst, refl, inl, inr, arith, length-append, length-take-le}
use Rattle.std.specs.Int.{div_ceil}
use Rattle.std.specs.Prelude.{Contains}
use Rattle.std.proofs.lemmas.Bool.{cases_eq}
use Rattle.std.proofs.lemmas.Grind.{div_ceil_times}
use Rattle.std.proofs.lemmas.List.Elements.{All-cons}
use Rattle.std.proofs.lemmas.List.Sums.{sum_by-cons}
use Rattle.ballot_form.specs.Alterations.{IsAlteration, after}
use Rattle.ballot_form.specs.Ballots.{IsPoll, IsValidBallot, Poll}
use Rattle.ballot_form.specs.declared.outcome.Outcome.{Outcome}
use Rattle.ballot_form.specs.declared.outcome.Outcome.TheVariants.{Winner, NoWinner, Seats}
use Rattle.ballot_form.specs.declared.rule.Rule.TheVariants.{Irv}
use Rattle.irv_count.specs.Orders.{IsOrder, IsOrderBy, held_count, left_after}
use Rattle.irv_count.proofs.Holders.{held_same}
use Rattle.irv_count.proofs.Members.{bool_cases, differ_test, or_true, same_test}
use Rattle.irv_count.proofs.Unique.{same_order}
use Rattle.goal_rows.specs.Elections.{Election}
use Rattle.goal_rows.specs.Goals.{IsElection, root_goals}
use Rattle.goal_rows.specs.Outcomes.{IsReported}
use Rattle.goal_rows.specs.declared.goals.Goal.{Goal}
use Rattle.goal_rows.specs.declared.goals.Goal.TheVariants.{Suffix}
use Rattle.goal_rows.proofs.Roots.{last_among}
use Rattle.goal_rows.proofs.SuffixRows.{legal_rows}
use Rattle.witness_build.specs.LastRounds.{IsLastRound, IsLastRoundWitness, cut_at, cuts_from, holds_last, last_cuts, last_lead, last_two}
use Rattle.witness_build.specs.Witnesses.{IsMetBy}
use Rattle.witness_build.proofs.AgainstWinner.{AreShifted, IsTurned, apart, not_last, one_of_two, still_stands}
use Rattle.witness_build.proofs.CutBallots.{after_cuts, cut_first, cuts_alter, cuts_move, cuts_shift, valid_cut}

-- ---- the last two places of an order

pub last_places : (front : List ℕ) (r x : ℕ) → (get_or (front ++ r ∷ x ∷ []) (length front) 0 ≡ r) × (get_or (front ++ r ∷ x ∷ []) (length front + 1) 0 ≡ x)
last_places [] r x = (refl, refl)
last_places (y ∷ front) r x =
    let e : length (y ∷ front) + 1 ≡ suc (length front + 1) = omega arith in
    let is = last_places front r x in
    (is.0, ap (λ k. get_or (y ∷ (front ++ r ∷ x ∷ [])) k 0) e ∙ is.1)

pub split_last : (i : ℕ) (order : List ℕ) → length order ≡ i + 2 → order ≡ take i order ++ get_or order i 0 ∷ get_or order (i + 1) 0 ∷ []
split_last i [] is = absurd (omega (arith, is))
split_last zero (a ∷ []) is = absurd (omega (arith, is))
split_last zero (a ∷ b ∷ []) is = refl
split_last zero (a ∷ b ∷ d ∷ order) is = absurd (omega (arith, is))
split_last (suc i) (a ∷ order) is =
    let e : suc i + 1 ≡ suc (i + 1) = omega arith in
    rw e (ap (λ xs. a ∷ xs) (split_last i order (omega (arith, is))))

-- ---- who stands in the last round

-- r and x by the places of the reported order
pub record IsLastOf (p : Poll) (order : List ℕ) (i r x : ℕ) : Type 0 where
  pub two : p.c ≡ i + 2
  pub by : IsOrderBy None p order
  pub loser : get_or order i 0 ≡ r
  pub winner : get_or order (i + 1) 0 ≡ x

pub last_of : (p : Poll) (r x : ℕ) → (is : IsLastRound p r x) → IsLastOf p (is.front ++ r ∷ x ∷ []) (length is.front) r x
last_of p r x is =
    let long = is.order.legal.whole.long in
    let places = last_places is.front r x in
    record {
      two = omega (arith, long, length-append is.front (r ∷ x ∷ []));
      by = is.order;
      loser = places.0;
      winner = places.1;
    }

-- two other candidates of the contest
pub record AreTwo (c r x : ℕ) : Type 0 where
  pub loser : r < c
  pub winner : x < c
  pub differ : r ≢ x

two_of : (p : Poll) (order : List ℕ) (i r x : ℕ) → IsLastOf p order i r x → AreTwo p.c r x
two_of p order i r x is =
    let whole = is.by.legal.whole in
    let ic : i + 1 < p.c = omega (arith, is.two) in
    record {
      loser = subst (λ y. y < p.c) is.loser (whole.below i (omega (arith, ic)));
      winner = subst (λ y. y < p.c) is.winner (whole.below (i + 1) ic);
      differ = λ e. apart p.c order i (i + 1) whole (omega arith) ic (is.loser ∙ e ∙ sym is.winner);
    }

pub last_are_two : (p : Poll) (r x : ℕ) → IsLastRound p r x → AreTwo p.c r x
last_are_two p r x is = two_of p (is.front ++ r ∷ x ∷ []) (length is.front) r x (last_of p r x is)

-- they are the ones who are left where all others have gone
last_left : (p : Poll) (order : List ℕ) (i r x y : ℕ) → IsLastOf p order i r x → y < p.c → left_after order i y ≡ last_two x r y
last_left p order i r x y is yc =
    let whole = is.by.legal.whole in
    let ic : i + 1 < p.c = omega (arith, is.two) in
    elim (cases_eq y x) [
      | inl at ↦
          let stays : left_after order i x ≡ true = subst (λ z. left_after order i z ≡ true) is.winner (still_stands p.c order i (i + 1) whole (omega arith) ic) in
          ap (left_after order i) at ∙ stays ∙ sym (rw (same_test y x at) refl)
      | inr yx ↦ elim (cases_eq y r) [
        | inl at ↦
            let stays : left_after order i r ≡ true = subst (λ z. left_after order i z ≡ true) is.loser (still_stands p.c order i i whole (omega arith) (omega (arith, ic))) in
            ap (left_after order i) at ∙ stays ∙ sym (rw (same_test y r at) (or_true _))
        | inr yr ↦
            let none : last_two x r y ≡ false = rw (differ_test y x yx, differ_test y r yr) refl in
            elim (bool_cases (left_after order i y)) [
              | inl on ↦ absurd (yr (one_of_two p.c order i y whole is.two yc on (λ e. yx (e ∙ is.winner)) ∙ is.loser))
              | inr off ↦ off ∙ sym none
            ]
      ]
    ]

-- ---- how many are cut

-- half of the lead, rounded up
abbrev pub half_lead : Poll → ℕ → ℕ → ℕ
half_lead p x r = div_ceil (last_lead p x r) 2

-- so many are held, and they make up for the lead
pub record IsHalf (lead k : ℕ) : Type 0 where
  pub enough : lead ≤ k * 2
  pub within : k ≤ lead

half_is : (lead : ℕ) → IsHalf lead (div_ceil lead 2)
half_is lead =
    let bounds = div_ceil_times lead 2 (omega arith) in
    record { enough = bounds.0; within = omega (arith, bounds.1) }

cuts_long : (x r i : ℕ) (ballots : List (List ℕ)) → length (cuts_from x r i ballots) ≡ held_count (last_two x r) ballots x
cuts_long x r i [] = refl
cuts_long x r i (ballot ∷ ballots) = go (holds_last x r ballot) (cuts_long x r (i + 1) ballots) ∙ sym (sum_by-cons (λ row. cond (holds_last x r row) 1 0) ballot ballots)
  where
    go : (b : Bool) → length (cuts_from x r (i + 1) ballots) ≡ held_count (last_two x r) ballots x
        → length (cond b ((i, cut_at x r ballot) ∷ cuts_from x r (i + 1) ballots) (cuts_from x r (i + 1) ballots)) ≡ cond b 1 0 + held_count (last_two x r) ballots x
    go true rest = omega (arith, rest)
    go false rest = omega (arith, rest)

pub half_are_cut : (p : Poll) (x r : ℕ) → length (last_cuts p x r) ≡ half_lead p x r
half_are_cut p x r =
    let half = half_is (last_lead p x r) in
    let long = cuts_long x r 1 p.ballots in
    length-take-le (half_lead p x r) (cuts_from x r 1 p.ballots) (omega (arith, half.within, long))

-- ---- the ballots after the cuts

pub last_cuts_alter : (p : Poll) (x r : ℕ) → IsPoll p → r < p.c → IsAlteration p (last_cuts p x r)
last_cuts_alter p x r poll rc = cuts_alter p.c x r 1 (length p.ballots) (half_lead p x r) p.ballots rc poll.valid (omega arith)

after_last_cuts : (p : Poll) (x r : ℕ) → IsPoll p → r < p.c → (after p (last_cuts p x r)).ballots ≡ cut_first x r (half_lead p x r) p.ballots
after_last_cuts p x r poll rc = after_cuts p.c x r 1 (length p.ballots) (half_lead p x r) p.ballots rc poll.valid (omega arith)

cut_valid : (c x r k : ℕ) (ballots : List (List ℕ)) → r < c → All (IsValidBallot c) ballots → All (IsValidBallot c) (cut_first x r k ballots)
cut_valid c x r k [] rc valid = valid
cut_valid c x r zero (ballot ∷ ballots) rc valid = valid
cut_valid c x r (suc k) (ballot ∷ ballots) rc valid = go (cut_valid c x r k ballots rc rest) (cut_valid c x r (suc k) ballots rc rest) (holds_last x r ballot) refl
  where
    rest : All (IsValidBallot c) ballots
    rest j d lt = valid (suc j) d (omega (arith, lt))

    go : All (IsValidBallot c) (cut_first x r k ballots) → All (IsValidBallot c) (cut_first x r (suc k) ballots) → (b : Bool) → b ≡ holds_last x r ballot
        → All (IsValidBallot c) (cond b (cut_at x r ballot ∷ cut_first x r k ballots) (ballot ∷ cut_first x r (suc k) ballots))
    go fewer same true is = All-cons (IsValidBallot c) (cut_at x r ballot) (cut_first x r k ballots) (valid_cut c x r ballot rc (valid 0 ballot (omega arith)) (sym is)) fewer
    go fewer same false is = All-cons (IsValidBallot c) ballot (cut_first x r (suc k) ballots) (valid 0 ballot (omega arith)) same

pub last_cuts_valid : (p : Poll) (x r : ℕ) → IsPoll p → r < p.c → All (IsValidBallot p.c) (after p (last_cuts p x r)).ballots
last_cuts_valid p x r poll rc = subst (All (IsValidBallot p.c)) (sym (after_last_cuts p x r poll rc)) (cut_valid p.c x r (half_lead p x r) p.ballots rc poll.valid)

-- in the last round r holds no fewer ballots after the cuts than x
level_last : (p : Poll) (x r : ℕ) → IsPoll p → AreTwo p.c r x
    → held_count (last_two x r) (after p (last_cuts p x r)).ballots x ≤ held_count (last_two x r) (after p (last_cuts p x r)).ballots r
level_last p x r poll two =
    let half = half_is (last_lead p x r) in
    let moved = cuts_move x r (half_lead p x r) p.ballots two.differ (omega (arith, half.within)) in
    rw (after_last_cuts p x r poll two.loser) (omega (arith, half.enough, moved.from, moved.to))

-- ---- the order against the winner

-- the one at the last place of an order against x after the cuts is another than x
pub other_wins : (p : Poll) (order against : List ℕ) (i r x : ℕ) → IsPoll p → IsLastOf p order i r x → IsOrderBy (Some x) (after p (last_cuts p x r)) against
    → get_or against (i + 1) 0 ≢ x
other_wins p order against i r x poll is by same =
    let two = two_of p order i r x is in
    let now = after p (last_cuts p x r) in
    let shift = subst (λ rows. AreShifted x r p.ballots rows) (sym (after_last_cuts p x r poll two.loser)) (cuts_shift x r (half_lead p x r) p.ballots two.differ) in
    let left : (y : ℕ) → y < p.c → left_after order i y ≡ last_two x r y = λ y yc. last_left p order i r x y is yc in
    let valid = last_cuts_valid p x r poll two.loser in
    let level : held_count (left_after order i) now.ballots x ≤ held_count (left_after order i) now.ballots r =
    rw (held_same (left_after order i) (last_two x r) p.c now.ballots x valid left, held_same (left_after order i) (last_two x r) p.c now.ballots r valid left)
    (level_last p x r poll two) in
    let turned : IsTurned p now order against i = record {
      same = refl;
      two = is.two;
      reported = is.by;
      other = subst (λ z. IsOrderBy (Some z) now against) (sym is.winner) by;
      shifted = subst (λ z. AreShifted z (get_or order i 0) p.ballots now.ballots) (sym is.winner) (subst (λ z. AreShifted x z p.ballots now.ballots) (sym is.loser) shift);
    } in
    let at = subst (λ z. held_count (left_after order i) now.ballots z ≤ held_count (left_after order i) now.ballots (get_or order i 0)) (sym is.winner)
    (subst (λ z. held_count (left_after order i) now.ballots x ≤ held_count (left_after order i) now.ballots z) (sym is.loser) level) in
    not_last p now order against i turned at (same ∙ sym is.winner)

-- ---- the goal

-- the suffix of another candidate than x alone is one of the root's goals
root_among : (p : Poll) (o : Outcome) (r x y : ℕ) → IsReported Irv p o → IsLastRound p r x → y < p.c → y ≢ x → Contains (root_goals Irv p.c o) (Suffix (y ∷ []))
root_among p (Winner w) r x y (order, by, last) is yc yx =
    let same : order ≡ is.front ++ r ∷ x ∷ [] = same_order None p order (is.front ++ r ∷ x ∷ []) by is.order in
    let long = ap length same ∙ length-append is.front (r ∷ x ∷ []) in
    let place : last.0 ≡ length is.front + 1 = omega (arith, last.1, long) in
    let w_is : w ≡ x = sym last.2 ∙ ap (λ xs. get_or xs last.0 0) same ∙ ap (λ k. get_or (is.front ++ r ∷ x ∷ []) k 0) place ∙ (last_places is.front r x).1 in
    last_among p.c w y yc (λ e. yx (e ∙ w_is))
root_among p NoWinner r x y reported is yc yx = absurd reported
root_among p (Seats shares) r x y reported is yc yx = absurd reported

-- the last round's witness meets its goal
pub last_met : (e : Election) (goal : Goal) (changes : List (ℕ × List ℕ)) → IsElection e → e.roots ≡ root_goals e.rule e.poll.c e.reported → e.rule ≡ Irv
    → IsLastRoundWitness e goal changes → IsMetBy e goal changes
last_met e goal changes election own rule is =
    let p = e.poll in
    let r = is.r in
    let x = is.x in
    let two = last_are_two p r x is.last in
    let by : IsOrderBy (Some x) (after p (last_cuts p x r)) is.against = subst (λ cs. IsOrderBy (Some x) (after p cs) is.against) is.cuts is.order in
    let i = length is.last.front in
    let of = last_of p r x is.last in
    let y = get_or is.against (i + 1) 0 in
    let whole : IsOrder p.c is.against = by.legal.whole in
    let yc : y < p.c = whole.below (i + 1) (let ic = of.two in omega (arith, ic)) in
    let yx : y ≢ x = other_wins p (is.last.front ++ r ∷ x ∷ []) is.against i r x election.poll of by in
    let reported = subst (λ rule. IsReported rule p e.reported) rule election.reported in
    let among = root_among p e.reported r x y reported is.last yc yx in
    let there : Contains e.roots (Suffix (y ∷ [])) = subst (λ roots. Contains roots (Suffix (y ∷ []))) (sym (own ∙ ap (λ rule. root_goals rule p.c e.reported) rule)) among in
    let long : length is.against ≡ i + 1 + 1 = let l = whole.long in let c = of.two in omega (arith, l, c) in
    let met : IsMetBy e (Suffix is.against) (last_cuts p x r) = record {
      alteration = last_cuts_alter p x r election.poll two.loser;
      complete = (whole, (y, (i + 1, long, refl), there));
      holds = (legal_rows (after p (last_cuts p x r)) is.against (last_cuts_valid p x r election.poll two.loser) whole).0 by.legal;
    } in
    subst (λ g. IsMetBy e g changes) (sym is.suffix) (subst (IsMetBy e (Suffix is.against)) (sym is.cuts) met)

-- ---- from the places of an order

-- the last two of the reported order are who stands in the last round
pub last_round_at : (p : Poll) (order places : List ℕ) → IsOrderBy None p order → places ≡ order → 2 ≤ p.c
    → IsLastRound p (get_or places (length places - 2) 0) (get_or places (length places - 1) 0)
last_round_at p order places by same two =
    let i = length places - 2 in
    let long = by.legal.whole.long in
    let size : length places ≡ i + 2 = let l = ap length same in omega (arith, l, long, two) in
    let place : i + 1 ≡ length places - 1 = omega (arith, size) in
    let at : order ≡ take i places ++ get_or places i 0 ∷ get_or places (length places - 1) 0 ∷ [] =
    sym same ∙ split_last i places size ∙ ap (λ k. take i places ++ get_or places i 0 ∷ get_or places k 0 ∷ []) place in
    record { front = take i places; order = subst (IsOrderBy None p) at by }
