-- Under the rules that are decided by pairs the outcome turns exactly where the row of some root goal holds.
use Rattle.std.proofs.Common.{ℕ, zero, suc, All, refl, List, [], ◌∷◌, Bool, true, false, Option, Some, None, ◌≡◌, ◌≢◌, ◌<◌, ◌≤◌, ◌+◌, ◌*◌, ◌∙◌, ◌↔◌, cond, get_or, length, sym, ap, subst, arith}
use Rattle.std.specs.Prelude.{Contains, ℤ, pos, ◌≤ℤ◌}
use Rattle.std.proofs.lemmas.Int.{ints}
use Rattle.std.proofs.lemmas.List.{length-map}
use Rattle.std.proofs.lemmas.List.FromFn.{get_or-map-range_with_len, length-range_with_len}
use Rattle.std.proofs.lemmas.List.Sums.{sum_by-cons}
use Rattle.std.specs.List.{range_with_len}
use Rattle.dhondt_seats.specs.Seats.{IsAllocation, seats_in_all, votes_of}
use Rattle.goal_rows.specs.SeatGains.{IsSeatGain}
use Rattle.goal_rows.specs.Pairs.{IsLevel}
use Rattle.mov_base.specs.Sums.{add_up, sum_z}
use Rattle.mov_base.proofs.Signed.{sum_z-difference}
use Rattle.mov_base.proofs.Sums.{add_up-sum_by}
use Rattle.ballot_form.specs.Alterations.{after}
use Rattle.ballot_form.specs.Ballots.{IsPoll, Poll}
use Rattle.ballot_form.specs.Scores.{borda_points, first_count, is_first, plurality_points, score_of}
use Rattle.ballot_form.specs.declared.outcome.Outcome.{Outcome}
use Rattle.ballot_form.specs.declared.outcome.Outcome.TheVariants.{Winner, NoWinner, Seats}
use Rattle.ballot_form.specs.declared.rule.Rule.{Rule}
use Rattle.ballot_form.specs.declared.rule.Rule.TheVariants.{Plurality, Borda, Condorcet, Dhondt, Irv}
use Rattle.condorcet_count.specs.Preferences.{pref_of, prefers}
use Rattle.condorcet_count.specs.Settlings.{IsAdmittedOutcome}
use Rattle.goal_rows.specs.declared.goals.Goal.{Goal}
use Rattle.goal_rows.specs.declared.goals.Goal.TheVariants.{Root, Suffix, Pair, Cover}
use Rattle.goal_rows.specs.Elections.{Election}
use Rattle.goal_rows.specs.Goals.{Holds, IsComplete, IsDecidedByPairs, gainer_points, loser_points, pair_weight, root_goals}
use Rattle.goal_rows.specs.Margins.{Turns}
use Rattle.goal_rows.specs.Outcomes.{Admits, IsReported}
use Rattle.goal_rows.proofs.OutcomesReported.{one_reported}
use Rattle.goal_rows.proofs.Roots.{pair_among, pairs_are, pairs_only, seat_pair_among, seat_pairs_are, seat_pairs_only, with_winner}
use Rattle.goal_rows.proofs.SeatMoves.{another_where_gained, reported_allocation}
use Rattle.goal_rows.proofs.ScoreTurning.{borda_turns_exactly, turns_exactly}
use Rattle.goal_rows.proofs.PairSettlings.{IsRival, other_of_rival, rival_of_other}

-- the one row of a pair
one_row : (weight : List ℕ → ℤ) (ballots : List (List ℕ)) → pos 0 ≤ℤ sum_z weight ballots → All (λ weight. pos 0 ≤ℤ sum_z weight ballots) (weight ∷ [])
one_row weight ballots h zero d lt = h
one_row weight ballots h (suc k) d lt = absurd (omega arith)

-- a pair's row holds where the gainer's count reaches the loser's
pub pair_row : (e : Election) (g l : ℕ) (ballots : List (List ℕ)) → Holds e (Pair g l) ballots
    ↔ (add_up (loser_points e g l) ballots ≤ add_up (gainer_points e g l) ballots)
pair_row e g l ballots =
    let v = sum_z-difference (gainer_points e g l) (loser_points e g l) ballots in (
      λ holds. let h : pos 0 ≤ℤ sum_z (pair_weight e g l) ballots = holds 0 (pair_weight e g l) (omega arith) in omega (arith, ints, h, v),
      λ level. one_row (pair_weight e g l) ballots (omega (arith, ints, level, v)),
    )

-- the election of this contest, with its own root goals
abbrev pub of_contest : Rule → Poll → Outcome → Election
of_contest rule p reported = record { rule = rule; poll = p; reported = reported; roots = root_goals rule p.c reported }

-- some complete goal holds after the changes
abbrev pub Met : Election → List (ℕ × List ℕ) → Type 0
Met e changes = (goal : Goal) × IsComplete e goal × Holds e goal (after e.poll changes).ballots

-- the goals of a rule by pairs are pairs
no_suffix : {A : Type 0} (c x y : ℕ) → Contains (with_winner c x) (Suffix (y ∷ [])) → A
no_suffix c x y there = let only = pairs_only c x (Suffix (y ∷ [])) there in let h = only.1 in cc

no_cover : {A : Type 0} (c x y : ℕ) → Contains (with_winner c x) (Cover y) → A
no_cover c x y there = let only = pairs_only c x (Cover y) there in let h = only.1 in cc

-- ---- plurality and Borda: somebody's score reaches the winner's

score_met : (e : Election) (points : List ℕ → ℕ → ℕ) (x : ℕ) (changes : List (ℕ × List ℕ)) → e.roots ≡ with_winner e.poll.c x
    → ((g l : ℕ) (ballots : List (List ℕ)) → Holds e (Pair g l) ballots ↔ (score_of points ballots l ≤ score_of points ballots g))
    → ((j : ℕ) × IsLevel points (after e.poll changes) x j) → Met e changes
score_met e points x changes roots row (j, is) =
    (Pair j x, subst (λ goals. Contains goals (Pair j x)) (sym roots) (pair_among e.poll.c x j is.stands is.other), (row j x (after e.poll changes).ballots).1 is.level)

met_score : (e : Election) (points : List ℕ → ℕ → ℕ) (x : ℕ) (changes : List (ℕ × List ℕ)) → e.roots ≡ with_winner e.poll.c x
    → ((g l : ℕ) (ballots : List (List ℕ)) → Holds e (Pair g l) ballots ↔ (score_of points ballots l ≤ score_of points ballots g))
    → Met e changes → (j : ℕ) × IsLevel points (after e.poll changes) x j
met_score e points x changes roots row (Root, complete, holds) = absurd complete
met_score e points x changes roots row (Suffix suffix, complete, holds) =
    no_suffix e.poll.c x complete.1.0 (subst (λ goals. Contains goals (Suffix (complete.1.0 ∷ []))) roots complete.1.2)
met_score e points x changes roots row (Cover y, complete, holds) = no_cover e.poll.c x y (subst (λ goals. Contains goals (Cover y)) roots complete)
met_score e points x changes roots row (Pair g l, complete, holds) =
    let is = pairs_are e.poll.c x g l (subst (λ goals. Contains goals (Pair g l)) roots complete) in
    let level = (row g l (after e.poll changes).ballots).0 holds in
    (g, record { stands = is.0; other = is.1; level = subst (λ y. score_of points (after e.poll changes).ballots y ≤ score_of points (after e.poll changes).ballots g) is.2 level })

plurality_turning : (p : Poll) (x : ℕ) (changes : List (ℕ × List ℕ)) → IsReported Plurality p (Winner x) → Turns Plurality p changes ↔ Met (of_contest Plurality p (Winner x)) changes
plurality_turning p x changes is =
    let e = of_contest Plurality p (Winner x) in
    let exactly = turns_exactly p x changes is in (
      λ turns. score_met e plurality_points x changes refl (pair_row e) (exactly.0 turns),
      λ met. exactly.1 (met_score e plurality_points x changes refl (pair_row e) met),
    )

borda_turning : (p : Poll) (x : ℕ) (changes : List (ℕ × List ℕ)) → IsReported Borda p (Winner x) → Turns Borda p changes ↔ Met (of_contest Borda p (Winner x)) changes
borda_turning p x changes is =
    let e = of_contest Borda p (Winner x) in
    let exactly = borda_turns_exactly p x changes is in (
      λ turns. score_met e (borda_points p.c) x changes refl (pair_row e) (exactly.0 turns),
      λ met. exactly.1 (met_score e (borda_points p.c) x changes refl (pair_row e) met),
    )

-- ---- Condorcet: somebody is preferred to the winner no less than the winner to them

pref_sum : (rows : List (List ℕ)) (x y : ℕ) → add_up (λ row. cond (prefers row x y) 1 0) rows ≡ pref_of rows x y
pref_sum rows x y = add_up-sum_by (λ row. cond (prefers row x y) 1 0) rows

some_is : (x y : ℕ) → Some x ≡ Some y → x ≡ y
some_is x y e = cc

winner_is : (x y : ℕ) → Winner x ≡ Winner y → x ≡ y
winner_is x y e = cc

nobody_is : (x : ℕ) → None ≡ Some x → ⊥
nobody_is x e = cc

rival_of_turn : (p : Poll) (x : ℕ) (changes : List (ℕ × List ℕ)) (o : Outcome) → IsReported Condorcet p (Winner x) → (IsReported Condorcet p o → ⊥) → Admits Condorcet (after p changes) o
    → (j : ℕ) × IsRival p.c (pref_of (after p changes).ballots) x j
rival_of_turn p x changes (Winner y) is unlike admitted =
    rival_of_other p.c (pref_of (after p changes).ballots) x (Some y) is.stands (λ e. unlike (subst (λ z. IsReported Condorcet p (Winner z)) (sym (some_is y x e)) is)) admitted
rival_of_turn p x changes NoWinner is unlike admitted = rival_of_other p.c (pref_of (after p changes).ballots) x None is.stands (nobody_is x) admitted
rival_of_turn p x changes (Seats shares) is unlike admitted = absurd admitted

turn_by : (p : Poll) (x : ℕ) (changes : List (ℕ × List ℕ)) (o : Option ℕ) → IsReported Condorcet p (Winner x) → o ≢ Some x
    → IsAdmittedOutcome p.c (pref_of (after p changes).ballots) o → Turns Condorcet p changes
turn_by p x changes (Some y) is differ admitted = (Winner y, λ r. differ (ap Some (winner_is y x (one_reported Condorcet p (Winner y) (Winner x) r is))), admitted)
turn_by p x changes None is differ admitted = (NoWinner, λ r. r x is, admitted)

rival_met : (p : Poll) (x : ℕ) (changes : List (ℕ × List ℕ)) → ((j : ℕ) × IsRival p.c (pref_of (after p changes).ballots) x j) → Met (of_contest Condorcet p (Winner x)) changes
rival_met p x changes (j, is) =
    let level = is.level in
    let a = pref_sum (after p changes).ballots x j in
    let b = pref_sum (after p changes).ballots j x in
    (Pair j x, pair_among p.c x j is.stands is.other, (pair_row (of_contest Condorcet p (Winner x)) j x (after p changes).ballots).1 (omega (arith, level, a, b)))

met_rival : (p : Poll) (x : ℕ) (changes : List (ℕ × List ℕ)) → Met (of_contest Condorcet p (Winner x)) changes → (j : ℕ) × IsRival p.c (pref_of (after p changes).ballots) x j
met_rival p x changes (Root, complete, holds) = absurd complete
met_rival p x changes (Suffix suffix, complete, holds) = no_suffix p.c x complete.1.0 complete.1.2
met_rival p x changes (Cover y, complete, holds) = no_cover p.c x y complete
met_rival p x changes (Pair g l, complete, holds) =
    let is = pairs_are p.c x g l complete in
    let level = (pair_row (of_contest Condorcet p (Winner x)) g l (after p changes).ballots).0 holds in
    let a = pref_sum (after p changes).ballots l g in
    let b = pref_sum (after p changes).ballots g l in
    let here : pref_of (after p changes).ballots l g ≤ pref_of (after p changes).ballots g l = omega (arith, level, a, b) in
    (g, record { stands = is.0; other = is.1; level = subst (λ y. pref_of (after p changes).ballots y g ≤ pref_of (after p changes).ballots g y) is.2 here })

condorcet_turning : (p : Poll) (x : ℕ) (changes : List (ℕ × List ℕ)) → IsReported Condorcet p (Winner x) → Turns Condorcet p changes ↔ Met (of_contest Condorcet p (Winner x)) changes
condorcet_turning p x changes is = (
  λ turns. rival_met p x changes (rival_of_turn p x changes turns.0 is turns.1 turns.2),
  λ met. let rival = met_rival p x changes met in
      let other = other_of_rival p.c (pref_of (after p changes).ballots) x rival.0 rival.1 in
      turn_by p x changes other.0 is other.1 other.2,
)

-- ---- D'Hondt: a party's next quotient reaches another one's last

first_sum : (rows : List (List ℕ)) (x n : ℕ) → add_up (λ row. cond (is_first row x) n 0) rows ≡ first_count rows x * n
first_sum [] x n = omega arith
first_sum (row ∷ rows) x n =
    let rest = first_sum rows x n in
    let a = sum_by-cons (λ r. cond (is_first r x) 1 0) row rows in
    rw a (by (is_first row x) (first_count rows x) rest)
  where
    by : (t : Bool) (m : ℕ) → add_up (λ row. cond (is_first row x) n 0) rows ≡ m * n → cond t n 0 + add_up (λ row. cond (is_first row x) n 0) rows ≡ (cond t 1 0 + m) * n
    by true m h = omega (arith, h)
    by false m h = omega (arith, h)

vote_at : (p : Poll) (a : ℕ) → a < p.c → get_or (votes_of p) a 0 ≡ first_count p.ballots a
vote_at p a lt = get_or-map-range_with_len (λ b. first_count p.ballots b) 0 p.c a a 0 lt (omega arith)

votes_long : (p : Poll) → length (votes_of p) ≡ p.c
votes_long p = length-map (range_with_len 0 p.c) (λ b. first_count p.ballots b) ∙ length-range_with_len 0 p.c

length_votes : (p : Poll) → IsPoll p → 1 ≤ length (votes_of p)
length_votes p is = let long = votes_long p in let some = is.some in omega arith

-- a party gains after the changes exactly where the row of its pair holds then
seat_row : (p q : Poll) (s : ℕ) (shares : List ℕ) (g l : ℕ) → g < q.c → l < q.c
    → Holds (of_contest (Dhondt s) p (Seats shares)) (Pair g l) q.ballots ↔ (get_or (votes_of q) l 0 * (get_or shares g 0 + 1) ≤ get_or (votes_of q) g 0 * get_or shares l 0)
seat_row p q s shares g l gc lc =
    let row = pair_row (of_contest (Dhondt s) p (Seats shares)) g l q.ballots in
    let a = first_sum q.ballots l (get_or shares g 0 + 1) in
    let b = first_sum q.ballots g (get_or shares l 0) in
    let vl = vote_at q l lc in
    let vg = vote_at q g gc in
    rw (vl, vg, ← a, ← b) row

gain_met : (p : Poll) (s : ℕ) (shares : List ℕ) (changes : List (ℕ × List ℕ)) → ((g l : ℕ) × IsSeatGain (votes_of (after p changes)) shares g l) → Met (of_contest (Dhondt s) p (Seats shares)) changes
gain_met p s shares changes (g, l, is) =
    let long = votes_long (after p changes) in
    let gc : g < p.c = (let h = is.gainer in omega arith) in
    let lc : l < p.c = (let h = is.loser in omega arith) in
    (Pair g l, seat_pair_among p.c g l shares gc lc (λ e. is.differ (sym e)) is.seated, (seat_row p (after p changes) s shares g l gc lc).1 is.reaches)

met_gain : (p : Poll) (s : ℕ) (shares : List ℕ) (changes : List (ℕ × List ℕ)) → Met (of_contest (Dhondt s) p (Seats shares)) changes → (g l : ℕ) × IsSeatGain (votes_of (after p changes)) shares g l
met_gain p s shares changes (Root, complete, holds) = absurd complete
met_gain p s shares changes (Suffix suffix, complete, holds) =
    let only = seat_pairs_only p.c shares (Suffix (complete.1.0 ∷ [])) complete.1.2 in
    let h = only.2 in
    cc
met_gain p s shares changes (Cover x, complete, holds) = let only = seat_pairs_only p.c shares (Cover x) complete in let h = only.2 in cc
met_gain p s shares changes (Pair g l, complete, holds) =
    let is = seat_pairs_are p.c g l shares complete in
    let long = votes_long (after p changes) in (
      g,
      l,
      record {
        gainer = omega (arith, is.0);
        loser = omega (arith, is.1);
        differ = λ e. is.2 (sym e);
        seated = is.3;
        reaches = (seat_row p (after p changes) s shares g l is.0 is.1).0 holds;
      },
    )

turn_of_another : (p : Poll) (s : ℕ) (shares : List ℕ) (changes : List (ℕ × List ℕ)) → IsReported (Dhondt s) p (Seats shares)
    → ((other : List ℕ) × (other ≢ shares) × IsAllocation (votes_of (after p changes)) s other) → Turns (Dhondt s) p changes
turn_of_another p s shares changes is (other, differ, alloc) = (Seats other, λ r. differ (r ∙ sym is), alloc)

another_of_turn : (p : Poll) (s : ℕ) (shares : List ℕ) (changes : List (ℕ × List ℕ)) (o : Outcome) → IsReported (Dhondt s) p (Seats shares) → (IsReported (Dhondt s) p o → ⊥)
    → Admits (Dhondt s) (after p changes) o → (other : List ℕ) × (other ≢ shares) × IsAllocation (votes_of (after p changes)) s other
another_of_turn p s shares changes (Seats other) is unlike admitted = (other, λ e. unlike (e ∙ is), admitted)
another_of_turn p s shares changes (Winner x) is unlike admitted = absurd admitted
another_of_turn p s shares changes NoWinner is unlike admitted = absurd admitted

seat_turning : (p : Poll) (s : ℕ) (shares : List ℕ) (changes : List (ℕ × List ℕ)) → IsPoll p → IsReported (Dhondt s) p (Seats shares)
    → Turns (Dhondt s) p changes ↔ Met (of_contest (Dhondt s) p (Seats shares)) changes
seat_turning p s shares changes poll is =
    let some : 1 ≤ length (votes_of (after p changes)) = (let a = votes_long (after p changes) in let b = poll.some in omega arith) in
    let here = reported_allocation (votes_of p) s (length_votes p poll) in
    let long : length shares ≡ length (votes_of (after p changes)) = ap length is ∙ here.parties ∙ votes_long p ∙ sym (votes_long (after p changes)) in
    let sum : seats_in_all shares ≡ s = ap seats_in_all is ∙ here.all in
    let exactly = another_where_gained (votes_of (after p changes)) shares s some long sum in (
      λ turns. gain_met p s shares changes (exactly.0 (another_of_turn p s shares changes turns.0 is turns.1 turns.2)),
      λ met. turn_of_another p s shares changes is (exactly.1 (met_gain p s shares changes met)),
    )

-- ---- all of them

pub turning_by : (rule : Rule) (p : Poll) (reported : Outcome) (changes : List (ℕ × List ℕ)) → IsDecidedByPairs rule reported → IsPoll p → IsReported rule p reported
    → Turns rule p changes ↔ Met (of_contest rule p reported) changes
turning_by Plurality p (Winner x) changes paired poll is = plurality_turning p x changes is
turning_by Plurality p NoWinner changes paired poll is = absurd is
turning_by Plurality p (Seats shares) changes paired poll is = absurd is
turning_by Borda p (Winner x) changes paired poll is = borda_turning p x changes is
turning_by Borda p NoWinner changes paired poll is = absurd is
turning_by Borda p (Seats shares) changes paired poll is = absurd is
turning_by Condorcet p (Winner x) changes paired poll is = condorcet_turning p x changes is
turning_by Condorcet p NoWinner changes paired poll is = absurd paired
turning_by Condorcet p (Seats shares) changes paired poll is = absurd is
turning_by (Dhondt s) p (Seats shares) changes paired poll is = seat_turning p s shares changes poll is
turning_by (Dhondt s) p (Winner x) changes paired poll is = absurd is
turning_by (Dhondt s) p NoWinner changes paired poll is = absurd is
turning_by Irv p reported changes paired poll is = absurd paired

pub pair_turning : (e : Election) (changes : List (ℕ × List ℕ)) → IsPoll e.poll → IsReported e.rule e.poll e.reported → IsDecidedByPairs e.rule e.reported
    → e.roots ≡ root_goals e.rule e.poll.c e.reported → Turns e.rule e.poll changes ↔ Met e changes
pair_turning e changes poll is paired roots =
    let with : List Goal → Election = λ goals. record { rule = e.rule; poll = e.poll; reported = e.reported; roots = goals } in
    subst (λ goals. Turns e.rule e.poll changes ↔ Met (with goals) changes) (sym roots) (turning_by e.rule e.poll e.reported changes paired poll is)
