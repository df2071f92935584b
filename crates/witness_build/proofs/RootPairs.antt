-- The root goals of a contest that is decided by pairs are pairs, and there is none exactly where there is one candidate.
use Rattle.std.proofs.Common.{ℕ, zero, suc, List, [], ◌∷◌, ◌≡◌, ◌≢◌, ◌<◌, ◌≤◌, ◌∙◌, length, map, get_or, ap, sym, subst, inl, inr, arith, All}
use Rattle.std.specs.Prelude.{Contains, slice_index}
use Rattle.std.specs.List.{flat_map, range_with_len}
use Rattle.std.proofs.lemmas.Bool.{cases_lt}
use Rattle.std.proofs.lemmas.List.{length-map}
use Rattle.std.proofs.lemmas.List.Elements.{Contains-get_or}
use Rattle.std.proofs.lemmas.List.FromFn.{length-range_with_len}
use Rattle.ballot_form.specs.Ballots.{Poll}
use Rattle.ballot_form.specs.Rules.{IsRule}
use Rattle.ballot_form.specs.declared.outcome.Outcome.{Outcome}
use Rattle.ballot_form.specs.declared.outcome.Outcome.TheVariants.{Winner, NoWinner, Seats}
use Rattle.ballot_form.specs.declared.rule.Rule.{Rule}
use Rattle.ballot_form.specs.declared.rule.Rule.TheVariants.{Plurality, Borda, Condorcet, Dhondt, Irv}
use Rattle.dhondt_seats.specs.Seats.{reported_seats, seats_in_all, votes_of}
use Rattle.goal_rows.specs.Elections.{Election}
use Rattle.goal_rows.specs.Goals.{IsDecidedByPairs, IsElection, IsRootOf, is_seated, root_goals}
use Rattle.goal_rows.specs.Outcomes.{IsReported}
use Rattle.goal_rows.specs.Suffixes.{others, those}
use Rattle.goal_rows.specs.declared.goals.Goal.{Goal}
use Rattle.goal_rows.specs.declared.goals.Goal.TheVariants.{Root, Pair}
use Rattle.goal_rows.proofs.Lists.{lists_are, made_are}
use Rattle.goal_rows.proofs.Roots.{pair_among, seat_pair_among}
use Rattle.goal_rows.proofs.SeatMoves.{reported_allocation}
use Rattle.witness_build.specs.Witnesses.{IsPair}

-- ---- where pairs decide, the root goals are pairs

none_among : (goal : Goal) → Contains [] goal → ⊥
none_among goal there = omega (arith, there.1)

pair_with_winner : (c x : ℕ) (goal : Goal) → Contains (map (λ j. Pair j x) (others c x)) goal → IsPair goal
pair_with_winner c x goal there = let is = made_are (λ j. Pair j x) (others c x) goal there in (is.0, x, sym is.2)

pair_with_seated : (c : ℕ) (shares : List ℕ) (goal : Goal) → Contains (flat_map (λ g. map (λ l. Pair g l) (those c (is_seated shares g))) (range_with_len 0 c)) goal → IsPair goal
pair_with_seated c shares goal there =
    let among = lists_are (λ g. map (λ l. Pair g l) (those c (is_seated shares g))) c goal there in
    let is = made_are (λ l. Pair among.0 l) (those c (is_seated shares among.0)) goal among.2 in
    (among.0, is.0, sym is.2)

pair_of_own : (rule : Rule) (c : ℕ) (reported : Outcome) (goal : Goal) → IsDecidedByPairs rule reported → Contains (root_goals rule c reported) goal → IsPair goal
pair_of_own Plurality c (Winner x) goal decided there = pair_with_winner c x goal there
pair_of_own Plurality c NoWinner goal decided there = absurd (none_among goal there)
pair_of_own Plurality c (Seats shares) goal decided there = absurd (none_among goal there)
pair_of_own Borda c (Winner x) goal decided there = pair_with_winner c x goal there
pair_of_own Borda c NoWinner goal decided there = absurd (none_among goal there)
pair_of_own Borda c (Seats shares) goal decided there = absurd (none_among goal there)
pair_of_own Condorcet c (Winner x) goal decided there = pair_with_winner c x goal there
pair_of_own Condorcet c NoWinner goal decided there = absurd decided
pair_of_own Condorcet c (Seats shares) goal decided there = absurd (none_among goal there)
pair_of_own (Dhondt s) c (Seats shares) goal decided there = pair_with_seated c shares goal there
pair_of_own (Dhondt s) c (Winner x) goal decided there = absurd (none_among goal there)
pair_of_own (Dhondt s) c NoWinner goal decided there = absurd (none_among goal there)
pair_of_own Irv c reported goal decided there = absurd decided

pub own_are_pairs : (rule : Rule) (c : ℕ) (reported : Outcome) (roots : List Goal) → IsDecidedByPairs rule reported → roots ≡ root_goals rule c reported → All IsPair roots
own_are_pairs rule c reported roots decided own =
    subst (All IsPair) (sym own) (λ k d lt. pair_of_own rule c reported (get_or (root_goals rule c reported) k d) decided (Contains-get_or (root_goals rule c reported) k d lt))

-- ---- one candidate

no_pair_of_one : (e : Election) (goal : Goal) → e.poll.c ≡ 1 → IsPair goal → IsRootOf e goal → ⊥
no_pair_of_one e goal one (g, l, pair) is =
    let root : IsRootOf e (Pair g l) = subst (IsRootOf e) pair is in
    root.3 (omega (arith, root.1, root.2, one))

pub none_of_one : (e : Election) → IsElection e → All IsPair e.roots → e.poll.c ≡ 1 → length e.roots ≡ 0
none_of_one e election pairs one = elim (cases_lt 0 (length e.roots)) [
  | inl some ↦ absurd (no_pair_of_one e (get_or e.roots 0 Root) one (pairs 0 Root some) (election.roots.each 0 Root some))
  | inr none ↦ omega (arith, none)
]

-- ---- two candidates or more

some_of : (goals : List Goal) (goal : Goal) → Contains goals goal → 0 < length goals
some_of goals goal there = omega (arith, there.1)

-- another candidate than this one
other_than : (c x : ℕ) → 2 ≤ c → (y : ℕ) × (y < c) × (y ≢ x)
other_than c zero more = (1, omega arith, λ e. omega (arith, e))
other_than c (suc x) more = (0, omega arith, λ e. omega (arith, e))

-- some party has a seat
seated_party : (shares : List ℕ) → 1 ≤ seats_in_all shares → (a : ℕ) × (a < length shares) × (1 ≤ slice_index shares a)
seated_party [] some = absurd (omega (arith, some))
seated_party (zero ∷ shares) some = let rest = seated_party shares (omega (arith, some)) in (suc rest.0, omega (arith, rest.1), rest.2)
seated_party (suc n ∷ shares) some = (0, omega arith, omega arith)

abbrev under : Rule → Poll → Outcome → List Goal → Election
under rule p reported roots = record { rule = rule; poll = p; reported = reported; roots = roots }

with_winner_some : (c x : ℕ) (goals : List Goal) → 2 ≤ c → goals ≡ root_goals Plurality c (Winner x) → 0 < length goals
with_winner_some c x goals more is =
    let y = other_than c x more in
    rw is (some_of _ _ (pair_among c x y.0 y.1 y.2))

with_seats_some : (p : Poll) (s : ℕ) (shares : List ℕ) (goals : List Goal) → 1 ≤ s → 2 ≤ p.c → shares ≡ reported_seats (votes_of p) s
    → goals ≡ root_goals (Dhondt s) p.c (Seats shares) → 0 < length goals
with_seats_some p s shares goals some more is roots_are =
    let parties : length (votes_of p) ≡ p.c = length-map (range_with_len 0 p.c) _ ∙ length-range_with_len 0 p.c in
    let allocation = reported_allocation (votes_of p) s (omega (arith, parties, more)) in
    let sum : seats_in_all shares ≡ s = ap seats_in_all is ∙ allocation.all in
    let long : length shares ≡ p.c = ap length is ∙ allocation.parties ∙ parties in
    let l = seated_party shares (omega (arith, sum, some)) in
    let g = other_than p.c l.0 more in
    rw roots_are (some_of _ _ (seat_pair_among p.c g.0 l.0 shares g.1 (omega (arith, l.1, long)) (λ e. g.2 (sym e)) l.2))

some_under : (rule : Rule) (p : Poll) (reported : Outcome) (goals : List Goal) → IsRule rule → IsReported rule p reported → IsDecidedByPairs rule reported → 2 ≤ p.c
    → goals ≡ root_goals rule p.c reported → 0 < length goals
some_under Plurality p (Winner x) goals lawful is decided more roots_are = with_winner_some p.c x goals more roots_are
some_under Plurality p NoWinner goals lawful is decided more roots_are = absurd is
some_under Plurality p (Seats shares) goals lawful is decided more roots_are = absurd is
some_under Borda p (Winner x) goals lawful is decided more roots_are = with_winner_some p.c x goals more roots_are
some_under Borda p NoWinner goals lawful is decided more roots_are = absurd is
some_under Borda p (Seats shares) goals lawful is decided more roots_are = absurd is
some_under Condorcet p (Winner x) goals lawful is decided more roots_are = with_winner_some p.c x goals more roots_are
some_under Condorcet p NoWinner goals lawful is decided more roots_are = absurd decided
some_under Condorcet p (Seats shares) goals lawful is decided more roots_are = absurd is
some_under (Dhondt s) p (Seats shares) goals lawful is decided more roots_are = with_seats_some p s shares goals lawful.0 more is roots_are
some_under (Dhondt s) p (Winner x) goals lawful is decided more roots_are = absurd is
some_under (Dhondt s) p NoWinner goals lawful is decided more roots_are = absurd is
some_under Irv p reported goals lawful is decided more roots_are = absurd decided

pub some_of_more : (e : Election) → IsElection e → IsDecidedByPairs e.rule e.reported → e.roots ≡ root_goals e.rule e.poll.c e.reported → 2 ≤ e.poll.c → 0 < length e.roots
some_of_more e election decided own more = some_under e.rule e.poll e.reported e.roots election.lawful election.reported decided more own

-- no root goal is exactly one candidate
pub one_where_none : (e : Election) → IsElection e → IsDecidedByPairs e.rule e.reported → e.roots ≡ root_goals e.rule e.poll.c e.reported → length e.roots ≡ 0 → e.poll.c ≡ 1
one_where_none e election decided own none = elim (cases_lt 1 e.poll.c) [
  | inl more ↦ absurd (let some = some_of_more e election decided own (omega (arith, more)) in omega (arith, some, none))
  | inr one ↦ omega (arith, one, election.poll.some)
]
