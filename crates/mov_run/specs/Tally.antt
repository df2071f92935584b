-- The text of a tally: the rule, the sizes, the names, what was counted, and the reported outcome.
use Rattle.std.specs.Prelude.{◌≡◌, ℕ, ◌+◌, ◌-◌, Bool, List, [], ◌∷◌, ◌++◌, None, codes, decimal, Option, Some, if◌then◌else◌, length, map, slice_index, slice_index_or}
use Rattle.std.specs.List.{flat_map, range_with_len}
use Rattle.ballot_csv.specs.BallotFile.{NamedPoll}
use Rattle.ballot_form.specs.Ballots.{Poll}
use Rattle.ballot_form.specs.Scores.{borda_points, first_count, plurality_points, score_of}
use Rattle.ballot_form.specs.declared.outcome.Outcome.{Outcome}
use Rattle.ballot_form.specs.declared.outcome.Outcome.TheVariants.{NoWinner, Winner}
use Rattle.ballot_form.specs.declared.rule.Rule.{Rule}
use Rattle.ballot_form.specs.declared.rule.Rule.TheVariants.{Plurality, Borda, Condorcet, Dhondt, Irv}
use Rattle.condorcet_count.specs.Preferences.{pref_of}
use Rattle.dhondt_seats.specs.Seats.{reported_seats, votes_of}
use Rattle.goal_rows.specs.Outcomes.{IsReported}
use Rattle.irv_count.specs.Orders.{IsOrderBy, held_count, left_after}
use Rattle.text_lines.specs.Words.{line_text}
use Rattle.cert_text.specs.CertText.{outcome_words, rule_words}

-- what is said of each of n numbers from a on, in order
abbrev pub for_each : ℕ → ℕ → (ℕ → List ℕ) → List ℕ
for_each a n say = flat_map say (range_with_len a n)

-- the line of the rule
abbrev pub rule_text : Rule → List ℕ
rule_text rule = line_text (rule_words rule)

-- the line of the reported outcome
abbrev pub reported_text : Outcome → List ℕ
reported_text outcome = line_text (outcome_words outcome)

-- the line of the candidate with this number, of these names
abbrev pub name_text : List (List ℕ) → ℕ → List ℕ
name_text names x = line_text (codes "name" ∷ decimal x ∷ slice_index_or names x [] ∷ [])

-- a line for each candidate's name
abbrev pub names_text : List (List ℕ) → List ℕ
names_text names = for_each 0 (length names) (name_text names)

-- the line of a candidate and its score
abbrev pub score_text : (ℕ → ℕ) → ℕ → List ℕ
score_text score x = line_text (codes "score" ∷ decimal x ∷ decimal (score x) ∷ [])

-- a line for each of c candidates, with its score
abbrev pub scores_text : ℕ → (ℕ → ℕ) → List ℕ
scores_text c score = for_each 0 c (score_text score)

-- the line of a pair: how many prefer x to y, and y to x
abbrev pub pair_text : (ℕ → ℕ → ℕ) → ℕ → ℕ → List ℕ
pair_text pref x y = line_text (codes "pair" ∷ decimal x ∷ decimal y ∷ decimal (pref x y) ∷ decimal (pref y x) ∷ [])

-- a line for each y of c candidates that comes after x
abbrev pub pairs_of : ℕ → (ℕ → ℕ → ℕ) → ℕ → List ℕ
pairs_of c pref x = for_each (x + 1) (c - (x + 1)) (pair_text pref x)

-- a line for each x < y of c candidates, by x and then by y
abbrev pub pairs_text : ℕ → (ℕ → ℕ → ℕ) → List ℕ
pairs_text c pref = for_each 0 c (pairs_of c pref)

-- the line of a party, its votes and its seats
abbrev pub party_text : (ℕ → ℕ) → (ℕ → ℕ) → ℕ → List ℕ
party_text votes seats a = line_text (codes "votes" ∷ decimal a ∷ decimal (votes a) ∷ codes "seats"
    ∷ decimal (seats a) ∷ [])

-- a line for each of c parties, with its votes and its seats
abbrev pub seats_text : ℕ → (ℕ → ℕ) → (ℕ → ℕ) → List ℕ
seats_text c votes seats = for_each 0 c (party_text votes seats)

-- what x holds, and a dash where it is out
abbrev pub held_field : (ℕ → Bool) → (ℕ → ℕ) → ℕ → List ℕ
held_field stands held x = if stands x then decimal (held x) else codes "-"

-- the line of the round with the number i + 1 of c candidates, of whom `out` goes out in it
abbrev pub round_text : ℕ → (ℕ → Bool) → (ℕ → ℕ) → ℕ → ℕ → List ℕ
round_text c stands held i out =
    line_text (codes "round" ∷ decimal (i + 1) ∷ codes "out" ∷ decimal out ∷ codes "held"
    ∷ map (held_field stands held) (range_with_len 0 c))

-- the line of the round in which the one at place i of the order goes out, those before it having gone
abbrev pub round_of : Poll → List ℕ → ℕ → List ℕ
round_of p order i = round_text p.c (left_after order i) (held_count (left_after order i) p.ballots) i (slice_index order i)

-- a line for each round, till one is left
abbrev pub rounds_text : Poll → List ℕ → List ℕ
rounds_text p order = for_each 0 (p.c - 1) (round_of p order)

-- the lines of what a rule counts: scores; pairs; votes and seats; the rounds of the reported order of elimination
abbrev pub IsCountText : Rule → Poll → List ℕ → Type 0
IsCountText Plurality p text = text ≡ scores_text p.c (score_of plurality_points p.ballots)
IsCountText Borda p text = text ≡ scores_text p.c (score_of (borda_points p.c) p.ballots)
IsCountText Condorcet p text = text ≡ pairs_text p.c (pref_of p.ballots)
IsCountText (Dhondt seats) p text = text ≡ seats_text p.c (first_count p.ballots) (λ a. slice_index (reported_seats (votes_of p) seats) a)
IsCountText Irv p text = (order : List ℕ) × IsOrderBy None p order × (text ≡ rounds_text p order)

-- the lines of the count and of the reported outcome
pub record IsCounted (rule : Rule) (p : Poll) (text : List ℕ) : Type 0 where
  pub count : List ℕ
  pub outcome : Outcome
  pub counted : IsCountText rule p count
  pub reported : IsReported rule p outcome
  pub lines : text ≡ count ++ reported_text outcome

-- the lines of the count and of the reported outcome were added to a text
abbrev pub AddsCount : Rule → Poll → List ℕ → List ℕ → Type 0
AddsCount rule p old new = (text : List ℕ) × IsCounted rule p text × (new ≡ old ++ text)

-- the lines above the count
abbrev pub head_text : Rule → NamedPoll → List ℕ
head_text rule k = rule_text rule
    ++ (line_text (codes "size" ∷ decimal k.poll.c ∷ decimal (length k.poll.ballots) ∷ []) ++ names_text k.names)

-- the text of the tally of a contest under a rule
pub record IsTally (rule : Rule) (k : NamedPoll) (text : List ℕ) : Type 0 where
  pub rest : List ℕ
  pub counted : IsCounted rule k.poll rest
  pub lines : text ≡ head_text rule k ++ rest

-- the outcome under Condorcet: who is chosen in all pairs, or nobody
abbrev pub condorcet_outcome_of : Option ℕ → Outcome
condorcet_outcome_of (Some x) = Winner x
condorcet_outcome_of None = NoWinner
