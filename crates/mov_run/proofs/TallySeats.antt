-- From votes and seats to their lines.
use Rattle.std.proofs.Common.{ℕ, List, ◌≡◌, ◌++◌, ◌<◌, ◌∙◌, length, refl, ap, arith}
use Rattle.std.specs.Prelude.{Result, OnOk, slice_index}
use Rattle.std.proofs.lemmas.List.FromFn.{get_or-map-range_with_len}
use Rattle.ballot_form.specs.Ballots.{Poll}
use Rattle.ballot_form.specs.Scores.{first_count}
use Rattle.ballot_form.specs.declared.outcome.Outcome.TheVariants.{Seats}
use Rattle.ballot_form.specs.declared.rule.Rule.TheVariants.{Dhondt}
use Rattle.dhondt_seats.specs.Seats.{reported_seats, votes_of}
use Rattle.mov_run.specs.Tally.{AddsCount, IsCounted, party_text, reported_text, seats_text}
use Rattle.mov_run.proofs.Ranges.{adds_both, each_same}

votes_at : (p : Poll) (a : ℕ) → a < p.c → slice_index (votes_of p) a ≡ first_count p.ballots a
votes_at p a lt = get_or-map-range_with_len (first_count p.ballots) 0 p.c a a 0 lt (omega arith)

party_same : (f h seats : ℕ → ℕ) (a : ℕ) → f a ≡ h a → party_text f seats a ≡ party_text h seats a
party_same f h seats a same = rw same refl

seats_same : (p : Poll) (seats : ℕ → ℕ) → seats_text p.c (λ a. slice_index (votes_of p) a) seats ≡ seats_text p.c (first_count p.ballots) seats
seats_same p seats = each_same (party_text (λ a. slice_index (votes_of p) a) seats) (party_text (first_count p.ballots) seats) 0 p.c (λ a lo hi. party_same (λ b. slice_index (votes_of p) b) (first_count p.ballots) seats a (votes_at p a (omega (arith, hi))))

seats_counted : (p : Poll) (s : ℕ) (votes shares text : List ℕ) → length votes ≡ p.c → votes ≡ votes_of p → shares ≡ reported_seats votes s
    → text ≡ seats_text (length votes) (λ a. slice_index votes a) (λ a. slice_index shares a) ++ reported_text (Seats shares) → IsCounted (Dhondt s) p text
seats_counted p s votes shares text long votes_are shares_are lines = record {
  count = seats_text (length votes) (λ a. slice_index votes a) (λ a. slice_index shares a);
  outcome = Seats shares;
  counted =
      ap (λ c. seats_text c (λ a. slice_index votes a) (λ a. slice_index shares a)) long
      ∙ ap (λ v. seats_text p.c (λ a. slice_index v a) (λ a. slice_index shares a)) votes_are
      ∙ seats_same p (λ a. slice_index shares a)
      ∙ ap (λ r. seats_text p.c (first_count p.ballots) (λ a. slice_index r a)) (shares_are ∙ ap (λ v. reported_seats v s) votes_are);
  reported = shares_are ∙ ap (λ v. reported_seats v s) votes_are;
  lines = lines;
}

-- the same, of what was counted and served and lent as slices
pub seats_added : {T E : Type 0} (p : Poll) (s : ℕ) (counted votes served shares old mid new : List ℕ) (r : Result T E) → length counted ≡ p.c → counted ≡ votes_of p → votes ≡ counted
    → served ≡ reported_seats votes s → shares ≡ served → mid ≡ old ++ seats_text (length votes) (λ a. slice_index votes a) (λ a. slice_index shares a)
    → OnOk r (new ≡ mid ++ reported_text (Seats shares)) → OnOk r (AddsCount (Dhondt s) p old new)
seats_added p s counted votes served shares old mid new r long votes_are lent served_are lent_too first last =
    adds_both (Dhondt s) p (seats_text (length votes) (λ a. slice_index votes a) (λ a. slice_index shares a)) (reported_text (Seats shares)) old mid new r
    (seats_counted p s votes shares _ (ap length lent ∙ long) (lent ∙ votes_are) (lent_too ∙ served_are) refl) first last
