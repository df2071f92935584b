-- A contest has one tally under a rule.
use Rattle.std.proofs.Common.{ℕ, List, None, ◌≡◌, ◌++◌, ◌∙◌, sym, ap}
use Rattle.ballot_csv.specs.BallotFile.{NamedPoll}
use Rattle.ballot_form.specs.Ballots.{Poll}
use Rattle.ballot_form.specs.declared.rule.Rule.{Rule}
use Rattle.ballot_form.specs.declared.rule.Rule.TheVariants.{Plurality, Borda, Condorcet, Dhondt, Irv}
use Rattle.irv_count.proofs.Unique.{same_order}
use Rattle.goal_rows.proofs.OutcomesReported.{one_reported}
use Rattle.mov_run.specs.Tally.{IsCountText, IsCounted, IsTally, head_text, reported_text, rounds_text}

one_count : (rule : Rule) (p : Poll) (text other : List ℕ) → IsCountText rule p text → IsCountText rule p other → text ≡ other
one_count Plurality p text other a b = a ∙ sym b
one_count Borda p text other a b = a ∙ sym b
one_count Condorcet p text other a b = a ∙ sym b
one_count (Dhondt seats) p text other a b = a ∙ sym b
one_count Irv p text other a b = a.2 ∙ ap (rounds_text p) (same_order None p a.0 b.0 a.1 b.1) ∙ sym b.2

one_counted : (rule : Rule) (p : Poll) (text other : List ℕ) → IsCounted rule p text → IsCounted rule p other → text ≡ other
one_counted rule p text other a b =
    a.lines ∙ ap (λ t. t ++ reported_text a.outcome) (one_count rule p a.count b.count a.counted b.counted)
    ∙ ap (λ o. b.count ++ reported_text o) (one_reported rule p a.outcome b.outcome a.reported b.reported) ∙ sym b.lines

pub one_tally : (rule : Rule) (k : NamedPoll) (text other : List ℕ) → IsTally rule k text → IsTally rule k other → text ≡ other
one_tally rule k text other a b = a.lines ∙ ap (λ t. head_text rule k ++ t) (one_counted rule k.poll a.rest b.rest a.counted b.counted) ∙ sym b.lines
