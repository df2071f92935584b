use Rattle.std.proofs.Common.{◌≡◌, ◌∙◌, ap, arith, subst, sym, take}
use Rattle.std.specs.Int.{div_ceil}
use Rattle.alteration_model.specs.Faults.{pairs_of}
use Rattle.ballot_form.specs.Alterations.{IsAlteration}
use Rattle.witness_build.specs.LastRounds.{cuts_from, last_cuts, last_lead}
use Rattle.witness_build.proofs.TurnedRounds.{half_lead, last_cuts_alter}
use Rattle.witness_build.proofs.rounds.last_cuts.Goals as goal

pub from_puts-requires : goal.from_puts-requires
from_puts-requires c =
    let p = c.args.roll.now in
    let x = c.args.winner in
    let r = c.args.loser in
    let over = c.last_count-over.ensures in
    let under = c.last_count-under.ensures in
    let lead : c.saturating_sub-lead.result ≡ last_lead p x r = omega (arith, over, under, c.saturating_sub-lead.ensures) in
    let half : c.div_ceil.result ≡ half_lead p x r = c.div_ceil.ensures ∙ ap (λ n. div_ceil n 2) lead in
    let are : pairs_of c.as_slice.result.now ≡ last_cuts p x r =
    ap pairs_of c.as_slice.ensures.value ∙ c.in_ok-puts.ensures ∙ ap (λ k. take k (cuts_from x r 1 p.ballots)) half in
    subst (IsAlteration p) (sym are) (last_cuts_alter p x r c.requires.poll c.requires.loser)
