use Rattle.std.proofs.Common.{◌∙◌, ap, arith, length}
use Rattle.std.proofs.lemmas.Grind.{common_steps}
use Rattle.ballot_form.specs.Ballots.{Poll}
use Rattle.ballot_make.proofs.DrawnLists.{roll_step}
use Rattle.ballot_make.proofs.ValidBallots.{valid_for}
use Rattle.ballot_make.proofs.contests.make_roll.Goals as goal

pub push_ballot-requires-clause-valid : goal.push_ballot-requires-clause-valid
push_ballot-requires-clause-valid c =
    valid_for c.args.c _ _ _ c.loop-made.invariant.candidates (c.as_slice.ensures.value ∙ c.in_ok-ballot.ensures.ballot)

pub loop-made-preserved : goal.loop-made-preserved
loop-made-preserved c = record {
  candidates = ap (λ (roll : Poll). roll.c) c.in_ok-push_ballot.ensures ∙ c.loop-made.invariant.candidates;
  made = grind (arith, common_steps, ap (λ (roll : Poll). length roll.ballots) c.in_ok-push_ballot.ensures);
  ballots = roll_step c.loop-made.roll _ c.in_ok-ballot.ballot.items _ _ _ _ _ _ _ c.loop-made-test.true
      c.loop-made.invariant.ballots c.in_ok-ballot.ensures.ballot c.in_ok-ballot.ensures.state c.as_slice.ensures.value
      c.in_ok-push_ballot.ensures;
}
