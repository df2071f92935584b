use Rattle.std.proofs.Common.{◌≡◌, ◌+◌, ◌-◌, ◌++◌, ◌∷◌, [], ◌∙◌, ap, refl, length-append, replicate, arith}
use Rattle.std.proofs.lemmas.List.{length-replicate}
use Rattle.ballot_form.specs.declared.limits.TheConstants.{MOST_BALLOTS}
use Rattle.ballot_form.specs.Alterations.{IsAlterationFrom}
use Rattle.ballot_form.specs.Ballots.{Poll}
use Rattle.alteration_model.proofs.Merged.{added_end, added_more, begins_at}
use Rattle.alteration_model.proofs.applied.push_run.Goals as goal

pub loop-change-preserved : goal.loop-change-preserved
loop-change-preserved c =
    let split = c.in-Some.ensures.some in
    let is : IsAlterationFrom c.loop-change.altered.c c.loop-change.number MOST_BALLOTS (c.in-Some.change.now ∷ c.in-Some.later.now) =
    rw split.0 at c.loop-change.invariant.left in
    let same : c.push_equal-in-Some.new.roll.c ≡ c.loop-change.altered.c =
    ap (λ (p : Poll). p.c) c.in_ok-push_equal-2.ensures ∙ ap (λ (p : Poll). p.c) c.in_ok-push_equal.ensures in
    let out = c.loop-change.altered.ballots ++ replicate (c.in-Some.change.now.0 - c.loop-change.number) c.args.run.now.row.now in
    let ballots : c.push_equal-in-Some.new.roll.ballots ≡ out ++ c.in-Some.change.now.1 ∷ [] =
    ap (λ (p : Poll). p.ballots) c.in_ok-push_equal-2.ensures ∙ ap (λ (p : Poll). p.ballots ++ c.as_slice.result.now ∷ []) c.in_ok-push_equal.ensures
    ∙ ap (λ x. out ++ x ∷ []) c.as_slice.ensures.value in
    record {
      within = omega (arith, split.1);
      same = same ∙ c.loop-change.invariant.same;
      long = rw ballots (simp (length-append, length-replicate) (omega (arith, is.0, c.loop-change.invariant.long)));
      left = rw same is.3;
      added = λ rows. rw ballots (added_more c.loop-change.altered.ballots c.args.run.now.row.now rows _ _ _ _ c.loop-change.number _ _ split.0 split.1 c.loop-change.invariant.left
          ∙ c.loop-change.invariant.added rows);
    }

pub returns : goal.returns
returns c =
    let later : IsAlterationFrom c.loop-change.altered.c (c.args.run.now.first + c.args.run.now.count) MOST_BALLOTS c.loop-change.left.now =
    begins_at _ _ _ _ _ (c.in_default.ensures.none refl) c.loop-change.invariant.left in
    let ballots : c.push_equal-2.new.roll.ballots
    ≡ c.loop-change.altered.ballots ++ replicate (c.args.run.now.first + c.args.run.now.count - c.loop-change.number) c.args.run.now.row.now =
    ap (λ (p : Poll). p.ballots) c.in_ok-push_equal-3.ensures in
    record {
      same = ap (λ (p : Poll). p.c) c.in_ok-push_equal-3.ensures ∙ c.loop-change.invariant.same;
      long = rw ballots (simp (length-append, length-replicate) (omega (arith, c.loop-change.invariant.long, c.loop-change.invariant.within, c.requires.place)));
      added = λ rows. rw ballots (added_end c.loop-change.altered.ballots c.args.run.now.row.now rows _ _ _ _ _ c.loop-change.invariant.within later
          ∙ c.loop-change.invariant.added rows);
      later = rw (← c.loop-change.invariant.same) later;
    }
