use Rattle.std.proofs.Common.{◌≡◌, rules}
use Rattle.alteration_model.proofs.Merged.{ends_later}
use Rattle.alteration_model.proofs.applied.apply.Goals as goal

pub loop-run-init : goal.loop-run-init
loop-run-init c =
    let first : c.into_iter-run-iterator.result.first ≡ 1 = search rules in
    record {
      same = search rules;
      candidates = search rules;
      long = search rules;
      left = rw (first, c.as_slice-left.ensures) (ends_later _ _ _ _ _ c.candidates.ensures.poll.few c.requires);
      added = search rules;
    }
