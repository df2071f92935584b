use Rattle.std.proofs.Common.{rules, ◌≡◌, length}
use Rattle.irv_count.proofs.Legality.{least_alike}
use Rattle.irv_count.proofs.legal.is_least_held.Goals as goal

pub returns : goal.returns
returns c =
    let size : length c.held_counts.new.counts ≡ c.args.roll.now.c = search rules in
    let same = least_alike _ _ c.args.standing c.args.roll.now.c c.args.out c.requires.below (rw size at c.held_counts.ensures.held) in
    let is = rw size at c.is_least.ensures in
    (λ t. same.0 (is.0 t), λ h. is.1 (same.1 h))
