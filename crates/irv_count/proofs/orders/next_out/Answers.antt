use Rattle.std.proofs.Common.{rules, ◌≡◌, length, get_or}
use Rattle.irv_count.specs.Rounds.{IsOut}
use Rattle.irv_count.proofs.Part.{not_none, same_out}
use Rattle.irv_count.proofs.orders.next_out.Goals as goal

pub unreachable-requires : goal.unreachable-requires
unreachable-requires c =
    let size : length c.held_counts.new.counts ≡ c.args.roll.now.c = search rules in
    not_none _ _ c.requires.some (rw size at c.in_default.ensures)

pub returns-clause-out : goal.returns-clause-out
returns-clause-out c =
    let size : length c.held_counts.new.counts ≡ c.args.roll.now.c = search rules in
    let out : IsOut c.args.against (λ x. get_or c.held_counts.new.counts x 0) c.args.standing c.args.roll.now.c c.in-Some.out = rw size at c.in-Some.ensures in
    same_out _ _ _ _ _ _ (rw size at c.held_counts.ensures.held) out
