use Rattle.std.proofs.Common.{arith, ◌<◌, ◌≡◌, ◌∙◌, length}
use Rattle.std.proofs.Math.Nat.{mul-le-mul_left}
use Rattle.goal_rows.specs.Goals.{gainer_points, loser_points}
use Rattle.goal_rows.specs.Races.{election_of, key_of}
use Rattle.goal_rows.specs.declared.goals.Goal.TheVariants.{Pair}
use Rattle.goal_rows.proofs.Classed.{class_more, counted_more, kinds_more}
use Rattle.goal_rows.proofs.grounds.tally_kinds.Goals as goal

pub loop-i-preserved : goal.loop-i-preserved
loop-i-preserved c =
    let kinds = c.args.race.now.kinds in
    let i = c.loop-i.i in
    let row = c.row-row.result.now in
    let count = c.count-count.result in
    let plus = gainer_points (election_of c.args.race.now) c.args.gainer c.args.loser in
    let minus = loser_points (election_of c.args.race.now) c.args.gainer c.args.loser in
    let so_far = c.loop-i.invariant in
    let lt : i < length kinds = (let e = c.len-i-end.ensures.value in omega (arith, e, c.loop-i-test.true)) in
    let more = kinds_more i kinds count lt c.count-count.ensures in
    let up = mul-le-mul_left count c.for_gainer-plus.ensures.few in
    let down = mul-le-mul_left count c.for_loser-minus.ensures.few in
    let key : c.pair_key.result ≡ key_of (election_of c.args.race.now) (Pair c.args.gainer c.args.loser) row =
    omega (arith, c.pair_key.ensures, c.for_gainer-plus.ensures.value, c.for_loser-minus.ensures.value) in
    rw (c.from.ensures, c.from-in-loop-i.ensures) (record {
      classes = c.in_ok-add.ensures.added ∙ class_more (key_of (election_of c.args.race.now) (Pair c.args.gainer c.args.loser)) i kinds row count c.pair_key.result
          c.loop-i.classes lt c.row-row.ensures c.count-count.ensures key so_far.classes;
      gained = counted_more plus i kinds row count c.for_gainer-plus.result c.loop-i.gained lt c.row-row.ensures c.count-count.ensures c.for_gainer-plus.ensures.value so_far.gained;
      lost = counted_more minus i kinds row count c.for_loser-minus.result c.loop-i.lost lt c.row-row.ensures c.count-count.ensures c.for_loser-minus.ensures.value so_far.lost;
      few_gained = omega (arith, more, up, so_far.few_gained);
      few_lost = omega (arith, more, down, so_far.few_lost);
    })
