use Rattle.std.proofs.Common.{ℕ, ◌≡◌, ◌<◌, ◌-◌, ◌++◌, ◌∙◌, length, ap, arith, rules}
use Rattle.std.specs.List.{range_with_len}
use Rattle.goal_rows.specs.Races.{election_of}
use Rattle.witness_build.specs.Levels.{deficit_under, gains_under, first_from}
use Rattle.witness_build.proofs.Cheapest.{chosen_size}
use Rattle.witness_build.proofs.Grounds.{gained_by_run, gains_of, gains_of_none}
use Rattle.witness_build.proofs.Picks.{picked_all, picked_enough, picked_greater, picked_level, picked_none}
use Rattle.witness_build.proofs.chosen.first_numbers.Goals as goal
use Rattle.witness_build.proofs.chosen.first_numbers.Goals.{in-None, in-Some+then-len-level, then-gain-level, else-gain-level+then-gain-level-2, else-gain-level+else-gain-level-2}

pub overflow_sub-gain : goal.overflow_sub-gain
overflow_sub-gain c =
    let e = election_of c.args.race.now in
    let here = gained_by_run e c.args.start.now.goal c.requires.pair.0 c.requires.pair.1 c.key.result c.greatest_gain-greatest.result c.loop-run.run-iterator c.in-Some.run' c.next.new.self
    c.requires.start.election c.requires.start.reached c.requires.pair.2 c.in-Some.ensures.steps c.key.ensures (c.greatest_gain-greatest.ensures.value e c.requires.start) in
    here.below

pub loop-run-preserved : goal.loop-run-preserved
loop-run-preserved c =
    let e = election_of c.args.race.now in
    let here = gained_by_run e c.args.start.now.goal c.requires.pair.0 c.requires.pair.1 c.key.result c.greatest_gain-greatest.result c.loop-run.run-iterator c.in-Some.run' c.next.new.self
    c.requires.start.election c.requires.start.reached c.requires.pair.2 c.in-Some.ensures.steps c.key.ensures (c.greatest_gain-greatest.ensures.value e c.requires.start) in
    let θ = c.args.level.gain in
    let equal = c.loop-run.equal in
    let gain = c.greatest_gain-greatest.result - c.key.result in
    let old = c.loop-run.run-iterator in
    let run = c.in-Some.run' in
    let new = c.next.new.self in
    let is = c.in-Some.ensures.steps in
    let numbers = c.loop-run.numbers.items in
    let more = c.push_numbers.new.numbers.items in
    let added = λ (n : ℕ) (e : c.if-gain-level.count ≡ n). c.in_ok-push_numbers.ensures ∙ ap (λ k. numbers ++ range_with_len run.first k) e in
    elim c.if-gain-level.branch [
      | then-gain-level w ↦ rw w.equal-is (picked_greater θ equal gain old run new numbers more _ _ _ is here.gains w.if-gain-level.true (added _ w.count-is) c.loop-run.invariant)
      | else-gain-level+then-gain-level-2 w ↦
          let fewer = w.min-count.ensures in
          rw w.equal-is (picked_level θ equal gain w.min-count.result old run new numbers more _ _ _ is here.gains w.if-gain-level-2.true
          (omega (arith, fewer)) (omega (arith, fewer)) (λ lt. omega (arith, fewer, lt)) (added _ w.count-is) c.loop-run.invariant)
      | else-gain-level+else-gain-level-2 w ↦
          let low : gain < θ = omega (arith, w.if-gain-level.false, w.if-gain-level-2.false) in
          rw w.equal-is (picked_none θ equal gain old run new numbers more _ _ _ is here.gains low (added _ w.count-is) c.loop-run.invariant)
    ]

pub returns : goal.returns
returns c =
    let e = election_of c.args.race.now in
    let gains = gains_under e c.args.start.now.goal in
    let whole = first_from c.args.level.gain c.args.level.equal 1 gains in
    let left = gains_of e c.args.start.now.goal c.loop-run.run-iterator.ballots in
    c.from_vec.ensures ∙ elim c.match-next.branch [
      | in-None w ↦ picked_all c.args.level.gain c.loop-run.equal c.loop-run.run-iterator.first c.loop-run.numbers.items left whole
          (let none = w.in-None.ensures.steps in ap (gains_of e c.args.start.now.goal) none.0 ∙ gains_of_none e c.args.start.now.goal) c.loop-run.invariant
      | in-Some+then-len-level w ↦
          let count : w.len.result ≡ length c.loop-run.numbers.items = search rules in
          let all = chosen_size (deficit_under e c.args.start.now.goal) gains c.args.level (c.requires.level e c.requires.start) in
          let full = w.if-len-level.true in
          picked_enough c.args.level.gain c.loop-run.equal c.loop-run.run-iterator.first c.loop-run.numbers.items left whole (omega (arith, count, all, full)) c.loop-run.invariant
    ]
