use Rattle.std.proofs.Common.{◌<◌, ◌∙◌, ap, length, sym, subst, arith}
use Rattle.std.specs.Prelude.{Contains}
use Rattle.std.proofs.lemmas.List.{get_or_read}
use Rattle.ballot_form.specs.Runs.{Left}
use Rattle.signature_class.specs.Classes.{keys_of}
use Rattle.goal_rows.specs.Races.{election_of}
use Rattle.witness_build.proofs.LowRuns.{all_so_far, none_so_far, run_has, run_more}
use Rattle.witness_build.proofs.PointParts.{classes_first}
use Rattle.witness_build.proofs.PointWitness.{not_root}
use Rattle.witness_build.proofs.from_points.replaced_numbers.Goals as goal

pub loop-run-init : goal.loop-run-init
loop-run-init c =
    let e = election_of c.args.race.now in
    let start = c.args.start.now in
    let begins = c.into_iter-run-iterator.ensures.into_iter_gives ∙ c.runs-run-items.ensures.value in
    none_so_far e start c.args.whole.now c.new-numbers.result.items c.in_ok-left.left.items c.into_iter-run-iterator.result c.requires.start
    (not_root e start.goal c.requires.complete) c.new-numbers.ensures.items c.in_ok-left.ensures.items (ap (λ (l : Left). l.first) begins) (ap (λ (l : Left). l.ballots) begins)

pub class_of-class-requires : goal.class_of-class-requires
class_of-class-requires c =
    let e = election_of c.args.race.now in
    let start = c.args.start.now in
    subst (Contains (keys_of start.classes)) (sym c.key.ensures)
    (run_has e start c.loop-run.run-iterator c.in-Some.run' c.next.new.self c.in-Some.ensures.steps c.loop-run.invariant.have)

pub index-requires : goal.index-requires
index-requires c =
    let within = c.class_of-class.ensures.within in
    let first = classes_first c.args.start.now c.args.whole.now c.requires.point in
    let long = c.loop-run.invariant.long in
    omega (arith, within, first, long)

pub loop-run-preserved : goal.loop-run-preserved
loop-run-preserved c =
    let e = election_of c.args.race.now in
    let start = c.args.start.now in
    let left = c.loop-run.left.items in
    let place = c.class_of-class.result in
    let long = c.loop-run.invariant.long in
    let first = classes_first start c.args.whole.now c.requires.point in
    let within : place < length left = omega (arith, c.class_of-class.ensures.within, first, long) in
    let value = get_or_read left place c.index_mut.result.now within c.index_mut.ensures.value 0 in
    let before = get_or_read left place c.index.result.now within c.index.ensures 0 in
    run_more e start c.args.whole.now c.loop-run.numbers.items c.push_numbers.new.numbers.items left place c.index_mut.result.now
    c.min-count.result c.key.result c.loop-run.run-iterator c.in-Some.run' c.next.new.self c.in-Some.ensures.steps c.key.ensures
    (record { within = c.class_of-class.ensures.within; key_is = c.class_of-class.ensures.key; before = c.class_of-class.ensures.first })
    value (omega (arith, c.min-count.ensures, c.from.ensures, value, before)) c.in_ok-push_numbers.ensures c.loop-run.invariant

pub returns : goal.returns
returns c =
    let e = election_of c.args.race.now in
    let none = c.in-None.ensures.steps in
    c.from_vec.ensures
    ∙ all_so_far e c.args.start.now c.args.whole.now c.loop-run.numbers.items c.loop-run.left.items c.loop-run.run-iterator none.0 c.loop-run.invariant
