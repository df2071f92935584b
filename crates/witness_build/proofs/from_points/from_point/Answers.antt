use Rattle.std.proofs.Common.{ℕ, List, ◌≡◌, ◌∙◌, ap, length, sym, subst, arith}
use Rattle.std.specs.List.{zip}
use Rattle.ballot_form.specs.Alterations.{IsAlteration}
use Rattle.alteration_model.specs.Faults.{pairs_of}
use Rattle.alteration_model.specs.declared.puts.Put.{Put}
use Rattle.goal_rows.specs.Elections.{Election}
use Rattle.goal_rows.specs.Goals.{IsComplete}
use Rattle.goal_rows.specs.Races.{IsGroundIn, election_of}
use Rattle.goal_rows.specs.declared.parts.Ground.{Ground}
use Rattle.witness_build.specs.FromPoints.{IsFlowUnder, IsPointWithout, arcs_at, changes_at, new_ballots, replaced_at, replaced_numbers}
use Rattle.witness_build.specs.Witnesses.{IsMetBy}
use Rattle.witness_build.proofs.PointParts.{few_replaced, flow_at_point}
use Rattle.witness_build.proofs.PointWitness.{changes_alter, changes_count, changes_meet, not_root, numbers_count}
use Rattle.witness_build.proofs.from_points.from_point.Goals as goal

-- as many numbers as the point costs
total_is : (e : Election) (start : Ground) (whole slice numbers : List ℕ) → IsGroundIn e start → IsComplete e start.goal → IsPointWithout start whole
    → slice ≡ whole → numbers ≡ replaced_numbers e start slice → length numbers ≡ replaced_at start whole
total_is e start whole slice numbers is complete point same numbers_are =
    ap length (numbers_are ∙ ap (replaced_numbers e start) same) ∙ numbers_count e start whole is (not_root e start.goal complete) point

-- the flow, and the number of ballots, for the new ones
flow_is : (start : Ground) (whole slice flow items : List ℕ) (total : ℕ) → IsPointWithout start whole → slice ≡ whole → flow ≡ arcs_at start slice → items ≡ flow
    → total ≡ replaced_at start whole → IsFlowUnder start.goal items total
flow_is start whole slice flow items total point same flow_are items_are total_are =
    subst (IsFlowUnder start.goal items) (sym total_are)
    (subst (λ ys. IsFlowUnder start.goal ys (replaced_at start whole)) (sym (items_are ∙ flow_are ∙ ap (arcs_at start) same)) (flow_at_point start whole point))

-- the puts are the replacements that the point stands for
puts_are : (e : Election) (start : Ground) (whole first second flow items numbers listed : List ℕ) (ballots made : List (List ℕ)) (total : ℕ) (puts lent : List Put)
    → first ≡ whole → numbers ≡ replaced_numbers e start first → second ≡ whole → flow ≡ arcs_at start second → items ≡ flow → total ≡ replaced_at start whole
    → ballots ≡ new_ballots start.goal items total → listed ≡ numbers → made ≡ ballots → pairs_of puts ≡ zip listed made → lent ≡ puts
    → pairs_of lent ≡ changes_at e start whole
puts_are e start whole first second flow items numbers listed ballots made total puts lent one numbers_are two flow_are items_are total_are ballots_are listed_are made_are paired lent_are =
    ap pairs_of lent_are ∙ paired
    ∙ ap (λ ns. zip ns made) (listed_are ∙ numbers_are ∙ ap (replaced_numbers e start) one)
    ∙ ap (zip (replaced_numbers e start whole)) (made_are ∙ ballots_are
    ∙ ap (λ ys. new_ballots start.goal ys total) (items_are ∙ flow_are ∙ ap (arcs_at start) two)
    ∙ ap (new_ballots start.goal (arcs_at start whole)) total_are)

pub overflow_cast-len : goal.overflow_cast-len
overflow_cast-len c =
    let e = election_of c.args.race.now in
    let start = c.args.start.now in
    let whole = c.args.point.now.whole in
    let total = total_is e start whole _ _ c.requires.start c.requires.complete c.requires.point c.as_slice.ensures c.in_ok-numbers.ensures in
    let few = few_replaced e start whole c.requires.start c.requires.point in
    omega (arith, c.len.ensures, total, few)

pub new_ballots-requires-clause-flow : goal.new_ballots-requires-clause-flow
new_ballots-requires-clause-flow c =
    let e = election_of c.args.race.now in
    let start = c.args.start.now in
    let whole = c.args.point.now.whole in
    let total = c.len.ensures ∙ total_is e start whole _ _ c.requires.start c.requires.complete c.requires.point c.as_slice.ensures c.in_ok-numbers.ensures in
    flow_is start whole _ _ _ _ c.requires.point c.as_slice-2.ensures c.in_ok-flow.ensures c.as_slice-3.ensures.value total

pub from_puts-requires : goal.from_puts-requires
from_puts-requires c =
    let e = election_of c.args.race.now in
    let start = c.args.start.now in
    let whole = c.args.point.now.whole in
    let total = c.len.ensures ∙ total_is e start whole _ _ c.requires.start c.requires.complete c.requires.point c.as_slice.ensures c.in_ok-numbers.ensures in
    let puts = puts_are e start whole _ _ _ _ _ _ _ _ _ _ _ c.as_slice.ensures c.in_ok-numbers.ensures c.as_slice-2.ensures c.in_ok-flow.ensures c.as_slice-3.ensures.value total
    c.in_ok-ballots.ensures c.as_slice-4.ensures c.as_slice-5.ensures c.in_ok-puts.ensures c.as_slice-6.ensures.value in
    subst (IsAlteration e.poll) (sym puts) (changes_alter e start whole c.requires.start (not_root e start.goal c.requires.complete) c.requires.point)

changes_are : (c : goal.After-drop-numbers-inside-2) → c.in_ok-changes.changes ≡ changes_at (election_of c.args.race.now) c.args.start.now c.args.point.now.whole
changes_are c =
    let e = election_of c.args.race.now in
    let start = c.args.start.now in
    let whole = c.args.point.now.whole in
    let total = c.len.ensures ∙ total_is e start whole _ _ c.requires.start c.requires.complete c.requires.point c.as_slice.ensures c.in_ok-numbers.ensures in
    c.in_ok-changes.ensures
    ∙ puts_are e start whole _ _ _ _ _ _ _ _ _ _ _ c.as_slice.ensures c.in_ok-numbers.ensures c.as_slice-2.ensures c.in_ok-flow.ensures c.as_slice-3.ensures.value total
    c.in_ok-ballots.ensures c.as_slice-4.ensures c.as_slice-5.ensures c.in_ok-puts.ensures c.as_slice-6.ensures.value

pub returns-clause-changes : goal.returns-clause-changes
returns-clause-changes c = changes_are c

pub returns-clause-length : goal.returns-clause-length
returns-clause-length c =
    let e = election_of c.args.race.now in
    let start = c.args.start.now in
    let whole = c.args.point.now.whole in
    ap length (changes_are c) ∙ changes_count e start whole c.requires.start (not_root e start.goal c.requires.complete) c.requires.point

pub returns-clause-met : goal.returns-clause-met
returns-clause-met c =
    let e = election_of c.args.race.now in
    let start = c.args.start.now in
    let whole = c.args.point.now.whole in
    subst (λ goal. IsMetBy e goal c.in_ok-changes.changes) (sym c.in_ok-goal.ensures)
    (subst (IsMetBy e start.goal) (sym (changes_are c)) (changes_meet e start whole c.requires.start c.requires.complete c.requires.point))
