use Rattle.std.proofs.Common.{◌≡◌, ◌+◌, ◌∙◌, ap, arith, length, refl, subst, sym}
use Rattle.ballot_form.specs.Ballots.{Poll}
use Rattle.goal_rows.specs.Outcomes.{IsReported}
use Rattle.margin_check.specs.Validity.{cert_visits, election_by, level_of}
use Rattle.margin_check.specs.Verdicts.{IsFirstWithout}
use Rattle.margin_check.specs.Walks.{Gives}
use Rattle.margin_check.specs.declared.verdict.Reason.TheVariants as reasons
use Rattle.margin_check.specs.declared.walk.Asked.TheVariants.{Shape, Cuts}
use Rattle.margin_check.proofs.Judging.{as_many_after, came_through, came_to, cuts_hold, fails_by, few_places, known, other_outcome, refuse}
use Rattle.margin_check.proofs.judge.judge.Goals as goal

pub returns-then-not-equals : goal.returns-then-not-equals
returns-then-not-equals c =
    let p = c.args.roll.now in
    let cert = c.args.cert.now in
    let race = c.in_ok-race.race in
    let sizes = c.has_sizes.ensures.0 c.if-not-has_sizes.false in
    let here = subst (λ r. IsReported r p race.reported) c.in_ok-race.ensures.rule (subst (λ q. IsReported race.rule q race.reported) c.in_ok-race.ensures.roll c.in_ok-race.ensures.race.election.reported) in
    refuse p cert reasons.ReportedDiffers 4 c.refused-then-not-equals.result c.refused-then-not-equals.ensures (record {
      before = (sizes, tt);
      fails = (other_outcome cert.rule p race.reported cert.reported c.equals.result here c.equals.ensures c.if-not-equals.true, refl);
    })

pub bad_alteration-requires : goal.bad_alteration-requires
bad_alteration-requires c =
    record { few = few_places c.args.roll.now c.args.cert.now c.as_slice.result.now c.in-Err.fault c.requires.printable c.as_slice.ensures c.in-Err.ensures.gives }

pub claim_holds-requires-clause-same_length : goal.claim_holds-requires-clause-same_length
claim_holds-requires-clause-same_length c =
    as_many_after c.args.roll.now c.in_ok-altered.altered c.in-Ok.changes c.in_ok-altered.ensures ∙ sym (ap (λ (q : Poll). length q.ballots) c.in_ok-race.ensures.roll)

pub returns-then-not-holds : goal.returns-then-not-holds
returns-then-not-holds c =
    let p = c.args.roll.now in
    let cert = c.args.cert.now in
    let race = c.in_ok-race.race in
    let so = known p cert race c.in_ok-race.ensures.race c.in_ok-race.ensures.rule c.in_ok-race.ensures.roll (c.equals.ensures.0 c.if-not-equals.false) c.in_ok-race.ensures.roots
    (c.has_sizes.ensures.0 c.if-not-has_sizes.false) c.in_ok-altered.altered c.as_slice.result.now c.in-Ok.changes
    c.in_ok-holds.holds c.in_ok-altered.ensures c.in-Ok.ensures.gives.1 c.as_slice.ensures c.in-Ok.ensures.alteration c.in_ok-holds.ensures in
    refuse p cert reasons.ClaimFails 6 c.refused-then-not-holds.result c.refused-then-not-holds.ensures (record {
      before = (so.sizes, (so.reported, (so.alteration, tt)));
      fails = (fails_by c.in_ok-holds.holds so.claim c.if-not-holds.true, refl);
    })

pub returns-in-Stopped : goal.returns-in-Stopped
returns-in-Stopped c =
    let p = c.args.roll.now in
    let cert = c.args.cert.now in
    let race = c.in_ok-race.race in
    let so = known p cert race c.in_ok-race.ensures.race c.in_ok-race.ensures.rule c.in_ok-race.ensures.roll (c.equals.ensures.0 c.if-not-equals.false) c.in_ok-race.ensures.roots
    (c.has_sizes.ensures.0 c.if-not-has_sizes.false) c.in_ok-altered.altered c.as_slice.result.now c.in-Ok.changes
    c.in_ok-holds.holds c.in_ok-altered.ensures c.in-Ok.ensures.gives.1 c.as_slice.ensures c.in-Ok.ensures.alteration c.in_ok-holds.ensures in
    let first = came_to p cert race so.same Shape c.in_ok-number.field-0 c.in_ok-number.ensures.end c.in-Stopped.number c.in-Stopped.is in
    refuse p cert reasons.ShapeDiffers (c.first_line.result + c.in-Stopped.number) c.refused-in-Stopped.result c.refused-in-Stopped.ensures (record {
      before = (so.sizes, (so.reported, (so.alteration, (so.claim.0 c.if-not-holds.false, tt))));
      fails = (first.0, first.1, omega (arith, first.2, c.first_line.ensures.value));
    })

pub returns-in-Stopped-2 : goal.returns-in-Stopped-2
returns-in-Stopped-2 c =
    let p = c.args.roll.now in
    let cert = c.args.cert.now in
    let race = c.in_ok-race.race in
    let so = known p cert race c.in_ok-race.ensures.race c.in_ok-race.ensures.rule c.in_ok-race.ensures.roll (c.equals.ensures.0 c.if-not-equals.false) c.in_ok-race.ensures.roots
    (c.has_sizes.ensures.0 c.if-not-has_sizes.false) c.in_ok-altered.altered c.as_slice.result.now c.in-Ok.changes
    c.in_ok-holds.holds c.in_ok-altered.ensures c.in-Ok.ensures.gives.1 c.as_slice.ensures c.in-Ok.ensures.alteration c.in_ok-holds.ensures in
    let shape = came_through p cert race so.same Shape c.in_ok-number.field-0 c.in_ok-number.ensures.end c.in_default.field-0 c.in_default.is in
    let t : c.level.result ≡ level_of (length p.ballots) cert.claim = c.level.ensures ∙ ap (λ n. level_of n cert.claim) c.len-2.ensures.value in
    let first = came_to p cert race so.same (Cuts c.level.result) c.in_ok-number-2.field-0 c.in_ok-number-2.ensures.end c.in-Stopped-2.number c.in-Stopped-2.is in
    refuse p cert reasons.CutFails (c.first_line-in-Stopped-2.result + c.in-Stopped-2.number) c.refused-in-Stopped-2.result c.refused-in-Stopped-2.ensures (record {
      before = (so.sizes, (so.reported, (so.alteration, (so.claim.0 c.if-not-holds.false, (shape, tt)))));
      fails = (
        first.0,
        subst (λ n. IsFirstWithout (Gives (election_by p cert) (Cuts n)) (cert_visits p cert) first.0) t first.1,
        omega (arith, first.2, c.first_line-in-Stopped-2.ensures.value),
      );
    })

pub returns-then-not-has_order : goal.returns-then-not-has_order
returns-then-not-has_order c =
    let p = c.args.roll.now in
    let cert = c.args.cert.now in
    let race = c.in_ok-race.race in
    let so = known p cert race c.in_ok-race.ensures.race c.in_ok-race.ensures.rule c.in_ok-race.ensures.roll (c.equals.ensures.0 c.if-not-equals.false) c.in_ok-race.ensures.roots
    (c.has_sizes.ensures.0 c.if-not-has_sizes.false) c.in_ok-altered.altered c.as_slice.result.now c.in-Ok.changes
    c.in_ok-holds.holds c.in_ok-altered.ensures c.in-Ok.ensures.gives.1 c.as_slice.ensures c.in-Ok.ensures.alteration c.in_ok-holds.ensures in
    let shape = came_through p cert race so.same Shape c.in_ok-number.field-0 c.in_ok-number.ensures.end c.in_default.field-0 c.in_default.is in
    let cuts = cuts_hold p cert race so.same c.level.result c.in_ok-number-2.field-0 c.in_ok-number-2.ensures.end
    (c.level.ensures ∙ ap (λ n. level_of n cert.claim) c.len-2.ensures.value) c.in_default-2.field-0 c.in_default-2.is in
    refuse p cert reasons.NumbersDisagree 5 c.refused-then-not-has_order.result c.refused-then-not-has_order.ensures (record {
      before = (so.sizes, (so.reported, (so.alteration, (so.claim.0 c.if-not-holds.false, (shape, (cuts, tt))))));
      fails = (fails_by c.has_order.result c.has_order.ensures c.if-not-has_order.true, refl);
    })

pub returns : goal.returns
returns c =
    let p = c.args.roll.now in
    let cert = c.args.cert.now in
    let race = c.in_ok-race.race in
    let so = known p cert race c.in_ok-race.ensures.race c.in_ok-race.ensures.rule c.in_ok-race.ensures.roll (c.equals.ensures.0 c.if-not-equals.false) c.in_ok-race.ensures.roots
    (c.has_sizes.ensures.0 c.if-not-has_sizes.false) c.in_ok-altered.altered c.as_slice.result.now c.in-Ok.changes
    c.in_ok-holds.holds c.in_ok-altered.ensures c.in-Ok.ensures.gives.1 c.as_slice.ensures c.in-Ok.ensures.alteration c.in_ok-holds.ensures in
    let shape = came_through p cert race so.same Shape c.in_ok-number.field-0 c.in_ok-number.ensures.end c.in_default.field-0 c.in_default.is in
    let cuts = cuts_hold p cert race so.same c.level.result c.in_ok-number-2.field-0 c.in_ok-number-2.ensures.end
    (c.level.ensures ∙ ap (λ n. level_of n cert.claim) c.len-2.ensures.value) c.in_default-2.field-0 c.in_default-2.is in
    record {
      head = so.sizes;
      reported = so.reported;
      alteration = so.alteration;
      claim = so.claim.0 c.if-not-holds.false;
      shape = shape;
      cuts = cuts;
      numbers = c.has_order.ensures.0 c.if-not-has_order.false;
    }
