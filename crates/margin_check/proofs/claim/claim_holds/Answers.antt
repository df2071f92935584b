use Rattle.cert_text.specs.declared.cert.Claim.TheVariants.{Bounds, Margin}
use Rattle.goal_rows.specs.Races.{election_of}
use Rattle.margin_check.proofs.Claims.{claim_for}
use Rattle.margin_check.proofs.claim.claim_holds.Goals as goal

pub returns-in-Margin : goal.returns-in-Margin
returns-in-Margin c = claim_for (election_of c.args.race.now) c.args.claim (Margin c.in-Margin.field-0) c.args.text.now c.args.altered.now.ballots c.is_met.result
    c.in-Margin.is c.is_met.ensures

pub returns-in-Bounds : goal.returns-in-Bounds
returns-in-Bounds c = claim_for (election_of c.args.race.now) c.args.claim (Bounds c.in-Bounds.low c.in-Bounds.up c.in-Bounds.stop) c.args.text.now c.args.altered.now.ballots
    c.is_met-in-Bounds.result c.in-Bounds.is c.is_met-in-Bounds.ensures
