use Rattle.std.proofs.lemmas.Result.{err_from_is_err_and}
use Rattle.cert_text.proofs.Steps.{top_fault, reported_fault, claim_fault, body_fault, last_fault, all_read}
use Rattle.cert_text.proofs.cert_read.read_all.Goals as goal

pub returns-in_err-rule : goal.returns-in_err-rule
returns-in_err-rule c =
    let p = err_from_is_err_and c.from_residual.result c.from_residual.ensures.1 in
    rw (p.1, p.2) (top_fault c.args.text.now c.in_err-rule.field-0.0 c.in_err-rule.ensures.top)

pub returns-in_err-reported : goal.returns-in_err-reported
returns-in_err-reported c =
    let p = err_from_is_err_and c.from_residual-in_err-reported.result c.from_residual-in_err-reported.ensures.1 in
    rw (p.1, p.2) (reported_fault c.args.text.now
    ((c.in_ok-rule.rule, (c.in_ok-rule.c, c.in_ok-rule.ballots)), (c.read_top.new.reader.number, c.read_top.new.reader.rest.now))
    c.in_err-reported.field-0.0 c.in_ok-rule.ensures.top c.in_err-reported.ensures.reported)

pub returns-in_err-claim : goal.returns-in_err-claim
returns-in_err-claim c =
    let p = err_from_is_err_and c.from_residual-in_err-claim.result c.from_residual-in_err-claim.ensures.1 in
    rw (p.1, p.2) (claim_fault c.args.text.now
    ((c.in_ok-rule.rule, (c.in_ok-rule.c, c.in_ok-rule.ballots)), (c.read_top.new.reader.number, c.read_top.new.reader.rest.now))
    (c.in_ok-reported.reported, (c.next_reported.new.reader.number, c.next_reported.new.reader.rest.now))
    c.in_err-claim.field-0.0 c.in_ok-rule.ensures.top c.in_ok-reported.ensures.reported c.in_err-claim.ensures.claim)

pub returns-in_err-goal : goal.returns-in_err-goal
returns-in_err-goal c =
    let p = err_from_is_err_and c.from_residual-in_err-goal.result c.from_residual-in_err-goal.ensures.1 in
    rw (p.1, p.2) (body_fault c.args.text.now
    ((c.in_ok-rule.rule, (c.in_ok-rule.c, c.in_ok-rule.ballots)), (c.read_top.new.reader.number, c.read_top.new.reader.rest.now))
    (c.in_ok-reported.reported, (c.next_reported.new.reader.number, c.next_reported.new.reader.rest.now))
    (c.in_ok-claim.claim, (c.next_claim.new.reader.number, c.next_claim.new.reader.rest.now))
    c.in_err-goal.field-0.0 c.in_ok-rule.ensures.top c.in_ok-reported.ensures.reported c.in_ok-claim.ensures.claim c.in_err-goal.ensures.body)

pub returns-in_err-tree : goal.returns-in_err-tree
returns-in_err-tree c =
    let p = err_from_is_err_and c.from_residual-in_err-tree.result c.from_residual-in_err-tree.ensures.1 in
    rw (p.1, p.2) (last_fault c.args.text.now
    ((c.in_ok-rule.rule, (c.in_ok-rule.c, c.in_ok-rule.ballots)), (c.read_top.new.reader.number, c.read_top.new.reader.rest.now))
    (c.in_ok-reported.reported, (c.next_reported.new.reader.number, c.next_reported.new.reader.rest.now))
    (c.in_ok-claim.claim, (c.next_claim.new.reader.number, c.next_claim.new.reader.rest.now))
    ((c.in_ok-goal.goal, c.in_ok-goal.puts), (c.read_body.new.reader.number, c.read_body.new.reader.rest.now))
    c.in_err-tree.field-0.0 c.in_ok-rule.ensures.top c.in_ok-reported.ensures.reported c.in_ok-claim.ensures.claim c.in_ok-goal.ensures.body c.in_err-tree.ensures)

pub returns : goal.returns
returns c = all_read c.args.text.now
    ((c.in_ok-rule.rule, (c.in_ok-rule.c, c.in_ok-rule.ballots)), (c.read_top.new.reader.number, c.read_top.new.reader.rest.now))
    (c.in_ok-reported.reported, (c.next_reported.new.reader.number, c.next_reported.new.reader.rest.now))
    (c.in_ok-claim.claim, (c.next_claim.new.reader.number, c.next_claim.new.reader.rest.now))
    ((c.in_ok-goal.goal, c.in_ok-goal.puts), (c.read_body.new.reader.number, c.read_body.new.reader.rest.now))
    c.in_ok-tree.tree c.in_ok-rule.ensures.top c.in_ok-reported.ensures.reported c.in_ok-claim.ensures.claim c.in_ok-goal.ensures.body c.in_ok-tree.ensures
