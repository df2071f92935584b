use Rattle.std.proofs.Common.{◌∙◌, sym}
use Rattle.goal_rows.specs.Nodes.{node_of}
use Rattle.goal_rows.specs.Races.{election_of}
use Rattle.margin_check.proofs.Nodes.{none_long, shaped_Branch, split_counted}
use Rattle.margin_check.proofs.walk.is_shaped.Goals as goal

pub returns-then-is_empty : goal.returns-then-is_empty
returns-then-is_empty c = split_counted (election_of c.args.race.now) (node_of c.args.start.now c.args.limits.now) c.args.tree.now c.in-Split.kids c.len.result c.has_kids.result
    c.in-Split.is (none_long c.args.limits.now (sym c.is_empty.ensures ∙ c.if-is_empty.true)) c.len.ensures c.has_kids.ensures

pub returns-in-Branch : goal.returns-in-Branch
returns-in-Branch c =
    let e = election_of c.args.race.now in
    let shape = shaped_Branch e (node_of c.args.start.now c.args.limits.now) c.args.tree.now c.in-Branch.feature c.in-Branch.field-1 c.in-Branch.field-2 c.in-Branch.field-3 c.in-Branch.is in
    (λ h. shape.1 (c.is_feature.ensures.0 h), λ h. c.is_feature.ensures.1 (shape.0 h))
