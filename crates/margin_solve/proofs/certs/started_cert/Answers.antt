use Rattle.margin_solve.proofs.Ended.{budget_of, depth_of, met_of, not_nothing, point_of}
use Rattle.margin_solve.proofs.certs.started_cert.Goals as goal

pub unreachable-requires : goal.unreachable-requires
unreachable-requires c =
    not_nothing c.args.race.now c.requires.race c.requires.own c.args.budget c.requires.some c.requires.most c.args.found c.requires.narrow c.requires.shallow c.args.start.now
    c.requires.begun c.requires.found c.in-Nothing.is

pub returns-in-Met : goal.returns-in-Met
returns-in-Met c =
    met_of c.args.race.now c.requires.race c.requires.own c.args.budget c.requires.some c.requires.most c.args.found c.requires.narrow c.requires.shallow c.args.start.now
    c.requires.begun c.requires.found c.turned_cert.result c.in-Met.is c.turned_cert.ensures.parts c.turned_cert.ensures.turn

pub returns-in-AtPoint : goal.returns-in-AtPoint
returns-in-AtPoint c =
    point_of c.args.race.now c.requires.race c.requires.own c.args.budget c.requires.some c.requires.most c.args.found c.requires.narrow c.requires.shallow c.args.start.now
    c.requires.begun c.requires.found c.in-AtPoint.witness c.turned_cert-in-AtPoint.result c.in-AtPoint.is c.turned_cert-in-AtPoint.ensures.parts c.turned_cert-in-AtPoint.ensures.turn

pub returns-in-Budget : goal.returns-in-Budget
returns-in-Budget c =
    budget_of c.args.race.now c.requires.race c.requires.own c.args.budget c.requires.some c.requires.most c.args.found c.requires.narrow c.requires.shallow c.args.start.now
    c.requires.begun c.requires.found c.len-up.result c.turned_cert-in-Budget.result c.len-up.ensures.value c.in-Budget.is c.turned_cert-in-Budget.ensures.parts
    c.turned_cert-in-Budget.ensures.turn

pub returns-in-Depth : goal.returns-in-Depth
returns-in-Depth c =
    depth_of c.args.race.now c.requires.race c.requires.own c.args.budget c.requires.some c.requires.most c.args.found c.requires.narrow c.requires.shallow c.args.start.now
    c.requires.begun c.requires.found c.len-up.result c.turned_cert-in-Depth.result c.len-up.ensures.value c.in-Depth.is c.turned_cert-in-Depth.ensures.parts
    c.turned_cert-in-Depth.ensures.turn
