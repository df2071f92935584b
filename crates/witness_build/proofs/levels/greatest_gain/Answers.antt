use Rattle.std.proofs.Common.{arith}
use Rattle.witness_build.proofs.Grounds.{lone_of, lone_size}
use Rattle.witness_build.proofs.levels.greatest_gain.Goals as goal

pub returns-clause-value : goal.returns-clause-value
returns-clause-value c = λ e is.
    let lone = lone_of e c.args.start.now is c.requires.pair in
    let size = lone_size c.args.start.now.lone lone.top c.unsigned_abs.result lone.is lone.few c.unsigned_abs.ensures.value in
    omega (arith, size, lone.greatest)

pub returns-clause-few : goal.returns-clause-few
returns-clause-few c =
    let lone = lone_of c.requires.start.0 c.args.start.now c.requires.start.1 c.requires.pair in
    let size = lone_size c.args.start.now.lone lone.top c.unsigned_abs.result lone.is lone.few c.unsigned_abs.ensures.value in
    omega (arith, size, lone.few)
