use Rattle.std.proofs.Common.{◌<◌, rules}
use Rattle.std.specs.Str.Parse.{digits_value}
use Rattle.text_lines.proofs.Digits.{value_above}
use Rattle.text_lines.proofs.numbers.value_up_to.Goals as goal

pub returns-in_err-n : goal.returns-in_err-n
returns-in_err-n c =
    let above : c.args.high < digits_value 10 c.args.digits.now = value_above c.args.digits.now c.loop-byte.byte-index c.loop-byte.n c.args.high c.requires c.loop-byte-test.true c.loop-byte.invariant.value c.in_err-n.ensures in
    search (rules, above)
