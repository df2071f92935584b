use Rattle.std.proofs.Common.{◌+◌, ◌++◌, ◌∙◌, ap, sym, arith}
use Rattle.std.proofs.lemmas.Iterator.{YieldsList-from_range, items_from_drains}
use Rattle.std.proofs.lemmas.List.{map-id}
use Rattle.witness_build.proofs.chosen.push_numbers.Goals as goal

pub returns : goal.returns
returns c =
    let ran = c.in_ok-extend.ensures.ran in
    let drains = ran.4 in
    let numbers = YieldsList-from_range c.args.first (c.args.first + c.args.count) c.args.count ran.2 (omega arith) in
    let each = sym (map-id ran.1) ∙ items_from_drains ran.1 (drains.1.0, drains.1.1, λ _. (drains.0, drains.1.2)) numbers in
    ran.3.0 ∙ ap (λ more. c.args.numbers.now.items ++ more) each
