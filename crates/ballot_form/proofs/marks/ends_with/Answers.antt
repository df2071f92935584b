use Rattle.std.proofs.Common.{rules, ◌≡◌, Some, slice_get, ◌-◌, length}
use Rattle.ballot_form.proofs.Kept.{last_row_is}
use Rattle.ballot_form.proofs.marks.ends_with.Goals as goal

pub returns-in-Some : goal.returns-in-Some
returns-in-Some c =
    let at : slice_get c.args.marks.now (length c.args.marks.now - 1) ≡ Some c.in-Some.mark.now = search rules in
    let last = last_row_is c.args.marks.now c.args.cells.now c.in-Some.mark.now at in
    search rules
