use Rattle.std.proofs.Common.{◌≡◌, ◌∙◌, get_or, inl, inr, true, sym, arith}
use Rattle.irv_count.specs.Orders.{member}
use Rattle.irv_count.proofs.Members.{place_member}
use Rattle.goal_rows.proofs.LongerGrounds.{holder_on, leaders_of}
use Rattle.goal_rows.proofs.cover_grounds.leaders.Goals as goal

pub returns-in-Some : goal.returns-in-Some
returns-in-Some c =
    let suffix = c.args.suffix.now in
    let row = c.args.row.now in
    let is = sym c.holder_of.ensures ∙ c.in-Some.is in
    c.cover_key.ensures ∙ leaders_of suffix c.in-Some.x row (holder_on suffix c.in-Some.x row is) (inl is)

pub returns-in-None : goal.returns-in-None
returns-in-None c =
    let suffix = c.args.suffix.now in
    let row = c.args.row.now in
    let is = sym c.holder_of.ensures ∙ c.in-None.is in
    let on : member (get_or suffix 0 0) suffix ≡ true = place_member suffix 0 (let some = c.requires in omega arith) in
    c.cover_key-in-None.ensures ∙ leaders_of suffix (get_or suffix 0 0) row on (inr is)
