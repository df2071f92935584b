use Rattle.ballot_form.proofs.Kept.{row_found, some_found}
use Rattle.ballot_form.proofs.marks.row_at.Goals as goal

pub overflow_sub-next : goal.overflow_sub-next
overflow_sub-next c = some_found _ _ _ _ _ c.requires.start c.requires.within c.runs_up_to-next.ensures.later

pub returns : goal.returns
returns c =
    let some = some_found _ _ _ _ _ c.requires.start c.requires.within c.runs_up_to-next.ensures.later in
    rw (c.start_at.ensures, c.start_at-2.ensures) (row_found _ _ _ _ _ c.requires.marks c.requires.start c.requires.within some c.runs_up_to-next.ensures.within c.runs_up_to-next.ensures.earlier c.runs_up_to-next.ensures.later)
