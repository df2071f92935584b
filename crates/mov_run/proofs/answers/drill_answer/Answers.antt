use Rattle.std.proofs.Common.{refl, inl}
use Rattle.mov_run.proofs.answers.drill_answer.Goals as goal

pub returns : goal.returns
returns c = inl (c.in_ok-text.text.items, c.in_ok-text.stopped, c.in_ok-text.ensures, rw (c.drill_status.ensures, c.from_vec.ensures) refl)
