use Rattle.dual_theory.proofs.CallerLemmas.{no_point_at_never}
use Rattle.dual_theory.proofs.laws.without_a_candidate_there_is_no_point.Goals as goal

pub returns : goal.returns
returns c = no_point_at_never
