use Rattle.dual_theory.proofs.Rising.{none_twice}
use Rattle.dual_theory.proofs.laws.no_form_comes_twice.Goals as goal

pub returns : goal.returns
returns c = none_twice
