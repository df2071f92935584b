use Rattle.witness_build.proofs.Cheapest.{no_shorter}
use Rattle.witness_build.proofs.laws.no_shorter_alteration_meets_a_root_pair.Goals as goal

pub returns : goal.returns
returns c = no_shorter
