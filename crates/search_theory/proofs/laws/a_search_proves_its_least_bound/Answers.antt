use Rattle.std.proofs.Common.{arith}
use Rattle.search_theory.specs.Leaves.{lowest}
use Rattle.search_theory.proofs.Ended.{tight}
use Rattle.search_theory.proofs.Facts.{laws_of}
use Rattle.search_theory.proofs.Proven.{proves}
use Rattle.search_theory.proofs.laws.a_search_proves_its_least_bound.Goals as goal

pub returns-clause-proof : goal.returns-clause-proof
returns-clause-proof c = λ p tree leaves election known under. proves p (laws_of p election known) tree leaves (lowest p.election leaves) under (omega arith)

pub returns-clause-tight : goal.returns-clause-tight
returns-clause-tight c = tight
