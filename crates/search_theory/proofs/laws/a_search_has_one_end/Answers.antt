use Rattle.search_theory.proofs.Ended.{one_end}
use Rattle.search_theory.proofs.Facts.{laws_of}
use Rattle.search_theory.proofs.laws.a_search_has_one_end.Goals as goal

pub returns : goal.returns
returns c = λ p tree t u one other election known d e. one_end p (laws_of p election known) tree t u one other d e
