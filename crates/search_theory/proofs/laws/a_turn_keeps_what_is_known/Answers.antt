use Rattle.std.proofs.Common.{◌≤◌, subst, sym}
use Rattle.search_theory.specs.Leaves.{lowest}
use Rattle.search_theory.specs.Spots.{put_at}
use Rattle.search_theory.proofs.Facts.{laws_of}
use Rattle.search_theory.proofs.Turns.{lowest-first, step}
use Rattle.search_theory.proofs.laws.a_turn_keeps_what_is_known.Goals as goal

pub returns : goal.returns
returns c = λ p tree leaves i x way kids election known under first low shallow may made.
    let next = step p (laws_of p election known) tree leaves i x way kids under first low shallow may made in
    (next.0, subst (λ n. n ≤ lowest p.election (put_at i (λ y. kids) leaves)) (sym (lowest-first p.election i leaves x first)) next.1)
