-- The walks so far, after one more.
use Rattle.std.proofs.Common.{◌≡◌, ℕ, zero, suc, ◌+◌, List, [], ◌∷◌, ◌++◌, sym, ◌∙◌, arith}
use Rattle.std.proofs.lemmas.List.{append-nil, append_assoc}
use Rattle.sig_graph.specs.Walks.{flow_after, split_of, IsWalk}
use Rattle.sig_graph.proofs.LeastEnds.{walk_is_one}

-- the walks so far and the rest of them, after one walk more
pub split_on : (m : ℕ) (f : List ℕ) (paths whole : List (List ℕ)) (n k : ℕ) (path left : List ℕ) →
    paths ++ split_of m f n ≡ whole → n ≡ k + 1 →
    IsWalk m f 0 path → left ≡ flow_after m f 0 path → (paths ++ path ∷ []) ++ split_of m left k ≡ whole
unfolding split_of
split_on m f paths whole zero k path left is one walk after = absurd (omega arith)
split_on m f paths whole (suc n) k path left is one walk after =
    let e : n ≡ k = omega arith in
    append_assoc paths (path ∷ []) (split_of m left k)
    ∙ rw (after, walk_is_one m f path walk, ← e) is

-- once none is to be taken the walks are whole
pub split_done : (m : ℕ) (f : List ℕ) (paths whole : List (List ℕ)) (n : ℕ) → paths ++ split_of m f n ≡ whole →
    n ≡ 0 → paths ≡ whole
unfolding split_of
split_done m f paths whole zero is none = sym (append-nil paths) ∙ is
split_done m f paths whole (suc n) is none = absurd (omega arith)
