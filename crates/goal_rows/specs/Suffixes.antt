-- Suffixes of an order of elimination, and covers. A suffix lists its candidates from the one who goes out first to the
-- one who wins: it says that they are the last to stand, and go out in this order. A cover says that nobody is
-- preferred to a candidate by more ballots than prefer the candidate.
use Rattle.std.specs.Prelude.{ℕ, ◌==◌, ◌&&◌, Bool, List, [], ◌∷◌, ◌++◌, if◌then◌else◌, filter, map, not, ℤ, pos, ◌-ℤ◌}
use Rattle.std.specs.List.{list_any, range_with_len}
use Rattle.ballot_form.specs.Scores.{is_some_of}
use Rattle.condorcet_count.specs.Preferences.{prefers}
use Rattle.irv_count.specs.Orders.{holder, member}
use Rattle.row_program.specs.declared.Feature.{Feature}
use Rattle.row_program.specs.declared.Feature.TheVariants.{From, Arc}
use Rattle.signature_class.specs.Signatures.{cover_key, signature_of, suffix_key}

-- ---- candidates

-- the candidates below c that pass, ascending
abbrev pub those : ℕ → (ℕ → Bool) → List ℕ
those c test = filter test (range_with_len 0 c)

-- the candidates below c other than x, ascending
abbrev pub others : ℕ → ℕ → List ℕ
others c x = those c (λ j. not (j == x))

-- ---- rows

-- 1 for a ballot that y holds while these stand
abbrev pub hold_points : List ℕ → ℕ → List ℕ → ℕ
hold_points standing y ballot = if is_some_of (holder (λ z. member z standing) ballot) y then 1 else 0

-- while these stand, 1 for a ballot that y holds, and -1 for one that x holds
abbrev pub hold_weight : List ℕ → ℕ → ℕ → List ℕ → ℤ
hold_weight standing y x ballot = pos (hold_points standing y ballot) -ℤ pos (hold_points standing x ballot)

-- the rows of a suffix: while all of it stand, each other one of it holds at least as many ballots as the one who goes
-- out first; and then the rows of those who are left
abbrev pub suffix_rows : List ℕ → List (List ℕ → ℤ)
suffix_rows [] = []
suffix_rows (x ∷ rest) = map (λ y. hold_weight (x ∷ rest) y x) rest ++ suffix_rows rest

-- 1 for a ballot that prefers x to y
abbrev pub prefer_points : ℕ → ℕ → List ℕ → ℕ
prefer_points x y ballot = if prefers ballot x y then 1 else 0

-- 1 for a ballot that prefers x to y, and -1 for one that prefers y to x
abbrev pub prefer_weight : ℕ → ℕ → List ℕ → ℤ
prefer_weight x y ballot = pos (prefer_points x y ballot) -ℤ pos (prefer_points y x ballot)

-- the rows of the cover of x, of c candidates: at least as many ballots prefer x to each other one as that one to x
abbrev pub cover_rows : ℕ → ℕ → List (List ℕ → ℤ)
cover_rows c x = map (λ j. prefer_weight x j) (others c x)

-- ---- features

-- the arcs of a list of places p, q and so on, where u comes before them: (u, p), (p, q) and so on
abbrev pub arcs_from : ℕ → List ℕ → List (ℕ × ℕ)
arcs_from u [] = []
arcs_from u (p ∷ places) = (u, p) ∷ arcs_from p places

-- the arcs of a list of places: the first one is from 0, the start
abbrev pub arcs_of : List ℕ → List (ℕ × ℕ)
arcs_of places = arcs_from 0 places

-- the list of places has the arc from u to p
abbrev pub has_arc : ℕ → ℕ → List ℕ → Bool
has_arc u p places = list_any (λ arc. (arc.0 == u) && (arc.1 == p)) (arcs_of places)

-- what a replacement of an old by a new ballot counts for a feature of a suffix: by the key of the old one, or by the
-- arcs of the new one's signature
abbrev pub counted_under_suffix : List ℕ → Feature → List ℕ × List ℕ → ℕ
counted_under_suffix suffix (From key) swap = if suffix_key suffix swap.0 == key then 1 else 0
counted_under_suffix suffix (Arc u p) swap = if has_arc u p (signature_of suffix swap.1) then 1 else 0

-- what it counts for a feature of a cover: by the key of the old ballot
abbrev pub counted_under_cover : ℕ → Feature → List ℕ × List ℕ → ℕ
counted_under_cover x (From key) swap = if cover_key x swap.0 == key then 1 else 0
counted_under_cover x (Arc u p) swap = 0
