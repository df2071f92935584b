-- What a new ballot brings under a suffix, by its signature, and the most that one brings.
use Rattle.std.proofs.Common.{◌≡◌, ℕ, ◌+◌, List, length, ap, ◌∙◌, arith}
use Rattle.std.specs.Prelude.{ℤ, ◌+ℤ◌}
use Rattle.std.proofs.lemmas.Int.{ints}
use Rattle.mov_base.proofs.Signed.{sum_z-add}
use Rattle.ballot_form.specs.Ballots.{IsValidBallot, Poll}
use Rattle.row_program.specs.declared.Feature.{Feature}
use Rattle.row_program.specs.declared.Feature.TheVariants.{From, Arc}
use Rattle.row_program.specs.declared.Limit.{Limit}
use Rattle.signature_class.specs.Signatures.{signature_of, suffix_key}
use Rattle.sig_graph.specs.Paths.{IsBest, IsPath, ballot_of, path_arcs, path_sum}
use Rattle.sig_graph.specs.Rows.{one_where}
use Rattle.sig_graph.proofs.PathBallots.{ballot_is_valid, signature-ballot}
use Rattle.goal_rows.specs.Suffixes.{counted_under_suffix, suffix_rows}
use Rattle.goal_rows.specs.declared.parts.Ground.{Ground}
use Rattle.dual_bound.specs.Weighing.{all_arcs, is_arc, is_from, limits_bring, of_limits, of_rows, row_arcs, rows_bring}
use Rattle.dual_bound.proofs.Keyed.{IsMost, worth}
use Rattle.dual_bound.proofs.PathArcs.{by_arcs, flipped, has_from, limits_on_path}
use Rattle.dual_bound.proofs.SuffixWeights.{signature_path, suffix_worth}

-- ---- features

-- a replacement counts for a feature by the key of the old ballot, or by the signature of the new one
pub suffix_counts : (suffix old new : List ℕ) (feature : Feature)
    → counted_under_suffix suffix feature (old, new) ≡ one_where (is_from (suffix_key suffix old) feature) + one_where (has_from 0 (signature_of suffix new) feature)
suffix_counts suffix old new (From key) =
    let same = ap one_where (flipped (suffix_key suffix old) key) in
    omega (arith, same)
suffix_counts suffix old new (Arc u p) = omega arith

-- ---- the best path

-- what all arcs of a path bring
arcs_bring : (start : Ground) (limits : List Limit) (ls : List ℕ) (m : ℕ) (path : List ℕ) → IsPath m path
    → path_sum m (all_arcs start limits ls m) 0 path ≡ path_sum m (row_arcs m (of_rows start ls)) 0 path +ℤ limits_bring (has_from 0 path) (of_limits start ls) limits
arcs_bring start limits ls m path is =
    let rows = of_rows start ls in
    let more = of_limits start ls in
    let both = by_arcs (λ a. rows_bring m rows a +ℤ limits_bring (is_arc a) more limits) m 0 path is in
    let split = sum_z-add (rows_bring m rows) (λ a. limits_bring (is_arc a) more limits) (path_arcs 0 path) in
    let one = by_arcs (rows_bring m rows) m 0 path is in
    let other = limits_on_path m path more limits is in
    omega (arith, ints, both, split, one, other)

-- what a new ballot brings by the rows of a suffix and by limits
abbrev pub suffix_brings : Ground → List Limit → List ℕ → List ℕ → List ℕ → ℤ
suffix_brings start limits ls suffix new =
    worth (of_rows start ls) (suffix_rows suffix) new +ℤ limits_bring (has_from 0 (signature_of suffix new)) (of_limits start ls) limits

pub brings_on_path : (start : Ground) (limits : List Limit) (ls suffix new : List ℕ) (c : ℕ) → IsValidBallot c suffix
    → suffix_brings start limits ls suffix new ≡ path_sum (length suffix) (all_arcs start limits ls (length suffix)) 0 (signature_of suffix new)
brings_on_path start limits ls suffix new c valid =
    let path = signature_of suffix new in
    let rows = suffix_worth suffix (of_rows start ls) new valid.distinct in
    let all = arcs_bring start limits ls (length suffix) path (signature_path suffix new) in
    omega (arith, ints, rows, all)

pub suffix_most : (p : Poll) (start : Ground) (limits : List Limit) (ls suffix : List ℕ) (best : ℤ) → IsValidBallot p.c suffix
    → IsBest (length suffix) (all_arcs start limits ls (length suffix)) 0 best → IsMost p (suffix_brings start limits ls suffix) best
suffix_most p start limits ls suffix best valid greatest =
    let weights = all_arcs start limits ls (length suffix) in
    let path = greatest.reached.0 in
    let ballot = ballot_of suffix path in
    let own = signature-ballot suffix path valid.distinct greatest.reached.1 in
    record {
      above = λ new ok.
          let e = brings_on_path start limits ls suffix new p.c valid in
          let le = greatest.above (signature_of suffix new) (signature_path suffix new) in
          omega (arith, ints, e, le);
      reached = (
        ballot,
        ballot_is_valid p.c suffix path valid.distinct greatest.reached.1 valid.below,
        brings_on_path start limits ls suffix ballot p.c valid ∙ ap (path_sum (length suffix) weights 0) own ∙ greatest.reached.2,
      );
    }
