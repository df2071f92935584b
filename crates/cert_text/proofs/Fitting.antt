-- The limits of a tree's lines, at each shape of a tree of the program.
use Rattle.std.proofs.Common.{◌≡◌, ℕ, ◌≤◌, ◌<◌, ◌^◌, Bool, List, [], ◌∷◌, ◌++◌, length, map, sym, ap, ◌∙◌, subst, arith}
use Rattle.std.specs.Prelude.{All, IsTrue, ◌↔◌}
use Rattle.std.proofs.lemmas.List.Elements.{All-nil, All-cons, All-head, All-tail, All-append, All-weaker}
use Rattle.row_program.specs.declared.Feature.{Feature}
use Rattle.bound_tree.specs.declared.tree.Tree.{Tree}
use Rattle.bound_tree.specs.declared.tree.Tree.TheVariants as program
use Rattle.bound_tree.specs.Plain.{kids_of, plain_of}
use Rattle.bound_tree.specs.Lines.{SplitInto, BranchBy, CutWith, lines_of, lines_of_all}
use Rattle.bound_tree.proofs.Shapes.{plain_Split, plain_Branch, plain_Cut}
use Rattle.cert_text.specs.CertText.{LineFits}
use Rattle.cert_text.proofs.Shapes.{all_left, all_right, count_of_kids}
use Rattle.cert_text.specs.declared.limits.TheConstants.{GREATEST_MULTIPLIER, MOST_MULTIPLIERS}
use Rattle.row_program.specs.declared.limits.TheConstants.{MOST_KIDS}

abbrev pub TreeFits : Tree → Type 0
TreeFits tree = All LineFits (lines_of (plain_of tree))

kids_from : (kids : List Tree) → All TreeFits kids → All LineFits (lines_of_all (kids_of (map plain_of kids)))
kids_from [] h = All-nil LineFits
kids_from (kid ∷ kids) h = All-append LineFits (lines_of (plain_of kid)) (lines_of_all (kids_of (map plain_of kids))) (All-head TreeFits kid kids h) (kids_from kids (All-tail TreeFits kid kids h))

kids_to : (kids : List Tree) → All LineFits (lines_of_all (kids_of (map plain_of kids))) → All TreeFits kids
kids_to [] h = All-nil TreeFits
kids_to (kid ∷ kids) h =
    All-cons TreeFits kid kids (all_left LineFits (lines_of (plain_of kid)) (lines_of_all (kids_of (map plain_of kids))) h) (kids_to kids (all_right LineFits (lines_of (plain_of kid)) (lines_of_all (kids_of (map plain_of kids))) h))

pub fits_Split : (kids : List Tree) → TreeFits (program.Split kids) ↔ ((length kids ≤ MOST_KIDS) × All TreeFits kids)
fits_Split kids =
    let plain = kids_of (map plain_of kids) in
    let is : lines_of (plain_of (program.Split kids)) ≡ SplitInto (length kids) ∷ lines_of_all plain = ap lines_of (plain_Split kids) ∙ ap (λ n. SplitInto n ∷ lines_of_all plain) (count_of_kids kids) in (
      λ h. (let all : All LineFits (SplitInto (length kids) ∷ lines_of_all plain) = subst (All LineFits) is h in
          (All-head LineFits (SplitInto (length kids)) (lines_of_all plain) all, kids_to kids (All-tail LineFits (SplitInto (length kids)) (lines_of_all plain) all))),
      λ h. subst (All LineFits) (sym is) (All-cons LineFits (SplitInto (length kids)) (lines_of_all plain) h.0 (kids_from kids h.1)),
    )

pub fits_Branch : (f : Feature) (v : ℕ) (low high : Tree) → TreeFits (program.Branch f v low high) ↔ (LineFits (BranchBy f v) × TreeFits low × TreeFits high)
fits_Branch f v low high =
    let lower = lines_of (plain_of low) in
    let higher = lines_of (plain_of high) in
    let is : lines_of (plain_of (program.Branch f v low high)) ≡ BranchBy f v ∷ (lower ++ higher) = ap lines_of (plain_Branch f v low high) in (
      λ h. (let all : All LineFits (BranchBy f v ∷ (lower ++ higher)) = subst (All LineFits) is h in
          let both = All-tail LineFits (BranchBy f v) (lower ++ higher) all in
          (All-head LineFits (BranchBy f v) (lower ++ higher) all, all_left LineFits lower higher both, all_right LineFits lower higher both)),
      λ h. subst (All LineFits) (sym is) (All-cons LineFits (BranchBy f v) (lower ++ higher) h.0 (All-append LineFits lower higher h.1 h.2)),
    )

pub fits_Cut : (ns : List ℕ) → All (λ n. n < 2 ^ 63) ns → TreeFits (program.Cut ns) ↔ (length ns ≤ MOST_MULTIPLIERS)
fits_Cut ns small =
    let is : lines_of (plain_of (program.Cut ns)) ≡ CutWith ns ∷ [] = ap lines_of (plain_Cut ns) in
    let below : All (λ n. n ≤ GREATEST_MULTIPLIER) ns = All-weaker (λ n. n < 2 ^ 63) (λ n. n ≤ GREATEST_MULTIPLIER) (λ n h. omega (arith, h)) ns small in (
      λ h. (All-head LineFits (CutWith ns) [] (subst (All LineFits) is h)).0,
      λ h. subst (All LineFits) (sym is) (All-cons LineFits (CutWith ns) [] (h, below) (All-nil LineFits)),
    )

pub fits_halves : (t low high lower higher : Tree) (f : Feature) (v : ℕ) (found : Bool) → t ≡ program.Branch f v low high → lower ≡ low → higher ≡ high → LineFits (BranchBy f v) → IsTrue found ↔ (TreeFits lower × TreeFits higher)
    → IsTrue found ↔ TreeFits t
fits_halves t low high lower higher f v found is same same' here told =
    let parts = fits_Branch f v low high in (
      λ met. (let halves = told.0 met in subst TreeFits (sym is) (parts.1 (here, subst TreeFits same halves.0, subst TreeFits same' halves.1))),
      λ all. (let halves = parts.0 (subst TreeFits is all) in told.1 (subst TreeFits (sym same) halves.1, subst TreeFits (sym same') halves.2)),
    )
