-- A branch of a tree: what its halves have.
use Rattle.std.proofs.Common.{ℕ, zero, suc, List, [], ◌∷◌, ◌++◌, All, Bool, true, false, IsTrue, ◌≡◌, ◌≢◌, ◌<◌, ◌≤◌, ◌+◌, ◌*◌, ◌/◌, ◌∙◌, ◌⊎◌, ◌↔◌, length, map, get_or, max, refl, ap, sym, subst, inl, inr, arith}
use Rattle.std.specs.Prelude.{◌^◌, ◌==◌, pos, ◌-ℤ◌, ◌≤ℤ◌}
use Rattle.std.proofs.lemmas.Bool.{cases_lt}
use Rattle.std.proofs.lemmas.Int.{ints}
use Rattle.std.proofs.lemmas.List.{length-append}
use Rattle.std.proofs.lemmas.List.Elements.{All-append, All-cons, All-head, All-nil, All-tail}
use Rattle.ballot_form.specs.declared.limits.TheConstants.{MOST_BALLOTS}
use Rattle.row_program.specs.declared.Feature.{Feature}
use Rattle.row_program.specs.declared.Feature.TheVariants.{From, Arc}
use Rattle.row_program.specs.declared.Limit.{Limit}
use Rattle.row_program.specs.declared.limits.TheConstants.{MOST_LIMITS}
use Rattle.bound_tree.specs.Lines.{BranchBy, SplitInto, kid_count, lines_of, lines_of_all}
use Rattle.bound_tree.specs.Nodes.{height}
use Rattle.bound_tree.specs.Plain.{Plain, Branch, Cut, Split, kids_of, plain_of}
use Rattle.bound_tree.specs.declared.bound.TheConstants.{MOST_DEPTH}
use Rattle.bound_tree.specs.declared.tree.Tree.{Tree}
use Rattle.bound_tree.specs.declared.tree.Tree.TheVariants as program
use Rattle.bound_tree.proofs.Shapes.{highest_kid, plain_Branch, plain_Split}
use Rattle.cert_text.specs.CertText.{IsPrintable, LineFits}
use Rattle.cert_text.specs.declared.cert.Cert.{Cert}
use Rattle.margin_check.specs.Walks.{FitsBelow}

-- ---- the trees below a node

pub before : {X : Type 0} (P : X → Type 0) (xs ys : List X) → All P (xs ++ ys) → All P xs
before P [] ys all = All-nil P
before P (x ∷ xs) ys all = All-cons P x xs (All-head P x (xs ++ ys) all) (before P xs ys (All-tail P x (xs ++ ys) all))

pub behind : {X : Type 0} (P : X → Type 0) (xs ys : List X) → All P (xs ++ ys) → All P ys
behind P [] ys all = all
behind P (x ∷ xs) ys all = behind P xs ys (All-tail P x (xs ++ ys) all)

some_height : (tree : Plain) → 1 ≤ height tree
some_height (Split kids) = omega arith
some_height (Branch f v low high) = omega arith
some_height (Cut ms) = omega arith

kid_lines : (kids : List Tree) (k : ℕ) (d : Tree) → k < length kids → All LineFits (lines_of_all (kids_of (map plain_of kids))) → All LineFits (lines_of (plain_of (get_or kids k d)))
kid_lines [] k d lt all = absurd (omega (arith, lt))
kid_lines (kid ∷ kids) zero d lt all = before LineFits (lines_of (plain_of kid)) (lines_of_all (kids_of (map plain_of kids))) all
kid_lines (kid ∷ kids) (suc k) d lt all = kid_lines kids k d (omega (arith, lt)) (behind LineFits (lines_of (plain_of kid)) (lines_of_all (kids_of (map plain_of kids))) all)

small_value : (f : Feature) (v : ℕ) → LineFits (BranchBy f v) → v ≤ 999999
small_value (From key) v fits = omega (arith, fits.1)
small_value (Arc u x) v fits = omega (arith, fits.3)

pub fits_kids : (limits : ℕ) (tree : Tree) (kids lent : List Tree) → tree ≡ program.Split kids → lent ≡ kids → FitsBelow limits (plain_of tree) → All (λ kid. FitsBelow 0 (plain_of kid)) lent
fits_kids limits tree kids lent is lent_is fits k d lt =
    let same : plain_of tree ≡ Split (kids_of (map plain_of lent)) = ap plain_of is ∙ plain_Split kids ∙ ap (λ ks. Split (kids_of (map plain_of ks))) (sym lent_is) in
    let here : FitsBelow limits (Split (kids_of (map plain_of lent))) = subst (λ t. FitsBelow limits t) same fits in
    record {
      lines = kid_lines lent k d lt (All-tail LineFits (SplitInto (kid_count (kids_of (map plain_of lent)))) (lines_of_all (kids_of (map plain_of lent))) here.lines);
      depth = omega (arith, here.depth, highest_kid lent k d lt);
    }

pub kid_below : (kids : List Tree) (i : ℕ) (kid : Tree) (limits : List Limit) → i < length kids → kid ≡ get_or kids i kid → limits ≡ [] → All (λ kid. FitsBelow 0 (plain_of kid)) kids
    → FitsBelow (length limits) (plain_of kid)
kid_below kids i kid limits lt same free all =
    rw free (subst (λ t. FitsBelow 0 (plain_of t)) (sym same) (all i kid lt))

-- the halves as they are lent
pub lent_branch : (tree : Tree) (f : Feature) (v : ℕ) (low high lent other : Tree) → tree ≡ program.Branch f v low high → lent ≡ low → other ≡ high → tree ≡ program.Branch f v lent other
lent_branch tree f v low high lent other is low_is high_is = is ∙ ap (λ t. program.Branch f v t high) (sym low_is) ∙ ap (λ t. program.Branch f v lent t) (sym high_is)

-- the halves of a branch, and its value
pub record FitHalves (limits value : ℕ) (low high : Plain) : Type 0 where
  pub low_fits : FitsBelow (limits + 1) low
  pub high_fits : FitsBelow (limits + 1) high
  pub few : limits + 1 ≤ MOST_LIMITS
  pub small : value + 1 ≤ MOST_BALLOTS

pub fits_halves : (limits : ℕ) (tree : Tree) (f : Feature) (v : ℕ) (low high : Tree) → tree ≡ program.Branch f v low high → FitsBelow limits (plain_of tree)
    → FitHalves limits v (plain_of low) (plain_of high)
fits_halves limits tree f v low high is fits = by f (subst (λ t. FitsBelow limits t) (ap plain_of is ∙ plain_Branch f v low high) fits)
  where
    by : (f : Feature) → FitsBelow limits (Branch f v (plain_of low) (plain_of high)) → FitHalves limits v (plain_of low) (plain_of high)
    by f here =
        let lows = lines_of (plain_of low) in
        let highs = lines_of (plain_of high) in
        let rest = All-tail LineFits (BranchBy f v) (lows ++ highs) here.lines in
        let small : v ≤ 999999 = small_value f v (All-head LineFits (BranchBy f v) (lows ++ highs) here.lines) in
        record {
          low_fits = record { lines = before LineFits lows highs rest; depth = omega (arith, here.depth) };
          high_fits = record { lines = behind LineFits lows highs rest; depth = omega (arith, here.depth) };
          few = omega (arith, here.depth, some_height (plain_of low));
          small = omega (arith, small);
        }

-- a whole tree that can be printed fits below the root
pub printable_fits : (cert : Cert) (tree : Plain) → IsPrintable cert → tree ≡ cert.tree → FitsBelow 0 tree
printable_fits cert tree printable is = subst (λ t. FitsBelow 0 t) (sym is) (record { lines = printable.lines; depth = omega (arith, printable.depth) })
