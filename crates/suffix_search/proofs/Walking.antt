-- Walking past the cuts of a tree.
use Rattle.std.proofs.Common.{◌≡◌, ℕ, zero, suc, ◌+◌, ◌-◌, ◌<◌, ◌≤◌, ◌∙◌, List, [], ◌∷◌, drop, get_or, length, map, refl, sym, ap, subst, arith}
use Rattle.std.proofs.lemmas.Bool.{lt-ltb, le-ltb}
use Rattle.row_program.specs.declared.Feature.{Feature}
use Rattle.bound_tree.specs.Nodes.{cut_count, cut_count_all, size, size_all}
use Rattle.bound_tree.specs.Plain.{Plain, Kids, Split, Branch, Cut, None, More, kids_of, plain_of}
use Rattle.bound_tree.specs.declared.tree.Tree.{Tree}
use Rattle.bound_tree.specs.declared.tree.Tree.TheVariants as program
use Rattle.bound_tree.proofs.Shapes.{plain_Branch, plain_Cut, plain_Split}
use Rattle.search_theory.specs.Numbers.{cut_number, cut_number_in}

-- each tree has a node, and no more cuts than nodes
pub some_nodes : (t : Plain) → 1 ≤ size t
some_nodes (Split kids) = omega arith
some_nodes (Branch f v low high) = omega arith
some_nodes (Cut ms) = omega arith

mutual
  pub cuts_within : (t : Plain) → cut_count t ≤ size t
  cuts_within (Split kids) = omega (arith, cuts_among kids)
  cuts_within (Branch f v low high) = omega (arith, cuts_within low, cuts_within high)
  cuts_within (Cut ms) = omega arith

  pub cuts_among : (kids : Kids) → cut_count_all kids ≤ size_all kids
  cuts_among None = omega arith
  cuts_among (More k ks) = omega (arith, cuts_within k, cuts_among ks)

-- ---- shapes

pub record IsSplitTree (t : Plain) (kids : Kids) : Type 0 where
  pub nodes : size t ≡ size_all kids + 1
  pub cuts : cut_count t ≡ cut_count_all kids
  pub number : (i : ℕ) → cut_number i t ≡ cut_number_in i kids + 1
  pub fewer : cut_count_all kids ≤ size_all kids

pub of_split : (kids : List Tree) → IsSplitTree (plain_of (program.Split kids)) (kids_of (map plain_of kids))
of_split kids = let is = plain_Split kids in record {
  nodes = ap size is ∙ omega arith;
  cuts = ap cut_count is;
  number = λ i. ap (λ t. cut_number i t) is ∙ omega arith;
  fewer = cuts_among (kids_of (map plain_of kids));
}

pub record IsBranchTree (t low high : Plain) : Type 0 where
  pub nodes : size t ≡ 1 + size low + size high
  pub cuts : cut_count t ≡ cut_count low + cut_count high
  pub first : (i : ℕ) → i < cut_count low → cut_number i t ≡ cut_number i low + 1
  pub second : (i : ℕ) → cut_count low ≤ i → cut_number i t ≡ 1 + size low + cut_number (i - cut_count low) high
  pub fewer : cut_count low ≤ size low
  pub fewer_high : cut_count high ≤ size high

pub of_branch : (f : Feature) (v : ℕ) (low high : Tree) → IsBranchTree (plain_of (program.Branch f v low high)) (plain_of low) (plain_of high)
of_branch f v low high =
    let is = plain_Branch f v low high in
    let l = plain_of low in
    let h = plain_of high in record {
      nodes = ap size is ∙ omega arith;
      cuts = ap cut_count is;
      first = λ i lt. ap (λ t. cut_number i t) is ∙ rw (lt-ltb i (cut_count l) lt) (omega arith);
      second = λ i le. ap (λ t. cut_number i t) is ∙ rw (le-ltb i (cut_count l) le) (omega arith);
      fewer = cuts_within l;
      fewer_high = cuts_within h;
    }

pub record IsCutTree (t : Plain) : Type 0 where
  pub nodes : size t ≡ 1
  pub cuts : cut_count t ≡ 1
  pub number : (i : ℕ) → cut_number i t ≡ 0

pub of_cut : (ms : List ℕ) → IsCutTree (plain_of (program.Cut ms))
of_cut ms = let is = plain_Cut ms in record {
  nodes = ap size is;
  cuts = ap cut_count is;
  number = λ i. ap (λ t. cut_number i t) is;
}

-- ---- among kids

-- some kids were walked past, and these are left
pub record IsPast (i : ℕ) (kids rest : Kids) (nodes cuts : ℕ) : Type 0 where
  pub size : nodes + size_all rest ≡ size_all kids
  pub cut : cuts + cut_count_all rest ≡ cut_count_all kids
  pub before : cuts ≤ i
  pub number : cut_number_in i kids ≡ nodes + cut_number_in (i - cuts) rest

pub at_start : (i : ℕ) (kids : Kids) → IsPast i kids kids 0 0
at_start i kids = let none : i - 0 ≡ i = omega arith in let same = ap (λ j. cut_number_in j kids) none in record { size = omega arith; cut = omega arith; before = omega arith; number = omega (arith, same) }

less_both : (i a b : ℕ) → i - a - b ≡ i - (a + b)
less_both i a b = omega arith

pub record IsNext (i : ℕ) (kids : Kids) (kid : Plain) (rest : Kids) (nodes cuts : ℕ) : Type 0 where
  pub few : nodes + size kid ≤ size_all kids
  pub few_cuts : cut_count kid ≤ size kid
  pub all_cuts : cuts + cut_count kid ≤ cut_count_all kids
  pub here : i - cuts < cut_count kid → cut_number_in i kids ≡ nodes + cut_number (i - cuts) kid
  pub past : cut_count kid ≤ i - cuts → IsPast i kids rest (nodes + size kid) (cuts + cut_count kid)

pub next : (i : ℕ) (kids : Kids) (kid : Plain) (rest : Kids) (nodes cuts : ℕ) → IsPast i kids (More kid rest) nodes cuts → IsNext i kids kid rest nodes cuts
next i kids kid rest nodes cuts is = record {
  few = omega (arith, is.size);
  few_cuts = cuts_within kid;
  all_cuts = omega (arith, is.cut);
  here = λ lt. is.number ∙ rw (lt-ltb (i - cuts) (cut_count kid) lt) refl;
  past = λ le. record {
    size = omega (arith, is.size);
    cut = omega (arith, is.cut);
    before = omega (arith, le, is.before);
    number = is.number ∙ rw (le-ltb (i - cuts) (cut_count kid) le) (let both = ap (λ j. cut_number_in j rest) (less_both i cuts (cut_count kid)) in omega (arith, both));
  };
}

-- the kids from a place on
abbrev pub from : List Tree → ℕ → Kids
from kids j = kids_of (map plain_of (drop j kids))

from_next : (kids : List Tree) (j : ℕ) (kid : Tree) → j < length kids → kid ≡ get_or kids j kid → from kids j ≡ More (plain_of kid) (from kids (suc j))
from_next [] j kid lt is = absurd (omega (arith, lt))
from_next (k ∷ ks) zero kid lt is = ap (λ t. More (plain_of t) (kids_of (map plain_of ks))) (sym is)
from_next (k ∷ ks) (suc j) kid lt is = from_next ks j kid (omega (arith, lt)) is

from_end : (kids : List Tree) (j : ℕ) → length kids ≤ j → from kids j ≡ None
from_end [] zero le = refl
from_end [] (suc j) le = refl
from_end (k ∷ ks) zero le = absurd (omega (arith, le))
from_end (k ∷ ks) (suc j) le = from_end ks j (omega (arith, le))

-- the kid at a place
pub next_kid : (i : ℕ) (kids : List Tree) (j after : ℕ) (kid : Tree) (nodes cuts : ℕ) → j < length kids → after ≡ j + 1 → kid ≡ get_or kids j kid → IsPast i (kids_of (map plain_of kids)) (from kids j) nodes cuts
    → IsNext i (kids_of (map plain_of kids)) (plain_of kid) (from kids after) nodes cuts
next_kid i kids j after kid nodes cuts lt after_is is past =
    let later : suc j ≡ after = omega (arith, after_is) in
    subst (λ k. IsNext i (kids_of (map plain_of kids)) (plain_of kid) (from kids k) nodes cuts) later
    (next i (kids_of (map plain_of kids)) (plain_of kid) (from kids (suc j)) nodes cuts (subst (λ rest. IsPast i (kids_of (map plain_of kids)) rest nodes cuts) (from_next kids j kid lt is) past))

-- all were walked past
pub record IsAllPast (i : ℕ) (kids : Kids) (nodes cuts : ℕ) : Type 0 where
  pub all_nodes : nodes ≡ size_all kids
  pub all_cuts : cuts ≡ cut_count_all kids
  pub before : cuts ≤ i

pub all_past : (i : ℕ) (kids : List Tree) (j nodes cuts : ℕ) → length kids ≤ j → IsPast i (kids_of (map plain_of kids)) (from kids j) nodes cuts → IsAllPast i (kids_of (map plain_of kids)) nodes cuts
all_past i kids j nodes cuts le past =
    let none = from_end kids j le in
    let sizes = ap size_all none in
    let counts = ap cut_count_all none in
    record {
      all_nodes = omega (arith, past.size, sizes);
      all_cuts = omega (arith, past.cut, counts);
      before = past.before;
    }
