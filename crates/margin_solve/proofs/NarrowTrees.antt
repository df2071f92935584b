-- Trees whose multipliers aren't wide, kid by kid.
use Rattle.std.proofs.Common.{◌≡◌, ℕ, ◌+◌, ◌<◌, ◌≤◌, ◌∙◌, List, [], ◌∷◌, All, map, get_or, length, sym, ap, subst, inl, inr, arith}
use Rattle.std.proofs.lemmas.Bool.{cases_lt}
use Rattle.std.proofs.lemmas.List.{get_or_default}
use Rattle.std.proofs.lemmas.List.Elements.{All-head, All-tail}
use Rattle.exact_num.specs.declared.limits.TheConstants.{WIDE}
use Rattle.row_program.specs.declared.Feature.{Feature}
use Rattle.bound_tree.specs.Nodes.{size}
use Rattle.bound_tree.specs.Plain.{Branch, Cut, Plain, Split, kids_of, plain_of}
use Rattle.bound_tree.specs.declared.tree.Tree.{Tree}
use Rattle.bound_tree.specs.declared.tree.Tree.TheVariants as program
use Rattle.bound_tree.proofs.Shapes.{plain_Branch, plain_Cut, plain_Split}
use Rattle.margin_solve.specs.Numbers.{AllNarrow, AreNarrow}

-- a tree has a node
pub some_nodes : (t : Plain) → 1 ≤ size t
some_nodes (Split kids) = omega arith
some_nodes (Branch feature value low high) = omega arith
some_nodes (Cut multipliers) = omega arith

-- the kid's multipliers aren't wide
abbrev pub IsNarrowKid : Tree → Type 0
IsNarrowKid kid = AreNarrow (plain_of kid)

all_narrow : (kids : List Tree) → All IsNarrowKid kids → AllNarrow (kids_of (map plain_of kids))
all_narrow [] all = tt
all_narrow (kid ∷ kids) all = (All-head IsNarrowKid kid kids all, all_narrow kids (All-tail IsNarrowKid kid kids all))

pub narrow_split : (kids : List Tree) → All IsNarrowKid kids → AreNarrow (plain_of (program.Split kids))
narrow_split kids all = subst AreNarrow (sym (plain_Split kids)) (all_narrow kids all)

pub narrow_branch : (f : Feature) (v : ℕ) (low high : Tree) → AreNarrow (plain_of low) → AreNarrow (plain_of high) → AreNarrow (plain_of (program.Branch f v low high))
narrow_branch f v low high one two = subst AreNarrow (sym (plain_Branch f v low high)) (one, two)

pub narrow_cut : (ms : List ℕ) → All (λ number. number < WIDE) ms → AreNarrow (plain_of (program.Cut ms))
narrow_cut ms small = subst AreNarrow (sym (plain_Cut ms)) small

-- the first so many kids are narrow
abbrev pub AreNarrowUpTo : ℕ → List Tree → Type 0
AreNarrowUpTo n kids = (k : ℕ) (d : Tree) → k < n → IsNarrowKid (get_or kids k d)

pub one_more : (kids : List Tree) (n : ℕ) (kid : Tree) → n < length kids → kid ≡ get_or kids n kid → AreNarrowUpTo n kids → IsNarrowKid kid → AreNarrowUpTo (n + 1) kids
one_more kids n kid within is before here k d lt = elim (cases_lt k n) [
  | inl less ↦ before k d less
  | inr more ↦
      let same : k ≡ n = omega (arith, lt, more) in
      subst IsNarrowKid (is ∙ get_or_default kids n kid d within ∙ ap (λ j. get_or kids j d) (sym same)) here
]
