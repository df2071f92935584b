-- A tree as the lines of its nodes in preorder, each without what is below it; and lines put in the place of one.
use Rattle.std.specs.Prelude.{ℕ, List, [], ◌∷◌, ◌++◌, take, drop}
use Rattle.std.proofs.Common.{suc}
use Rattle.row_program.specs.declared.Feature.{Feature}
use Rattle.bound_tree.specs.Plain.{Plain, Kids, Split, Branch, Cut, None, More}

-- a split into so many, a branch by a feature and a value, or a cut with its multipliers
pub data Line : Type 0 where
  SplitInto : ℕ → Line
  BranchBy : Feature → ℕ → Line
  CutWith : List ℕ → Line

abbrev pub kid_count : Kids → ℕ
kid_count None = 0
kid_count (More kid kids) = suc (kid_count kids)

abbrev mutual
  pub lines_of : Plain → List Line
  lines_of (Split kids) = SplitInto (kid_count kids) ∷ lines_of_all kids
  lines_of (Branch feature value low high) = BranchBy feature value ∷ (lines_of low ++ lines_of high)
  lines_of (Cut multipliers) = CutWith multipliers ∷ []

  pub lines_of_all : Kids → List Line
  lines_of_all None = []
  lines_of_all (More kid kids) = lines_of kid ++ lines_of_all kids

-- the list with others in the place of its n-th item
abbrev pub spliced : {A : Type 0} → ℕ → List A → List A → List A
spliced n new xs = take n xs ++ (new ++ drop (suc n) xs)
