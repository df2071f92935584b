-- To exchange a cut is to put the new lines in the place of its line.
use Rattle.std.proofs.Common.{ℕ, zero, suc, ◌≡◌, ◌+◌, ◌-◌, ◌<◌, inl, inr, take, drop, map, List, [], ◌∷◌, ◌++◌, length, length-append, append-nil, append_assoc, refl, sym, ap, ◌∙◌, arith}
use Rattle.std.proofs.lemmas.Bool.{cases_lt, lt-ltb, le-ltb}
use Rattle.std.proofs.lemmas.List.{take-append-le, drop-append-le}
use Rattle.std.proofs.Math.Seq.{take-append-add, drop-append-add}
use Rattle.std.proofs.lemmas.Option.{slice_get_within}
use Rattle.row_program.specs.declared.Feature.{Feature}
use Rattle.bound_tree.specs.Plain.{Plain, Kids, Split, Branch, Cut, None, More, plain_of}
use Rattle.bound_tree.specs.Nodes.{size, size_all}
use Rattle.bound_tree.specs.Lines.{SplitInto, BranchBy, CutWith, kid_count, lines_of, lines_of_all, spliced}
use Rattle.bound_tree.specs.Places.{IsCut, IsAtDepth, IsPlace, IsPlaceIn}
use Rattle.bound_tree.specs.Growth.{replaced, replaced_in, cuts_of}
use Rattle.bound_tree.specs.declared.tree.Tree.{Tree}
use Rattle.bound_tree.specs.declared.tree.Tree.TheVariants as program
use Rattle.bound_tree.proofs.Laws.{split_of_cuts, branch_of_cuts, nowhere, same_some, split_place, low_place, high_place, first_place, rest_place}

-- each node has one line
mutual
  pub length_lines : (t : Plain) → length (lines_of t) ≡ size t
  length_lines (Split kids) = omega (arith, length_lines_all kids)
  length_lines (Branch f v low high) = omega (arith, length-append (lines_of low) (lines_of high), length_lines low, length_lines high)
  length_lines (Cut ms) = refl

  length_lines_all : (kids : Kids) → length (lines_of_all kids) ≡ size_all kids
  length_lines_all None = refl
  length_lines_all (More k ks) = omega (arith, length-append (lines_of k) (lines_of_all ks), length_lines k, length_lines_all ks)

spliced_left : {A : Type 0} (n : ℕ) (new xs ys : List A) → n < length xs → spliced n new xs ++ ys ≡ spliced n new (xs ++ ys)
spliced_left n new xs ys within =
    append_assoc (take n xs) (new ++ drop (suc n) xs) ys
    ∙ ap (λ zs. take n xs ++ zs) (append_assoc new (drop (suc n) xs) ys)
    ∙ ap (λ zs. take n xs ++ (new ++ zs)) (sym (drop-append-le (suc n) xs ys (omega arith)))
    ∙ ap (λ zs. zs ++ (new ++ drop (suc n) (xs ++ ys))) (sym (take-append-le n xs ys (omega arith)))

spliced_right : {A : Type 0} (m n : ℕ) (new xs ys : List A) → m ≡ length xs + n → xs ++ spliced n new ys ≡ spliced m new (xs ++ ys)
spliced_right m n new xs ys is =
    let after : suc m ≡ length xs + suc n = omega arith in
    sym (append_assoc xs (take n ys) (new ++ drop (suc n) ys))
    ∙ ap (λ zs. zs ++ (new ++ drop (suc n) ys)) (sym (ap (λ k. take k (xs ++ ys)) is ∙ take-append-add xs ys n))
    ∙ ap (λ zs. take m (xs ++ ys) ++ (new ++ zs)) (sym (ap (λ k. drop k (xs ++ ys)) after ∙ drop-append-add xs ys (suc n)))

not_split : (kids : Kids) (ms : List ℕ) → Split kids ≡ Cut ms → ⊥
not_split kids ms same = cc

not_branch : (f : Feature) (v : ℕ) (low high : Plain) (ms : List ℕ) → Branch f v low high ≡ Cut ms → ⊥
not_branch f v low high ms same = cc

kid_count_replaced : (n : ℕ) (new : Plain) (kids : Kids) → kid_count (replaced_in n new kids) ≡ kid_count kids
kid_count_replaced n new None = refl
kid_count_replaced n new (More kid kids) = elim (cases_lt n (size kid)) [
  | inl within ↦ rw (lt-ltb n (size kid) within) refl
  | inr past ↦ rw (le-ltb n (size kid) past) (ap suc (kid_count_replaced (n - size kid) new kids))
]

mutual
  lines_replaced : (t : Plain) (d n : ℕ) (ms : List ℕ) (e : ℕ) (new : Plain) → IsPlace t d n (Cut ms) e → lines_of (replaced n new t) ≡ spliced n (lines_of new) (lines_of t)
  lines_replaced (Split kids) d zero ms e new at = absurd (not_split kids ms (same_some (Split kids) (Cut ms) at.node))
  lines_replaced (Branch f v low high) d zero ms e new at = absurd (not_branch f v low high ms (same_some (Branch f v low high) (Cut ms) at.node))
  lines_replaced (Cut _) d zero ms e new at = sym (append-nil (lines_of new))
  lines_replaced (Cut other) d (suc n) ms e new at = absurd (nowhere (Cut other) (Cut ms) n at.node)
  lines_replaced (Split kids) d (suc n) ms e new at =
      ap (λ k. SplitInto k ∷ lines_of_all (replaced_in n new kids)) (kid_count_replaced n new kids)
      ∙ ap (λ ls. SplitInto (kid_count kids) ∷ ls) (lines_replaced_in kids (suc d) n ms e new (split_place kids d n (Cut ms) e at))
  lines_replaced (Branch f v low high) d (suc n) ms e new at = elim (cases_lt n (size low)) [
    | inl within ↦ rw (lt-ltb n (size low) within)
        (ap (λ ls. BranchBy f v ∷ ls)
        (ap (λ ls. ls ++ lines_of high) (lines_replaced low (suc d) n ms e new (low_place f v low high d n (Cut ms) e within at))
        ∙ spliced_left n (lines_of new) (lines_of low) (lines_of high) (omega (arith, length_lines low))))
    | inr past ↦ rw (le-ltb n (size low) past)
        (ap (λ ls. BranchBy f v ∷ ls)
        (ap (λ ls. lines_of low ++ ls) (lines_replaced high (suc d) (n - size low) ms e new (high_place f v low high d n (Cut ms) e past at))
        ∙ spliced_right n (n - size low) (lines_of new) (lines_of low) (lines_of high) (omega (arith, length_lines low))))
  ]

  lines_replaced_in : (kids : Kids) (d n : ℕ) (ms : List ℕ) (e : ℕ) (new : Plain) → IsPlaceIn kids d n (Cut ms) e → lines_of_all (replaced_in n new kids) ≡ spliced n (lines_of new) (lines_of_all kids)
  lines_replaced_in None d n ms e new at = absurd (omega (arith, slice_get_within [] n (Cut ms) at.node))
  lines_replaced_in (More kid kids) d n ms e new at = elim (cases_lt n (size kid)) [
    | inl within ↦ rw (lt-ltb n (size kid) within)
        (ap (λ ls. ls ++ lines_of_all kids) (lines_replaced kid d n ms e new (first_place kid kids d n (Cut ms) e within at))
        ∙ spliced_left n (lines_of new) (lines_of kid) (lines_of_all kids) (omega (arith, length_lines kid)))
    | inr past ↦ rw (le-ltb n (size kid) past)
        (ap (λ ls. lines_of kid ++ ls) (lines_replaced_in kids d (n - size kid) ms e new (rest_place kid kids d n (Cut ms) e past at))
        ∙ spliced_right n (n - size kid) (lines_of new) (lines_of kid) (lines_of_all kids) (omega (arith, length_lines kid)))
  ]

pub lines_grown : (t : Plain) (n e : ℕ) (new : Plain) → IsCut t n → IsAtDepth t n e → lines_of (replaced n new t) ≡ spliced n (lines_of new) (lines_of t)
lines_grown t n e new cut deep = lines_replaced t 1 n cut.multipliers e new (record { node = cut.node; deep = deep })

-- the lines of a split and of a branch of cuts
kid_count_cuts : (lists : List (List ℕ)) → kid_count (cuts_of lists) ≡ length lists
kid_count_cuts [] = refl
kid_count_cuts (ms ∷ lists) = ap suc (kid_count_cuts lists)

lines_cuts : (lists : List (List ℕ)) → lines_of_all (cuts_of lists) ≡ map CutWith lists
lines_cuts [] = refl
lines_cuts (ms ∷ lists) = ap (λ ls. CutWith ms ∷ ls) (lines_cuts lists)

pub lines_split : (lists : List (List ℕ)) (cuts : List Tree) → cuts ≡ map program.Cut lists → lines_of (plain_of (program.Split cuts)) ≡ SplitInto (length lists) ∷ map CutWith lists
lines_split lists cuts is =
    ap lines_of (split_of_cuts lists cuts is)
    ∙ ap (λ n. SplitInto n ∷ lines_of_all (cuts_of lists)) (kid_count_cuts lists)
    ∙ ap (λ ls. SplitInto (length lists) ∷ ls) (lines_cuts lists)

pub lines_branch : (f : Feature) (v : ℕ) (low high : List ℕ) → lines_of (plain_of (program.Branch f v (program.Cut low) (program.Cut high))) ≡ BranchBy f v ∷ CutWith low ∷ CutWith high ∷ []
lines_branch f v low high = ap lines_of (branch_of_cuts f v low high)
