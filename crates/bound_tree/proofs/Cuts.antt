-- To exchange the i-th cut is to exchange the node that has its number.
use Rattle.std.proofs.Common.{ℕ, suc, ◌≡◌, ◌+◌, ◌-◌, ◌<◌, inl, inr, List, ◌++◌, length, Some, slice_get, cond, refl, ap, ◌∙◌, arith}
use Rattle.std.specs.Prelude.{ltb}
use Rattle.std.proofs.lemmas.Bool.{cases_lt, lt-ltb, le-ltb}
use Rattle.bound_tree.specs.Plain.{Plain, Kids, Split, Branch, Cut, None, More}
use Rattle.bound_tree.specs.Nodes.{size, size_all, cut_count, cut_count_all, nodes_of, nodes_of_all}
use Rattle.bound_tree.specs.Places.{IsCut}
use Rattle.bound_tree.specs.Growth.{replaced, replaced_in}
use Rattle.bound_tree.proofs.Places.{get_left, get_right, length_nodes}

-- the number that the i-th cut has among the nodes
abbrev mutual
  pub cut_number : ℕ → Plain → ℕ
  cut_number i (Split kids) = suc (cut_number_in i kids)
  cut_number i (Branch feature value low high) = suc (cond (ltb i (cut_count low)) (cut_number i low) (size low + cut_number (i - cut_count low) high))
  cut_number i (Cut multipliers) = 0

  pub cut_number_in : ℕ → Kids → ℕ
  cut_number_in i None = 0
  cut_number_in i (More kid kids) = cond (ltb i (cut_count kid)) (cut_number i kid) (size kid + cut_number_in (i - cut_count kid) kids)

-- the tree with `new` in the place of its i-th cut
abbrev mutual
  pub cut_replaced : ℕ → Plain → Plain → Plain
  cut_replaced i new (Split kids) = Split (cut_replaced_in i new kids)
  cut_replaced i new (Branch feature value low high) =
      cond (ltb i (cut_count low)) (Branch feature value (cut_replaced i new low) high) (Branch feature value low (cut_replaced (i - cut_count low) new high))
  cut_replaced i new (Cut multipliers) = cond (ltb i 1) new (Cut multipliers)

  pub cut_replaced_in : ℕ → Plain → Kids → Kids
  cut_replaced_in i new None = None
  cut_replaced_in i new (More kid kids) = cond (ltb i (cut_count kid)) (More (cut_replaced i new kid) kids) (More kid (cut_replaced_in (i - cut_count kid) new kids))

-- a cut's number is one of the tree's
mutual
  pub number_within : (i : ℕ) (t : Plain) → i < cut_count t → cut_number i t < size t
  number_within i (Split kids) within = omega (arith, number_in_within i kids within)
  number_within i (Branch f v low high) within = elim (cases_lt i (cut_count low)) [
    | inl here ↦ rw (lt-ltb i (cut_count low) here) (omega (arith, number_within i low here))
    | inr past ↦ rw (le-ltb i (cut_count low) past) (omega (arith, number_within (i - cut_count low) high (omega arith)))
  ]
  number_within i (Cut ms) within = omega arith

  number_in_within : (i : ℕ) (kids : Kids) → i < cut_count_all kids → cut_number_in i kids < size_all kids
  number_in_within i None within = absurd (omega arith)
  number_in_within i (More kid kids) within = elim (cases_lt i (cut_count kid)) [
    | inl here ↦ rw (lt-ltb i (cut_count kid) here) (omega (arith, number_within i kid here))
    | inr past ↦ rw (le-ltb i (cut_count kid) past) (omega (arith, number_in_within (i - cut_count kid) kids (omega arith)))
  ]

mutual
  pub replaced_number : (i : ℕ) (new t : Plain) → i < cut_count t → replaced (cut_number i t) new t ≡ cut_replaced i new t
  replaced_number i new (Split kids) within = ap Split (replaced_in_number i new kids within)
  replaced_number i new (Branch f v low high) within = elim (cases_lt i (cut_count low)) [
    | inl here ↦ rw (lt-ltb i (cut_count low) here)
        (rw (lt-ltb (cut_number i low) (size low) (number_within i low here)) (ap (λ x. Branch f v x high) (replaced_number i new low here)))
    | inr past ↦ rw (le-ltb i (cut_count low) past)
        (rw (le-ltb (size low + cut_number (i - cut_count low) high) (size low) (omega arith))
        (let rest : size low + cut_number (i - cut_count low) high - size low ≡ cut_number (i - cut_count low) high = omega arith in
        rw rest (ap (Branch f v low) (replaced_number (i - cut_count low) new high (omega arith)))))
  ]
  replaced_number i new (Cut ms) within = rw (lt-ltb i 1 within) refl

  replaced_in_number : (i : ℕ) (new : Plain) (kids : Kids) → i < cut_count_all kids → replaced_in (cut_number_in i kids) new kids ≡ cut_replaced_in i new kids
  replaced_in_number i new None within = absurd (omega arith)
  replaced_in_number i new (More kid kids) within = elim (cases_lt i (cut_count kid)) [
    | inl here ↦ rw (lt-ltb i (cut_count kid) here)
        (rw (lt-ltb (cut_number i kid) (size kid) (number_within i kid here)) (ap (λ x. More x kids) (replaced_number i new kid here)))
    | inr past ↦ rw (le-ltb i (cut_count kid) past)
        (rw (le-ltb (size kid + cut_number_in (i - cut_count kid) kids) (size kid) (omega arith))
        (let rest : size kid + cut_number_in (i - cut_count kid) kids - size kid ≡ cut_number_in (i - cut_count kid) kids = omega arith in
        rw rest (ap (More kid) (replaced_in_number (i - cut_count kid) new kids (omega arith)))))
  ]

-- and the node with that number is a cut
mutual
  pub cut_at : (i : ℕ) (t : Plain) → i < cut_count t → IsCut t (cut_number i t)
  cut_at i (Split kids) within = let found = cut_in i kids within in record { multipliers = found.0; node = found.1 }
  cut_at i (Branch f v low high) within = elim (cases_lt i (cut_count low)) [
    | inl here ↦ rw (lt-ltb i (cut_count low) here)
        (let found = cut_at i low here in
        record {
          multipliers = found.multipliers;
          node = get_left (nodes_of low) (nodes_of high) (cut_number i low) (omega (arith, length_nodes low, number_within i low here)) ∙ found.node;
        })
    | inr past ↦ rw (le-ltb i (cut_count low) past)
        (let found = cut_at (i - cut_count low) high (omega arith) in
        let at : size low + cut_number (i - cut_count low) high ≡ length (nodes_of low) + cut_number (i - cut_count low) high = omega (arith, length_nodes low) in
        record {
          multipliers = found.multipliers;
          node = ap (slice_get (nodes_of low ++ nodes_of high)) at ∙ get_right (nodes_of low) (nodes_of high) (cut_number (i - cut_count low) high) ∙ found.node;
        })
  ]
  cut_at i (Cut ms) within = record { multipliers = ms; node = refl }

  cut_in : (i : ℕ) (kids : Kids) → i < cut_count_all kids → (ms : List ℕ) × (slice_get (nodes_of_all kids) (cut_number_in i kids) ≡ Some (Cut ms))
  cut_in i None within = absurd (omega arith)
  cut_in i (More kid kids) within = elim (cases_lt i (cut_count kid)) [
    | inl here ↦ rw (lt-ltb i (cut_count kid) here)
        (let found = cut_at i kid here in
        (found.multipliers, get_left (nodes_of kid) (nodes_of_all kids) (cut_number i kid) (omega (arith, length_nodes kid, number_within i kid here)) ∙ found.node))
    | inr past ↦ rw (le-ltb i (cut_count kid) past)
        (let found = cut_in (i - cut_count kid) kids (omega arith) in
        let at : size kid + cut_number_in (i - cut_count kid) kids ≡ length (nodes_of kid) + cut_number_in (i - cut_count kid) kids = omega (arith, length_nodes kid) in
        (found.0, ap (slice_get (nodes_of kid ++ nodes_of_all kids)) at ∙ get_right (nodes_of kid) (nodes_of_all kids) (cut_number_in (i - cut_count kid) kids) ∙ found.1))
  ]
