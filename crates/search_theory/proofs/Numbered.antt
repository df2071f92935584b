-- A tree that grows at the node of a cut grows at that cut.
use Rattle.std.proofs.Common.{◌≡◌, ℕ, zero, suc, ◌+◌, ◌-◌, ◌<◌, ◌≤◌, refl, ap, inl, inr, arith}
use Rattle.std.proofs.lemmas.Bool.{cases_lt, lt-ltb, le-ltb}
use Rattle.bound_tree.specs.Growth.{replaced, replaced_in}
use Rattle.bound_tree.specs.Nodes.{cut_count, cut_count_all, size, size_all}
use Rattle.bound_tree.specs.Plain.{Plain, Kids, Split, Branch, Cut, None, More}
use Rattle.search_theory.specs.Numbers.{cut_number, cut_number_in}
use Rattle.search_theory.specs.Spots.{grown, grown_in}

mutual
  pub number_within : (i : ℕ) (t : Plain) → i < cut_count t → cut_number i t < size t
  number_within i (Split kids) lt = omega (arith, number_in_within i kids lt)
  number_within i (Branch f v low high) lt = elim (cases_lt i (cut_count low)) [
    | inl l ↦ rw (lt-ltb i (cut_count low) l) (omega (arith, number_within i low l))
    | inr g ↦ rw (le-ltb i (cut_count low) g) (omega (arith, number_within (i - cut_count low) high (omega (arith, lt, g))))
  ]
  number_within i (Cut ms) lt = omega arith

  number_in_within : (i : ℕ) (kids : Kids) → i < cut_count_all kids → cut_number_in i kids < size_all kids
  number_in_within i None lt = absurd (omega (arith, lt))
  number_in_within i (More k ks) lt = elim (cases_lt i (cut_count k)) [
    | inl l ↦ rw (lt-ltb i (cut_count k) l) (omega (arith, number_within i k l))
    | inr g ↦ rw (le-ltb i (cut_count k) g) (omega (arith, number_in_within (i - cut_count k) ks (omega (arith, lt, g))))
  ]

behind : (n m : ℕ) → n + m - n ≡ m
behind n m = omega arith

mutual
  pub grown_at_number : (i : ℕ) (new t : Plain) → i < cut_count t → replaced (cut_number i t) new t ≡ grown i new t
  grown_at_number i new (Split kids) lt = ap (λ ks. Split ks) (grown_in_at_number i new kids lt)
  grown_at_number i new (Branch f v low high) lt = elim (cases_lt i (cut_count low)) [
    | inl l ↦
        let within = number_within i low l in
        rw (lt-ltb i (cut_count low) l, lt-ltb (cut_number i low) (size low) within) (ap (λ t. Branch f v t high) (grown_at_number i new low l))
    | inr g ↦
        let past : size low ≤ size low + cut_number (i - cut_count low) high = omega arith in
        rw (le-ltb i (cut_count low) g, le-ltb (size low + cut_number (i - cut_count low) high) (size low) past, behind (size low) (cut_number (i - cut_count low) high))
        (ap (λ t. Branch f v low t) (grown_at_number (i - cut_count low) new high (omega (arith, lt, g))))
  ]
  grown_at_number zero new (Cut ms) lt = refl
  grown_at_number (suc i) new (Cut ms) lt = absurd (omega (arith, lt))

  grown_in_at_number : (i : ℕ) (new : Plain) (kids : Kids) → i < cut_count_all kids → replaced_in (cut_number_in i kids) new kids ≡ grown_in i new kids
  grown_in_at_number i new None lt = absurd (omega (arith, lt))
  grown_in_at_number i new (More k ks) lt = elim (cases_lt i (cut_count k)) [
    | inl l ↦
        let within = number_within i k l in
        rw (lt-ltb i (cut_count k) l, lt-ltb (cut_number i k) (size k) within) (ap (λ t. More t ks) (grown_at_number i new k l))
    | inr g ↦
        let past : size k ≤ size k + cut_number_in (i - cut_count k) ks = omega arith in
        rw (le-ltb i (cut_count k) g, le-ltb (size k + cut_number_in (i - cut_count k) ks) (size k) past, behind (size k) (cut_number_in (i - cut_count k) ks))
        (ap (λ ts. More k ts) (grown_in_at_number (i - cut_count k) new ks (omega (arith, lt, g))))
  ]
