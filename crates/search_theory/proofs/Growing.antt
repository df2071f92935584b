-- The cuts of a tree that grew at one of them, and what holds everywhere in it.
use Rattle.std.proofs.Common.{◌≡◌, ℕ, zero, suc, ◌+◌, ◌-◌, ◌<◌, ◌≤◌, List, [], ◌∷◌, ◌++◌, length, length-append, append-nil, append_assoc, refl, sym, ap, ◌∙◌, inl, inr, arith}
use Rattle.std.proofs.lemmas.Bool.{cases_lt, lt-ltb, le-ltb}
use Rattle.row_program.specs.declared.Feature.{Feature}
use Rattle.bound_tree.specs.Nodes.{size, size_all, cut_count, cut_count_all}
use Rattle.bound_tree.specs.Plain.{Plain, Kids, Split, Branch, Cut, None, More}
use Rattle.goal_rows.specs.Elections.{Election}
use Rattle.goal_rows.specs.Nodes.{high_half, low_half}
use Rattle.search_theory.specs.Spots.{Everywhere, EveryKid, Hung, Spot, Words, below, cover_list, grown, grown_in, hung_among, hung_of, put_at, spots_below}

-- the i-th item is so
abbrev pub AtPlace : {A : Type 0} → (A → Type 0) → ℕ → List A → Type 0
AtPlace P i [] = ⊥
AtPlace P zero (x ∷ xs) = P x
AtPlace P (suc i) (x ∷ xs) = AtPlace P i xs

put_at-left : {A : Type 0} (i : ℕ) (f : A → List A) (xs ys : List A) → i < length xs → put_at i f (xs ++ ys) ≡ put_at i f xs ++ ys
put_at-left i f [] ys lt = absurd (omega arith)
put_at-left zero f (x ∷ xs) ys lt = sym (append_assoc (f x) xs ys)
put_at-left (suc i) f (x ∷ xs) ys lt = ap (λ l. x ∷ l) (put_at-left i f xs ys (omega arith))

put_at-right : {A : Type 0} (i : ℕ) (f : A → List A) (xs ys : List A) → length xs ≤ i → put_at i f (xs ++ ys) ≡ xs ++ put_at (i - length xs) f ys
put_at-right i f [] ys le = let e : i - 0 ≡ i = omega arith in rw e refl
put_at-right zero f (x ∷ xs) ys le = absurd (omega arith)
put_at-right (suc i) f (x ∷ xs) ys le =
    let e : suc i - suc (length xs) ≡ i - length xs = omega arith in
    rw e (ap (λ l. x ∷ l) (put_at-right i f xs ys (omega arith)))

AtPlace-left : {A : Type 0} (P : A → Type 0) (i : ℕ) (xs ys : List A) → i < length xs → AtPlace P i (xs ++ ys) → AtPlace P i xs
AtPlace-left P i [] ys lt h = absurd (omega arith)
AtPlace-left P zero (x ∷ xs) ys lt h = h
AtPlace-left P (suc i) (x ∷ xs) ys lt h = AtPlace-left P i xs ys (omega arith) h

AtPlace-right : {A : Type 0} (P : A → Type 0) (i j : ℕ) (xs ys : List A) → i ≡ j + length xs → AtPlace P i (xs ++ ys) → AtPlace P j ys
AtPlace-right P i j [] ys e h = let e' : i ≡ j = omega arith in rw e' at h
AtPlace-right P zero j (x ∷ xs) ys e h = absurd (omega arith)
AtPlace-right P (suc i) j (x ∷ xs) ys e h = AtPlace-right P i j xs ys (omega arith) h

module _ (e : Election) (words : Words) where
  abbrev All : Plain → Spot → Type 0
  All = Everywhere e words

  abbrev AllKids : Kids → List Spot → Type 0
  AllKids = EveryKid e words

  mutual
    pub length-hung_of : (t : Plain) (s : Spot) → All t s → length (hung_of e t s) ≡ cut_count t
    length-hung_of (Split kids) s so = length-hung_among kids (spots_below s (cover_list e s.node.goal)) so.1
    length-hung_of (Branch f v low high) s so =
        omega (
          arith,
          length-append (hung_of e low (below s (low_half s.node f v))) (hung_of e high (below s (high_half s.node f v))),
          length-hung_of low (below s (low_half s.node f v)) so.1,
          length-hung_of high (below s (high_half s.node f v)) so.2,
        )
    length-hung_of (Cut ms) s so = refl

    length-hung_among : (kids : Kids) (gs : List Spot) → AllKids kids gs → length (hung_among e kids gs) ≡ cut_count_all kids
    length-hung_among None gs so = refl
    length-hung_among (More k ks) [] so = absurd so
    length-hung_among (More k ks) (g ∷ gs) so =
        omega (arith, length-append (hung_of e k g) (hung_among e ks gs), length-hung_of k g so.0, length-hung_among ks gs so.1)

  abbrev new : Plain → Hung → List (Hung)
  new sub x = hung_of e sub x.spot

  mutual
    pub hung_of-grown : (i : ℕ) (sub t : Plain) (s : Spot) → All t s →
        hung_of e (grown i sub t) s ≡ put_at i (new sub) (hung_of e t s)
    hung_of-grown i sub (Split kids) s so = hung_among-grown i sub kids (spots_below s (cover_list e s.node.goal)) so.1
    hung_of-grown i sub (Branch f v low high) s so =
        let a = hung_of e low (below s (low_half s.node f v)) in
        let b = hung_of e high (below s (high_half s.node f v)) in
        let n = length-hung_of low (below s (low_half s.node f v)) so.1 in
        elim (cases_lt i (cut_count low)) [
          | inl lt ↦ rw (lt-ltb i (cut_count low) lt)
              (ap (λ l. l ++ b) (hung_of-grown i sub low (below s (low_half s.node f v)) so.1) ∙ sym (put_at-left i (new sub) a b (omega arith)))
          | inr le ↦ rw (le-ltb i (cut_count low) le)
              (ap (λ l. a ++ l) (hung_of-grown (i - cut_count low) sub high (below s (high_half s.node f v)) so.2)
              ∙ ap (λ k. a ++ put_at (i - k) (new sub) b) (sym n) ∙ sym (put_at-right i (new sub) a b (omega arith)))
        ]
    hung_of-grown zero sub (Cut ms) s so = sym (append-nil (hung_of e sub s))
    hung_of-grown (suc i) sub (Cut ms) s so = rw (le-ltb (suc i) 1 (omega arith)) refl

    hung_among-grown : (i : ℕ) (sub : Plain) (kids : Kids) (gs : List Spot) → AllKids kids gs →
        hung_among e (grown_in i sub kids) gs ≡ put_at i (new sub) (hung_among e kids gs)
    hung_among-grown i sub None gs so = refl
    hung_among-grown i sub (More k ks) [] so = absurd so
    hung_among-grown i sub (More k ks) (g ∷ gs) so =
        let a = hung_of e k g in
        let b = hung_among e ks gs in
        let n = length-hung_of k g so.0 in
        elim (cases_lt i (cut_count k)) [
          | inl lt ↦ rw (lt-ltb i (cut_count k) lt)
              (ap (λ l. l ++ b) (hung_of-grown i sub k g so.0) ∙ sym (put_at-left i (new sub) a b (omega arith)))
          | inr le ↦ rw (le-ltb i (cut_count k) le)
              (ap (λ l. a ++ l) (hung_among-grown (i - cut_count k) sub ks gs so.1)
              ∙ ap (λ m. a ++ put_at (i - m) (new sub) b) (sym n) ∙ sym (put_at-right i (new sub) a b (omega arith)))
        ]

  abbrev Here : Plain → Hung → Type 0
  Here sub h = All sub h.spot

  -- what holds everywhere in the tree and in the part that is put in holds everywhere
  mutual
    pub Everywhere-grown : (i : ℕ) (sub t : Plain) (s : Spot) → All t s →
        AtPlace (Here sub) i (hung_of e t s) → All (grown i sub t) s
    Everywhere-grown i sub (Split kids) s so at = (so.0, EveryKid-grown i sub kids (spots_below s (cover_list e s.node.goal)) so.1 at)
    Everywhere-grown i sub (Branch f v low high) s so at =
        let a = hung_of e low (below s (low_half s.node f v)) in
        let b = hung_of e high (below s (high_half s.node f v)) in
        let n = length-hung_of low (below s (low_half s.node f v)) so.1 in
        elim (cases_lt i (cut_count low)) [
          | inl lt ↦ rw (lt-ltb i (cut_count low) lt)
              (so.0, Everywhere-grown i sub low (below s (low_half s.node f v)) so.1 (AtPlace-left (Here sub) i a b (omega arith) at), so.2)
          | inr le ↦ rw (le-ltb i (cut_count low) le) (
            so.0,
            so.1,
            Everywhere-grown (i - cut_count low) sub high (below s (high_half s.node f v)) so.2
                (AtPlace-right (Here sub) i (i - cut_count low) a b (omega arith) at),
          )
        ]
    Everywhere-grown zero sub (Cut ms) s so at = at
    Everywhere-grown (suc i) sub (Cut ms) s so at = absurd at

    pub EveryKid-grown : (i : ℕ) (sub : Plain) (kids : Kids) (gs : List Spot) → AllKids kids gs →
        AtPlace (Here sub) i (hung_among e kids gs) → AllKids (grown_in i sub kids) gs
    EveryKid-grown i sub None gs so at = absurd at
    EveryKid-grown i sub (More k ks) [] so at = absurd so
    EveryKid-grown i sub (More k ks) (g ∷ gs) so at =
        let a = hung_of e k g in
        let b = hung_among e ks gs in
        let n = length-hung_of k g so.0 in
        elim (cases_lt i (cut_count k)) [
          | inl lt ↦ rw (lt-ltb i (cut_count k) lt)
              (Everywhere-grown i sub k g so.0 (AtPlace-left (Here sub) i a b (omega arith) at), so.1)
          | inr le ↦ rw (le-ltb i (cut_count k) le)
              (so.0, EveryKid-grown (i - cut_count k) sub ks gs so.1 (AtPlace-right (Here sub) i (i - cut_count k) a b (omega arith) at))
        ]

-- at each of the cuts the one word gives the other
abbrev pub Hanging : (List ℕ → Spot → Type 0) → (List ℕ → Spot → Type 0) → List Hung → Type 0
Hanging cut other [] = Unit {0}
Hanging cut other (h ∷ hs) = (cut h.multipliers h.spot → other h.multipliers h.spot) × Hanging cut other hs

Hanging-left : (cut other : List ℕ → Spot → Type 0) (xs ys : List Hung) → Hanging cut other (xs ++ ys) → Hanging cut other xs
Hanging-left cut other [] ys h = tt
Hanging-left cut other (x ∷ xs) ys h = (h.0, Hanging-left cut other xs ys h.1)

Hanging-right : (cut other : List ℕ → Spot → Type 0) (xs ys : List Hung) → Hanging cut other (xs ++ ys) → Hanging cut other ys
Hanging-right cut other [] ys h = h
Hanging-right cut other (x ∷ xs) ys h = Hanging-right cut other xs ys h.1

-- weaker words in place of the old ones
module _ (e : Election) (old new : Words) (at_split : (s : Spot) → old.split s → new.split s)
    (at_branch : (f : Feature) (v : ℕ) (s : Spot) → old.branch f v s → new.branch f v s) where
  mutual
    pub Everywhere-map : (t : Plain) (s : Spot) → Everywhere e old t s → Hanging old.cut new.cut (hung_of e t s) → Everywhere e new t s
    Everywhere-map (Split kids) s so at = (at_split s so.0, EveryKid-map kids (spots_below s (cover_list e s.node.goal)) so.1 at)
    Everywhere-map (Branch f v low high) s so at =
        let a = hung_of e low (below s (low_half s.node f v)) in
        let b = hung_of e high (below s (high_half s.node f v)) in (
          at_branch f v s so.0,
          Everywhere-map low (below s (low_half s.node f v)) so.1 (Hanging-left old.cut new.cut a b at),
          Everywhere-map high (below s (high_half s.node f v)) so.2 (Hanging-right old.cut new.cut a b at),
        )
    Everywhere-map (Cut ms) s so at = at.0 so

    EveryKid-map : (kids : Kids) (gs : List Spot) → EveryKid e old kids gs → Hanging old.cut new.cut (hung_among e kids gs) → EveryKid e new kids gs
    EveryKid-map None [] so at = tt
    EveryKid-map None (g ∷ gs) so at = so
    EveryKid-map (More k ks) [] so at = so
    EveryKid-map (More k ks) (g ∷ gs) so at =
        let a = hung_of e k g in
        let b = hung_among e ks gs in
        (Everywhere-map k g so.0 (Hanging-left old.cut new.cut a b at), EveryKid-map ks gs so.1 (Hanging-right old.cut new.cut a b at))

-- the number of nodes after a growth
mutual
  pub size-grown : (i : ℕ) (sub t : Plain) → i < cut_count t → size (grown i sub t) + 1 ≡ size t + size sub
  size-grown i sub (Split kids) lt = omega (arith, size_all-grown i sub kids lt)
  size-grown i sub (Branch f v low high) lt = elim (cases_lt i (cut_count low)) [
    | inl l ↦ rw (lt-ltb i (cut_count low) l) (omega (arith, size-grown i sub low l))
    | inr g ↦ rw (le-ltb i (cut_count low) g) (omega (arith, size-grown (i - cut_count low) sub high (omega arith)))
  ]
  size-grown i sub (Cut ms) lt = rw (lt-ltb i 1 lt) (omega arith)

  size_all-grown : (i : ℕ) (sub : Plain) (kids : Kids) → i < cut_count_all kids → size_all (grown_in i sub kids) + 1 ≡ size_all kids + size sub
  size_all-grown i sub None lt = absurd (omega arith)
  size_all-grown i sub (More k ks) lt = elim (cases_lt i (cut_count k)) [
    | inl l ↦ rw (lt-ltb i (cut_count k) l) (omega (arith, size-grown i sub k l))
    | inr g ↦ rw (le-ltb i (cut_count k) g) (omega (arith, size_all-grown (i - cut_count k) sub ks (omega arith)))
  ]
