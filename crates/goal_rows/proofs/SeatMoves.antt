-- Another allocation of seats than a given one is admitted exactly where one party's next quotient reaches another
-- one's last.
use Rattle.std.proofs.Common.{ℕ, Bool, zero, suc, List, [], ◌∷◌, true, false, ◌≡◌, ◌≢◌, ◌<◌, ◌≤◌, ◌⊎◌, ◌+◌, ◌-◌, ◌*◌, ◌∙◌, ◌↔◌, length, replicate, get_or, set, length-set, get_or-set_same, get_or-set_other, ap, sym, refl, subst, inl, inr, arith}
use Rattle.std.proofs.Math.Nat.{mul-le-mul_left}
use Rattle.std.proofs.lemmas.Bool.{cases_eq, cases_lt}
use Rattle.std.proofs.lemmas.List.{get_or-replicate, length-replicate}
use Rattle.std.proofs.lemmas.Slice.Eq.{bytes_eq-Decides}
use Rattle.std.specs.Str.{bytes_eq}
use Rattle.dhondt_seats.specs.Seats.{IsAllocation, IsFair, reported_seats, seats_in_all}
use Rattle.dhondt_seats.specs.Serving.{IsNext, IsServed}
use Rattle.dhondt_seats.proofs.Counting.{sum_set}
use Rattle.dhondt_seats.proofs.Order.{IsFirst, kept, served_more, taken}
use Rattle.dhondt_seats.proofs.Shares.{admitted, between, fresh, reported}
use Rattle.goal_rows.specs.SeatGains.{IsSeatGain}

-- ---- the reported seats are an allocation

first_below : (votes shares : List ℕ) (i : ℕ) → (best : ℕ) × (best < suc i) × IsFirst votes shares best (suc i)
first_below votes shares zero = (0, omega arith, λ a lt other. absurd (omega arith))
first_below votes shares (suc i) =
    let rest = first_below votes shares i in
    let n : suc i + 1 ≡ suc (suc i) = omega arith in
    elim (cases_lt (get_or votes rest.0 0 * (get_or shares (suc i) 0 + 1)) (get_or votes (suc i) 0 * (get_or shares rest.0 0 + 1))) [
      | inl lt ↦ (suc i, omega arith, subst (λ k. IsFirst votes shares (suc i) k) n (taken votes shares rest.0 (suc i) rest.2 lt))
      | inr ge ↦ (rest.0, omega (arith, rest.1), subst (λ k. IsFirst votes shares rest.0 k) n (kept votes shares rest.0 (suc i) rest.2 rest.1 (λ lt. omega arith)))
    ]

next_party : (votes shares : List ℕ) → 1 ≤ length votes → (p : ℕ) × IsNext votes shares p
next_party [] shares some = absurd (omega arith)
next_party (v ∷ votes) shares some =
    let best = first_below (v ∷ votes) shares (length votes) in
    (best.0, record { party = best.1; first = λ a lt other. best.2 a lt other })

served : (votes : List ℕ) (s : ℕ) → 1 ≤ length votes → (shares : List ℕ) × IsServed votes shares × (seats_in_all shares ≡ s)
served votes zero some =
    let none : List ℕ = replicate (length votes) 0 in
    let long : length none ≡ length votes = length-replicate (length votes) 0 in
    let nothing : (a : ℕ) → a < length none → get_or none a 0 ≡ 0 = λ a lt. get_or-replicate (length votes) a 0 0 (omega (arith, lt, long)) in
    let start = fresh votes none long nothing in
    (none, start.0, start.1)
served votes (suc s) some =
    let before = served votes s some in
    let next = next_party votes before.0 some in
    let within : next.0 < length before.0 = (let e = before.1.parties in let lt = next.1.party in omega arith) in
    let sum = sum_set before.0 next.0 within in
    (set before.0 next.0 (get_or before.0 next.0 0 + 1), served_more votes before.0 next.0 next.1 before.1, (let e = before.2 in omega arith))

pub reported_allocation : (votes : List ℕ) (s : ℕ) → 1 ≤ length votes → IsAllocation votes s (reported_seats votes s)
reported_allocation votes s some =
    let all = served votes s some in
    subst (λ shares. IsAllocation votes s shares) (reported votes all.0 s all.1 all.2) (admitted votes all.0 s all.1 all.2)

-- ---- of two lists with the same sum that differ, one has less somewhere

abbrev no_more : List ℕ → List ℕ → Type 0
no_more xs ys = (i : ℕ) → i < length xs → get_or ys i 0 ≤ get_or xs i 0

none_more : (x y : ℕ) (xs ys : List ℕ) → y ≤ x → no_more xs ys → no_more (x ∷ xs) (y ∷ ys)
none_more x y xs ys le none zero lt = le
none_more x y xs ys le none (suc i) lt = none i (omega arith)

less_or_none : (xs ys : List ℕ) → length xs ≡ length ys → ((i : ℕ) × (i < length xs) × (get_or xs i 0 < get_or ys i 0)) ⊎ no_more xs ys
less_or_none [] ys same = inr (λ i lt. absurd (omega arith))
less_or_none (x ∷ xs) [] same = absurd (omega arith)
less_or_none (x ∷ xs) (y ∷ ys) same = elim (cases_lt x y) [
  | inl lt ↦ inl (0, omega arith, lt)
  | inr ge ↦ elim (less_or_none xs ys (omega arith)) [
    | inl found ↦ inl (suc found.0, omega (arith, found.1), found.2)
    | inr none ↦ inr (none_more x y xs ys ge none)
  ]
]

sum_no_more : (xs ys : List ℕ) → length xs ≡ length ys → no_more xs ys → seats_in_all ys ≤ seats_in_all xs
sum_no_more [] [] same none = omega arith
sum_no_more [] (y ∷ ys) same none = absurd (omega arith)
sum_no_more (x ∷ xs) [] same none = absurd (omega arith)
sum_no_more (x ∷ xs) (y ∷ ys) same none =
    let head = none 0 (omega arith) in
    let rest = sum_no_more xs ys (omega arith) (λ i lt. none (suc i) (omega arith)) in
    omega arith

same_by_sum : (xs ys : List ℕ) → length xs ≡ length ys → seats_in_all xs ≡ seats_in_all ys → no_more xs ys → xs ≡ ys
same_by_sum [] [] same sum none = refl
same_by_sum [] (y ∷ ys) same sum none = absurd (omega arith)
same_by_sum (x ∷ xs) [] same sum none = absurd (omega arith)
same_by_sum (x ∷ xs) (y ∷ ys) same sum none =
    let head : y ≤ x = none 0 (omega arith) in
    let later : no_more xs ys = λ i lt. none (suc i) (omega arith) in
    let rest = sum_no_more xs ys (omega arith) later in
    let first : x ≡ y = omega arith in
    let tail : xs ≡ ys = same_by_sum xs ys (omega arith) (omega arith) later in
    ap (λ z. z ∷ xs) first ∙ ap (λ zs. y ∷ zs) tail

less_somewhere : (xs ys : List ℕ) → length xs ≡ length ys → seats_in_all xs ≡ seats_in_all ys → xs ≢ ys → (i : ℕ) × (i < length xs) × (get_or xs i 0 < get_or ys i 0)
less_somewhere xs ys same sum differ = elim (less_or_none xs ys same) [
  | inl found ↦ found
  | inr none ↦ absurd (differ (same_by_sum xs ys same sum none))
]

-- ---- another allocation has a gain

product_le : (a b c d : ℕ) → a ≤ b → c ≤ d → a * c ≤ b * d
product_le a b c d ab cd =
    let x = mul-le-mul_left c ab in
    let y = mul-le-mul_left b cd in
    omega (arith, x, y)

pub gain_of_allocation : (votes shares other : List ℕ) (s : ℕ) → length shares ≡ length votes → seats_in_all shares ≡ s → other ≢ shares → IsAllocation votes s other
    → (g l : ℕ) × IsSeatGain votes shares g l
gain_of_allocation votes shares other s long sum differ is =
    let parties = is.parties in
    let all = is.all in
    let lost = less_somewhere other shares (omega arith) (omega arith) differ in
    let won = less_somewhere shares other (omega arith) (omega arith) (λ e. differ (sym e)) in
    let g = won.0 in
    let l = lost.0 in
    let fair = is.fair g l (omega (arith, won.1)) (omega (arith, lost.1)) (omega (arith, won.2)) in
    let up = product_le (get_or votes l 0) (get_or votes l 0) (get_or shares g 0 + 1) (get_or other g 0) (omega arith) (omega (arith, won.2)) in
    let down = product_le (get_or votes g 0) (get_or votes g 0) (get_or other l 0 + 1) (get_or shares l 0) (omega arith) (omega (arith, lost.2)) in (
      g,
      l,
      record {
        gainer = omega (arith, won.1);
        loser = omega (arith, lost.1);
        differ = λ e. let w = won.2 in let v = subst (λ i. get_or other i 0 < get_or shares i 0) (sym e) lost.2 in omega (arith, w, v);
        seated = omega (arith, lost.2);
        reaches = omega (arith, up, fair, down);
      },
    )

-- ---- a gain leaves another allocation

sum_taken : (xs : List ℕ) (i : ℕ) → i < length xs → 1 ≤ get_or xs i 0 → seats_in_all (set xs i (get_or xs i 0 - 1)) + 1 ≡ seats_in_all xs
sum_taken [] i lt some = absurd (omega arith)
sum_taken (x ∷ xs) zero lt some = omega arith
sum_taken (x ∷ xs) (suc i) lt some = let rest = sum_taken xs i (omega arith) some in omega arith

-- one seat goes from l to g
abbrev moved : List ℕ → ℕ → ℕ → List ℕ
moved shares g l = set (set shares g (get_or shares g 0 + 1)) l (get_or shares l 0 - 1)

record IsMoved (shares new : List ℕ) (g l : ℕ) : Type 0 where
  pub gained : get_or new g 0 ≡ get_or shares g 0 + 1
  pub lost : get_or new l 0 + 1 ≡ get_or shares l 0
  pub others : (i : ℕ) → i ≢ g → i ≢ l → get_or new i 0 ≡ get_or shares i 0

is_moved : (shares : List ℕ) (g l : ℕ) → g < length shares → l < length shares → g ≢ l → 1 ≤ get_or shares l 0 → IsMoved shares (moved shares g l) g l
is_moved shares g l gl ll differ some =
    let gained = set shares g (get_or shares g 0 + 1) in
    let long : length gained ≡ length shares = length-set shares g (get_or shares g 0 + 1) in
    let at_l = get_or-set_same gained l (get_or shares l 0 - 1) 0 (omega arith) in
    record {
      gained = get_or-set_other gained l g (get_or shares l 0 - 1) 0 differ ∙ get_or-set_same shares g (get_or shares g 0 + 1) 0 gl;
      lost = omega (arith, at_l);
      others = λ i ng nl. get_or-set_other gained l i (get_or shares l 0 - 1) 0 nl ∙ get_or-set_other shares g i (get_or shares g 0 + 1) 0 ng;
    }

sum_moved : (shares : List ℕ) (g l : ℕ) → g < length shares → l < length shares → g ≢ l → 1 ≤ get_or shares l 0 → seats_in_all (moved shares g l) ≡ seats_in_all shares
sum_moved shares g l gl ll differ some =
    let gained = set shares g (get_or shares g 0 + 1) in
    let long : length gained ≡ length shares = length-set shares g (get_or shares g 0 + 1) in
    let at_l : get_or gained l 0 ≡ get_or shares l 0 = get_or-set_other shares g l (get_or shares g 0 + 1) 0 (λ e. differ (sym e)) in
    let up = sum_set shares g gl in
    let down : seats_in_all (set gained l (get_or shares l 0 - 1)) + 1 ≡ seats_in_all gained =
    subst (λ n. seats_in_all (set gained l (n - 1)) + 1 ≡ seats_in_all gained) at_l (sum_taken gained l (omega arith) (omega (arith, at_l))) in
    omega (arith, up, down)

module _ (votes shares new : List ℕ) (g l : ℕ) (is : IsSeatGain votes shares g l) (fair : IsFair votes shares) (move : IsMoved shares new g l) where
  -- every party's next quotient is at most the loser's last one before
  next_below : (b : ℕ) → b < length votes → get_or votes b 0 * get_or shares l 0 ≤ get_or votes l 0 * (get_or new b 0 + 1)
  next_below b bl =
      let old = fair l b is.loser bl is.seated in
      elim (cases_eq b g) [
        | inl e ↦
            let here : get_or new b 0 ≡ get_or shares b 0 + 1 = rw e move.gained in
            let more = mul-le-mul_left (get_or votes l 0) (let h : get_or shares b 0 + 1 ≤ get_or new b 0 + 1 = omega arith in h) in
            omega (arith, old, more)
        | inr ng ↦ elim (cases_eq b l) [
          | inl e ↦ let h : get_or new b 0 + 1 ≡ get_or shares l 0 = rw e move.lost in rw (h, e) (omega arith)
          | inr nl ↦ let h = move.others b ng nl in rw h old
        ]
      ]

  -- and at most every seated party's last one
  last_above : (a : ℕ) → a < length votes → 1 ≤ get_or new a 0 → get_or votes l 0 * get_or new a 0 ≤ get_or votes a 0 * get_or shares l 0
  last_above a al some =
      elim (cases_eq a g) [
        | inl e ↦ let here : get_or new a 0 ≡ get_or shares g 0 + 1 = rw e move.gained in rw (here, e) is.reaches
        | inr ng ↦ elim (cases_eq a l) [
          | inl e ↦
              let here : get_or new a 0 + 1 ≡ get_or shares l 0 = rw e move.lost in
              let less = mul-le-mul_left (get_or votes l 0) (let h : get_or new a 0 ≤ get_or shares l 0 = omega arith in h) in
              rw e (rw e at less)
          | inr nl ↦
              let h : get_or new a 0 ≡ get_or shares a 0 = move.others a ng nl in
              let old = fair a g al is.gainer (let s : 1 ≤ get_or shares a 0 = omega (arith, some) in s) in
              rw h (between (get_or votes l 0) (get_or shares l 0) (get_or votes a 0) (get_or shares a 0) (get_or votes g 0) (get_or shares g 0 + 1) (omega arith) is.reaches old)
        ]
      ]

  fair_moved : IsFair votes new
  fair_moved a b al bl some =
      between (get_or votes b 0) (get_or new b 0 + 1) (get_or votes a 0) (get_or new a 0) (get_or votes l 0) (get_or shares l 0) is.seated (next_below b bl) (last_above a al some)

other_by_move : (votes shares : List ℕ) (s g l : ℕ) → IsAllocation votes s shares → IsSeatGain votes shares g l → (other : List ℕ) × (other ≢ shares) × IsAllocation votes s other
other_by_move votes shares s g l alloc is =
    let parties = alloc.parties in
    let gl : g < length shares = (let h = is.gainer in omega arith) in
    let ll : l < length shares = (let h = is.loser in omega arith) in
    let new = moved shares g l in
    let move = is_moved shares g l gl ll is.differ is.seated in
    let long : length new ≡ length shares = length-set (set shares g (get_or shares g 0 + 1)) l (get_or shares l 0 - 1) ∙ length-set shares g (get_or shares g 0 + 1) in (
      new,
      λ e. let here = move.gained in let same : get_or new g 0 ≡ get_or shares g 0 = ap (λ xs. get_or xs g 0) e in omega arith,
      record {
        parties = long ∙ parties;
        all = sum_moved shares g l gl ll is.differ is.seated ∙ alloc.all;
        fair = fair_moved votes shares new g l is alloc.fair move;
      },
    )

allocation_of_gain : (votes shares : List ℕ) (s g l : ℕ) → 1 ≤ length votes → IsSeatGain votes shares g l → (other : List ℕ) × (other ≢ shares) × IsAllocation votes s other
allocation_of_gain votes shares s g l some is = by (bytes_eq (reported_seats votes s) shares) refl
  where
    alloc : IsAllocation votes s (reported_seats votes s)
    alloc = reported_allocation votes s some

    by : (t : Bool) → t ≡ bytes_eq (reported_seats votes s) shares → (other : List ℕ) × (other ≢ shares) × IsAllocation votes s other
    by true e = let same : reported_seats votes s ≡ shares = (bytes_eq-Decides (reported_seats votes s) shares).0 (sym e) in
        other_by_move votes shares s g l (subst (λ xs. IsAllocation votes s xs) same alloc) is
    by false e = (reported_seats votes s, λ same. let no = (bytes_eq-Decides (reported_seats votes s) shares).1 same in cc, alloc)

pub another_where_gained : (votes shares : List ℕ) (s : ℕ) → 1 ≤ length votes → length shares ≡ length votes → seats_in_all shares ≡ s →
    ((other : List ℕ) × (other ≢ shares) × IsAllocation votes s other) ↔ ((g l : ℕ) × IsSeatGain votes shares g l)
another_where_gained votes shares s some long sum = (
  λ another. gain_of_allocation votes shares another.0 s long sum another.1 another.2,
  λ gain. allocation_of_gain votes shares s gain.0 gain.1 some gain.2,
)
