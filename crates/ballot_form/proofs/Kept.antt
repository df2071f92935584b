-- Ballots kept as marks and cells.
use Rattle.std.proofs.Common.{ℕ, zero, suc, List, [], ◌∷◌, ◌++◌, ◌≡◌, ◌≤◌, ◌<◌, ◌+◌, ◌-◌, ◌*◌, ◌∙◌, Some, All, length, replicate, drop, slice_get, slice_range, get_or, arith, refl, ap, sym, length-append, subst}
use Rattle.std.specs.Prelude.{option_map}
use Rattle.std.proofs.lemmas.Grind.{common_steps}
use Rattle.std.proofs.lemmas.List.{length-replicate, length-take, length-drop, take_rest, append_assoc, append-nil, replicate-append-replicate}
use Rattle.ballot_form.specs.declared.limits.TheConstants.{MOST_CANDIDATES}
use Rattle.ballot_form.specs.declared.marks.Mark.{Mark}
use Rattle.ballot_form.specs.Ballots.{IsValidBallot}
use Rattle.ballot_form.specs.Marks.{AreMarks, BeginsOtherwise, ballots_of, last_row, next_first, next_start, row_of}
use Rattle.ballot_form.proofs.Lengths.{length_valid}

pub first_le : (marks : List Mark) (cells : List ℕ) (len : ℕ) → AreMarks marks cells len → next_first marks len ≤ len
first_le [] cells len are = omega arith
first_le (m ∷ ms) cells len are = omega (arith, are.1, first_le ms cells len are.3)

pub start_le : (marks : List Mark) (cells : List ℕ) (len : ℕ) → AreMarks marks cells len → next_start marks (length cells) ≤ length cells
start_le [] cells len are = omega arith
start_le (m ∷ ms) cells len are = omega (arith, are.0, start_le ms cells len are.3)

-- how many ballots there are
pub length_ballots : (marks : List Mark) (cells : List ℕ) (len : ℕ) → AreMarks marks cells len → length (ballots_of marks cells len) + next_first marks len ≡ len
length_ballots [] cells len are = omega arith
length_ballots (m ∷ ms) cells len are =
    omega (
      arith,
      are.1,
      first_le ms cells len are.3,
      length_ballots ms cells len are.3,
      length-append (replicate (next_first ms len - m.first) (row_of m ms cells)) (ballots_of ms cells len),
      length-replicate (next_first ms len - m.first) (row_of m ms cells),
    )

-- later runs begin later
first_before : (marks : List Mark) (cells : List ℕ) (len k : ℕ) (d : Mark) → AreMarks marks cells len → k < length marks → next_first marks len ≤ (get_or marks k d).first
first_before [] cells len k d are within = absurd (omega arith)
first_before (m ∷ ms) cells len zero d are within = omega arith
first_before (m ∷ ms) cells len (suc k) d are within = omega (arith, are.1, first_before ms cells len k d are.3 (omega arith))

pub firsts_rise : (marks : List Mark) (cells : List ℕ) (len j k : ℕ) (d : Mark) → AreMarks marks cells len → j ≤ k → k < length marks → (get_or marks j d).first ≤ (get_or marks k d).first
firsts_rise [] cells len j k d are le within = absurd (omega arith)
firsts_rise (m ∷ ms) cells len zero zero d are le within = omega arith
firsts_rise (m ∷ ms) cells len zero (suc k) d are le within = omega (arith, are.1, first_before ms cells len k d are.3 (omega arith))
firsts_rise (m ∷ ms) cells len (suc j) zero d are le within = absurd (omega arith)
firsts_rise (m ∷ ms) cells len (suc j) (suc k) d are le within = firsts_rise ms cells len j k d are.3 (omega arith) (omega arith)

-- each run starts within the cells
pub start_before : (marks : List Mark) (cells : List ℕ) (len k : ℕ) (m : Mark) → AreMarks marks cells len → slice_get marks k ≡ Some m → m.start ≤ length cells
start_before [] cells len k m are at = absurd (cc)
start_before (n ∷ ms) cells len zero m are at = let e : n ≡ m = cc in omega (arith, ap (λ (o : Mark). o.start) e, are.0, start_le ms cells len are.3)
start_before (n ∷ ms) cells len (suc k) m are at = start_before ms cells len k m are.3 at

-- equal ballots, and others behind them
pub get_front : (n j : ℕ) (row : List ℕ) (rest : List (List ℕ)) → j < n → slice_get (replicate n row ++ rest) j ≡ Some row
get_front zero j row rest lt = absurd (omega arith)
get_front (suc n) zero row rest lt = refl
get_front (suc n) (suc j) row rest lt = get_front n j row rest (omega arith)

pub get_behind : (n j k : ℕ) (row : List ℕ) (rest : List (List ℕ)) → k ≡ n + j → slice_get (replicate n row ++ rest) k ≡ slice_get rest j
get_behind zero j k row rest e = ap (slice_get rest) (omega (arith, e))
get_behind (suc n) j zero row rest e = absurd (omega (arith, e))
get_behind (suc n) j (suc k) row rest e = get_behind n j k row rest (omega (arith, e))

-- the ballot at i, where the run k begins at it or before it, and no later run does
row_here : (marks : List Mark) (cells : List ℕ) (len i k : ℕ) → AreMarks marks cells len → next_first marks len ≤ i → i < len
    → k < length marks → ((j : ℕ) (d : Mark) → j ≤ k → (get_or marks j d).first ≤ i) → ((j : ℕ) (d : Mark) → k < j → j < length marks → i < (get_or marks j d).first)
    → slice_get (ballots_of marks cells len) (i - next_first marks len) ≡ Some (slice_range cells (next_start (drop k marks) (length cells)) (next_start (drop (suc k) marks) (length cells)))
row_here [] cells len i k are from within some before after = absurd (omega arith)
row_here (m ∷ []) cells len i zero are from within some before after = get_front (len - m.first) (i - m.first) _ [] (omega arith)
row_here (m ∷ n ∷ ms) cells len i zero are from within some before after =
    get_front (n.first - m.first) (i - m.first) _ _ (omega (arith, after 1 m (omega arith) (omega arith)))
row_here (m ∷ []) cells len i (suc k) are from within some before after = absurd (omega arith)
row_here (m ∷ n ∷ ms) cells len i (suc k) are from within some before after =
    let past : n.first ≤ i = before 1 m (omega arith) in
    let rest = row_here (n ∷ ms) cells len i k are.3 past within (omega arith)
    (λ j d le. before (suc j) d (omega arith)) (λ j d gt lt. after (suc j) d (omega arith) (omega arith)) in
    get_behind (n.first - m.first) (i - n.first) (i - m.first) _ _ (omega (arith, are.1)) ∙ rest

-- where a run starts and ends
starts_rise : (marks : List Mark) (cells : List ℕ) (len k : ℕ) → AreMarks marks cells len → k < length marks
    → (next_start (drop k marks) (length cells) ≤ next_start (drop (suc k) marks) (length cells)) × (next_start (drop (suc k) marks) (length cells) ≤ length cells)
starts_rise [] cells len k are within = absurd (omega arith)
starts_rise (m ∷ ms) cells len zero are within = (are.0, start_le ms cells len are.3)
starts_rise (m ∷ ms) cells len (suc k) are within = starts_rise ms cells len k are.3 (omega arith)

pub end_le : (marks : List Mark) (cells : List ℕ) (len n : ℕ) → AreMarks marks cells len → next_start (drop n marks) (length cells) ≤ length cells
end_le marks cells len zero are = start_le marks cells len are
end_le [] cells len (suc n) are = omega arith
end_le (m ∷ ms) cells len (suc n) are = end_le ms cells len n are.3

-- n runs begin at the ballot i or before it: so there is one, and it holds the ballot
pub some_found : (marks : List Mark) (cells : List ℕ) (len i n : ℕ) → next_first marks len ≡ 0 → i < length (ballots_of marks cells len)
    → ((j : ℕ) (d : Mark) → n ≤ j → j < length marks → i < (get_or marks j d).first) → 1 ≤ n
some_found [] cells len i n from within after = absurd (omega arith)
some_found (m ∷ ms) cells len i zero from within after = absurd (omega (arith, after 0 m (omega arith) (omega arith)))
some_found (m ∷ ms) cells len i (suc n) from within after = omega arith

pub rise_found : (marks : List Mark) (cells : List ℕ) (len n : ℕ) → AreMarks marks cells len → 1 ≤ n → n ≤ length marks
    → (next_start (drop (n - 1) marks) (length cells) ≤ next_start (drop n marks) (length cells)) × (next_start (drop n marks) (length cells) ≤ length cells)
rise_found marks cells len zero are some within = absurd (omega arith)
rise_found marks cells len (suc k) are some within =
    let one : suc k - 1 ≡ k = omega arith in
    rw one (starts_rise marks cells len k are (omega arith))

pub row_found : (marks : List Mark) (cells : List ℕ) (len i n : ℕ) → AreMarks marks cells len → next_first marks len ≡ 0 → i < length (ballots_of marks cells len)
    → 1 ≤ n → n ≤ length marks → ((j : ℕ) (d : Mark) → j < n → (get_or marks j d).first ≤ i) → ((j : ℕ) (d : Mark) → n ≤ j → j < length marks → i < (get_or marks j d).first)
    → slice_get (ballots_of marks cells len) i ≡ Some (slice_range cells (next_start (drop (n - 1) marks) (length cells)) (next_start (drop n marks) (length cells)))
row_found marks cells len i zero are from within some few before after = absurd (omega arith)
row_found marks cells len i (suc k) are from within some few before after =
    let one : suc k - 1 ≡ k = omega arith in
    let here = row_here marks cells len i k are (omega arith) (omega (arith, length_ballots marks cells len are)) (omega arith)
    (λ j d le. before j d (omega arith)) (λ j d gt lt. after j d (omega arith) lt) in
    rw one (ap (slice_get (ballots_of marks cells len)) (omega arith) ∙ here)

-- the last run's ballot, by its place
last_row_at : (marks : List Mark) (cells : List ℕ) → last_row marks cells ≡ option_map (λ m. drop m.start cells) (slice_get marks (length marks - 1))
last_row_at [] cells = refl
last_row_at (m ∷ []) cells = refl
last_row_at (m ∷ n ∷ ms) cells =
    let one : length (m ∷ n ∷ ms) - 1 ≡ suc (length (n ∷ ms) - 1) = omega arith in
    last_row_at (n ∷ ms) cells ∙ ap (λ k. option_map (λ m. drop m.start cells) (slice_get (m ∷ n ∷ ms) k)) (sym one)

pub last_row_is : (marks : List Mark) (cells : List ℕ) (m : Mark) → slice_get marks (length marks - 1) ≡ Some m → last_row marks cells ≡ Some (slice_range cells m.start (length cells))
last_row_is marks cells m at = last_row_at marks cells ∙ ap (option_map (λ m. drop m.start cells)) at ∙ ap Some (sym (take_rest cells m.start))

begins_more : (row : List ℕ) (xs ys : List (List ℕ)) → 0 < length xs → BeginsOtherwise row xs → BeginsOtherwise row (xs ++ ys)
begins_more row [] ys some other = absurd (omega arith)
begins_more row (x ∷ xs) ys some other = other

some_ballots : (m : Mark) (ms : List Mark) (cells : List ℕ) (len : ℕ) → AreMarks (m ∷ ms) cells len → 0 < length (ballots_of (m ∷ ms) cells len)
some_ballots m ms cells len are = omega (arith, length_ballots (m ∷ ms) cells len are, are.1, first_le ms cells len are.3)

-- more ballots of the last run
pub more_equal : (marks : List Mark) (cells : List ℕ) (len n : ℕ) (row : List ℕ) → AreMarks marks cells len → last_row marks cells ≡ Some row
    → (ballots_of marks cells (len + n) ≡ ballots_of marks cells len ++ replicate n row) × AreMarks marks cells (len + n)
more_equal [] cells len n row are last = absurd (cc)
more_equal (m ∷ []) cells len n row are last =
    let same : row_of m [] cells ≡ row = take_rest cells m.start ∙ (cc) in
    let count : (len + n) - m.first ≡ (len - m.first) + n = omega (arith, are.1) in (
      append-nil _ ∙ ap (λ k. replicate k (row_of m [] cells)) count ∙ sym (replicate-append-replicate (len - m.first) n (row_of m [] cells))
          ∙ rw same (ap (λ xs. xs ++ replicate n row) (sym (append-nil (replicate (len - m.first) row)))),
      (are.0, omega (arith, are.1), are.2, are.3),
    )
more_equal (m ∷ k ∷ ms) cells len n row are last =
    let rest = more_equal (k ∷ ms) cells len n row are.3 last in (
      ap (λ xs. replicate (k.first - m.first) (row_of m (k ∷ ms) cells) ++ xs) rest.0
          ∙ sym (append_assoc (replicate (k.first - m.first) (row_of m (k ∷ ms) cells)) (ballots_of (k ∷ ms) cells len) (replicate n row)),
      (
        are.0,
        are.1,
        subst (BeginsOtherwise (row_of m (k ∷ ms) cells)) (sym rest.0) (begins_more _ _ (replicate n row) (some_ballots k ms cells len are.3) are.2),
        rest.1,
      ),
    )

front_kept : (cells row : List ℕ) (a b : ℕ) → b ≤ length cells → slice_range (cells ++ row) a b ≡ slice_range cells a b
front_kept cells row a b within = grind (arith, common_steps)

end_new : (cells row : List ℕ) → slice_range (cells ++ row) (length cells) (length (cells ++ row)) ≡ row
end_new cells row = grind (arith, common_steps, length-append cells row)

begins_otherwise : (n : ℕ) (row other : List ℕ) (rest : List (List ℕ)) → 1 ≤ n → (row ≡ other → ⊥) → BeginsOtherwise other (replicate n row ++ rest)
begins_otherwise zero row other rest some differ = absurd (omega arith)
begins_otherwise (suc n) row other rest some differ = differ

-- a run more
pub more_other : (marks : List Mark) (cells : List ℕ) (len n : ℕ) (row : List ℕ) → AreMarks marks cells len → 1 ≤ n → (last_row marks cells ≡ Some row → ⊥)
    → (ballots_of (marks ++ record { start = length cells; first = len } ∷ []) (cells ++ row) (len + n) ≡ ballots_of marks cells len ++ replicate n row)
    × AreMarks (marks ++ record { start = length cells; first = len } ∷ []) (cells ++ row) (len + n)
more_other [] cells len n row are some other =
    let count : (len + n) - len ≡ n = omega arith in
    (append-nil _ ∙ rw (end_new cells row, count) refl, (omega (arith, length-append cells row), omega (arith, some), tt, tt))
more_other (m ∷ []) cells len n row are some other =
    let rest = more_other [] cells len n row tt some (λ e. absurd (cc)) in
    let same : slice_range (cells ++ row) m.start (length cells) ≡ row_of m [] cells = front_kept cells row m.start (length cells) (omega arith) in
    let last : row_of m [] cells ≡ drop m.start cells = take_rest cells m.start in (
      rw same (ap (λ xs. replicate (len - m.first) (row_of m [] cells) ++ xs) rest.0) ∙ ap (λ xs. xs ++ replicate n row) (sym (append-nil _)),
      (
        are.0,
        are.1,
        rw same (subst (BeginsOtherwise (row_of m [] cells)) (sym rest.0 ∙ refl) (subst (BeginsOtherwise (row_of m [] cells)) (append-nil _) (begins_otherwise n row (row_of m [] cells) [] some (λ e. other (ap Some (sym last ∙ sym e)))))),
        rest.1,
      ),
    )
more_other (m ∷ k ∷ ms) cells len n row are some other =
    let rest = more_other (k ∷ ms) cells len n row are.3 some other in
    let same : slice_range (cells ++ row) m.start k.start ≡ row_of m (k ∷ ms) cells = front_kept cells row m.start k.start (start_le (k ∷ ms) cells len are.3) in (
      rw same (ap (λ xs. replicate (k.first - m.first) (row_of m (k ∷ ms) cells) ++ xs) rest.0)
          ∙ sym (append_assoc (replicate (k.first - m.first) (row_of m (k ∷ ms) cells)) (ballots_of (k ∷ ms) cells len) (replicate n row)),
      (
        are.0,
        are.1,
        rw same (subst (BeginsOtherwise (row_of m (k ∷ ms) cells)) (sym rest.0) (begins_more _ _ (replicate n row) (some_ballots k ms cells len are.3) are.2)),
        rest.1,
      ),
    )

-- as many cells as places on valid ballots, at most
pub cells_few : (c len : ℕ) (marks : List Mark) (cells : List ℕ) → c ≤ MOST_CANDIDATES → All (IsValidBallot c) (ballots_of marks cells len) → AreMarks marks cells len
    → length cells ≤ next_start marks (length cells) + MOST_CANDIDATES * length (ballots_of marks cells len)
cells_few c len [] cells few valid are = omega arith
cells_few c len (m ∷ ms) cells few valid are =
    let front = replicate (next_first ms len - m.first) (row_of m ms cells) in
    let rest = cells_few c len ms cells few (rest_valid c (next_first ms len - m.first) (row_of m ms cells) (ballots_of ms cells len) valid) are.3 in
    let here : IsValidBallot c (row_of m ms cells) = first_valid c (next_first ms len - m.first) (row_of m ms cells) (ballots_of ms cells len) (omega (arith, are.1)) valid in
    omega (
      arith,
      rest,
      length_valid c (row_of m ms cells) here,
      are.0,
      are.1,
      start_le ms cells len are.3,
      length-take (next_start ms (length cells) - m.start) (drop m.start cells),
      length-drop m.start cells,
      length-append front (ballots_of ms cells len),
      length-replicate (next_first ms len - m.first) (row_of m ms cells),
    )
  where
    first_valid : (c n : ℕ) (row : List ℕ) (rest : List (List ℕ)) → 1 ≤ n → All (IsValidBallot c) (replicate n row ++ rest) → IsValidBallot c row
    first_valid c zero row rest some valid = absurd (omega arith)
    first_valid c (suc n) row rest some valid = valid 0 row (omega arith)

    rest_valid : (c n : ℕ) (row : List ℕ) (rest : List (List ℕ)) → All (IsValidBallot c) (replicate n row ++ rest) → All (IsValidBallot c) rest
    rest_valid c zero row rest valid = valid
    rest_valid c (suc n) row rest valid = rest_valid c n row rest (λ i d lt. valid (suc i) d (omega arith))
