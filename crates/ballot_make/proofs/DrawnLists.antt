-- One candidate more, and one ballot more.
use Rattle.std.proofs.Common.{ℕ, suc, List, [], ◌∷◌, ◌++◌, ◌≡◌, ◌<◌, ◌+◌, ◌-◌, ◌*◌, ◌∙◌, length, get_or, ap, sym}
use Rattle.std.proofs.Common.{append_assoc, refl, arith}
use Rattle.std.specs.List.{range_with_len, remove}
use Rattle.std.proofs.lemmas.List.FromFn.{length-range_with_len}
use Rattle.ballot_form.specs.Ballots.{Poll}
use Rattle.ballot_make.specs.Made.{ballot_drawn, ballots_drawn, candidates_drawn, lesser_drawn, next_state}
use Rattle.ballot_make.specs.Made.{number_drawn, state_after}

-- one candidate more is taken
pub ballot_step : (done left : List ℕ) (state count i place x : ℕ) (whole : List ℕ) → i < count
    → place ≡ lesser_drawn state (length left) → x ≡ get_or left place 0
    → done ++ candidates_drawn state left (count - i) ≡ whole
    → (done ++ x ∷ []) ++ candidates_drawn (state_after 2 state) (remove left place) (count - (i + 1)) ≡ whole
ballot_step done left state count i place x whole more at is so_far =
    append_assoc done (x ∷ []) _ ∙ rw (is, at) (sym (ap (λ rest. done ++ rest) one_more)) ∙ so_far
  where
    one_more : candidates_drawn state left (count - i)
        ≡ get_or left (lesser_drawn state (length left)) 0
        ∷ candidates_drawn (state_after 2 state) (remove left (lesser_drawn state (length left))) (count - (i + 1))
    one_more = let e : count - i ≡ suc (count - (i + 1)) = omega arith in rw e refl

-- the draws that are left
pub state_more : (state count i : ℕ) → i < count
    → state_after (2 * (count - i)) state ≡ state_after (2 * (count - (i + 1))) (state_after 2 state)
state_more state count i more =
    let e : 2 * (count - i) ≡ suc (suc (2 * (count - (i + 1)))) = omega arith in rw e refl

-- a ballot is what is drawn of all candidates, as many as the first draw says
pub ballot_begun : (c state state' count : ℕ) (left : List ℕ) → left ≡ range_with_len 0 c → state' ≡ next_state state
    → count ≡ number_drawn state (length left + 1) → candidates_drawn state' left count ≡ ballot_drawn c state
ballot_begun c state state' count left all next is =
    let size : length left ≡ c = ap (λ (xs : List ℕ). length xs) all ∙ length-range_with_len 0 c in
    rw (is, size, all, next) refl

-- one ballot more is drawn, and added to the roll
pub roll_step : (old new : Poll) (ballot row : List ℕ) (c n i state state' : ℕ) (whole : List (List ℕ)) → i < n
    → old.ballots ++ ballots_drawn c (n - i) state ≡ whole → ballot ≡ ballot_drawn c state
    → state' ≡ state_after (2 * length ballot + 1) state → row ≡ ballot
    → new ≡ record old { ballots = old.ballots ++ row ∷ [] }
    → new.ballots ++ ballots_drawn c (n - (i + 1)) state' ≡ whole
roll_step old new ballot row c n i state state' whole more so_far is next same one =
    rw (one, next, same, is)
    (append_assoc old.ballots (ballot_drawn c state ∷ []) _ ∙ sym (ap (λ rest. old.ballots ++ rest) one_more) ∙ so_far)
  where
    one_more : ballots_drawn c (n - i) state
        ≡ ballot_drawn c state
        ∷ ballots_drawn c (n - (i + 1)) (state_after (2 * length (ballot_drawn c state) + 1) state)
    one_more = let e : n - i ≡ suc (n - (i + 1)) = omega arith in rw e refl
