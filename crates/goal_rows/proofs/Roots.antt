-- The root goals: what it takes to be among them, and that they are goals that an election may have below the root.
use Rattle.std.proofs.Common.{ℕ, List, [], ◌∷◌, true, ◌≡◌, ◌≢◌, ◌<◌, ◌≤◌, ◌+◌, ◌∙◌, length, get_or, map, ap, sym, refl, subst, arith, All}
use Rattle.std.specs.Prelude.{◌==◌, not, Contains, AllPairs, slice_index}
use Rattle.std.specs.List.{flat_map, range_with_len}
use Rattle.std.proofs.lemmas.Bool.Decides.{nat_tests}
use Rattle.std.proofs.lemmas.List.{length-map}
use Rattle.std.proofs.lemmas.List.Elements.{Contains-get_or}
use Rattle.std.proofs.lemmas.List.FromFn.{get_or-range_with_len, length-range_with_len}
use Rattle.std.proofs.Math.Nat.{mul-le-mul}
use Rattle.ballot_form.specs.Ballots.{IsPoll, Poll}
use Rattle.ballot_form.specs.declared.outcome.Outcome.{Outcome}
use Rattle.ballot_form.specs.declared.outcome.Outcome.TheVariants.{Winner, NoWinner, Seats}
use Rattle.ballot_form.specs.declared.rule.Rule.{Rule}
use Rattle.ballot_form.specs.declared.rule.Rule.TheVariants.{Plurality, Borda, Condorcet, Dhondt, Irv}
use Rattle.goal_rows.specs.Elections.{Election}
use Rattle.goal_rows.specs.Goals.{AreRoots, HasPairs, IsRootOf, is_seated, root_goals}
use Rattle.goal_rows.specs.Suffixes.{those}
use Rattle.goal_rows.specs.Outcomes.{IsReported}
use Rattle.goal_rows.specs.declared.goals.Goal.{Goal}
use Rattle.goal_rows.specs.declared.goals.Goal.TheVariants.{Suffix, Pair, Cover}
use Rattle.goal_rows.proofs.Lists.{among_lists, among_made, among_those, is_other, lists_are, lists_few, lists_once, made_are, made_few, made_once, other_is, those_are, those_once}

pair_is : (g l h m : ℕ) → Pair g l ≡ Pair h m → (g ≡ h) × (l ≡ m)
pair_is g l h m e = (cc, cc)

-- ---- the pairs with a winner of each other candidate

abbrev pub with_winner : ℕ → ℕ → List Goal
with_winner c x = map (λ j. Pair j x) (those c (λ j. not (j == x)))

pub pairs_are : (c x g l : ℕ) → Contains (with_winner c x) (Pair g l) → (g < c) × (g ≢ x) × (l ≡ x)
pairs_are c x g l there =
    let is = made_are (λ j. Pair j x) (those c (λ j. not (j == x))) (Pair g l) there in
    let same = pair_is is.0 x g l is.2 in
    let among = those_are c is.0 (λ j. not (j == x)) is.1 in
    (omega (arith, among.0, same.0), λ e. other_is is.0 x among.1 (same.0 ∙ e), sym same.1)

pub pair_among : (c x g : ℕ) → g < c → g ≢ x → Contains (with_winner c x) (Pair g x)
pair_among c x g lt differ =
    among_made (λ j. Pair j x) (those c (λ j. not (j == x))) g (among_those c g (λ j. not (j == x)) lt (is_other g x differ))

-- they are all pairs
pub pairs_only : (c x : ℕ) (goal : Goal) → Contains (with_winner c x) goal → (g : ℕ) × (goal ≡ Pair g x)
pairs_only c x goal there = let is = made_are (λ j. Pair j x) (those c (λ j. not (j == x))) goal there in (is.0, sym is.2)

-- ---- the pairs under D'Hondt

abbrev pub of_gainer : ℕ → List ℕ → ℕ → List Goal
of_gainer c shares g = map (λ l. Pair g l) (those c (is_seated shares g))

abbrev pub with_seats : ℕ → List ℕ → List Goal
with_seats c shares = flat_map (λ g. map (λ l. Pair g l) (those c (is_seated shares g))) (range_with_len 0 c)

seated_is : (shares : List ℕ) (g l : ℕ) → is_seated shares g l ≡ true → (l ≢ g) × (1 ≤ slice_index shares l)
seated_is shares g l h = (λ e. grind (arith, nat_tests), grind (arith, nat_tests))

seated_where : (shares : List ℕ) (g l : ℕ) → l ≢ g → 1 ≤ slice_index shares l → is_seated shares g l ≡ true
seated_where shares g l ne some = grind (arith, nat_tests)

pub seat_pairs_are : (c g l : ℕ) (shares : List ℕ) → Contains (with_seats c shares) (Pair g l) → (g < c) × (l < c) × (l ≢ g) × (1 ≤ slice_index shares l)
seat_pairs_are c g l shares there =
    let is = lists_are (of_gainer c shares) c (Pair g l) there in
    let made = made_are (λ m. Pair is.0 m) (those c (is_seated shares is.0)) (Pair g l) is.2 in
    let same = pair_is is.0 made.0 g l made.2 in
    let among = those_are c made.0 (is_seated shares is.0) made.1 in
    let seated = seated_is shares is.0 made.0 among.1 in
    (omega (arith, is.1, same.0), omega (arith, among.0, same.1), λ e. seated.0 (same.1 ∙ e ∙ sym same.0), subst (λ m. 1 ≤ slice_index shares m) same.1 seated.1)

pub seat_pair_among : (c g l : ℕ) (shares : List ℕ) → g < c → l < c → l ≢ g → 1 ≤ slice_index shares l → Contains (with_seats c shares) (Pair g l)
seat_pair_among c g l shares gc lc ne some =
    among_lists (of_gainer c shares) c g (Pair g l) gc
    (among_made (λ m. Pair g m) (those c (is_seated shares g)) l (among_those c l (is_seated shares g) lc (seated_where shares g l ne some)))

pub seat_pairs_only : (c : ℕ) (shares : List ℕ) (goal : Goal) → Contains (with_seats c shares) goal → (g l : ℕ) × (goal ≡ Pair g l)
seat_pairs_only c shares goal there =
    let is = lists_are (of_gainer c shares) c goal there in
    let made = made_are (λ m. Pair is.0 m) (those c (is_seated shares is.0)) goal is.2 in
    (is.0, made.0, sym made.2)

-- ---- the covers of all candidates

cover_is : (x y : ℕ) → Cover x ≡ Cover y → x ≡ y
cover_is x y e = cc

abbrev pub all_covers : ℕ → List Goal
all_covers c = map Cover (range_with_len 0 c)

range_is : (c x : ℕ) → Contains (range_with_len 0 c) x → x < c
range_is c x (k, lt, e) =
    let long = length-range_with_len 0 c in
    let at = get_or-range_with_len 0 c k x (omega arith) in
    omega (arith, e, at)

among_range : (c x : ℕ) → x < c → Contains (range_with_len 0 c) x
among_range c x lt =
    let long = length-range_with_len 0 c in
    (x, omega arith, get_or-range_with_len 0 c x x lt ∙ (let e : 0 + x ≡ x = omega arith in e))

range_once : (c : ℕ) → AllPairs (λ a b. a ≢ b) (range_with_len 0 c)
range_once c i j d ij jl same =
    let long = length-range_with_len 0 c in
    let a = get_or-range_with_len 0 c i d (omega arith) in
    let b = get_or-range_with_len 0 c j d (omega arith) in
    omega (arith, a, b, same, ij)

pub covers_only : (c : ℕ) (goal : Goal) → Contains (all_covers c) goal → (x : ℕ) × (x < c) × (goal ≡ Cover x)
covers_only c goal there = let is = made_are Cover (range_with_len 0 c) goal there in (is.0, range_is c is.0 is.1, sym is.2)

pub cover_among : (c x : ℕ) → x < c → Contains (all_covers c) (Cover x)
cover_among c x lt = among_made Cover (range_with_len 0 c) x (among_range c x lt)

pub covers_are : (c x : ℕ) → Contains (all_covers c) (Cover x) → x < c
covers_are c x there = let is = covers_only c (Cover x) there in omega (arith, is.1, cover_is x is.0 is.2)

-- ---- the suffixes of each other candidate than the winner alone

alone_is : (x y : ℕ) → Suffix (x ∷ []) ≡ Suffix (y ∷ []) → x ≡ y
alone_is x y e = cc

abbrev pub other_lasts : ℕ → ℕ → List Goal
other_lasts c x = map (λ y. Suffix (y ∷ [])) (those c (λ y. not (y == x)))

pub lasts_only : (c x : ℕ) (goal : Goal) → Contains (other_lasts c x) goal → (y : ℕ) × (y < c) × (y ≢ x) × (goal ≡ Suffix (y ∷ []))
lasts_only c x goal there =
    let is = made_are (λ y. Suffix (y ∷ [])) (those c (λ y. not (y == x))) goal there in
    let among = those_are c is.0 (λ y. not (y == x)) is.1 in
    (is.0, among.0, (λ same. other_is is.0 x among.1 same), sym is.2)

pub lasts_are : (c x y : ℕ) → Contains (other_lasts c x) (Suffix (y ∷ [])) → (y < c) × (y ≢ x)
lasts_are c x y there =
    let is = lasts_only c x (Suffix (y ∷ [])) there in
    let same = alone_is y is.0 is.3 in
    (omega (arith, is.1, same), λ e. is.2 (sym same ∙ e))

pub last_among : (c x y : ℕ) → y < c → y ≢ x → Contains (other_lasts c x) (Suffix (y ∷ []))
last_among c x y lt differ =
    among_made (λ z. Suffix (z ∷ [])) (those c (λ z. not (z == x))) y (among_those c y (λ z. not (z == x)) lt (is_other y x differ))

-- ---- they are goals that an election may have below the root

all_by : (P : Goal → Type 0) (goals : List Goal) → ((goal : Goal) → Contains goals goal → P goal) → All P goals
all_by P goals each k d lt = each (get_or goals k d) (Contains-get_or goals k d lt)

winner_root : (e : Election) (x : ℕ) (goal : Goal) → HasPairs e.rule → x < e.poll.c → Contains (with_winner e.poll.c x) goal → IsRootOf e goal
winner_root e x goal has stands there =
    let only = pairs_only e.poll.c x goal there in
    let is = pairs_are e.poll.c x only.0 x (subst (Contains (with_winner e.poll.c x)) only.1 there) in
    subst (IsRootOf e) (sym only.1) (has, is.0, stands, is.1)

winner_roots : (e : Election) (x : ℕ) → HasPairs e.rule → IsPoll e.poll → x < e.poll.c → e.roots ≡ with_winner e.poll.c x → AreRoots e
winner_roots e x has poll stands is =
    let n = ap length is in
    let m = made_few (λ j. Pair j x) e.poll.c (λ j. not (j == x)) in
    record {
      few = omega (arith, n, m, poll.most);
      distinct = subst (λ goals. AllPairs (λ a b. a ≢ b) goals) (sym is)
          (made_once (λ j. Pair j x) (those e.poll.c (λ j. not (j == x))) (λ i j same. (pair_is i x j x same).0) (those_once e.poll.c (λ j. not (j == x))));
      each = all_by (IsRootOf e) e.roots (λ goal there. winner_root e x goal has stands (subst (λ goals. Contains goals goal) is there));
    }

seat_root : (e : Election) (shares : List ℕ) (goal : Goal) → HasPairs e.rule → Contains (with_seats e.poll.c shares) goal → IsRootOf e goal
seat_root e shares goal has there =
    let only = seat_pairs_only e.poll.c shares goal there in
    let is = seat_pairs_are e.poll.c only.0 only.1 shares (subst (Contains (with_seats e.poll.c shares)) only.2 there) in
    subst (IsRootOf e) (sym only.2) (has, is.0, is.1, λ same. is.2 (sym same))

one_gainer : (c : ℕ) (shares : List ℕ) (g h : ℕ) (goal : Goal) → Contains (of_gainer c shares g) goal → Contains (of_gainer c shares h) goal → g ≡ h
one_gainer c shares g h goal here there =
    let a = made_are (λ m. Pair g m) (those c (is_seated shares g)) goal here in
    let b = made_are (λ m. Pair h m) (those c (is_seated shares h)) goal there in
    (pair_is g a.0 h b.0 (a.2 ∙ sym b.2)).0

seat_roots : (e : Election) (shares : List ℕ) → HasPairs e.rule → IsPoll e.poll → e.roots ≡ with_seats e.poll.c shares → AreRoots e
seat_roots e shares has poll is =
    let n = ap length is in
    let m = lists_few (of_gainer e.poll.c shares) e.poll.c e.poll.c (λ g. made_few (λ l. Pair g l) e.poll.c (is_seated shares g)) in
    let small = mul-le-mul poll.most poll.most in
    record {
      few = omega (arith, n, m, small);
      distinct = subst (λ goals. AllPairs (λ a b. a ≢ b) goals) (sym is)
          (lists_once (of_gainer e.poll.c shares) e.poll.c
          (λ g. made_once (λ l. Pair g l) (those e.poll.c (is_seated shares g)) (λ l m same. (pair_is g l g m same).1) (those_once e.poll.c (is_seated shares g)))
          (one_gainer e.poll.c shares));
      each = all_by (IsRootOf e) e.roots (λ goal there. seat_root e shares goal has (subst (λ goals. Contains goals goal) is there));
    }

cover_root : (e : Election) (goal : Goal) → e.rule ≡ Condorcet → Contains (all_covers e.poll.c) goal → IsRootOf e goal
cover_root e goal rule there =
    let only = covers_only e.poll.c goal there in
    subst (IsRootOf e) (sym only.2) (rule, only.1)

cover_roots : (e : Election) → e.rule ≡ Condorcet → IsPoll e.poll → e.roots ≡ all_covers e.poll.c → AreRoots e
cover_roots e rule poll is =
    let n = ap length is in
    let m : length (all_covers e.poll.c) ≡ e.poll.c = length-map (range_with_len 0 e.poll.c) Cover ∙ length-range_with_len 0 e.poll.c in
    record {
      few = omega (arith, n, m, poll.most);
      distinct = subst (λ goals. AllPairs (λ a b. a ≢ b) goals) (sym is) (made_once Cover (range_with_len 0 e.poll.c) cover_is (range_once e.poll.c));
      each = all_by (IsRootOf e) e.roots (λ goal there. cover_root e goal rule (subst (λ goals. Contains goals goal) is there));
    }

last_root : (e : Election) (x : ℕ) (goal : Goal) → e.rule ≡ Irv → Contains (other_lasts e.poll.c x) goal → IsRootOf e goal
last_root e x goal rule there =
    let only = lasts_only e.poll.c x goal there in
    subst (IsRootOf e) (sym only.3) (rule, (only.0, only.1, refl))

last_roots : (e : Election) (x : ℕ) → e.rule ≡ Irv → IsPoll e.poll → e.roots ≡ other_lasts e.poll.c x → AreRoots e
last_roots e x rule poll is =
    let n = ap length is in
    let m = made_few (λ y. Suffix (y ∷ [])) e.poll.c (λ y. not (y == x)) in
    record {
      few = omega (arith, n, m, poll.most);
      distinct = subst (λ goals. AllPairs (λ a b. a ≢ b) goals) (sym is)
          (made_once (λ y. Suffix (y ∷ [])) (those e.poll.c (λ y. not (y == x))) alone_is (those_once e.poll.c (λ y. not (y == x))));
      each = all_by (IsRootOf e) e.roots (λ goal there. last_root e x goal rule (subst (λ goals. Contains goals goal) is there));
    }

abbrev under : Rule → Poll → Outcome → List Goal → Election
under rule p reported roots = record { rule = rule; poll = p; reported = reported; roots = roots }

lawful : (rule : Rule) (p : Poll) (reported : Outcome) (roots : List Goal) → IsPoll p → IsReported rule p reported → roots ≡ root_goals rule p.c reported
    → AreRoots (under rule p reported roots)
lawful Plurality p (Winner x) roots poll is roots_are = winner_roots (under Plurality p (Winner x) roots) x tt poll is.greatest.stands roots_are
lawful Plurality p NoWinner roots poll is roots_are = absurd is
lawful Plurality p (Seats shares) roots poll is roots_are = absurd is
lawful Borda p (Winner x) roots poll is roots_are = winner_roots (under Borda p (Winner x) roots) x tt poll is.greatest.stands roots_are
lawful Borda p NoWinner roots poll is roots_are = absurd is
lawful Borda p (Seats shares) roots poll is roots_are = absurd is
lawful Condorcet p (Winner x) roots poll is roots_are = winner_roots (under Condorcet p (Winner x) roots) x tt poll is.stands roots_are
lawful Condorcet p NoWinner roots poll is roots_are = cover_roots (under Condorcet p NoWinner roots) refl poll roots_are
lawful Condorcet p (Seats shares) roots poll is roots_are = absurd is
lawful (Dhondt seats) p (Seats shares) roots poll is roots_are = seat_roots (under (Dhondt seats) p (Seats shares) roots) shares tt poll roots_are
lawful (Dhondt seats) p (Winner x) roots poll is roots_are = absurd is
lawful (Dhondt seats) p NoWinner roots poll is roots_are = absurd is
lawful Irv p (Winner x) roots poll is roots_are = last_roots (under Irv p (Winner x) roots) x refl poll roots_are
lawful Irv p NoWinner roots poll is roots_are = absurd is
lawful Irv p (Seats shares) roots poll is roots_are = absurd is

pub roots_are_lawful : (e : Election) → IsPoll e.poll → IsReported e.rule e.poll e.reported → e.roots ≡ root_goals e.rule e.poll.c e.reported → AreRoots e
roots_are_lawful e poll is roots_are = lawful e.rule e.poll e.reported e.roots poll is roots_are
