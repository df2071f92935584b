-- Ways from the root through covers to goals.
use Rattle.std.proofs.Common.{ℕ, zero, suc, List, [], ◌∷◌, ◌++◌, Bool, true, false, Some, None, ◌≡◌, ◌≢◌, ◌<◌, ◌≤◌, ◌∙◌, ◌↔◌, cond, length, get_or, ap, sym, refl, subst, inl, inr, arith}
use Rattle.std.specs.Prelude.{Contains, AllPairs, not, nat_lt}
use Rattle.std.proofs.lemmas.Bool.{cases_lt}
use Rattle.std.proofs.lemmas.Bool.Decides.{nat_tests}
use Rattle.std.proofs.lemmas.List.{append-nil, get_or_default}
use Rattle.std.proofs.lemmas.List.Elements.{All-cons}
use Rattle.std.proofs.lemmas.List.Kept.{AllPairs-cons}
use Rattle.ballot_form.specs.Ballots.{IsValidBallot}
use Rattle.ballot_form.proofs.Lengths.{length_valid}
use Rattle.ballot_form.specs.declared.rule.Rule.TheVariants.{Condorcet, Irv}
use Rattle.irv_count.specs.Orders.{IsLast, member}
use Rattle.irv_count.proofs.Members.{bool_cases, member_at, not_true, place_member}
use Rattle.irv_count.proofs.Whole.{valid_order}
use Rattle.goal_rows.specs.Elections.{Election}
use Rattle.goal_rows.specs.Goals.{AreRoots, EndsInRoot, Holds, IsComplete, IsGoalOf, IsKid, IsOnlyWay, IsReached, IsRootOf, LeadsTo, longer_suffixes}
use Rattle.goal_rows.specs.Suffixes.{those}
use Rattle.goal_rows.specs.declared.goals.Goal.{Goal}
use Rattle.goal_rows.specs.declared.goals.Goal.TheVariants.{Root, Suffix, Pair, Cover}
use Rattle.goal_rows.proofs.Lists.{among_made, among_those, made_are, made_once, those_are, those_once}
use Rattle.goal_rows.proofs.SuffixRows.{rows_of_rest}

-- goals at two places are two
one_place : (roots : List Goal) (i j : ℕ) (goal : Goal) → AllPairs (λ a b. a ≢ b) roots → i < length roots → j < length roots
    → get_or roots i goal ≡ goal → get_or roots j goal ≡ goal → i ≡ j
one_place roots i j goal once li lj ei ej = elim (cases_lt i j) [
  | inl less ↦ absurd (once i j goal less lj (ei ∙ sym ej))
  | inr more ↦ elim (cases_lt j i) [
    | inl less ↦ absurd (once j i goal less li (ej ∙ sym ei))
    | inr same ↦ omega (arith, more, same)
  ]
]

suffix_is : (x y : ℕ) (s t : List ℕ) → Suffix (x ∷ s) ≡ Suffix (y ∷ t) → (x ≡ y) × (s ≡ t)
suffix_is x y s t e = (cc, cc)

-- the root isn't one of its own goals
pub no_root : (e : Election) → AreRoots e → Contains e.roots Root → ⊥
no_root e are there = subst (IsRootOf e) there.2 (are.each there.0 Root there.1)

-- what is one of its goals may be one
pub root_is : (e : Election) (goal : Goal) → AreRoots e → Contains e.roots goal → IsRootOf e goal
root_is e goal are there = subst (IsRootOf e) there.2 (are.each there.0 goal there.1)

-- a kid of the root is one of its goals
kid_of_root : (e : Election) (place : ℕ) (kid : Goal) → IsKid e Root place kid → (place < length e.roots) × (get_or e.roots place kid ≡ kid)
kid_of_root e place kid of =
    let same : of.0 ≡ e.roots = cc (of.1) in
    (subst (λ kids. place < length kids) same of.2, subst (λ kids. get_or kids place kid ≡ kid) same of.3)

among_roots : (e : Election) (place : ℕ) (kid : Goal) → IsKid e Root place kid → Contains e.roots kid
among_roots e place kid of = let is = kid_of_root e place kid of in (place, is.0, is.1)

-- pairs and covers have no kids
no_kid_of_pair : (e : Election) (g l place : ℕ) (kid : Goal) → IsKid e (Pair g l) place kid → ⊥
no_kid_of_pair e g l place kid of = cc (of.1)

no_kid_of_cover : (e : Election) (x place : ℕ) (kid : Goal) → IsKid e (Cover x) place kid → ⊥
no_kid_of_cover e x place kid of = cc (of.1)

-- a kid of a suffix is the suffix with another candidate in front
record IsLonger (c : ℕ) (suffix : List ℕ) (place : ℕ) (kid : Goal) : Type 0 where
  fewer : length suffix < c
  within : place < length (longer_suffixes c suffix)
  stands : get_or (longer_suffixes c suffix) place kid ≡ kid

longer_by : (e : Election) (suffix : List ℕ) (place : ℕ) (kid : Goal) (kids : List Goal) (t : Bool) → nat_lt (length suffix) e.poll.c ≡ t
    → cond t (Some (longer_suffixes e.poll.c suffix)) None ≡ Some kids → place < length kids → get_or kids place kid ≡ kid → IsLonger e.poll.c suffix place kid
longer_by e suffix place kid kids true less is lt stands =
    let same : kids ≡ longer_suffixes e.poll.c suffix = cc in
    record {
      fewer = grind (arith, nat_tests);
      within = subst (λ goals. place < length goals) same lt;
      stands = subst (λ goals. get_or goals place kid ≡ kid) same stands;
    }
longer_by e suffix place kid kids false less is lt stands = cc

kid_of_suffix : (e : Election) (suffix : List ℕ) (place : ℕ) (kid : Goal) → IsKid e (Suffix suffix) place kid → IsLonger e.poll.c suffix place kid
kid_of_suffix e suffix place kid of = longer_by e suffix place kid of.0 (nat_lt (length suffix) e.poll.c) refl of.1 of.2 of.3

not_member : (z : ℕ) (suffix : List ℕ) → not (member z suffix) ≡ true → member z suffix ≡ false
not_member z suffix e = not_true (member z suffix) e

longer_is : (c : ℕ) (suffix : List ℕ) (place : ℕ) (kid : Goal) → IsLonger c suffix place kid → (z : ℕ) × (z < c) × (member z suffix ≡ false) × (kid ≡ Suffix (z ∷ suffix))
longer_is c suffix place kid is =
    let made = made_are (λ z. Suffix (z ∷ suffix)) (those c (λ z. not (member z suffix))) kid (place, is.within, is.stands) in
    let among = those_are c made.0 (λ z. not (member z suffix)) made.1 in
    (made.0, among.0, not_member made.0 suffix among.1, sym made.2)

longer_once : (c : ℕ) (suffix : List ℕ) → AllPairs (λ a b. a ≢ b) (longer_suffixes c suffix)
longer_once c suffix =
    made_once (λ z. Suffix (z ∷ suffix)) (those c (λ z. not (member z suffix))) (λ x y same. (suffix_is x y suffix suffix same).0) (those_once c (λ z. not (member z suffix)))

-- ---- ways seen from their end

-- the places of the goals on a way from the root, the last one first
abbrev LeadsBack : Election → List ℕ → Goal → Type 0
LeadsBack e [] goal = goal ≡ Root
LeadsBack e (place ∷ places) goal = (parent : Goal) × LeadsBack e places parent × IsKid e parent place goal

-- a list turned round, before another one
abbrev turned : List ℕ → List ℕ → List ℕ
turned [] behind = behind
turned (x ∷ xs) behind = turned xs (x ∷ behind)

turned_twice : (xs ys zs : List ℕ) → turned (turned xs ys) zs ≡ turned ys (xs ++ zs)
turned_twice [] ys zs = refl
turned_twice (x ∷ xs) ys zs = turned_twice xs (x ∷ ys) zs

turned_back : (xs : List ℕ) → turned (turned xs []) [] ≡ xs
turned_back xs = turned_twice xs [] [] ∙ append-nil xs

back_from : (e : Election) (from : Goal) (before places : List ℕ) (end : Goal) → LeadsBack e before from → LeadsTo e from places end → LeadsBack e (turned places before) end
back_from e from before [] end back leads = subst (λ goal. LeadsBack e before goal) leads back
back_from e from before (place ∷ places) end back (kid, of, rest) = back_from e kid (place ∷ before) places end (from, back, of) rest

to_from : (e : Election) (before : List ℕ) (from : Goal) (places : List ℕ) (end : Goal) → LeadsBack e before from → LeadsTo e from places end → LeadsTo e Root (turned before places) end
to_from e [] from places end back leads = subst (λ goal. LeadsTo e goal places end) back leads
to_from e (place ∷ before) from places end (parent, back, of) leads = to_from e before parent (place ∷ places) end back (from, of, leads)

pub back_of : (e : Election) (way : List ℕ) (goal : Goal) → LeadsTo e Root way goal → LeadsBack e (turned way []) goal
back_of e way goal leads = back_from e Root [] way goal refl leads

reached_back : (e : Election) (places : List ℕ) (goal : Goal) → LeadsBack e places goal → IsReached e goal
reached_back e places goal back = (turned places [], to_from e places goal [] goal back refl)

-- ---- what is reached

ends_on : (e : Election) (z : ℕ) (suffix : List ℕ) → EndsInRoot e suffix → EndsInRoot e (z ∷ suffix)
ends_on e z suffix (y, (i, long, at), there) = (y, (suc i, omega (arith, long), at), there)

pub longer_valid : (c z : ℕ) (suffix : List ℕ) → IsValidBallot c suffix → z < c → member z suffix ≡ false → IsValidBallot c (z ∷ suffix)
longer_valid c z suffix valid zc out = record {
  below = All-cons (λ y. y < c) z suffix zc valid.below;
  distinct = AllPairs-cons (λ a b. a ≢ b) z suffix (λ k d lt same.
      let on = place_member suffix k lt in
      let e : get_or suffix k 0 ≡ z = get_or_default suffix k 0 d lt ∙ sym same in
      let on1 = rw e at on in
      let h : true ≡ false = sym on1 ∙ out in cc) valid.distinct;
}

alone_valid : (c y : ℕ) → y < c → IsValidBallot c (y ∷ [])
alone_valid c y yc = longer_valid c y [] (record { below = λ k d lt. absurd (omega (arith, lt)); distinct = λ i j d ij jl. absurd (omega (arith, jl)) }) yc refl

-- a goal of the root is one of the election's
goal_of_root : (e : Election) (goal : Goal) → AreRoots e → Contains e.roots goal → IsGoalOf e goal
goal_of_root e Root are there = tt
goal_of_root e (Suffix suffix) are there =
    let is = root_is e (Suffix suffix) are there in
    let same = is.1.2 in (
      subst (λ s. IsValidBallot e.poll.c s) (sym same) (alone_valid e.poll.c is.1.0 is.1.1),
      subst (λ s. Contains e.roots (Suffix s) → EndsInRoot e s) (sym same) (λ among. (is.1.0, (0, omega arith, refl), among)) there,
    )
goal_of_root e (Pair g l) are there = there
goal_of_root e (Cover x) are there = there

-- a kid of a goal is one where the goal is one
goal_of_kid : (e : Election) (parent : Goal) (place : ℕ) (kid : Goal) → AreRoots e → IsGoalOf e parent → IsKid e parent place kid → IsGoalOf e kid
goal_of_kid e Root place kid are is of = goal_of_root e kid are (among_roots e place kid of)
goal_of_kid e (Suffix suffix) place kid are is of =
    let longer = longer_is e.poll.c suffix place kid (kid_of_suffix e suffix place kid of) in
    subst (IsGoalOf e) (sym longer.3) (longer_valid e.poll.c longer.0 suffix is.0 longer.1 longer.2, ends_on e longer.0 suffix is.1)
goal_of_kid e (Pair g l) place kid are is of = absurd (no_kid_of_pair e g l place kid of)
goal_of_kid e (Cover x) place kid are is of = absurd (no_kid_of_cover e x place kid of)

goal_by : (e : Election) (from : Goal) (places : List ℕ) (end : Goal) → AreRoots e → IsGoalOf e from → LeadsTo e from places end → IsGoalOf e end
goal_by e from [] end are is leads = subst (IsGoalOf e) leads is
goal_by e from (place ∷ places) end are is (kid, of, rest) = goal_by e kid places end are (goal_of_kid e from place kid are is of) rest

back_to_root : (e : Election) (goal : Goal) → Contains e.roots goal → (places : List ℕ) × LeadsBack e places goal
back_to_root e goal there = (there.0 ∷ [], (Root, refl, (e.roots, refl, there.1, there.2)))

-- a longer suffix is a kid
kid_is : (e : Election) (z : ℕ) (suffix : List ℕ) → length suffix < e.poll.c → z < e.poll.c → member z suffix ≡ false → (place : ℕ) × IsKid e (Suffix suffix) place (Suffix (z ∷ suffix))
kid_is e z suffix fewer zc out =
    let passes : not (member z suffix) ≡ true = rw out refl in
    let among = among_made (λ y. Suffix (y ∷ suffix)) (those e.poll.c (λ y. not (member y suffix))) z (among_those e.poll.c z (λ y. not (member y suffix)) zc passes) in
    let less : nat_lt (length suffix) e.poll.c ≡ true = grind (arith, nat_tests) in
    (among.0, (longer_suffixes e.poll.c suffix, rw less refl, among.1, among.2))

tail_valid : (c z : ℕ) (suffix : List ℕ) → IsValidBallot c (z ∷ suffix) → IsValidBallot c suffix
tail_valid c z suffix valid = record {
  below = λ k d lt. valid.below (suc k) d (omega arith);
  distinct = λ i j d ij jl. valid.distinct (suc i) (suc j) d (omega arith) (omega arith);
}

head_out : (c z : ℕ) (suffix : List ℕ) → IsValidBallot c (z ∷ suffix) → member z suffix ≡ false
head_out c z suffix valid = elim (bool_cases (member z suffix)) [
  | inl on ↦ let at = member_at z suffix on in absurd (valid.distinct 0 (suc at.0) 0 (omega arith) (omega (arith, at.1)) (sym at.2))
  | inr off ↦ off
]

last_of_rest : (z x y : ℕ) (suffix : List ℕ) → IsLast (z ∷ x ∷ suffix) y → IsLast (x ∷ suffix) y
last_of_rest z x y suffix (zero, long, at) = absurd (omega (arith, long))
last_of_rest z x y suffix (suc i, long, at) = (i, omega (arith, long), at)

last_alone : (z y : ℕ) → IsLast (z ∷ []) y → z ≡ y
last_alone z y (zero, long, at) = at
last_alone z y (suc i, long, at) = absurd (omega (arith, long))

back_to_suffix : (e : Election) (suffix : List ℕ) → IsValidBallot e.poll.c suffix → EndsInRoot e suffix → (places : List ℕ) × LeadsBack e places (Suffix suffix)
back_to_suffix e [] valid (y, last, there) = absurd (let long = last.1 in omega arith)
back_to_suffix e (z ∷ []) valid (y, last, there) =
    back_to_root e (Suffix (z ∷ [])) (subst (λ x. Contains e.roots (Suffix (x ∷ []))) (sym (last_alone z y last)) there)
back_to_suffix e (z ∷ x ∷ suffix) valid (y, last, there) =
    let rest = back_to_suffix e (x ∷ suffix) (tail_valid e.poll.c z (x ∷ suffix) valid) (y, last_of_rest z x y suffix last, there) in
    let few = length_valid e.poll.c (z ∷ x ∷ suffix) valid in
    let kid = kid_is e z (x ∷ suffix) (omega (arith, few)) (valid.below 0 0 (omega arith)) (head_out e.poll.c z (x ∷ suffix) valid) in
    (kid.0 ∷ rest.0, (Suffix (x ∷ suffix), rest.1, kid.1))

back_to : (e : Election) (goal : Goal) → IsGoalOf e goal → (places : List ℕ) × LeadsBack e places goal
back_to e Root is = ([], refl)
back_to e (Suffix suffix) is = back_to_suffix e suffix is.0 is.1
back_to e (Pair g l) is = back_to_root e (Pair g l) is
back_to e (Cover x) is = back_to_root e (Cover x) is

pub reached_exactly : (e : Election) (goal : Goal) → AreRoots e → IsReached e goal ↔ IsGoalOf e goal
reached_exactly e goal are = (
  λ reached. goal_by e Root reached.0 goal are tt reached.1,
  λ is. let back = back_to e goal is in reached_back e back.0 goal back.1,
)

-- the root, and each goal of it, is reached
pub reached_root_goal : (e : Election) (goal : Goal) → Contains e.roots goal → IsReached e goal
reached_root_goal e goal there = let back = back_to_root e goal there in reached_back e back.0 goal back.1

-- a reached pair is one of the root's goals, and one of two candidates under a rule of pairs
pub reached_pair : (e : Election) (g l : ℕ) → AreRoots e → IsReached e (Pair g l) → Contains e.roots (Pair g l) × IsRootOf e (Pair g l)
reached_pair e g l are reached =
    let there = (reached_exactly e (Pair g l) are).0 reached in
    (there, root_is e (Pair g l) are there)

-- a reached suffix is one of distinct candidates, under instant runoff; a reached cover is of a candidate, under
-- Condorcet's rule
pub reached_suffix : (e : Election) (suffix : List ℕ) → AreRoots e → IsReached e (Suffix suffix) → (e.rule ≡ Irv) × IsValidBallot e.poll.c suffix
reached_suffix e suffix are reached =
    let is = (reached_exactly e (Suffix suffix) are).0 reached in
    ((root_is e (Suffix (is.1.0 ∷ [])) are is.1.2).0, is.0)

pub reached_cover : (e : Election) (x : ℕ) → AreRoots e → IsReached e (Cover x) → (e.rule ≡ Condorcet) × (x < e.poll.c)
reached_cover e x are reached = root_is e (Cover x) are ((reached_exactly e (Cover x) are).0 reached)

-- a reached suffix has some candidate
pub reached_some : (e : Election) (suffix : List ℕ) → AreRoots e → IsReached e (Suffix suffix) → 1 ≤ length suffix
reached_some e suffix are reached = let long = ((reached_exactly e (Suffix suffix) are).0 reached).1.1.1 in omega (arith, long)

-- ---- in just one way

-- the root is no one's kid
no_kid_is_root : (e : Election) (parent : Goal) (place : ℕ) → AreRoots e → IsKid e parent place Root → ⊥
no_kid_is_root e Root place are of = no_root e are (among_roots e place Root of)
no_kid_is_root e (Suffix suffix) place are of =
    let longer = longer_is e.poll.c suffix place Root (kid_of_suffix e suffix place Root of) in
    let h = longer.3 in cc
no_kid_is_root e (Pair g l) place are of = no_kid_of_pair e g l place Root of
no_kid_is_root e (Cover x) place are of = no_kid_of_cover e x place Root of

back_of_root : (e : Election) (places : List ℕ) → AreRoots e → LeadsBack e places Root → places ≡ []
back_of_root e [] are back = refl
back_of_root e (place ∷ places) are (parent, back, of) = absurd (no_kid_is_root e parent place are of)

-- the empty suffix isn't reached
no_empty : (e : Election) (places : List ℕ) → AreRoots e → LeadsBack e places (Suffix []) → ⊥
no_empty e places are back =
    let is = (reached_exactly e (Suffix []) are).0 (reached_back e places (Suffix []) back) in
    omega (arith, is.1.1.1)

-- a goal of the root is no kid of a reached suffix
no_two : (e : Election) (place other : ℕ) (suffix places : List ℕ) (goal : Goal) → AreRoots e → IsKid e Root place goal → LeadsBack e places (Suffix suffix) → IsKid e (Suffix suffix) other goal → ⊥
no_two e place other suffix places goal are of back longer =
    let is = longer_is e.poll.c suffix other goal (kid_of_suffix e suffix other goal longer) in
    let root = root_is e (Suffix (is.0 ∷ suffix)) are (subst (λ g. Contains e.roots g) is.3 (among_roots e place goal of)) in
    let same : is.0 ∷ suffix ≡ root.1.0 ∷ [] = root.1.2 in
    let empty : suffix ≡ [] = cc in
    no_empty e places are (subst (λ s. LeadsBack e places (Suffix s)) empty back)

one_kid : (e : Election) (s t : List ℕ) (place other : ℕ) (goal : Goal) → IsKid e (Suffix s) place goal → IsKid e (Suffix t) other goal → (s ≡ t) × (place ≡ other)
one_kid e s t place other goal of also =
    let a = kid_of_suffix e s place goal of in
    let b = kid_of_suffix e t other goal also in
    let x = longer_is e.poll.c s place goal a in
    let y = longer_is e.poll.c t other goal b in
    let same = suffix_is x.0 y.0 s t (sym x.3 ∙ y.3) in
    let here : IsLonger e.poll.c s other goal = subst (λ u. IsLonger e.poll.c u other goal) (sym same.1) b in
    (same.1, one_place (longer_suffixes e.poll.c s) place other goal (longer_once e.poll.c s) a.within here.within a.stands here.stands)

one_step : (e : Election) (place other : ℕ) (places others : List ℕ) (goal : Goal) → AreRoots e
    → ((g : Goal) → LeadsBack e places g → LeadsBack e others g → places ≡ others) → (parent second : Goal) → LeadsBack e places parent → IsKid e parent place goal
    → LeadsBack e others second → IsKid e second other goal → place ∷ places ≡ other ∷ others
one_step e place other places others goal are so_far Root Root back of past also =
    let a = kid_of_root e place goal of in
    let b = kid_of_root e other goal also in
    let first = one_place e.roots place other goal are.distinct a.0 b.0 a.1 b.1 in
    let rest : places ≡ others = back_of_root e places are back ∙ sym (back_of_root e others are past) in
    cc
one_step e place other places others goal are so_far Root (Suffix t) back of past also = absurd (no_two e place other t others goal are of past also)
one_step e place other places others goal are so_far Root (Pair g l) back of past also = absurd (no_kid_of_pair e g l other goal also)
one_step e place other places others goal are so_far Root (Cover x) back of past also = absurd (no_kid_of_cover e x other goal also)
one_step e place other places others goal are so_far (Suffix s) Root back of past also = absurd (no_two e other place s places goal are also back of)
one_step e place other places others goal are so_far (Suffix s) (Suffix t) back of past also =
    let same = one_kid e s t place other goal of also in
    let rest = so_far (Suffix s) back (subst (λ u. LeadsBack e others (Suffix u)) (sym same.0) past) in
    let first = same.1 in
    cc
one_step e place other places others goal are so_far (Suffix s) (Pair g l) back of past also = absurd (no_kid_of_pair e g l other goal also)
one_step e place other places others goal are so_far (Suffix s) (Cover x) back of past also = absurd (no_kid_of_cover e x other goal also)
one_step e place other places others goal are so_far (Pair g l) second back of past also = absurd (no_kid_of_pair e g l place goal of)
one_step e place other places others goal are so_far (Cover x) second back of past also = absurd (no_kid_of_cover e x place goal of)

one_back : (e : Election) (places others : List ℕ) (goal : Goal) → AreRoots e → LeadsBack e places goal → LeadsBack e others goal → places ≡ others
one_back e [] others goal are back also = sym (back_of_root e others are (subst (λ g. LeadsBack e others g) back also))
one_back e (place ∷ places) [] goal are (parent, back, of) also = absurd (no_kid_is_root e parent place are (subst (λ g. IsKid e parent place g) also of))
one_back e (place ∷ places) (other ∷ others) goal are (parent, back, of) (second, past, also) =
    one_step e place other places others goal are (λ g here there. one_back e places others g are here there) parent second back of past also

one_way : (e : Election) (way other : List ℕ) (goal : Goal) → AreRoots e → LeadsTo e Root way goal → LeadsTo e Root other goal → other ≡ way
one_way e way other goal are leads also =
    let same = one_back e (turned other []) (turned way []) goal are (back_of e other goal also) (back_of e way goal leads) in
    sym (turned_back other) ∙ ap (λ places. turned places []) same ∙ turned_back way

complete_is : (e : Election) (goal : Goal) → IsComplete e goal → IsGoalOf e goal
complete_is e Root complete = tt
complete_is e (Suffix suffix) complete = (valid_order e.poll.c suffix complete.0, complete.1)
complete_is e (Pair g l) complete = complete
complete_is e (Cover x) complete = complete

pub only_way : (e : Election) (goal : Goal) → AreRoots e → IsComplete e goal → (way : List ℕ) × IsOnlyWay e Root way goal
only_way e goal are complete =
    let reached = (reached_exactly e goal are).1 (complete_is e goal complete) in
    (reached.0, record { leads = reached.1; only = λ other also. one_way e reached.0 other goal are reached.1 also })

-- ---- goals on the way hold

holds_before : (e : Election) (parent : Goal) (place : ℕ) (kid : Goal) (ballots : List (List ℕ)) → IsKid e parent place kid → Holds e kid ballots → Holds e parent ballots
holds_before e Root place kid ballots of holds = λ k d lt. absurd (omega (arith, lt))
holds_before e (Suffix suffix) place kid ballots of holds =
    let longer = longer_is e.poll.c suffix place kid (kid_of_suffix e suffix place kid of) in
    rows_of_rest longer.0 suffix ballots (subst (λ goal. Holds e goal ballots) longer.3 holds)
holds_before e (Pair g l) place kid ballots of holds = absurd (no_kid_of_pair e g l place kid of)
holds_before e (Cover x) place kid ballots of holds = absurd (no_kid_of_cover e x place kid of)

holds_along : (e : Election) (between : Goal) (behind : List ℕ) (goal : Goal) (ballots : List (List ℕ)) → LeadsTo e between behind goal → Holds e goal ballots → Holds e between ballots
holds_along e between [] goal ballots leads holds = subst (λ at. Holds e at ballots) (sym leads) holds
holds_along e between (place ∷ places) goal ballots (kid, of, rest) holds = holds_before e between place kid ballots of (holds_along e kid places goal ballots rest holds)

pub holds_on_the_way : (e : Election) (between goal : Goal) (before behind : List ℕ) (ballots : List (List ℕ)) → IsComplete e goal
    → LeadsTo e Root before between → LeadsTo e between behind goal → Holds e goal ballots → Holds e between ballots
holds_on_the_way e between goal before behind ballots complete first second holds = holds_along e between behind goal ballots second holds
