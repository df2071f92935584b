-- Nodes of a tree of the program: their shape, and the visits below them.
use Rattle.std.proofs.Common.{ℕ, zero, suc, List, [], ◌∷◌, ◌++◌, Some, None, All, Bool, true, IsTrue, ◌≡◌, ◌<◌, ◌≤◌, ◌+◌, ◌*◌, ◌∙◌, ◌↔◌, length, map, take, drop, get_or, length-append, refl, ap, sym, subst, inr, arith}
use Rattle.std.specs.Prelude.{◌==◌, IfOk, Result, Ok, Err, option_map, sum_by}
use Rattle.std.proofs.lemmas.Bool.Decides.{nat_tests}
use Rattle.std.proofs.lemmas.List.{drop_all, drop_more}
use Rattle.std.proofs.lemmas.List.Sums.{sum_by_more_le}
use Rattle.std.proofs.lemmas.List.Elements.{All-append, All-contains_itself, All-cons, All-head, All-nil, All-tail}
use Rattle.std.proofs.lemmas.Option.{slice_get_read}
use Rattle.row_program.specs.declared.Feature.{Feature}
use Rattle.row_program.specs.declared.Limit.{Limit}
use Rattle.bound_tree.specs.declared.tree.Tree.{Tree}
use Rattle.bound_tree.specs.declared.tree.Tree.TheVariants as program
use Rattle.bound_tree.specs.Lines.{kid_count}
use Rattle.bound_tree.specs.Nodes.{size, size_all}
use Rattle.bound_tree.specs.Plain.{Plain, Kids, Split, Branch, Cut, kids_of, plain_of}
use Rattle.bound_tree.specs.Plain as tree
use Rattle.bound_tree.proofs.Shapes.{plain_Split, plain_Branch, plain_Cut, size_more}
use Rattle.goal_rows.specs.Elections.{Election, Node}
use Rattle.goal_rows.specs.Goals.{cover_of, kid_goals}
use Rattle.goal_rows.specs.Nodes.{AreLimits, IsFeatureOf, high_limit, low_limit, node_of, number_count, with_limit, without_limits}
use Rattle.goal_rows.specs.declared.goals.Goal.{Goal}
use Rattle.goal_rows.specs.declared.parts.Ground.{Ground}
use Rattle.margin_check.proofs.Branches.{before, behind}
use Rattle.margin_check.specs.Proving.{IsShaped}
use Rattle.margin_check.specs.Verdicts.{IsFirstWithout}
use Rattle.margin_check.specs.Visits.{Visit, visit_of, visits, visits_among}
use Rattle.margin_check.specs.Walks.{EndsAt, Gives, IsKnown}
use Rattle.margin_check.specs.declared.walk.Asked.{Asked}
use Rattle.margin_check.specs.declared.walk.Asked.TheVariants.{Shape, Cuts}
use Rattle.margin_check.specs.declared.walk.End.{End}
use Rattle.margin_check.specs.declared.walk.End.TheVariants.{Through, Stopped}

-- ---- the shape of a node

pub kids_counted : (kids : List Tree) → kid_count (kids_of (map plain_of kids)) ≡ length kids
kids_counted [] = refl
kids_counted (kid ∷ kids) = ap suc (kids_counted kids)

pub none_long : {X : Type 0} (xs : List X) → (length xs == 0) ≡ true → xs ≡ []
none_long [] is = refl
none_long (x ∷ xs) is = absurd (grind (arith, nat_tests))

pub shaped_Split : (e : Election) (node : Node) (tree : Tree) (kids : List Tree) → tree ≡ program.Split kids
    → IsShaped e node (plain_of tree) ↔ ((node.limits ≡ []) × (option_map length (cover_of e node.goal) ≡ Some (length kids)))
shaped_Split e node tree kids is =
    let same : plain_of tree ≡ Split (kids_of (map plain_of kids)) = ap plain_of is ∙ plain_Split kids in
    rw same (rw kids_counted (λ h. h, λ h. h))

pub split_counted : (e : Election) (node : Node) (tree : Tree) (kids : List Tree) (count : ℕ) (b : Bool) → tree ≡ program.Split kids → node.limits ≡ [] → count ≡ length kids
    → (IsTrue b ↔ (option_map length (cover_of e node.goal) ≡ Some count)) → IsTrue b ↔ IsShaped e node (plain_of tree)
split_counted e node tree kids count b is free many test =
    let s = shaped_Split e node tree kids is in
    (λ h. s.1 (free, test.0 h ∙ ap Some many), λ h. test.1 ((s.0 h).1 ∙ ap Some (sym many)))

pub shaped_Cut : (e : Election) (node : Node) (tree : Tree) (multipliers : List ℕ) → tree ≡ program.Cut multipliers
    → IsShaped e node (plain_of tree) ↔ (length multipliers ≡ number_count e node)
shaped_Cut e node tree multipliers is =
    let same : plain_of tree ≡ Cut multipliers = ap plain_of is ∙ plain_Cut multipliers in
    rw same (λ h. h, λ h. h)

pub shaped_Branch : (e : Election) (node : Node) (tree : Tree) (feature : Feature) (value : ℕ) (low high : Tree)
    → tree ≡ program.Branch feature value low high → IsShaped e node (plain_of tree) ↔ IsFeatureOf e node.goal feature
shaped_Branch e node tree feature value low high is =
    let same : plain_of tree ≡ Branch feature value (plain_of low) (plain_of high) = ap plain_of is ∙ plain_Branch feature value low high in
    rw same (λ h. h, λ h. h)

-- ---- where walks end

pub none_left : {X : Type 0} (P : X → Type 0) (number : ℕ) → EndsAt P number [] (Through number)
none_left P number = (All-nil P, omega arith)

pub stops_here : {X : Type 0} (P : X → Type 0) (number : ℕ) (x : X) (xs : List X) → (P x → ⊥) → EndsAt P number (x ∷ xs) (Stopped number)
stops_here P number x xs fails = (zero, fails, omega arith)

pub one_through : {X : Type 0} (P : X → Type 0) (number : ℕ) (x : X) (xs : List X) (end : End) → P x → EndsAt P (number + 1) xs end → EndsAt P number (x ∷ xs) end
one_through P number x xs (Through next) good rest = (All-cons P x xs good rest.0, omega (arith, rest.1))
one_through P number x xs (Stopped at) good rest = (suc rest.0, (good, rest.1), omega (arith, rest.2))

first_in : {X : Type 0} (P : X → Type 0) (xs ys : List X) (place : ℕ) → IsFirstWithout P xs place → IsFirstWithout P (xs ++ ys) place
first_in P [] ys place is = absurd is
first_in P (x ∷ xs) ys zero is = is
first_in P (x ∷ xs) ys (suc place) is = (is.0, first_in P xs ys place is.1)

pub stopped_in : {X : Type 0} (P : X → Type 0) (number : ℕ) (xs ys : List X) (at : ℕ) → EndsAt P number xs (Stopped at) → EndsAt P number (xs ++ ys) (Stopped at)
stopped_in P number xs ys at is = (is.0, first_in P xs ys is.0 is.1, is.2)

first_behind : {X : Type 0} (P : X → Type 0) (xs ys : List X) (place at : ℕ) → at ≡ length xs + place → All P xs → IsFirstWithout P ys place → IsFirstWithout P (xs ++ ys) at
first_behind P [] ys place at e all is = subst (λ n. IsFirstWithout P ys n) (omega (arith, e)) is
first_behind P (x ∷ xs) ys place zero e all is = absurd (omega (arith, e))
first_behind P (x ∷ xs) ys place (suc at) e all is = (All-head P x xs all, first_behind P xs ys place at (omega (arith, e)) (All-tail P x xs all) is)

pub through_both : {X : Type 0} (P : X → Type 0) (number next : ℕ) (xs ys : List X) (end : End) → EndsAt P number xs (Through next) → EndsAt P next ys end → EndsAt P number (xs ++ ys) end
through_both P number next xs ys (Through behind) first second = (All-append P xs ys first.0 second.0, omega (arith, first.1, second.1, length-append xs ys))
through_both P number next xs ys (Stopped at) first second = (length xs + second.0, first_behind P xs ys second.0 (length xs + second.0) refl first.0 second.1, omega (arith, first.1, second.2))

-- ---- the visits of a node

pub visits_first : (e : Election) (node : Node) (tree : Plain) → (rest : List Visit) × (visits e node tree ≡ visit_of node tree ∷ rest)
visits_first e node (Split kids) = (visits_among e (kid_goals (cover_of e node.goal)) kids, refl)
visits_first e node (Branch feature value low high) =
    (visits e (with_limit node (low_limit feature value)) low ++ visits e (with_limit node (high_limit feature value)) high, refl)
visits_first e node (Cut multipliers) = ([], refl)

mutual
  pub visits_few : (e : Election) (node : Node) (tree : Plain) → length (visits e node tree) ≤ size tree
  visits_few e node (Split kids) = omega (arith, among_few e (kid_goals (cover_of e node.goal)) kids)
  visits_few e node (Branch feature value low high) = omega (
    arith,
    visits_few e (with_limit node (low_limit feature value)) low,
    visits_few e (with_limit node (high_limit feature value)) high,
    length-append (visits e (with_limit node (low_limit feature value)) low) (visits e (with_limit node (high_limit feature value)) high),
  )
  visits_few e node (Cut multipliers) = omega arith

  pub among_few : (e : Election) (goals : List Goal) (kids : Kids) → length (visits_among e goals kids) ≤ size_all kids
  among_few e goals tree.None = omega arith
  among_few e [] (tree.More kid kids) = omega arith
  among_few e (goal ∷ goals) (tree.More kid kids) = omega (
    arith,
    visits_few e (without_limits goal) kid,
    among_few e goals kids,
    length-append (visits e (without_limits goal) kid) (visits_among e goals kids),
  )

-- ---- a walk over a node

pub shape_known : (e : Election) (asked : Asked) (visit : Visit) → IsKnown e asked visit → Gives e asked visit → IsShaped e visit.node visit.tree
shape_known e Shape visit known given = given
shape_known e (Cuts t) visit known given = known

-- what is known of the topmost node
pub first_known : (e : Election) (asked : Asked) (node : Node) (tree : Plain) → All (IsKnown e asked) (visits e node tree) → IsKnown e asked (visit_of node tree)
first_known e asked node tree known =
    let first = visits_first e node tree in
    All-head (IsKnown e asked) (visit_of node tree) first.0 (subst (λ vs. All (IsKnown e asked) vs) first.1 known)

pub walk_stops : (e : Election) (asked : Asked) (node : Node) (tree : Plain) (number : ℕ) → (Gives e asked (visit_of node tree) → ⊥)
    → EndsAt (Gives e asked) number (visits e node tree) (Stopped number)
walk_stops e asked node tree number fails =
    let first = visits_first e node tree in
    rw first.1 (stops_here (Gives e asked) number (visit_of node tree) first.0 fails)

pub walk_over_cut : (e : Election) (asked : Asked) (node : Node) (tree : Tree) (multipliers : List ℕ) (number : ℕ) → tree ≡ program.Cut multipliers
    → Gives e asked (visit_of node (plain_of tree)) → EndsAt (Gives e asked) number (visits e node (plain_of tree)) (Through (number + 1))
walk_over_cut e asked node tree multipliers number is good =
    let same : plain_of tree ≡ Cut multipliers = ap plain_of is ∙ plain_Cut multipliers in
    let here : Gives e asked (visit_of node (Cut multipliers)) = subst (λ t. Gives e asked (visit_of node t)) same good in
    rw same (one_through (Gives e asked) number (visit_of node (Cut multipliers)) [] (Through (number + 1)) here
    (none_left (Gives e asked) (number + 1)))

-- the visits of a split
pub over_split : (e : Election) (node : Node) (tree : Tree) (kids lent : List Tree) (goals shown : List Goal) → tree ≡ program.Split kids
    → cover_of e node.goal ≡ Some goals → shown ≡ goals → lent ≡ kids
    → visits e node (plain_of tree) ≡ visit_of node (plain_of tree) ∷ visits_among e shown (kids_of (map plain_of lent))
over_split e node tree kids lent goals shown is covered shown_is lent_is =
    let same : plain_of tree ≡ Split (kids_of (map plain_of kids)) = ap plain_of is ∙ plain_Split kids in
    let got : kid_goals (cover_of e node.goal) ≡ shown = ap kid_goals covered ∙ sym shown_is in
    rw (same, got, lent_is) refl

pub walk_over_rest : (e : Election) (asked : Asked) (node : Node) (tree : Tree) (among : List Visit) (number : ℕ) (end : End)
    → visits e node (plain_of tree) ≡ visit_of node (plain_of tree) ∷ among → Gives e asked (visit_of node (plain_of tree))
    → EndsAt (Gives e asked) (number + 1) among end → EndsAt (Gives e asked) number (visits e node (plain_of tree)) end
walk_over_rest e asked node tree among number end are good rest =
    rw are (one_through (Gives e asked) number (visit_of node (plain_of tree)) among end good rest)

pub known_below : (e : Election) (asked : Asked) (node : Node) (tree : Tree) (among : List Visit)
    → visits e node (plain_of tree) ≡ visit_of node (plain_of tree) ∷ among → All (IsKnown e asked) (visits e node (plain_of tree)) → All (IsKnown e asked) among
known_below e asked node tree among are known =
    All-tail (IsKnown e asked) (visit_of node (plain_of tree)) among (subst (λ vs. All (IsKnown e asked) vs) are known)

-- what is given and known where the limits are lent
pub given_for : (e : Election) (asked : Asked) (start : Ground) (shown limits : List Limit) (tree : Plain) → shown ≡ limits
    → Gives e asked (visit_of (node_of start shown) tree) → Gives e asked (visit_of (node_of start limits) tree)
given_for e asked start shown limits tree same = subst (λ ls. Gives e asked (visit_of (node_of start ls) tree)) same

pub known_for : (e : Election) (asked : Asked) (start : Ground) (shown limits : List Limit) (tree : Plain) → shown ≡ limits
    → All (IsKnown e asked) (visits e (node_of start limits) tree) → IsKnown e asked (visit_of (node_of start shown) tree)
known_for e asked start shown limits tree same known =
    subst (λ ls. IsKnown e asked (visit_of (node_of start ls) tree)) (sym same) (first_known e asked (node_of start limits) tree known)

-- the visits of a branch
pub over_branch : (e : Election) (node : Node) (tree : Tree) (feature : Feature) (value : ℕ) (low high : Tree) → tree ≡ program.Branch feature value low high
    → visits e node (plain_of tree) ≡ visit_of node (plain_of tree) ∷ (visits e (with_limit node (low_limit feature value)) (plain_of low) ++ visits e (with_limit node (high_limit feature value)) (plain_of high))
over_branch e node tree feature value low high is =
    let same : plain_of tree ≡ Branch feature value (plain_of low) (plain_of high) = ap plain_of is ∙ plain_Branch feature value low high in
    rw same refl

pub branch_feature : (e : Election) (asked : Asked) (node : Node) (tree : Tree) (feature : Feature) (value : ℕ) (low high : Tree)
    → tree ≡ program.Branch feature value low high → All (IsKnown e asked) (visits e node (plain_of tree)) → Gives e asked (visit_of node (plain_of tree))
    → IsFeatureOf e node.goal feature
branch_feature e asked node tree feature value low high is known given =
    (shaped_Branch e node tree feature value low high is).0
    (shape_known e asked (visit_of node (plain_of tree)) (first_known e asked node (plain_of tree) known) given)

-- what walking over the kids of a split asks
split_shape : (e : Election) (asked : Asked) (node : Node) (tree : Tree) (kids : List Tree) → tree ≡ program.Split kids
    → All (IsKnown e asked) (visits e node (plain_of tree)) → Gives e asked (visit_of node (plain_of tree))
    → (node.limits ≡ []) × (option_map length (cover_of e node.goal) ≡ Some (length kids))
split_shape e asked node tree kids is known given =
    (shaped_Split e node tree kids is).0
    (shape_known e asked (visit_of node (plain_of tree)) (first_known e asked node (plain_of tree) known) given)

pub split_free : (e : Election) (asked : Asked) (node : Node) (tree : Tree) (kids : List Tree) → tree ≡ program.Split kids
    → All (IsKnown e asked) (visits e node (plain_of tree)) → Gives e asked (visit_of node (plain_of tree)) → node.limits ≡ []
split_free e asked node tree kids is known given = (split_shape e asked node tree kids is known given).0

pub as_many_kids : (e : Election) (asked : Asked) (node : Node) (tree : Tree) (kids : List Tree) (goals : List Goal) → tree ≡ program.Split kids
    → cover_of e node.goal ≡ Some goals → All (IsKnown e asked) (visits e node (plain_of tree)) → Gives e asked (visit_of node (plain_of tree))
    → length goals ≡ length kids
as_many_kids e asked node tree kids goals is covered known given =
    let t : Some (length goals) ≡ Some (length kids) =
    ap (option_map length) (sym covered) ∙ (split_shape e asked node tree kids is known given).1 in
    cc

pub has_cover : (e : Election) (asked : Asked) (node : Node) (tree : Tree) (kids : List Tree) → tree ≡ program.Split kids
    → cover_of e node.goal ≡ None → All (IsKnown e asked) (visits e node (plain_of tree)) → Gives e asked (visit_of node (plain_of tree)) → ⊥
has_cover e asked node tree kids is covered known given =
    let t : None ≡ Some (length kids) = ap (option_map length) (sym covered) ∙ (split_shape e asked node tree kids is known given).1 in
    cc

pub if_ok : {X E : Type 0} {P Q : X → Type 0} (result : Result X E) → ((x : X) → P x → Q x) → IfOk result P → IfOk result Q
if_ok (Ok x) weaker h = weaker x h
if_ok (Err e) weaker h = tt

-- ---- a walk over the kids of a split, from the i-th on

-- the visits below the kids from the i-th on
abbrev pub rest_of : Election → List Goal → List Tree → ℕ → List Visit
rest_of e goals kids i = visits_among e (drop i goals) (kids_of (map plain_of (drop i kids)))

pub kids_from : (e : Election) (goals : List Goal) (kids : List Tree) (i : ℕ) (goal : Goal) (kid : Tree) → i < length goals → i < length kids → goal ≡ get_or goals i goal → kid ≡ get_or kids i kid
    → rest_of e goals kids i ≡ visits e (without_limits goal) (plain_of kid) ++ rest_of e goals kids (i + 1)
kids_from e goals kids i goal kid first second goal_is same =
    let g : drop i goals ≡ goal ∷ drop (i + 1) goals = drop_more goals i goal first ∙ ap (λ g. g ∷ drop (i + 1) goals) (sym goal_is) in
    let k : drop i kids ≡ kid ∷ drop (i + 1) kids = drop_more kids i kid second ∙ ap (λ k. k ∷ drop (i + 1) kids) (sym same) in
    rw (g, k) refl

-- what is known of a kid, and of those behind it
pub kid_known : (P : Visit → Type 0) (e : Election) (goals : List Goal) (kids : List Tree) (i : ℕ) (goal : Goal) (kid : Tree) → i < length goals → i < length kids → goal ≡ get_or goals i goal
    → kid ≡ get_or kids i kid → All P (rest_of e goals kids i) → All P (visits e (without_limits goal) (plain_of kid)) × All P (rest_of e goals kids (i + 1))
kid_known P e goals kids i goal kid first second goal_is same known =
    let all : All P (visits e (without_limits goal) (plain_of kid) ++ rest_of e goals kids (i + 1)) =
    subst (λ vs. All P vs) (kids_from e goals kids i goal kid first second goal_is same) known in (
      before P (visits e (without_limits goal) (plain_of kid)) (rest_of e goals kids (i + 1)) all,
      behind P (visits e (without_limits goal) (plain_of kid)) (rest_of e goals kids (i + 1)) all,
    )

pub no_limits : (e : Election) (node : Node) → node.limits ≡ [] → AreLimits e node
no_limits e node free = record {
  few = omega (arith, ap length free);
  small = λ k d lt. absurd (omega (arith, lt, ap length free));
  features = λ k d lt. absurd (omega (arith, lt, ap length free));
}

-- a kid's ground is its goal without limits
pub kid_node : (start : Ground) (limits : List Limit) (goal : Goal) → start.goal ≡ goal → limits ≡ [] → node_of start limits ≡ without_limits goal
kid_node start limits goal same free = rw (same, free) refl

-- the end over this kid and those behind it
pub kid_stops : (P : Visit → Type 0) (here rest all : List Visit) (next at : ℕ) (end : End) → all ≡ here ++ rest → end ≡ Stopped at → EndsAt P next here end
    → EndsAt P next all (Stopped at)
kid_stops P here rest all next at end are is given =
    rw are (stopped_in P next here rest at (subst (λ x. EndsAt P next here x) is given))

pub kid_through : (P : Visit → Type 0) (here rest all : List Visit) (next behind : ℕ) (given end : End) → all ≡ here ++ rest → given ≡ Through behind
    → EndsAt P next here given → EndsAt P behind rest end → EndsAt P next all end
kid_through P here rest all next behind given end are is one more =
    rw are (through_both P next behind here rest end (subst (λ x. EndsAt P next here x) is one) more)

pub none_behind : (P : Visit → Type 0) (e : Election) (goals : List Goal) (kids : List Tree) (i next : ℕ) → length kids ≤ i
    → EndsAt P next (rest_of e goals kids i) (Through next)
none_behind P e goals kids i next over =
    let k : drop i kids ≡ [] = drop_all i kids over in
    rw k (none_left P next)

-- how far the number behind a kid is
pub kid_few : (P : Visit → Type 0) (e : Election) (goal : Goal) (kids : List Tree) (i number next behind : ℕ) (kid : Tree) (given : End) → i < length kids → kid ≡ get_or kids i kid
    → next ≤ number + sum_by (λ k. size (plain_of k)) (take i kids) → given ≡ Through behind → EndsAt P next (visits e (without_limits goal) (plain_of kid)) given
    → behind ≤ number + sum_by (λ k. size (plain_of k)) (take (i + 1) kids)
kid_few P e goal kids i number next behind kid given within same few is here =
    let through : EndsAt P next (visits e (without_limits goal) (plain_of kid)) (Through behind) = subst (λ x. EndsAt P next (visits e (without_limits goal) (plain_of kid)) x) is here in
    let f = visits_few e (without_limits goal) (plain_of kid) in
    let m = size_more kids i kid (slice_get_read kids (length kids) i kid refl within same) in
    omega (arith, f, m, few, through.1)

-- a kid's numbers fit
pub kid_fits : (kids : List Tree) (i number next : ℕ) (kid : Tree) → i < length kids → kid ≡ get_or kids i kid → next ≤ number + sum_by (λ k. size (plain_of k)) (take i kids)
    → number + sum_by (λ k. size (plain_of k)) kids < 4294967296 → next + size (plain_of kid) < 4294967296
kid_fits kids i number next kid within same few fits =
    let m = sum_by_more_le (λ k. size (plain_of k)) kids i kid within in
    omega (arith, m, few, fits, ap (λ k. size (plain_of k)) same)

pub kid_smaller : (kids : List Tree) (i : ℕ) (kid : Tree) → i < length kids → kid ≡ get_or kids i kid
    → 3 * size (plain_of kid) < 3 * sum_by (λ k. size (plain_of k)) kids + 1
kid_smaller kids i kid within same =
    let m = sum_by_more_le (λ k. size (plain_of k)) kids i kid within in
    omega (arith, m, ap (λ k. size (plain_of k)) same)
