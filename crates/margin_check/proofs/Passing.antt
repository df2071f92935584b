-- The cut test of a node.
use Rattle.std.proofs.Common.{ℕ, List, [], ◌∷◌, Bool, true, false, IsTrue, ◌≡◌, ◌≤◌, ◌+◌, ◌∙◌, ◌↔◌, length, map, cond, get_or, ap, refl, subst, sym, arith}
use Rattle.std.specs.Prelude.{◌<◌, ◌^◌, nat_eq}
use Rattle.std.specs.Str.{bytes_eq}
use Rattle.std.proofs.lemmas.List.{length-map}
use Rattle.row_program.specs.declared.Feature.{Feature}
use Rattle.row_program.specs.declared.Feature.TheVariants.{From, Arc}
use Rattle.row_program.specs.declared.Limit.{Limit}
use Rattle.bound_tree.specs.declared.tree.Tree.{Tree}
use Rattle.bound_tree.specs.declared.tree.Tree.TheVariants as program
use Rattle.bound_tree.specs.Plain.{Cut, plain_of}
use Rattle.bound_tree.proofs.Shapes.{plain_Split, plain_Branch, plain_Cut}
use Rattle.signature_class.specs.Classes.{add_all, add_class, classes_of}
use Rattle.signature_class.proofs.Counts.{classes_by_kinds, regrouped}
use Rattle.goal_rows.specs.Elections.{Election, Node}
use Rattle.goal_rows.specs.Goals.{IsReached, rows_of}
use Rattle.goal_rows.specs.Nodes.{AreLimits, IsFeatureOf, node_of}
use Rattle.goal_rows.specs.Races.{IsGroundIn, IsRace, election_of, key_of, keys_of, seen_by}
use Rattle.goal_rows.proofs.Lengths.{cover_rows_less}
use Rattle.goal_rows.proofs.Seen.{key_seen, seen_alike}
use Rattle.goal_rows.proofs.Ways.{reached_cover, reached_suffix}
use Rattle.goal_rows.specs.declared.goals.Goal.{Goal}
use Rattle.goal_rows.specs.declared.goals.Goal.TheVariants.{Root, Suffix, Pair, Cover}
use Rattle.goal_rows.specs.declared.parts.Ground.{Ground}
use Rattle.goal_rows.specs.declared.parts.Race.{Race}
use Rattle.dual_bound.specs.CutTest.{Cuts}
use Rattle.margin_check.specs.Proving.{Passes}

-- ---- there are at most as many classes as kinds

class_few : {X : Type 0} (same : X → X → Bool) (key : X) (n : ℕ) (cs : List (X × ℕ)) → length (add_class same key n cs) ≤ length cs + 1
class_few same key n [] = omega arith
class_few {X} same key n (c ∷ cs) = by (same key c.0) (class_few same key n cs)
  where
    by : (t : Bool) → length (add_class same key n cs) ≤ length cs + 1 → length (cond t ((c.0, c.1 + n) ∷ cs) (c ∷ add_class same key n cs)) ≤ length (c ∷ cs) + 1
    by true few = omega arith
    by false few = omega (arith, few)

classes_few : {X : Type 0} (same : X → X → Bool) (cs more : List (X × ℕ)) → length (add_all same cs more) ≤ length cs + length more
classes_few same cs [] = omega arith
classes_few same cs (a ∷ more) = omega (arith, classes_few same (add_class same a.0 a.1 cs) more, class_few same a.0 a.1 cs)

keyed_few : (key : List ℕ → ℕ) (rows : List (List ℕ)) → length (classes_of nat_eq (map key rows)) ≤ length (classes_of bytes_eq rows)
keyed_few key rows =
    let e : length (add_all nat_eq [] (regrouped key (classes_of bytes_eq rows))) ≡ length (classes_of nat_eq (map key rows)) = ap length (classes_by_kinds key rows) in
    let f = classes_few nat_eq [] (regrouped key (classes_of bytes_eq rows)) in
    let g : length (regrouped key (classes_of bytes_eq rows)) ≡ length (classes_of bytes_eq rows) = length-map (classes_of bytes_eq rows) (λ k. (key k.0, k.1)) in
    omega (arith, e, f, g)

-- where a key looks at no more of a ballot than the rule
seen_few : (race : Race) (key : List ℕ → ℕ) → IsRace race → ((ballot : List ℕ) → key (seen_by race.rule ballot) ≡ key ballot)
    → length (classes_of nat_eq (map key race.roll.now.ballots)) ≤ length race.kinds
seen_few race key is seen =
    let rows = map (seen_by race.rule) race.roll.now.ballots in
    let f = keyed_few key rows in
    let s : length (classes_of nat_eq (map key rows)) ≡ length (classes_of nat_eq (map key race.roll.now.ballots)) =
    ap (λ ks. length (classes_of nat_eq ks)) (seen_alike key (seen_by race.rule) race.roll.now.ballots seen) in
    let k : length race.kinds ≡ length (classes_of bytes_eq rows) = ap length is.kinds in
    omega (arith, f, s, k)

pub room_for : (race : Race) (start : Ground) (room : ℕ) → IsRace race → IsGroundIn (election_of race) start → length race.kinds ≤ room → length start.classes ≤ room
room_for race start room is ground enough = by start.goal ground.reached (ap length ground.values.classes)
  where
    e : Election
    e = election_of race

    by : (goal : Goal) → IsReached e goal → length start.classes ≡ length (classes_of nat_eq (keys_of e goal)) → length start.classes ≤ room
    by Root reached many = omega (arith, many)
    by (Suffix suffix) reached many =
        let rule = (reached_suffix e suffix is.election.roots reached).0 in
        omega (arith, many, enough, seen_few race (key_of e (Suffix suffix)) is (λ ballot. ap (λ r. key_of e (Suffix suffix) (seen_by r ballot)) rule))
    by (Pair g l) reached many = omega (arith, many, enough, seen_few race (key_of e (Pair g l)) is (key_seen e g l))
    by (Cover x) reached many =
        let rule = (reached_cover e x is.election.roots reached).0 in
        omega (arith, many, enough, seen_few race (key_of e (Cover x)) is (λ ballot. ap (λ r. key_of e (Cover x) (seen_by r ballot)) rule))

-- ---- limits are limits in every election that the ground may be of

cover_size : (e : Election) (start : Ground) (x : ℕ) → IsGroundIn e start → start.goal ≡ Cover x → e.poll.c ≡ length start.sums + 1
cover_size e start x ground goal_is =
    let reached = reached_cover e x ground.election.roots (subst (λ goal. IsReached e goal) goal_is ground.reached) in
    let rows : length start.sums ≡ length (rows_of e start.goal) = ap length ground.values.sums ∙ length-map (rows_of e start.goal) _ in
    let cover : length (rows_of e start.goal) ≡ length (rows_of e (Cover x)) = ap (λ goal. length (rows_of e goal)) goal_is in
    omega (arith, rows, cover, cover_rows_less e.poll.c x reached.1, reached.1)

feature_alike : (e other : Election) (start : Ground) (goal : Goal) (feature : Feature) → IsGroundIn e start → IsGroundIn other start → start.goal ≡ goal
    → IsFeatureOf e goal feature → IsFeatureOf other goal feature
feature_alike e other start Root feature here there goal_is is = is
feature_alike e other start (Suffix suffix) (From key) here there goal_is is = is
feature_alike e other start (Suffix suffix) (Arc u p) here there goal_is is = is
feature_alike e other start (Pair g l) feature here there goal_is is = is
feature_alike e other start (Cover x) (From key) here there goal_is is =
    let c : e.poll.c ≡ other.poll.c = omega (arith, cover_size e start x here goal_is, cover_size other start x there goal_is) in
    subst (λ n. key < 2 ^ n) c is
feature_alike e other start (Cover x) (Arc u p) here there goal_is is = is

pub limits_alike : (e other : Election) (start : Ground) (limits : List Limit) → IsGroundIn e start → IsGroundIn other start → AreLimits e (node_of start limits)
    → AreLimits other (node_of start limits)
limits_alike e other start limits here there are = record {
  few = are.few;
  small = are.small;
  features = λ k d lt. feature_alike e other start start.goal (get_or limits k d).feature here there refl (are.features k d lt);
}

-- ---- what is asked of a node

pub passes_Cut : (e : Election) (node : Node) (tree : Tree) (multipliers : List ℕ) (t : ℕ) (b : Bool) → tree ≡ program.Cut multipliers
    → (IsTrue b ↔ Cuts e node multipliers t) → IsTrue b ↔ Passes e t node (plain_of tree)
passes_Cut e node tree multipliers t b is test =
    let same : plain_of tree ≡ Cut multipliers = ap plain_of is ∙ plain_Cut multipliers in
    rw same test

pub passes_Split : (e : Election) (node : Node) (tree : Tree) (kids : List Tree) (t : ℕ) → tree ≡ program.Split kids → Passes e t node (plain_of tree)
passes_Split e node tree kids t is = subst (λ plain. Passes e t node plain) (sym (ap plain_of is ∙ plain_Split kids)) tt

pub passes_Branch : (e : Election) (node : Node) (tree : Tree) (feature : Feature) (value : ℕ) (low high : Tree) (t : ℕ) → tree ≡ program.Branch feature value low high
    → Passes e t node (plain_of tree)
passes_Branch e node tree feature value low high t is =
    subst (λ plain. Passes e t node plain) (sym (ap plain_of is ∙ plain_Branch feature value low high)) tt
