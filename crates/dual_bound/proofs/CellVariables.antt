-- The variables of a program, class by class and arc by arc.
use Rattle.std.proofs.Common.{◌≡◌, ◌↔◌, ℕ, zero, suc, ◌+◌, ◌-◌, ◌<◌, ◌≤◌, List, [], ◌∷◌, ◌++◌, length, get_or, map, replicate, ap, refl, subst, sym, ◌∙◌, inl, inr, arith, All}
use Rattle.std.specs.Prelude.{Contains}
use Rattle.std.specs.List.{flat_map, range_with_len}
use Rattle.std.proofs.lemmas.Bool.{cases_eq}
use Rattle.std.proofs.lemmas.List.Concat.{flat_map-cons}
use Rattle.std.proofs.lemmas.List.{append_assoc, get_or_default, length-append, length-map, length-replicate, map-append}
use Rattle.std.proofs.lemmas.List.Elements.{All-append, All-cons, All-nil, Contains-append_cases, Contains-append_left, Contains-append_right}
use Rattle.row_program.specs.declared.Feature.{Feature}
use Rattle.row_program.specs.declared.Feature.TheVariants.{From, Arc}
use Rattle.row_program.specs.declared.Limit.{Limit}
use Rattle.signature_class.specs.Classes.{keys_of}
use Rattle.sig_graph.specs.Paths.{arc_at, arc_total, arcs_of}
use Rattle.sig_graph.proofs.ArcNumbers.{IsArc, arc_at-within, arc_of, get_or-each, length-arcs_of}
use Rattle.goal_rows.specs.Cells.{HasFeatures, Variable, cell_values, low_end, variables_of}
use Rattle.goal_rows.specs.Programs.{arcs_under, costs_of}
use Rattle.goal_rows.specs.declared.goals.Goal.{Goal}
use Rattle.goal_rows.specs.declared.goals.Goal.TheVariants.{Root, Suffix, Pair, Cover}
use Rattle.goal_rows.specs.declared.parts.Ground.{Ground}
use Rattle.goal_rows.proofs.Lists.{list_more}
use Rattle.dual_bound.specs.CellCuts.{features_of}
use Rattle.dual_bound.specs.CellParts.{IsFixed, IsFixedArc, IsFixedClass, variable}
use Rattle.dual_bound.specs.Sizes.{places_of}

-- ---- lists

pub map_twice : {X Y Z : Type 0} (g : Y → Z) (f : X → Y) (xs : List X) → map g (map f xs) ≡ map (λ x. g (f x)) xs
map_twice g f [] = refl
map_twice g f (x ∷ xs) = ap (λ ys. g (f x) ∷ ys) (map_twice g f xs)

all_front : {X : Type 0} (P : X → Type 0) (xs ys : List X) → All P (xs ++ ys) → All P xs
all_front P [] ys all = All-nil P
all_front P (x ∷ xs) ys all = All-cons P x xs (all 0 x (omega arith)) (all_front P xs ys (λ k d lt. all (suc k) d (omega (arith, lt))))

all_back : {X : Type 0} (P : X → Type 0) (xs ys : List X) → All P (xs ++ ys) → All P ys
all_back P [] ys all = all
all_back P (x ∷ xs) ys all = all_back P xs ys (λ k d lt. all (suc k) d (omega (arith, lt)))

all_made : {X Y : Type 0} (P : Y → Type 0) (f : X → Y) (xs : List X) → All (λ x. P (f x)) xs → All P (map f xs)
all_made P f [] all = All-nil P
all_made P f (x ∷ xs) all = All-cons P (f x) (map f xs) (all 0 x (omega arith)) (all_made P f xs (λ k d lt. all (suc k) d (omega (arith, lt))))

all_makers : {X Y : Type 0} (P : Y → Type 0) (f : X → Y) (xs : List X) → All P (map f xs) → All (λ x. P (f x)) xs
all_makers P f [] all = All-nil (λ x. P (f x))
all_makers P f (x ∷ xs) all = All-cons (λ y. P (f y)) x xs (all 0 (f x) (omega arith)) (all_makers P f xs (λ k d lt. all (suc k) d (omega (arith, lt))))

-- what holds of each item before one more, and of it
pub one_more_at : {X : Type 0} (P : X → Type 0) (xs : List X) (k n : ℕ) (x : X) → k < length xs → ((j : ℕ) (d : X) → j < k → P (get_or xs j d)) → P (get_or xs k x) → n ≡ k + 1
    → (j : ℕ) (d : X) → j < n → P (get_or xs j d)
one_more_at P xs k n x lt before here n_is j d jn = elim (cases_eq j k) [
  | inl same ↦ subst (λ i. P (get_or xs i d)) (sym same) (subst P (get_or_default xs k x d lt) here)
  | inr differ ↦ before j d (omega (arith, jn, n_is, differ))
]

map_flat : {X Y Z : Type 0} (g : Y → Z) (f : X → List Y) (xs : List X) → map g (flat_map f xs) ≡ flat_map (λ x. map g (f x)) xs
map_flat g f [] = refl
map_flat g f (x ∷ xs) =
    ap (map g) (flat_map-cons f x xs) ∙ map-append g (f x) (flat_map f xs) ∙ ap (λ ys. map g (f x) ++ ys) (map_flat g f xs) ∙ sym (flat_map-cons (λ x. map g (f x)) x xs)

-- what is made of numbers, behind others
pub flat_more : {X : Type 0} (f : ℕ → List X) (g : ℕ) (before xs ys : List X) → xs ≡ before ++ flat_map f (range_with_len 0 g) → ys ≡ xs ++ f g
    → ys ≡ before ++ flat_map f (range_with_len 0 (g + 1))
flat_more f g before xs ys is added =
    let whole = flat_map f (range_with_len 0 g) in
    added ∙ ap (λ zs. zs ++ f g) is ∙ append_assoc before whole (f g) ∙ ap (λ zs. before ++ zs) (list_more f g whole (whole ++ f g) refl refl)

-- ---- arcs

-- the features of arcs, place by place
pub arc_features : (m : ℕ) → map (λ a. Arc a.0 a.1) (arcs_of m) ≡ flat_map (λ u. map (λ x. Arc u x) (range_with_len (u + 1) (m - u))) (range_with_len 0 m)
arc_features m =
    map_flat (λ (a : ℕ × ℕ). Arc a.0 a.1) (λ u. map (λ x. (u, x)) (range_with_len (u + 1) (m - u))) (range_with_len 0 m)
    ∙ flat_same (λ u. map (λ (a : ℕ × ℕ). Arc a.0 a.1) (map (λ x. (u, x)) (range_with_len (u + 1) (m - u)))) (λ u. map (λ x. Arc u x) (range_with_len (u + 1) (m - u))) (range_with_len 0 m)
    (λ u. map_twice (λ (a : ℕ × ℕ). Arc a.0 a.1) (λ x. (u, x)) (range_with_len (u + 1) (m - u)))
  where
    flat_same : (f g : ℕ → List Feature) (xs : List ℕ) → ((x : ℕ) → f x ≡ g x) → flat_map f xs ≡ flat_map g xs
    flat_same f g [] same = refl
    flat_same f g (x ∷ xs) same =
        flat_map-cons f x xs ∙ ap (λ ys. ys ++ flat_map f xs) (same x) ∙ ap (λ ys. g x ++ ys) (flat_same f g xs same) ∙ sym (flat_map-cons g x xs)

-- what is made of each arc
made_of_arcs : {Y : Type 0} (f : ℕ × ℕ → Y) (m : ℕ) → length (map f (arcs_of m)) ≡ arc_total m
made_of_arcs f m = length-map (arcs_of m) f ∙ length-arcs_of m

pub each_arc : {Y : Type 0} (P : Y → Type 0) (f : ℕ × ℕ → Y) (m : ℕ) → All P (map f (arcs_of m)) → (u x : ℕ) → u < x → x ≤ m → P (f (u, x))
each_arc P f m all u x begins ends =
    let k = arc_at m u x in
    let low = arc_at-within m u x begins ends in
    let long = made_of_arcs f m in
    subst P (get_or-each f m u x (f (u, x)) begins ends) (all k (f (u, x)) (omega (arith, low, long)))

pub at_arc : {Y : Type 0} (f : ℕ × ℕ → Y) (m k : ℕ) (d : Y) (is : IsArc m k) → get_or (map f (arcs_of m)) k d ≡ f (is.from, is.to)
at_arc f m k d is = subst (λ j. get_or (map f (arcs_of m)) j d ≡ f (is.from, is.to)) is.is (get_or-each f m is.from is.to d is.begins is.ends)

pub all_arcs : {Y : Type 0} (P : Y → Type 0) (f : ℕ × ℕ → Y) (m : ℕ) → ((u x : ℕ) → u < x → x ≤ m → P (f (u, x))) → All P (map f (arcs_of m))
all_arcs P f m each = λ k d lt.
    let long = made_of_arcs f m in
    let is = arc_of m k (omega (arith, lt, long)) in
    subst P (sym (at_arc f m k d is)) (each is.from is.to is.begins is.ends)

-- the arcs under a goal are those of its places
pub places_arcs : (goal : Goal) → arcs_under goal ≡ arcs_of (places_of goal)
places_arcs Root = refl
places_arcs (Suffix suffix) = refl
places_arcs (Pair g l) = refl
places_arcs (Cover x) = refl

-- ---- variables

abbrev class_variable : ℕ × ℕ → Variable
class_variable c = variable (From c.0) c.1

abbrev arc_variable : ℕ → ℕ × ℕ → Variable
arc_variable ballots a = variable (Arc a.0 a.1) ballots

pub variables_are : (start : Ground) → variables_of start ≡ map class_variable start.classes ++ map (arc_variable start.ballots) (arcs_of (places_of start.goal))
variables_are start = ap (λ arcs. map class_variable start.classes ++ map (arc_variable start.ballots) arcs) (places_arcs start.goal)

pub features_are : (start : Ground) → features_of start ≡ map (λ c. From c.0) start.classes ++ map (λ a. Arc a.0 a.1) (arcs_of (places_of start.goal))
features_are start =
    let arcs = arcs_of (places_of start.goal) in
    ap (map (λ (v : Variable). v.feature)) (variables_are start)
    ∙ map-append (λ (v : Variable). v.feature) (map class_variable start.classes) (map (arc_variable start.ballots) arcs)
    ∙ ap (λ xs. xs ++ map (λ (v : Variable). v.feature) (map (arc_variable start.ballots) arcs)) (map_twice (λ (v : Variable). v.feature) class_variable start.classes)
    ∙ ap (λ xs. map (λ (c : ℕ × ℕ). From c.0) start.classes ++ xs) (map_twice (λ (v : Variable). v.feature) (arc_variable start.ballots) arcs)

pub values_are : (start : Ground) (limits : List Limit) → cell_values start limits ≡ map (low_end limits) (features_of start)
values_are start limits = sym (map_twice (low_end limits) (λ (v : Variable). v.feature) (variables_of start))

-- as many as the program has
pub variables_count : (start : Ground) → length (variables_of start) ≡ length (costs_of start.classes (arcs_under start.goal))
variables_count start =
    let arcs = arcs_under start.goal in
    let a = length-append (map class_variable start.classes) (map (arc_variable start.ballots) arcs) in
    let b = length-map start.classes class_variable in
    let d = length-map arcs (arc_variable start.ballots) in
    let e = length-append (replicate {A = ℕ} (length start.classes) 1) (replicate {A = ℕ} (length arcs) 0) in
    let f = length-replicate {A = ℕ} (length start.classes) 1 in
    let g = length-replicate {A = ℕ} (length arcs) 0 in
    omega (arith, a, b, d, e, f, g)

pub values_count : (start : Ground) (limits : List Limit) → length (cell_values start limits) ≡ length (costs_of start.classes (arcs_under start.goal))
values_count start limits = length-map (variables_of start) (λ v. low_end limits v.feature) ∙ variables_count start

pub features_count : (start : Ground) → length (features_of start) ≡ length (costs_of start.classes (arcs_under start.goal))
features_count start = length-map (variables_of start) (λ v. v.feature) ∙ variables_count start

-- ---- all variables have one value

pub all_fixed : (start : Ground) (limits : List Limit) → All (IsFixedClass limits) start.classes
    → ((u x : ℕ) → u < x → x ≤ places_of start.goal → IsFixedArc limits start.ballots u x) → All (IsFixed limits) (variables_of start)
all_fixed start limits classes arcs =
    subst (All (IsFixed limits)) (sym (variables_are start))
    (All-append (IsFixed limits) (map class_variable start.classes) (map (arc_variable start.ballots) (arcs_of (places_of start.goal)))
    (all_made (IsFixed limits) class_variable start.classes classes) (all_arcs (IsFixed limits) (arc_variable start.ballots) (places_of start.goal) arcs))

pub fixed_classes : (start : Ground) (limits : List Limit) → All (IsFixed limits) (variables_of start) → All (IsFixedClass limits) start.classes
fixed_classes start limits all =
    all_makers (IsFixed limits) class_variable start.classes
    (all_front (IsFixed limits) (map class_variable start.classes) (map (arc_variable start.ballots) (arcs_of (places_of start.goal))) (subst (All (IsFixed limits)) (variables_are start) all))

pub fixed_arcs : (start : Ground) (limits : List Limit) → All (IsFixed limits) (variables_of start) → (u x : ℕ) → u < x → x ≤ places_of start.goal
    → IsFixedArc limits start.ballots u x
fixed_arcs start limits all =
    each_arc (IsFixed limits) (arc_variable start.ballots) (places_of start.goal)
    (all_back (IsFixed limits) (map class_variable start.classes) (map (arc_variable start.ballots) (arcs_of (places_of start.goal))) (subst (All (IsFixed limits)) (variables_are start) all))

-- ---- features of variables

from_class : (key : ℕ) (cs : List (ℕ × ℕ)) → Contains (map (λ c. From c.0) cs) (From key) → Contains (keys_of cs) key
from_class key [] at = absurd (omega (arith, at.1))
from_class key (c ∷ cs) (zero, lt, e) = (0, omega arith, let h : From c.0 ≡ From key = e in cc)
from_class key (c ∷ cs) (suc k, lt, e) = let r = from_class key cs (k, omega (arith, lt), e) in (suc r.0, omega (arith, r.1), r.2)

class_from : (key : ℕ) (cs : List (ℕ × ℕ)) → Contains (keys_of cs) key → Contains (map (λ c. From c.0) cs) (From key)
class_from key [] at = absurd (omega (arith, at.1))
class_from key (c ∷ cs) (zero, lt, e) = (0, omega arith, ap From e)
class_from key (c ∷ cs) (suc k, lt, e) = let r = class_from key cs (k, omega (arith, lt), e) in (suc r.0, omega (arith, r.1), r.2)

no_class : (u x : ℕ) (cs : List (ℕ × ℕ)) → Contains (map (λ c. From c.0) cs) (Arc u x) → ⊥
no_class u x [] at = omega (arith, at.1)
no_class u x (c ∷ cs) (zero, lt, e) = let h : From c.0 ≡ Arc u x = e in cc
no_class u x (c ∷ cs) (suc k, lt, e) = no_class u x cs (k, omega (arith, lt), e)

no_arc : (key : ℕ) (arcs : List (ℕ × ℕ)) → Contains (map (λ a. Arc a.0 a.1) arcs) (From key) → ⊥
no_arc key [] at = omega (arith, at.1)
no_arc key (a ∷ arcs) (zero, lt, e) = let h : Arc a.0 a.1 ≡ From key = e in cc
no_arc key (a ∷ arcs) (suc k, lt, e) = no_arc key arcs (k, omega (arith, lt), e)

abbrev arc_feature : ℕ × ℕ → Feature
arc_feature a = Arc a.0 a.1

same_ends : (u x a b : ℕ) → Arc a b ≡ Arc u x → (a ≡ u) × (b ≡ x)
same_ends u x a b e = (cc, cc)

pub on_class : (start : Ground) (key : ℕ) → Contains (features_of start) (From key) ↔ Contains (keys_of start.classes) key
on_class start key = (into, out)
  where
    into : Contains (features_of start) (From key) → Contains (keys_of start.classes) key
    into at = elim (Contains-append_cases (map (λ c. From c.0) start.classes) (map arc_feature (arcs_of (places_of start.goal))) (From key) (subst (λ xs. Contains xs (From key)) (features_are start) at)) [
      | inl here ↦ from_class key start.classes here
      | inr there ↦ absurd (no_arc key (arcs_of (places_of start.goal)) there)
    ]

    out : Contains (keys_of start.classes) key → Contains (features_of start) (From key)
    out at =
        subst (λ xs. Contains xs (From key)) (sym (features_are start))
        (Contains-append_left (map (λ c. From c.0) start.classes) (map arc_feature (arcs_of (places_of start.goal))) (From key) (class_from key start.classes at))

-- an arc of the graph is among them
pub arc_there : (m u x : ℕ) → (u < x) × (x ≤ m) → Contains (map (λ (a : ℕ × ℕ). Arc a.0 a.1) (arcs_of m)) (Arc u x)
arc_there m u x at =
    let long = made_of_arcs arc_feature m in
    let low = arc_at-within m u x at.0 at.1 in
    (arc_at m u x, omega (arith, low, long), get_or-each arc_feature m u x (Arc u x) at.0 at.1)

pub on_arc : (start : Ground) (u x : ℕ) → Contains (features_of start) (Arc u x) ↔ ((u < x) × (x ≤ places_of start.goal))
on_arc start u x = (into, out)
  where
    ends_of : Contains (map arc_feature (arcs_of (places_of start.goal))) (Arc u x) → (u < x) × (x ≤ places_of start.goal)
    ends_of at =
        let m = places_of start.goal in
        let long = made_of_arcs arc_feature m in
        let is = arc_of m at.0 (omega (arith, at.1, long)) in
        let same = same_ends u x is.from is.to (sym (at_arc arc_feature m at.0 (Arc u x) is) ∙ at.2) in
        (omega (arith, same.0, same.1, is.begins), omega (arith, same.1, is.ends))

    into : Contains (features_of start) (Arc u x) → (u < x) × (x ≤ places_of start.goal)
    into at = elim (Contains-append_cases (map (λ c. From c.0) start.classes) (map arc_feature (arcs_of (places_of start.goal))) (Arc u x) (subst (λ xs. Contains xs (Arc u x)) (features_are start) at)) [
      | inl here ↦ absurd (no_class u x start.classes here)
      | inr there ↦ ends_of there
    ]

    out : (u < x) × (x ≤ places_of start.goal) → Contains (features_of start) (Arc u x)
    out at =
        let m = places_of start.goal in
        let long = made_of_arcs arc_feature m in
        let low = arc_at-within m u x at.0 at.1 in
        subst (λ xs. Contains xs (Arc u x)) (sym (features_are start))
        (Contains-append_right (map (λ c. From c.0) start.classes) (map arc_feature (arcs_of m)) (Arc u x) (arc_at m u x, omega (arith, low, long), get_or-each arc_feature m u x (Arc u x) at.0 at.1))

-- ---- cells

-- a goal with features isn't the root
pub not_root : (goal : Goal) → HasFeatures goal → goal ≡ Root → ⊥
not_root Root has is = has
not_root (Suffix suffix) has is = let h : Suffix suffix ≡ Root = is in cc
not_root (Pair g l) has is = has
not_root (Cover x) has is = let h : Cover x ≡ Root = is in cc
