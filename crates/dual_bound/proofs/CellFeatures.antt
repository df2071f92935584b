-- Each variable has a feature of its own.
use Rattle.std.proofs.Common.{◌≡◌, ◌≢◌, ℕ, zero, suc, ◌<◌, List, [], ◌∷◌, true, false, cond, length, get_or, map, ap, refl, subst, sym, ◌∙◌, inl, inr, arith}
use Rattle.std.specs.Prelude.{AllPairs, Contains}
use Rattle.std.proofs.lemmas.Bool.{cases_Bool}
use Rattle.std.proofs.lemmas.List.{length-map}
use Rattle.mov_base.specs.Sums.{add_up}
use Rattle.mov_base.proofs.Sums.{add_up-append}
use Rattle.row_program.specs.declared.Feature.{Feature}
use Rattle.row_program.specs.declared.Feature.TheVariants.{From, Arc}
use Rattle.signature_class.specs.Classes.{keys_of}
use Rattle.signature_class.proofs.Counts.{keys_are_classes}
use Rattle.sig_graph.specs.Paths.{arc_at, arcs_of}
use Rattle.sig_graph.proofs.ArcNumbers.{arc_of, length-arcs_of}
use Rattle.goal_rows.specs.Cells.{same_feature}
use Rattle.goal_rows.specs.Elections.{Election}
use Rattle.goal_rows.specs.Races.{IsGroundOf, keys_of as goal_keys}
use Rattle.goal_rows.specs.declared.parts.Ground.{Ground}
use Rattle.dual_bound.specs.CellCuts.{features_of}
use Rattle.dual_bound.specs.Sizes.{places_of}
use Rattle.dual_bound.proofs.CellVariables.{arc_there, at_arc, features_are, on_arc, on_class}
use Rattle.dual_bound.proofs.GivenLimits.{same_feature_is, same_feature_on}

-- how often a feature is among some
abbrev pub count : List Feature → Feature → ℕ
count features g = add_up (λ f. cond (same_feature f g) 1 0) features

-- one of two different features
other_feature : (f g : Feature) → (f ≡ g → ⊥) → same_feature f g ≡ false
other_feature f g differ = elim (cases_Bool (same_feature f g)) [ inl on ↦ absurd (differ (same_feature_is f g on)) | inr off ↦ off ]

count_none : (fs : List Feature) (g : Feature) → ((k : ℕ) → k < length fs → get_or fs k g ≡ g → ⊥) → count fs g ≡ 0
count_none [] g never = refl
count_none (f ∷ fs) g never =
    let off = other_feature f g (never 0 (omega arith)) in
    rw off (omega (arith, count_none fs g (λ k lt. never (suc k) (omega (arith, lt)))))

count_one : (fs : List Feature) (g : Feature) → ((i j : ℕ) → i < j → j < length fs → get_or fs i g ≡ get_or fs j g → ⊥) → Contains fs g → count fs g ≡ 1
count_one [] g apart at = absurd (omega (arith, at.1))
count_one (f ∷ fs) g apart (zero, lt, e) =
    let on : same_feature f g ≡ true = subst (λ h. same_feature h g ≡ true) (sym e) (same_feature_on g) in
    let none = count_none fs g (λ k low same. apart 0 (suc k) (omega arith) (omega (arith, low)) (e ∙ sym same)) in
    rw on (omega (arith, none))
count_one (f ∷ fs) g apart (suc k, lt, e) =
    let off = other_feature f g (λ same. apart 0 (suc k) (omega arith) lt (same ∙ sym e)) in
    let rest = count_one fs g (λ i j less low same. apart (suc i) (suc j) (omega (arith, less)) (omega (arith, low)) same) (k, omega (arith, lt), e) in
    rw off (omega (arith, rest))

-- ---- classes

class_at : (cs : List (ℕ × ℕ)) (k : ℕ) (d : Feature) → k < length cs → get_or (map (λ (c : ℕ × ℕ). From c.0) cs) k d ≡ From (get_or (keys_of cs) k 0)
class_at [] k d lt = absurd (omega (arith, lt))
class_at (c ∷ cs) zero d lt = refl
class_at (c ∷ cs) (suc k) d lt = class_at cs k d (omega (arith, lt))

from_key : (a b : ℕ) → From a ≡ From b → a ≡ b
from_key a b e = cc

class_apart : (cs : List (ℕ × ℕ)) (g : Feature) → AllPairs (λ k l. k ≢ l) (keys_of cs)
    → (i j : ℕ) → i < j → j < length (map (λ (c : ℕ × ℕ). From c.0) cs) → get_or (map (λ (c : ℕ × ℕ). From c.0) cs) i g ≡ get_or (map (λ (c : ℕ × ℕ). From c.0) cs) j g → ⊥
class_apart cs g distinct i j less low same =
    let n = length-map cs (λ (c : ℕ × ℕ). From c.0) in
    let m = length-map cs (λ (c : ℕ × ℕ). c.0) in
    let jl : j < length cs = omega (arith, low, n) in
    let e = sym (class_at cs i g (omega (arith, jl, less))) ∙ same ∙ class_at cs j g jl in
    distinct i j 0 less (omega (arith, jl, m)) (from_key (get_or (keys_of cs) i 0) (get_or (keys_of cs) j 0) e)

-- ---- arcs

arc_ends : (u x a b : ℕ) → Arc u x ≡ Arc a b → (u ≡ a) × (x ≡ b)
arc_ends u x a b e = (cc, cc)

arc_apart : (m : ℕ) (g : Feature) (i j : ℕ) → i < j → j < length (map (λ (a : ℕ × ℕ). Arc a.0 a.1) (arcs_of m))
    → get_or (map (λ (a : ℕ × ℕ). Arc a.0 a.1) (arcs_of m)) i g ≡ get_or (map (λ (a : ℕ × ℕ). Arc a.0 a.1) (arcs_of m)) j g → ⊥
arc_apart m g i j less low same =
    let n = length-map (arcs_of m) (λ (a : ℕ × ℕ). Arc a.0 a.1) in
    let t = length-arcs_of m in
    let one = arc_of m i (omega (arith, less, low, n, t)) in
    let two = arc_of m j (omega (arith, low, n, t)) in
    let e = arc_ends one.from one.to two.from two.to (sym (at_arc (λ (a : ℕ × ℕ). Arc a.0 a.1) m i g one) ∙ same ∙ at_arc (λ (a : ℕ × ℕ). Arc a.0 a.1) m j g two) in
    let k : arc_at m one.from one.to ≡ arc_at m two.from two.to = ap (λ u. arc_at m u one.to) e.0 ∙ ap (λ x. arc_at m two.from x) e.1 in
    omega (arith, less, one.is, two.is, k)

-- ---- all variables

no_arcs : (key : ℕ) (arcs : List (ℕ × ℕ)) → count (map (λ (a : ℕ × ℕ). Arc a.0 a.1) arcs) (From key) ≡ 0
no_arcs key [] = refl
no_arcs key (a ∷ arcs) = omega (arith, no_arcs key arcs)

no_classes : (u x : ℕ) (cs : List (ℕ × ℕ)) → count (map (λ (c : ℕ × ℕ). From c.0) cs) (Arc u x) ≡ 0
no_classes u x [] = refl
no_classes u x (c ∷ cs) = omega (arith, no_classes u x cs)

class_there : (key : ℕ) (cs : List (ℕ × ℕ)) → Contains (keys_of cs) key → Contains (map (λ (c : ℕ × ℕ). From c.0) cs) (From key)
class_there key [] at = absurd (omega (arith, at.1))
class_there key (c ∷ cs) (zero, lt, e) = (0, omega arith, ap From e)
class_there key (c ∷ cs) (suc k, lt, e) = let r = class_there key cs (k, omega (arith, lt), e) in (suc r.0, omega (arith, r.1), r.2)

distinct_keys : (e : Election) (start : Ground) → IsGroundOf e start → AllPairs (λ k l. k ≢ l) (keys_of start.classes)
distinct_keys e start values = subst (λ cs. AllPairs (λ k l. k ≢ l) (keys_of cs)) (sym values.classes) (keys_are_classes (goal_keys e start.goal)).distinct

-- a feature that some variable has, one variable has
pub counted_once : (e : Election) (start : Ground) (g : Feature) → IsGroundOf e start → Contains (features_of start) g → count (features_of start) g ≡ 1
counted_once e start (From key) values there =
    let classes = map (λ (c : ℕ × ℕ). From c.0) start.classes in
    let arcs = map (λ (a : ℕ × ℕ). Arc a.0 a.1) (arcs_of (places_of start.goal)) in
    let whole = ap (λ fs. count fs (From key)) (features_are start) in
    let split = add_up-append (λ f. cond (same_feature f (From key)) 1 0) classes arcs in
    let one = count_one classes (From key) (class_apart start.classes (From key) (distinct_keys e start values)) (class_there key start.classes ((on_class start key).0 there)) in
    let none = no_arcs key (arcs_of (places_of start.goal)) in
    omega (arith, whole, split, one, none)
counted_once e start (Arc u x) values there =
    let classes = map (λ (c : ℕ × ℕ). From c.0) start.classes in
    let m = places_of start.goal in
    let arcs = map (λ (a : ℕ × ℕ). Arc a.0 a.1) (arcs_of m) in
    let whole = ap (λ fs. count fs (Arc u x)) (features_are start) in
    let split = add_up-append (λ f. cond (same_feature f (Arc u x)) 1 0) classes arcs in
    let one = count_one arcs (Arc u x) (arc_apart m (Arc u x)) (arc_there m u x ((on_arc start u x).0 there)) in
    let none = no_classes u x start.classes in
    omega (arith, whole, split, one, none)

-- the keys of ballots are features
pub key_there : (e : Election) (start : Ground) → IsGroundOf e start → (k : ℕ) → Contains (goal_keys e start.goal) k → Contains (features_of start) (From k)
key_there e start values k there =
    (on_class start k).1 (subst (λ cs. Contains (keys_of cs) k) (sym values.classes) (((keys_are_classes (goal_keys e start.goal)).keys k).0 there))
