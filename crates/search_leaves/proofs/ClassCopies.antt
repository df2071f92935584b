-- Classes that are copied one after another.
use Rattle.std.proofs.Common.{◌≡◌, ◌≢◌, ℕ, zero, suc, ◌+◌, ◌<◌, ◌≤◌, ◌++◌, ◌∙◌, List, [], ◌∷◌, All, AllPairs, false, get_or, length, map, take, refl, sym, ap, subst, arith}
use Rattle.std.specs.Prelude.{nat_eq, nat_lt}
use Rattle.std.proofs.lemmas.Bool.Decides.{nat_tests}
use Rattle.std.proofs.lemmas.List.{get_or-take, get_or_default, length-map, length-take, take_more}
use Rattle.mov_base.specs.Sums.{add_up}
use Rattle.ballot_form.specs.declared.limits.TheConstants.{MOST_BALLOTS}
use Rattle.signature_class.specs.Classes.{IsClassList, add_class, count_of, keys_of}
use Rattle.goal_rows.specs.Races.{IsSomeGround}
use Rattle.goal_rows.specs.declared.parts.Ground.{Ground}
use Rattle.goal_rows.proofs.GroundSizes.{class_small, classes_small}

-- a key that no class has
abbrev IsNew : ℕ → List (ℕ × ℕ) → Type 0
IsNew key cs = (k : ℕ) → k < length cs → (get_or cs k (0, 0)).0 ≡ key → ⊥

apart : (a b : ℕ) → (b ≡ a → ⊥) → nat_eq a b ≡ false
apart a b other = grind (arith, nat_tests, other)

added_last : (cs : List (ℕ × ℕ)) (key n : ℕ) → IsNew key cs → add_class nat_eq key n cs ≡ cs ++ (key, n) ∷ []
added_last [] key n new = refl
added_last (c ∷ cs) key n new =
    let off = apart key c.0 (new 0 (omega arith)) in
    rw off (ap (λ l. c ∷ l) (added_last cs key n (λ k lt. new (suc k) (omega (arith, lt)))))

none_counted : (cs : List (ℕ × ℕ)) (key : ℕ) → IsNew key cs → count_of nat_eq key cs ≡ 0
none_counted [] key new = refl
none_counted (c ∷ cs) key new =
    let off = apart key c.0 (new 0 (omega arith)) in
    rw off (none_counted cs key (λ k lt. new (suc k) (omega (arith, lt))))

key_at : (cs : List (ℕ × ℕ)) (k : ℕ) → k < length cs → get_or (keys_of cs) k 0 ≡ (get_or cs k (0, 0)).0
key_at [] k lt = absurd (omega (arith, lt))
key_at (c ∷ cs) zero lt = refl
key_at (c ∷ cs) (suc k) lt = key_at cs k (omega (arith, lt))

-- the key of class i is new to those before it
is_new : (cs : List (ℕ × ℕ)) (i : ℕ) → IsClassList cs → i < length cs → IsNew (get_or cs i (0, 0)).0 (take i cs)
is_new cs i is lt k low same =
    let long = length-take i cs in
    let less : k < i = omega (arith, low, long, lt) in
    let there = get_or-take i cs k (0, 0) less in
    let count = length-map cs (λ (c : ℕ × ℕ). c.0) in
    is.distinct k i 0 less (omega (arith, lt, count)) (key_at cs k (omega (arith, less, lt)) ∙ ap (λ (c : ℕ × ℕ). c.0) (sym there) ∙ same ∙ sym (key_at cs i lt))

-- one more is copied
pub record IsOneMore (cs copy : List (ℕ × ℕ)) (i : ℕ) (c : ℕ × ℕ) : Type 0 where
  pub few : count_of nat_eq c.0 copy ≡ 0
  pub added : add_class nat_eq c.0 c.1 copy ≡ take (i + 1) cs

pub one_more : (cs copy : List (ℕ × ℕ)) (i : ℕ) (c : ℕ × ℕ) → IsClassList cs → i < length cs → c ≡ get_or cs i (0, 0) → copy ≡ take i cs → IsOneMore cs copy i c
one_more cs copy i c is lt at same =
    let new : IsNew c.0 (take i cs) = subst (λ (d : ℕ × ℕ). IsNew d.0 (take i cs)) (sym at) (is_new cs i is lt) in
    record {
      few = ap (λ l. count_of nat_eq c.0 l) same ∙ none_counted (take i cs) c.0 new;
      added = ap (λ l. add_class nat_eq c.0 c.1 l) same ∙ added_last (take i cs) c.0 c.1 new ∙ ap (λ d. take i cs ++ d ∷ []) at ∙ sym (take_more cs i (0, 0) lt);
    }

pub counts_small : (start : Ground) → IsSomeGround start → All (λ (c : ℕ × ℕ). c.1 ≤ MOST_BALLOTS) start.classes
counts_small start some = λ k d lt.
    let all = classes_small start some in
    let one = class_small start.classes k in
    let same = ap (λ (c : ℕ × ℕ). c.1) (get_or_default start.classes k d (0, 0) lt) in
    omega (arith, all, one, same)

pub pair_is : (c d : ℕ × ℕ) → c.0 ≡ d.0 → c.1 ≡ d.1 → c ≡ d
pair_is (a, b) (x, y) one two = rw (one, two) refl
