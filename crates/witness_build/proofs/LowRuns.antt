-- The numbers of the ballots that a point replaces, run by run.
use Rattle.std.proofs.Common.{ℕ, zero, suc, List, [], ◌∷◌, ◌++◌, ◌≡◌, ◌≤◌, ◌+◌, ◌-◌, ◌∙◌, length, get_or, map, min, replicate, ap, sym, refl, subst, arith, append_assoc, append-nil, All}
use Rattle.std.specs.Prelude.{Contains}
use Rattle.std.specs.List.{range_with_len}
use Rattle.std.proofs.Math.ListN.{set}
use Rattle.std.proofs.lemmas.List.{length-set}
use Rattle.std.proofs.lemmas.List.Elements.{All-cons, All-contains_itself, All-head, All-nil, All-tail, All-weaker}
use Rattle.ballot_form.specs.Runs.{IsFirstRun, Left}
use Rattle.ballot_form.specs.declared.runs.Run.{Run}
use Rattle.signature_class.specs.Classes.{keys_of}
use Rattle.signature_class.proofs.Counts.{keys_are_classes, map_equal}
use Rattle.goal_rows.specs.Elections.{Election}
use Rattle.goal_rows.specs.Races.{IsGroundIn, key_of, keys_of as ballot_keys}
use Rattle.goal_rows.specs.declared.goals.Goal.{Goal}
use Rattle.goal_rows.specs.declared.goals.Goal.TheVariants.{Root, Suffix, Pair, Cover}
use Rattle.goal_rows.specs.declared.parts.Ground.{Ground}
use Rattle.goal_rows.proofs.SuffixRows.{all_back}
use Rattle.witness_build.specs.FromPoints.{number_for, replaced_numbers}
use Rattle.witness_build.proofs.LowNumbers.{IsFirstAt, low_by, low_is, low_run, number_at, taken_at}

pub keys_are : (e : Election) (goal : Goal) → (goal ≡ Root → ⊥) → ballot_keys e goal ≡ map (key_of e goal) e.poll.ballots
keys_are e Root not_root = absurd (not_root refl)
keys_are e (Suffix suffix) not_root = refl
keys_are e (Pair g l) not_root = refl
keys_are e (Cover x) not_root = refl

-- ---- every ballot has a class

abbrev pub HaveClasses : Election → Ground → List (List ℕ) → Type 0
HaveClasses e start ballots = All (λ ballot. Contains (keys_of start.classes) (key_of e start.goal ballot)) ballots

unmapped : {A B : Type 0} (P : B → Type 0) (f : A → B) (xs : List A) → All P (map f xs) → All (λ x. P (f x)) xs
unmapped P f [] all = All-nil (λ x. P (f x))
unmapped P f (x ∷ xs) all =
    All-cons (λ x. P (f x)) x xs (All-head P (f x) (map f xs) all) (unmapped P f xs (All-tail P (f x) (map f xs) all))

pub all_have : (e : Election) (start : Ground) → IsGroundIn e start → (start.goal ≡ Root → ⊥) → HaveClasses e start e.poll.ballots
all_have e start is not_root =
    let keys = map (key_of e start.goal) e.poll.ballots in
    let are = keys_are_classes (ballot_keys e start.goal) in
    let each : All (Contains (keys_of start.classes)) (ballot_keys e start.goal) =
    All-weaker (Contains (ballot_keys e start.goal)) (Contains (keys_of start.classes))
    (λ key there. subst (λ cs. Contains (keys_of cs) key) (sym is.values.classes) ((are.keys key).0 there))
    (ballot_keys e start.goal) (All-contains_itself (ballot_keys e start.goal)) in
    unmapped (Contains (keys_of start.classes)) (key_of e start.goal) e.poll.ballots
    (subst (All (Contains (keys_of start.classes))) (keys_are e start.goal not_root) each)

all_first : {X : Type 0} (P : X → Type 0) (n : ℕ) (x : X) (xs : List X) → 1 ≤ n → All P (replicate n x ++ xs) → P x
all_first P zero x xs some all = absurd (omega (arith, some))
all_first P (suc n) x xs some all = All-head P x (replicate n x ++ xs) all

pub run_has : (e : Election) (start : Ground) (old : Left) (run : Run) (new : Left) → IsFirstRun old run new → HaveClasses e start old.ballots
    → Contains (keys_of start.classes) (key_of e start.goal run.row.now)
run_has e start old run new is have =
    all_first (λ ballot. Contains (keys_of start.classes) (key_of e start.goal ballot)) run.count run.row.now new.ballots is.some
    (subst (HaveClasses e start) is.joined have)

-- ---- the numbers so far

-- those so far and those of the ballots that are left are all
pub record IsLowSoFar (e : Election) (start : Ground) (whole numbers left : List ℕ) (rest : Left) : Type 0 where
  pub picked : numbers ++ low_by start.classes left rest.first (map (key_of e start.goal) rest.ballots) ≡ replaced_numbers e start whole
  pub long : length left ≡ length whole
  pub have : HaveClasses e start rest.ballots

pub none_so_far : (e : Election) (start : Ground) (whole numbers left : List ℕ) (rest : Left) → IsGroundIn e start → (start.goal ≡ Root → ⊥)
    → numbers ≡ [] → left ≡ whole → rest.first ≡ 1 → rest.ballots ≡ e.poll.ballots → IsLowSoFar e start whole numbers left rest
none_so_far e start whole numbers left rest is not_root none same first all =
    let keys = map (key_of e start.goal) in
    record {
      picked =
          ap (λ ns. ns ++ low_by start.classes left rest.first (keys rest.ballots)) none
          ∙ ap (λ xs. low_by start.classes xs rest.first (keys rest.ballots)) same
          ∙ ap (λ i. low_by start.classes whole i (keys rest.ballots)) first
          ∙ ap (λ bs. low_by start.classes whole 1 (keys bs)) all
          ∙ ap (low_by start.classes whole 1) (sym (keys_are e start.goal not_root))
          ∙ low_is start.classes (number_for start.classes whole) whole (ballot_keys e start.goal) (λ key. refl);
      long = ap length same;
      have = subst (HaveClasses e start) (sym all) (all_have e start is not_root);
    }

pub run_more : (e : Election) (start : Ground) (whole numbers more left : List ℕ) (p v m key : ℕ) (old : Left) (run : Run) (new : Left) → IsFirstRun old run new
    → key ≡ key_of e start.goal run.row.now → IsFirstAt start.classes p key → v ≡ get_or left p 0 → m ≡ min v run.count
    → more ≡ numbers ++ range_with_len run.first m
    → IsLowSoFar e start whole numbers left old → IsLowSoFar e start whole more (set left p (v - m)) new
run_more e start whole numbers more left p v m key old run new is key_is at value fewer added so_far =
    let cs = start.classes in
    let keys = map (key_of e start.goal) in
    let later = set left p (v - m) in
    let wanted = number_at cs left p key at in
    let begins : keys old.ballots ≡ replicate run.count key ++ keys new.ballots =
    ap keys is.joined ∙ map_equal (key_of e start.goal) run.count run.row.now new.ballots ∙ ap (λ k. replicate run.count k ++ keys new.ballots) (sym key_is) in
    let behind : run.first + run.count ≡ new.first = ap (λ i. i + run.count) is.numbered ∙ sym is.after in
    let step : low_by cs left old.first (keys old.ballots) ≡ range_with_len run.first m ++ low_by cs later new.first (keys new.ballots) =
    ap (λ i. low_by cs left i (keys old.ballots)) (sym is.numbered)
    ∙ ap (low_by cs left run.first) begins
    ∙ low_run cs left (keys new.ballots) run.first run.count m key (omega (arith, fewer)) (omega (arith, fewer, value, wanted)) (λ lt. omega (arith, fewer, value, wanted, lt))
    ∙ ap (λ xs. range_with_len run.first m ++ low_by cs xs (run.first + run.count) (keys new.ballots)) (taken_at cs left p key m at ∙ ap (λ n. set left p (n - m)) (sym value))
    ∙ ap (λ i. range_with_len run.first m ++ low_by cs later i (keys new.ballots)) behind in
    record {
      picked =
          ap (λ ns. ns ++ low_by cs later new.first (keys new.ballots)) added
          ∙ append_assoc numbers (range_with_len run.first m) (low_by cs later new.first (keys new.ballots))
          ∙ ap (λ ns. numbers ++ ns) (sym step) ∙ so_far.picked;
      long = length-set left p (v - m) ∙ so_far.long;
      have = all_back (λ ballot. Contains (keys_of cs) (key_of e start.goal ballot)) (replicate run.count run.row.now) new.ballots
          (subst (HaveClasses e start) is.joined so_far.have);
    }

pub all_so_far : (e : Election) (start : Ground) (whole numbers left : List ℕ) (rest : Left) → rest.ballots ≡ []
    → IsLowSoFar e start whole numbers left rest → numbers ≡ replaced_numbers e start whole
all_so_far e start whole numbers left rest none so_far =
    sym (append-nil numbers)
    ∙ ap (λ bs. numbers ++ low_by start.classes left rest.first (map (key_of e start.goal) bs)) (sym none)
    ∙ so_far.picked
