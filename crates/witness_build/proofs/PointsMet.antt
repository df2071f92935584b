-- After the replacements that a whole point stands for the rows of its goal hold: what they bring to the rows is what
-- the classes and arcs count at the point.
use Rattle.std.proofs.Common.{ℕ, zero, suc, List, [], ◌∷◌, ◌++◌, ◌≡◌, ◌<◌, ◌≤◌, ◌+◌, ◌-◌, ◌∙◌, length, get_or, map, replicate, take, ap, sym, refl, arith, All}
use Rattle.std.specs.Prelude.{ℤ, pos, ◌+ℤ◌, ◌-ℤ◌, ◌*ℤ◌, ◌≤ℤ◌, unsigned_abs}
use Rattle.std.specs.List.{zip}
use Rattle.std.proofs.Math.IntN.{negsuc}
use Rattle.std.proofs.Math.Seq.{take-length}
use Rattle.std.proofs.lemmas.Int.{ints}
use Rattle.std.proofs.lemmas.List.{length-map, length-replicate}
use Rattle.std.proofs.lemmas.List.Elements.{All-cons, All-head, All-map, All-nil, All-replicate, All-tail}
use Rattle.mov_base.specs.Sums.{add_up, sum_z}
use Rattle.mov_base.proofs.Signed.{sum_z-add, sum_z-scale, sum_z-zero}
use Rattle.ballot_form.specs.Alterations.{after_from}
use Rattle.ballot_form.specs.Ballots.{IsValidBallot}
use Rattle.signature_class.specs.Signatures.{cover_key, suffix_key}
use Rattle.sig_graph.specs.Flows.{IsFlow}
use Rattle.sig_graph.specs.Paths.{IsPath, arcs_of, ballot_of, path_sum}
use Rattle.sig_graph.specs.Walks.{split_of}
use Rattle.sig_graph.proofs.FlowSums.{flow_sum-split}
use Rattle.sig_graph.proofs.PathBallots.{ballot_is_valid, signature-ballot}
use Rattle.sig_graph.proofs.Splits.{length-split_of, split_is_paths}
use Rattle.goal_rows.specs.Elections.{Election}
use Rattle.goal_rows.specs.Goals.{Holds, gainer_points, loser_points, pair_weight, rows_of}
use Rattle.goal_rows.specs.Programs.{key_weight, program_rows, weighings_of}
use Rattle.goal_rows.specs.Races.{IsGroundIn, key_of}
use Rattle.goal_rows.specs.Suffixes.{cover_rows, others, suffix_rows}
use Rattle.goal_rows.specs.declared.goals.Goal.{Goal}
use Rattle.goal_rows.specs.declared.goals.Goal.TheVariants.{Root, Suffix, Pair, Cover}
use Rattle.goal_rows.specs.declared.parts.Ground.{Ground}
use Rattle.goal_rows.proofs.GroundSizes.{cover_few, goal_rows_count, suffix_few, weighings_count}
use Rattle.goal_rows.proofs.PairPoints.{pair_points}
use Rattle.goal_rows.proofs.Ways.{reached_cover, reached_pair, reached_suffix}
use Rattle.dual_bound.specs.Weighing.{base_by, of_limits, of_rows, over_weight, places_by, row_arcs, rows_bring, times_all}
use Rattle.dual_bound.proofs.Covers.{cover_reached, cover_worth}
use Rattle.dual_bound.proofs.Keyed.{worth}
use Rattle.dual_bound.proofs.Pairwise.{zip_none}
use Rattle.dual_bound.proofs.Sound.{sum_z-after}
use Rattle.dual_bound.proofs.SuffixWeights.{key_places, suffix_worth}
use Rattle.dual_bound.proofs.SuffixWorths.{suffix_arc_worth, suffix_key_worth}
use Rattle.node_bounds.proofs.KeyWorths.{cover_key_worth}
use Rattle.node_bounds.proofs.PointValues.{met_bring}
use Rattle.node_bounds.proofs.RestRows.{IsMetAt}
use Rattle.node_bounds.proofs.RowValues.{AreCounted, AreNumbersOf, arc_worth, arcs_worth, kept_value, key_worth, limit_arc, limit_key}
use Rattle.dual_bound.proofs.SideBySide.{minus_inside, mixed, none_times, one_time, times_same}
use Rattle.witness_build.specs.FromPoints.{IsFlowUnder, new_ballots}
use Rattle.witness_build.proofs.LowNumbers.{low_by}
use Rattle.witness_build.proofs.PointParts.{with_goal}
use Rattle.witness_build.proofs.ReplacedSums.{AreApart, AreEnough, swaps_worth}

-- ---- the new ballots

sum_map : {A B : Type 0} (w : B → ℤ) (f : A → B) (xs : List A) → sum_z w (map f xs) ≡ sum_z (λ x. w (f x)) xs
sum_map w f [] = refl
sum_map w f (x ∷ xs) = ap (λ z. w (f x) +ℤ z) (sum_map w f xs)

sum_alike : {A : Type 0} (P : A → Type 0) (f g : A → ℤ) (xs : List A) → All P xs → ((x : A) → P x → f x ≡ g x) → sum_z f xs ≡ sum_z g xs
sum_alike P f g [] all same = refl
sum_alike P f g (x ∷ xs) all same =
    let here = same x (All-head P x xs all) in
    let rest = sum_alike P f g xs (All-tail P x xs all) same in
    omega (arith, ints, here, rest)

sum_same : {A : Type 0} (f : A → ℤ) (x : A) (n : ℕ) → sum_z f (replicate n x) ≡ pos n *ℤ f x
sum_same f x zero = omega (arith, ints)
sum_same f x (suc n) = let rest = sum_same f x n in omega (arith, ints, rest)

pub new_count : (goal : Goal) (flow : List ℕ) (total : ℕ) → (goal ≡ Root → ⊥) → length (new_ballots goal flow total) ≡ total
new_count Root flow total not_root = absurd (not_root refl)
new_count (Suffix suffix) flow total not_root =
    length-map (split_of (length suffix) flow total) (ballot_of suffix) ∙ length-split_of (length suffix) flow total
new_count (Pair g l) flow total not_root = length-replicate total (g ∷ [])
new_count (Cover x) flow total not_root = length-replicate total (x ∷ [])

one_valid : (c x : ℕ) → x < c → IsValidBallot c (x ∷ [])
one_valid c x below = record {
  below = All-cons (λ y. y < c) x [] below (All-nil (λ y. y < c));
  distinct = λ i j d lt within. absurd (omega (arith, lt, within));
}

new_valid_by : (e : Election) (start : Ground) (goal : Goal) (flow : List ℕ) (total : ℕ) → IsGroundIn e (with_goal start goal)
    → All (IsValidBallot e.poll.c) (new_ballots goal flow total)
new_valid_by e start Root flow total is = All-nil (IsValidBallot e.poll.c)
new_valid_by e start (Suffix suffix) flow total is =
    let valid = (reached_suffix e suffix is.election.roots is.reached).1 in
    let m = length suffix in
    All-map (IsValidBallot e.poll.c) (ballot_of suffix) (split_of m flow total)
    (all_paths (split_of m flow total) (split_is_paths m flow total) (λ path is_path. ballot_is_valid e.poll.c suffix path valid.distinct is_path valid.below))
  where
    all_paths : (paths : List (List ℕ)) → All (IsPath (length suffix)) paths
        → ((path : List ℕ) → IsPath (length suffix) path → IsValidBallot e.poll.c (ballot_of suffix path))
        → All (λ path. IsValidBallot e.poll.c (ballot_of suffix path)) paths
    all_paths paths all each k d lt = each (get_or paths k d) (all k d lt)
new_valid_by e start (Pair g l) flow total is =
    let root = (reached_pair e g l is.election.roots is.reached).1 in
    All-replicate (IsValidBallot e.poll.c) total (g ∷ []) (one_valid e.poll.c g root.1)
new_valid_by e start (Cover x) flow total is =
    let root = reached_cover e x is.election.roots is.reached in
    All-replicate (IsValidBallot e.poll.c) total (x ∷ []) (one_valid e.poll.c x root.1)

pub new_valid : (e : Election) (start : Ground) (flow : List ℕ) (total : ℕ) → IsGroundIn e start → All (IsValidBallot e.poll.c) (new_ballots start.goal flow total)
new_valid e start flow total is = new_valid_by e start start.goal flow total is

-- ---- what old and new ballots are worth

-- with some number more, an old ballot is worth less what its key counts, and the new ones what the arcs do
pub record AreBrought (e : Election) (start : Ground) (ls ys : List ℕ) (total : ℕ) : Type 0 where
  pub extra : ℤ
  pub old : (ballot : List ℕ) → worth ls (rows_of e start.goal) ballot ≡ extra -ℤ key_worth start [] ls (key_of e start.goal ballot)
  pub new : sum_z (worth ls (rows_of e start.goal)) (new_ballots start.goal ys total) ≡ (pos total *ℤ extra) +ℤ arcs_worth start [] ls ys

-- without limits there is nothing behind the rows
no_limit : {X : Type 0} (f : X → ℤ) (ls : List ℕ) → mixed f ls [] ≡ pos 0
no_limit f ls = zip_none (λ v. pos v.0 *ℤ f v.1) ls

times_nothing : (n : ℕ) → pos n *ℤ pos 0 ≡ pos 0
times_nothing n = omega (arith, ints)

suffix_brought : (e : Election) (start : Ground) (suffix ls ys : List ℕ) (total : ℕ) → IsGroundIn e (with_goal start (Suffix suffix))
    → of_rows start ls ≡ ls → IsFlow (length suffix) ys total → AreBrought e (with_goal start (Suffix suffix)) ls ys total
suffix_brought e start suffix ls ys total is all flow =
    let here = with_goal start (Suffix suffix) in
    let m = length suffix in
    let rows = of_rows here ls in
    let distinct = (reached_suffix e suffix is.election.roots is.reached).1.distinct in
    let few = suffix_few here suffix (e, is) refl in
    let paths = split_of m ys total in
    record {
      extra = pos 0;
      old = λ ballot.
          let key = suffix_key suffix ballot in
          let own = suffix_worth suffix ls ballot distinct in
          let counted = suffix_key_worth m key rows few in
          let more = no_limit (limit_key key) (of_limits here ls) in
          let same = ap (λ rows. path_sum m (row_arcs m rows) 0 (places_by m key)) all in
          let places = ap (path_sum m (row_arcs m ls) 0) (key_places suffix ballot few) in
          omega (arith, ints, own, counted, more, same, places);
      new =
          let apart = sum_map (worth ls (suffix_rows suffix)) (ballot_of suffix) paths in
          let each = sum_alike (IsPath m) (λ path. worth ls (suffix_rows suffix) (ballot_of suffix path)) (λ path. path_sum m (row_arcs m ls) 0 path)
          paths (split_is_paths m ys total) (λ path is_path. suffix_worth suffix ls (ballot_of suffix path) distinct
          ∙ ap (path_sum m (row_arcs m ls) 0) (signature-ballot suffix path distinct is_path)) in
          let split = flow_sum-split m ys total (row_arcs m ls) flow in
          let arcs = times_same (arc_worth here [] ls) (rows_bring m ls) ys (arcs_of m) (λ a.
          let made = suffix_arc_worth m a rows in
          let more = no_limit (limit_arc a) (of_limits here ls) in
          let same = ap (λ rows. rows_bring m rows a) all in
          omega (arith, ints, made, more, same)) in
          let none = times_nothing total in
          omega (arith, ints, apart, each, split, arcs, none);
    }

one_row : {W : Type 0} (f : W → ℤ) (rows : List ℕ) (w : W) → length rows ≡ 1 → mixed f rows (w ∷ []) ≡ pos (get_or rows 0 0) *ℤ f w
one_row f [] w one = absurd (omega (arith, one))
one_row f (k ∷ []) w one = omega (arith, ints)
one_row f (k ∷ j ∷ rows) w one = absurd (omega (arith, one))

one_value : (rows : List ℕ) (v : ℤ) → length rows ≡ 1 → times_all rows (v ∷ []) ≡ pos (get_or rows 0 0) *ℤ v
one_value [] v one = absurd (omega (arith, one))
one_value (k ∷ []) v one = omega (arith, ints)
one_value (k ∷ j ∷ rows) v one = absurd (omega (arith, one))

pair_key : (p m top : ℕ) → m ≤ 1024 → p ≤ top → pos p -ℤ pos m ≡ pos top -ℤ pos ((top + 1024) - ((p + 1024) - m))
pair_key p m top low high = omega (arith, ints, low, high)

pair_level : (lone : ℤ) (top : ℕ) → lone ≡ pos top → unsigned_abs (lone +ℤ pos 1024) ≡ top + 1024
pair_level lone top is = ap (λ z. unsigned_abs (z +ℤ pos 1024)) is

pair_brought : (e : Election) (start : Ground) (g l : ℕ) (ls ys : List ℕ) (total : ℕ) → IsGroundIn e (with_goal start (Pair g l))
    → of_rows start ls ≡ ls → length ls ≡ 1 → AreBrought e (with_goal start (Pair g l)) ls ys total
pair_brought e start g l ls ys total is all one =
    let here = with_goal start (Pair g l) in
    let points = pair_points e g l is.election (reached_pair e g l is.election.roots is.reached).1 in
    let top = gainer_points e g l (g ∷ []) in
    let first = get_or ls 0 0 in
    let none = points.none in
    let alone : pair_weight e g l (g ∷ []) ≡ pos top = omega (arith, ints, none) in
    let level = pair_level start.lone top (is.values.lone ∙ alone) in
    record {
      extra = pos first *ℤ pos top;
      old = λ ballot.
          let p = gainer_points e g l ballot in
          let m = loser_points e g l ballot in
          let key = (p + 1024) - m in
          let row : mixed (λ w. key_weight w key) ls (weighings_of here) ≡ pos first *ℤ pos (unsigned_abs (start.lone +ℤ pos 1024) - key) =
          one_row (λ w. key_weight w key) ls _ one in
          let counted = ap (λ rows. mixed (λ w. key_weight w key) rows (weighings_of here)) all ∙ row ∙ ap (λ best. pos first *ℤ pos (best - key)) level in
          let more = no_limit (limit_key key) (of_limits here ls) in
          let own = one_value ls (pair_weight e g l ballot) one in
          let weight = ap (λ z. pos first *ℤ z) (pair_key p m top (points.low ballot) (points.high ballot)) in
          let apart = minus_inside first (pos top) (pos ((top + 1024) - key)) in
          omega (arith, ints, counted, more, own, weight, apart);
      new =
          let same = sum_same (worth ls (pair_weight e g l ∷ [])) (g ∷ []) total in
          let each = ap (λ z. pos total *ℤ z) (one_value ls (pair_weight e g l (g ∷ [])) one ∙ ap (λ z. pos first *ℤ z) alone) in
          let no_arcs = zip_none (λ v. pos v.0 *ℤ v.1) ys in
          omega (arith, ints, same, each, no_arcs);
    }

cover_brought : (e : Election) (start : Ground) (x : ℕ) (ls ys : List ℕ) (total : ℕ) → IsGroundIn e (with_goal start (Cover x))
    → of_rows start ls ≡ ls → length ls ≡ length start.sums → AreBrought e (with_goal start (Cover x)) ls ys total
cover_brought e start x ls ys total is all long =
    let here = with_goal start (Cover x) in
    let c = e.poll.c in
    let few = cover_few here x (e, is) refl in
    let most : c ≤ 40 = omega (arith, few.2) in
    let rows = of_rows here ls in
    let js = others (length start.sums + 1) x in
    let others_are : js ≡ others c x = ap (λ n. others n x) few.0 in
    let js_long : length js ≡ length start.sums = sym (length-map js _) ∙ weighings_count here (e, is) in
    let all_long : length ls ≡ length (others c x) = long ∙ sym js_long ∙ ap length others_are in
    record {
      extra = pos (add_up (λ l. l) ls);
      old = λ ballot.
          let key = cover_key x ballot in
          let own = cover_worth c x ls ballot few.1 most in
          let made : mixed (λ w. key_weight w key) rows (weighings_of here) ≡ pos (add_up (λ l. l) rows) -ℤ times_all rows (map (over_weight x key) js) =
          cover_key_worth _ (λ w. key_weight w key) x key rows js (λ j. refl) (ap length all ∙ long ∙ sym js_long) in
          let more = no_limit (limit_key key) (of_limits here ls) in
          let sum = ap (λ ls. pos (add_up (λ l. l) ls)) all in
          let weights = ap (λ ls. times_all ls (map (over_weight x key) js)) all ∙ ap (λ js. times_all ls (map (over_weight x key) js)) others_are in
          omega (arith, ints, own, made, more, sum, weights);
      new =
          let same = sum_same (worth ls (cover_rows c x)) (x ∷ []) total in
          let each = ap (λ z. pos total *ℤ z) (cover_reached c x ls most all_long) in
          let no_arcs = zip_none (λ v. pos v.0 *ℤ v.1) ys in
          omega (arith, ints, same, each, no_arcs);
    }

brought_by : (e : Election) (start : Ground) (goal : Goal) (ls ys : List ℕ) (total : ℕ) → IsGroundIn e (with_goal start goal) → (goal ≡ Root → ⊥)
    → length ls ≡ length start.sums → of_rows start ls ≡ ls → IsFlowUnder goal ys total → AreBrought e (with_goal start goal) ls ys total
brought_by e start Root ls ys total is not_root long all flow = absurd (not_root refl)
brought_by e start (Suffix suffix) ls ys total is not_root long all flow = suffix_brought e start suffix ls ys total is all flow
brought_by e start (Pair g l) ls ys total is not_root long all flow = pair_brought e start g l ls ys total is all (long ∙ ap length is.values.sums)
brought_by e start (Cover x) ls ys total is not_root long all flow = cover_brought e start x ls ys total is all long

all_kept : (start : Ground) (ls : List ℕ) → length ls ≡ length start.sums → of_rows start ls ≡ ls
all_kept start ls long = ap (λ n. take n ls) (sym long) ∙ take-length ls

pub brought_of : (e : Election) (start : Ground) (ls ys : List ℕ) (total : ℕ) → IsGroundIn e start → (start.goal ≡ Root → ⊥)
    → length ls ≡ length start.sums → IsFlowUnder start.goal ys total → AreBrought e start ls ys total
brought_of e start ls ys total is not_root long flow = brought_by e start start.goal ls ys total is not_root long (all_kept start ls long) flow

-- ---- all rows at once

-- rows with multipliers, over ballots
worth_sum : (ls : List ℕ) (weights : List (List ℕ → ℤ)) (ballots : List (List ℕ)) → sum_z (worth ls weights) ballots ≡ times_all ls (map (λ weight. sum_z weight ballots) weights)
worth_sum [] weights ballots = sum_z-zero ballots
worth_sum (l ∷ ls) [] ballots = sum_z-zero ballots
worth_sum (l ∷ ls) (weight ∷ weights) ballots =
    let rest = worth_sum ls weights ballots in
    let both = sum_z-add (λ ballot. pos l *ℤ weight ballot) (worth ls weights) ballots in
    let first = sum_z-scale l weight ballots in
    omega (arith, ints, rest, both, first)

-- the same from a number more
times_less : (f : ℕ × ℕ → ℤ) (extra : ℤ) (xs : List ℕ) (cs : List (ℕ × ℕ)) → length xs ≡ length cs
    → times_all xs (map (λ c. extra -ℤ f c) cs) ≡ (pos (add_up (λ x. x) xs) *ℤ extra) -ℤ times_all xs (map f cs)
times_less f extra [] [] long = omega (arith, ints, none_times extra)
times_less f extra [] (c ∷ cs) long = absurd (omega (arith, long))
times_less f extra (x ∷ xs) [] long = absurd (omega (arith, long))
times_less f extra (x ∷ xs) (c ∷ cs) long =
    let rest = times_less f extra xs cs (omega (arith, long)) in
    let here = minus_inside x extra (f c) in
    let sum = times_sum x (add_up (λ x. x) xs) extra in
    omega (arith, ints, rest, here, sum)
  where
    times_sum : (x n : ℕ) (z : ℤ) → pos (x + n) *ℤ z ≡ (pos x *ℤ z) +ℤ (pos n *ℤ z)
    times_sum x n (pos k) = omega (arith, ints)
    times_sum x n (negsuc k) = omega (arith, ints)

-- values that are at least 0 with any multipliers are so by themselves
each_at_least : (vs : List ℤ) → ((ls : List ℕ) → length ls ≡ length vs → pos 0 ≤ℤ times_all ls vs) → All (λ v. pos 0 ≤ℤ v) vs
each_at_least [] with_any = All-nil (λ v. pos 0 ≤ℤ v)
each_at_least (v ∷ vs) with_any =
    let nothing = zeros_bring vs in
    let first = with_any (1 ∷ replicate (length vs) 0) (ap suc (length-replicate (length vs) 0)) in
    let once = one_time v in
    All-cons (λ v. pos 0 ≤ℤ v) v vs (omega (arith, ints, nothing, first, once))
    (each_at_least vs (λ ls long. let rest = with_any (0 ∷ ls) (ap suc long) in let none = none_times v in omega (arith, ints, rest, none)))
  where
    zeros_bring : (vs : List ℤ) → times_all (replicate (length vs) 0) vs ≡ pos 0
    zeros_bring [] = refl
    zeros_bring (v ∷ vs) = let rest = zeros_bring vs in let none = none_times v in omega (arith, ints, rest, none)

-- ---- the goal's rows at the point

counted_of : (e : Election) (start : Ground) (ls : List ℕ) → IsGroundIn e start → length ls ≡ length start.sums → AreCounted start [] ls
counted_of e start ls is long = record {
  rows = goal_rows_count start (e, is);
  weighings = weighings_count start (e, is);
  multipliers = omega (arith, long);
}

-- with multipliers they are at least 0
point_value : (e : Election) (start : Ground) (ls xs ys : List ℕ) → IsGroundIn e start → length ls ≡ length start.sums → AreNumbersOf start xs ys
    → All (IsMetAt (xs ++ ys) 1) (program_rows start [])
    → pos 0 ≤ℤ (times_all ls start.sums +ℤ (times_all xs (map (λ c. key_worth start [] ls c.0) start.classes) +ℤ arcs_worth start [] ls ys))
point_value e start ls xs ys is long are met =
    let value = kept_value start [] ls xs ys 1 (counted_of e start ls is long) are in
    let some = met_bring ls (program_rows start []) (xs ++ ys) 1 met in
    let once = one_time (base_by start [] ls) in
    let rows = ap (λ ls. times_all ls start.sums) (all_kept start ls long) in
    let none = zip_none (λ v. pos v.0 *ℤ v.1) (of_limits start ls) in
    omega (arith, ints, value, some, once, rows, none)

-- ---- after the replacements

-- the ballots after so many of each class are replaced, in ascending order, by the new ones
abbrev pub after_low : Election → Ground → List ℕ → List (List ℕ) → List (List ℕ)
after_low e start xs news =
    after_from 1 e.poll.ballots (zip (low_by start.classes xs 1 (map (key_of e start.goal) e.poll.ballots)) news)

worth_after : (e : Election) (start : Ground) (ls xs ys : List ℕ) (news : List (List ℕ)) (brought : AreBrought e start ls ys (add_up (λ x. x) xs))
    → news ≡ new_ballots start.goal ys (add_up (λ x. x) xs) → length xs ≡ length start.classes → AreApart start.classes
    → AreEnough start.classes xs (map (key_of e start.goal) e.poll.ballots) → length news ≡ length (low_by start.classes xs 1 (map (key_of e start.goal) e.poll.ballots))
    → sum_z (worth ls (rows_of e start.goal)) (after_low e start xs news)
    ≡ sum_z (worth ls (rows_of e start.goal)) e.poll.ballots
    +ℤ (times_all xs (map (λ c. key_worth start [] ls c.0) start.classes) +ℤ arcs_worth start [] ls ys)
worth_after e start ls xs ys news brought news_are long apart enough count =
    let w = worth ls (rows_of e start.goal) in
    let key = key_of e start.goal in
    let numbers = low_by start.classes xs 1 (map key e.poll.ballots) in
    let after = sum_z-after w 1 e.poll.ballots (zip numbers news) in
    let swapped = swaps_worth key w (λ k. brought.extra -ℤ key_worth start [] ls k) start.classes xs 1 e.poll.ballots news brought.old apart enough count in
    let new = ap (sum_z w) news_are ∙ brought.new in
    let old = times_less (λ c. key_worth start [] ls c.0) brought.extra xs start.classes long in
    omega (arith, ints, after, swapped, new, old)

-- the rows of the goal hold after the replacements of a point
pub rows_hold_after : (e : Election) (start : Ground) (xs ys : List ℕ) (news : List (List ℕ)) → IsGroundIn e start → (start.goal ≡ Root → ⊥)
    → AreNumbersOf start xs ys → All (IsMetAt (xs ++ ys) 1) (program_rows start []) → IsFlowUnder start.goal ys (add_up (λ x. x) xs)
    → news ≡ new_ballots start.goal ys (add_up (λ x. x) xs) → AreApart start.classes
    → AreEnough start.classes xs (map (key_of e start.goal) e.poll.ballots) → length news ≡ length (low_by start.classes xs 1 (map (key_of e start.goal) e.poll.ballots))
    → Holds e start.goal (after_low e start xs news)
rows_hold_after e start xs ys news is not_root are met flow news_are apart enough count =
    let rows = rows_of e start.goal in
    let value_of : List (List ℕ) → (List ℕ → ℤ) → ℤ = λ ballots weight. sum_z weight ballots in
    let after = after_low e start xs news in
    let values = map (value_of after) rows in
    from_values rows after (each_at_least values (λ ls one_each.
    let sums_count : length start.sums ≡ length rows = ap length is.values.sums ∙ length-map rows (value_of e.poll.ballots) in
    let long : length ls ≡ length start.sums = one_each ∙ length-map rows (value_of after) ∙ sym sums_count in
    let brought = brought_of e start ls ys (add_up (λ x. x) xs) is not_root long flow in
    let moved = worth_after e start ls xs ys news brought news_are are.of_classes apart enough count in
    let some = point_value e start ls xs ys is long are met in
    let now = worth_sum ls rows after in
    let before = worth_sum ls rows e.poll.ballots ∙ ap (times_all ls) (sym is.values.sums) in
    omega (arith, ints, moved, some, now, before)))
  where
    from_values : (rows : List (List ℕ → ℤ)) (ballots : List (List ℕ)) → All (λ v. pos 0 ≤ℤ v) (map (λ weight. sum_z weight ballots) rows)
        → All (λ weight. pos 0 ≤ℤ sum_z weight ballots) rows
    from_values [] ballots all = All-nil (λ weight. pos 0 ≤ℤ sum_z weight ballots)
    from_values (weight ∷ rows) ballots all =
        All-cons (λ weight. pos 0 ≤ℤ sum_z weight ballots) weight rows
        (All-head (λ v. pos 0 ≤ℤ v) (sum_z weight ballots) (map (λ weight. sum_z weight ballots) rows) all)
        (from_values rows ballots (All-tail (λ v. pos 0 ≤ℤ v) (sum_z weight ballots) (map (λ weight. sum_z weight ballots) rows) all))
