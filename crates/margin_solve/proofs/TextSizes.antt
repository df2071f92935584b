-- The text of a certificate of `margin` isn't longer than a certificate that is read.
use Rattle.std.proofs.Common.{ℕ, List, [], ◌∷◌, ◌++◌, Some, None, Option, ◌≡◌, ◌≤◌, ◌+◌, ◌*◌, length, length-append, map, All, sym, ap, subst, refl, arith}
use Rattle.std.specs.Prelude.{codes, decimal}
use Rattle.std.specs.List.{flat_map}
use Rattle.std.proofs.lemmas.Fmt.{length-decimal-le_wide}
use Rattle.std.proofs.lemmas.List.{length-map}
use Rattle.std.proofs.lemmas.List.Concat.{length-flat_map}
use Rattle.std.proofs.lemmas.List.Elements.{All-cons, All-head, All-tail}
use Rattle.std.proofs.lemmas.List.Sums.{sum_by-le}
use Rattle.std.proofs.Math.Nat.{mul-le-mul_right}
use Rattle.alteration_model.specs.Faults.{pairs_of}
use Rattle.alteration_model.specs.declared.puts.Put.{Put}
use Rattle.ballot_form.specs.Alterations.{IsAlterationFrom}
use Rattle.ballot_form.specs.declared.limits.TheConstants.{MOST_BALLOTS, MOST_CANDIDATES}
use Rattle.ballot_form.specs.declared.outcome.Outcome.{Outcome}
use Rattle.ballot_form.specs.declared.outcome.Outcome.TheVariants.{Winner, NoWinner, Seats}
use Rattle.ballot_form.specs.declared.rule.Rule.{Rule}
use Rattle.ballot_form.specs.declared.rule.Rule.TheVariants.{Plurality, Borda, Condorcet, Dhondt, Irv}
use Rattle.ballot_form.specs.Rules.{IsRule}
use Rattle.ballot_form.proofs.Lengths.{length_valid}
use Rattle.bound_tree.specs.Lines.{Line, SplitInto, BranchBy, CutWith, lines_of}
use Rattle.bound_tree.specs.Nodes.{size}
use Rattle.bound_tree.specs.Plain.{Plain}
use Rattle.bound_tree.proofs.LineLaws.{length_lines}
use Rattle.row_program.specs.declared.Feature.TheVariants.{From, Arc}
use Rattle.cert_text.specs.CertText.{BodyFits, ClaimFits, GoalFits, IsPrintable, LineFits, OutcomeFits, PutFits, TurnFits, cert_text, claim_words, goal_text, goal_words, outcome_words, put_words, puts_text, rule_words, size_words, tree_text, tree_words}
use Rattle.cert_text.specs.declared.cert.Cert.{Cert}
use Rattle.cert_text.specs.declared.cert.Claim.{Claim}
use Rattle.cert_text.specs.declared.cert.Claim.TheVariants.{Margin, Fixed, Bounds}
use Rattle.cert_text.specs.declared.cert.GoalText.{GoalText}
use Rattle.cert_text.specs.declared.cert.GoalText.TheVariants.{Cover, Order, Pair}
use Rattle.cert_text.specs.declared.cert.Stop.TheVariants.{Budget, Depth}
use Rattle.cert_text.specs.declared.limits.TheConstants.{LONGEST_TEXT, MOST_BUDGET}
use Rattle.text_lines.specs.Words.{line_of, line_text}

-- ---- lines

-- words of at most so many bytes
abbrev AreShort : ℕ → List (List ℕ) → Type 0
AreShort w words = All (λ word. length word ≤ w) words

joined : (w : ℕ) (words : List (List ℕ)) → AreShort w words → length (line_text words) ≤ length words * (w + 1) + 1
joined w [] short = omega arith
joined w (word ∷ []) short =
    let first = All-head (λ x. length x ≤ w) word [] short in
    omega (arith, first, length-append word (10 ∷ []))
joined w (word ∷ other ∷ words) short =
    let first = All-head (λ x. length x ≤ w) word (other ∷ words) short in
    let rest = joined w (other ∷ words) (All-tail (λ x. length x ≤ w) word (other ∷ words) short) in
    let whole = length-append (line_of (word ∷ other ∷ words)) (10 ∷ []) in
    let tail = length-append (line_of (other ∷ words)) (10 ∷ []) in
    let split = length-append word (32 ∷ line_of (other ∷ words)) in
    omega (arith, first, rest, whole, tail, split)

-- a line of at most so many words
line_short : (w n : ℕ) (words : List (List ℕ)) → AreShort w words → length words ≤ n → length (line_text words) ≤ n * (w + 1) + 1
line_short w n words short few =
    let is = joined w words short in
    let more = mul-le-mul_right (w + 1) few in
    omega (arith, is, more)

no_words : (w : ℕ) → AreShort w []
no_words w k d lt = absurd (omega arith)

more_words : (w : ℕ) (word : List ℕ) (words : List (List ℕ)) → length word ≤ w → AreShort w words → AreShort w (word ∷ words)
more_words w word words first rest = All-cons (λ x. length x ≤ w) word words first rest

numbers_short : (w top : ℕ) (xs : List ℕ) → ((n : ℕ) → n ≤ top → length (decimal n) ≤ w) → All (λ n. n ≤ top) xs → AreShort w (map decimal xs)
numbers_short w top [] so all = no_words w
numbers_short w top (x ∷ xs) so all =
    more_words w (decimal x) (map decimal xs) (so x (All-head (λ n. n ≤ top) x xs all)) (numbers_short w top xs so (All-tail (λ n. n ≤ top) x xs all))

-- ---- numbers

digits_of_19 : (n : ℕ) → n ≤ 9223372036854775807 → length (decimal n) ≤ 19
digits_of_19 n few = length-decimal-le_wide 19 n (omega arith) (omega (arith, few)) (omega (arith, few))

digits_of_7 : (n : ℕ) → n ≤ 1000000 → length (decimal n) ≤ 7
digits_of_7 n few = length-decimal-le_wide 7 n (omega arith) (omega (arith, few)) (omega (arith, few))

digits_of_3 : (n : ℕ) → n ≤ 500 → length (decimal n) ≤ 3
digits_of_3 n few = length-decimal-le_wide 3 n (omega arith) (omega (arith, few)) (omega (arith, few))

-- ---- the tree

tree_line : (line : Line) → LineFits line → length (line_text (tree_words line)) ≤ 20721
tree_line (SplitInto kids) fits =
    let short = more_words 19 (codes "split") (decimal kids ∷ []) (omega arith) (more_words 19 (decimal kids) [] (digits_of_19 kids (omega (arith, fits))) (no_words 19)) in
    let is = line_short 19 2 (codes "split" ∷ decimal kids ∷ []) short (omega arith) in
    omega (arith, is)
tree_line (BranchBy (From key) value) fits =
    let short = more_words 19 (codes "branch") (codes "from" ∷ decimal key ∷ decimal value ∷ []) (omega arith)
    (more_words 19 (codes "from") (decimal key ∷ decimal value ∷ []) (omega arith)
    (more_words 19 (decimal key) (decimal value ∷ []) (digits_of_19 key (omega (arith, fits.0))) (more_words 19 (decimal value) [] (digits_of_19 value (omega (arith, fits.1))) (no_words 19)))) in
    let is = line_short 19 4 (codes "branch" ∷ codes "from" ∷ decimal key ∷ decimal value ∷ []) short (omega arith) in
    omega (arith, is)
tree_line (BranchBy (Arc u x) value) fits =
    let short = more_words 19 (codes "branch") (codes "arc" ∷ decimal u ∷ decimal x ∷ decimal value ∷ []) (omega arith)
    (more_words 19 (codes "arc") (decimal u ∷ decimal x ∷ decimal value ∷ []) (omega arith)
    (more_words 19 (decimal u) (decimal x ∷ decimal value ∷ []) (digits_of_19 u (omega (arith, fits.0)))
    (more_words 19 (decimal x) (decimal value ∷ []) (digits_of_19 x (omega (arith, fits.2))) (more_words 19 (decimal value) [] (digits_of_19 value (omega (arith, fits.3))) (no_words 19))))) in
    let is = line_short 19 5 (codes "branch" ∷ codes "arc" ∷ decimal u ∷ decimal x ∷ decimal value ∷ []) short (omega arith) in
    omega (arith, is)
tree_line (CutWith numbers) fits =
    let short = more_words 19 (codes "cut") (map decimal numbers) (omega arith) (numbers_short 19 9223372036854775807 numbers digits_of_19 (λ k d lt. (let most = fits.1 k d lt in omega (arith, most)))) in
    let many = length-map numbers decimal in
    let is = line_short 19 1036 (codes "cut" ∷ map decimal numbers) short (omega (arith, many, fits.0)) in
    omega (arith, is)

-- so many lines of at most so many bytes
lines_short : {X : Type 0} (f : X → List ℕ) (m : ℕ) (xs : List X) → All (λ x. length (f x) ≤ m) xs → length (flat_map f xs) ≤ length xs * m
lines_short f m xs all = let sum = sum_by-le (λ x. length (f x)) m xs all in omega (arith, length-flat_map f xs, sum)

tree_short : (tree : Plain) → All LineFits (lines_of tree) → size tree ≤ MOST_BUDGET → length (tree_text tree) ≤ 828840000
tree_short tree fits few =
    let is = lines_short (λ line. line_text (tree_words line)) 20721 (lines_of tree) (λ k d lt. tree_line _ (fits k d lt)) in
    let more = mul-le-mul_right 20721 few in
    let many = length_lines tree in
    let same = ap (λ n. n * 20721) many in
    omega (arith, is, more, same)

-- ---- the replacements

-- a put of few candidates
record IsShortPut (put : Put) : Type 0 where
  pub fits : PutFits put
  pub few : length put.ballot ≤ 12

put_line : (put : Put) → IsShortPut put → length (line_text (put_words put)) ≤ 113
put_line put is =
    let short = more_words 7 (codes "put") (decimal put.number ∷ map decimal put.ballot) (omega arith)
    (more_words 7 (decimal put.number) (map decimal put.ballot) (digits_of_7 put.number (omega (arith, is.fits.0)))
    (numbers_short 7 255 put.ballot (λ n most. digits_of_7 n (omega (arith, most))) (λ k d lt. (let most = is.fits.1 k d lt in omega (arith, most))))) in
    let many = length-map put.ballot decimal in
    let few = is.few in
    let line = line_short 7 14 (put_words put) short (omega (arith, many, few)) in
    omega (arith, line)

puts_short : (puts : List Put) → All IsShortPut puts → length puts ≤ MOST_BALLOTS → length (puts_text puts) ≤ 113000000
puts_short puts short few =
    let is = lines_short (λ put. line_text (put_words put)) 113 puts (λ k d lt. put_line _ (short k d lt)) in
    let more = mul-le-mul_right 113 few in
    omega (arith, is, more)

short_puts : (c i n : ℕ) (puts : List Put) → c ≤ MOST_CANDIDATES → All PutFits puts → IsAlterationFrom c i n (pairs_of puts) → All IsShortPut puts
short_puts c i n [] few fits is k d lt = absurd (omega (arith, lt))
short_puts c i n (put ∷ puts) few fits is k d lt =
    let here : IsShortPut put = record { fits = All-head PutFits put puts fits; few = (let most = length_valid c put.ballot is.2 in omega (arith, most, few)) } in
    All-cons IsShortPut put puts here (short_puts c (put.number + 1) n puts few (All-tail PutFits put puts fits) is.3) k d lt

-- ---- the head

rule_line : (rule : Rule) → IsRule rule → length (line_text (rule_words rule)) ≤ 155
rule_line Plurality lawful = omega arith
rule_line Borda lawful = omega arith
rule_line Condorcet lawful = omega arith
rule_line Irv lawful = omega arith
rule_line (Dhondt seats) lawful =
    let short = more_words 10 (codes "rule") (codes "dhondt" ∷ decimal seats ∷ []) (omega arith)
    (more_words 10 (codes "dhondt") (decimal seats ∷ []) (omega arith) (more_words 10 (decimal seats) [] (let few = digits_of_3 seats (omega (arith, lawful.1)) in omega (arith, few)) (no_words 10))) in
    let is = line_short 10 3 (codes "rule" ∷ codes "dhondt" ∷ decimal seats ∷ []) short (omega arith) in
    omega (arith, is)

ten : (n : ℕ) → n ≤ 1000000 → length (decimal n) ≤ 10
ten n few = let is = digits_of_7 n few in omega (arith, is)

size_line : (c ballots : ℕ) → c ≤ MOST_CANDIDATES → ballots ≤ MOST_BALLOTS → length (line_text (size_words (c, ballots))) ≤ 155
size_line c ballots few some =
    let short = more_words 10 (codes "size") (decimal c ∷ decimal ballots ∷ []) (omega arith)
    (more_words 10 (decimal c) (decimal ballots ∷ []) (ten c (omega (arith, few))) (more_words 10 (decimal ballots) [] (ten ballots (omega (arith, some))) (no_words 10))) in
    let is = line_short 10 3 (size_words (c, ballots)) short (omega arith) in
    omega (arith, is)

winner_line : (x : ℕ) → x ≤ 255 → length (line_text (outcome_words (Winner x))) ≤ 155
winner_line x few =
    let short = more_words 10 (codes "reported") (decimal x ∷ []) (omega arith) (more_words 10 (decimal x) [] (ten x (omega (arith, few))) (no_words 10)) in
    let is = line_short 10 2 (outcome_words (Winner x)) short (omega arith) in
    omega (arith, is)

outcome_line : (rule : Rule) (c : ℕ) (o : Outcome) → c ≤ MOST_CANDIDATES → OutcomeFits rule c o → length (line_text (outcome_words o)) ≤ 155
outcome_line (Dhondt total) c (Seats seats) few fits =
    let short = more_words 10 (codes "reported") (map decimal seats) (omega arith) (numbers_short 10 500 seats (λ n most. ten n (omega (arith, most))) (λ k d lt. (let most = fits.1 k d lt in omega (arith, most)))) in
    let many = length-map seats decimal in
    let is = line_short 10 13 (codes "reported" ∷ map decimal seats) short (omega (arith, many, fits.0, few)) in
    omega (arith, is)
outcome_line (Dhondt total) c (Winner x) few fits = absurd fits
outcome_line (Dhondt total) c NoWinner few fits = absurd fits
outcome_line rule c NoWinner few fits = omega arith
outcome_line Plurality c (Winner x) few fits = winner_line x fits
outcome_line Borda c (Winner x) few fits = winner_line x fits
outcome_line Condorcet c (Winner x) few fits = winner_line x fits
outcome_line Irv c (Winner x) few fits = winner_line x fits
outcome_line Plurality c (Seats seats) few fits = absurd fits
outcome_line Borda c (Seats seats) few fits = absurd fits
outcome_line Condorcet c (Seats seats) few fits = absurd fits
outcome_line Irv c (Seats seats) few fits = absurd fits

claim_line : (claim : Claim) → ClaimFits claim → length (line_text (claim_words claim)) ≤ 155
claim_line Fixed fits = omega arith
claim_line (Margin k) fits =
    let short = more_words 10 (codes "margin") (decimal k ∷ []) (omega arith) (more_words 10 (decimal k) [] (ten k (omega (arith, fits))) (no_words 10)) in
    let is = line_short 10 2 (claim_words (Margin k)) short (omega arith) in
    omega (arith, is)
claim_line (Bounds low up (Budget nodes)) fits =
    let stop = more_words 10 (codes "budget") (decimal nodes ∷ []) (omega arith) (more_words 10 (decimal nodes) [] (ten nodes (let most = fits.2.1 in omega (arith, most))) (no_words 10)) in
    let short = more_words 10 (codes "bounds") (decimal low ∷ decimal up ∷ codes "budget" ∷ decimal nodes ∷ []) (omega arith)
    (more_words 10 (decimal low) (decimal up ∷ codes "budget" ∷ decimal nodes ∷ []) (ten low (omega (arith, fits.0))) (more_words 10 (decimal up) (codes "budget" ∷ decimal nodes ∷ []) (ten up (omega (arith, fits.1))) stop)) in
    let is = line_short 10 5 (claim_words (Bounds low up (Budget nodes))) short (omega arith) in
    omega (arith, is)
claim_line (Bounds low up Depth) fits =
    let stop = more_words 10 (codes "depth") [] (omega arith) (no_words 10) in
    let short = more_words 10 (codes "bounds") (decimal low ∷ decimal up ∷ codes "depth" ∷ []) (omega arith)
    (more_words 10 (decimal low) (decimal up ∷ codes "depth" ∷ []) (ten low (omega (arith, fits.0))) (more_words 10 (decimal up) (codes "depth" ∷ []) (ten up (omega (arith, fits.1))) stop)) in
    let is = line_short 10 4 (claim_words (Bounds low up Depth)) short (omega arith) in
    omega (arith, is)

goal_line : (c : ℕ) (goal : GoalText) → c ≤ MOST_CANDIDATES → GoalFits c goal → length (line_text (goal_words goal)) ≤ 155
goal_line c (Order order) few fits =
    let short = more_words 10 (codes "goal") (codes "order" ∷ map decimal order) (omega arith)
    (more_words 10 (codes "order") (map decimal order) (omega arith) (numbers_short 10 255 order (λ n most. ten n (omega (arith, most))) (λ k d lt. (let most = fits.1 k d lt in omega (arith, most))))) in
    let many = length-map order decimal in
    let is = line_short 10 14 (codes "goal" ∷ codes "order" ∷ map decimal order) short (omega (arith, many, fits.0, few)) in
    omega (arith, is)
goal_line c (Pair g l) few fits =
    let short = more_words 10 (codes "goal") (codes "pair" ∷ decimal g ∷ decimal l ∷ []) (omega arith)
    (more_words 10 (codes "pair") (decimal g ∷ decimal l ∷ []) (omega arith) (more_words 10 (decimal g) (decimal l ∷ []) (ten g (omega (arith, fits.0))) (more_words 10 (decimal l) [] (ten l (omega (arith, fits.1))) (no_words 10)))) in
    let is = line_short 10 4 (goal_words (Pair g l)) short (omega arith) in
    omega (arith, is)
goal_line c (Cover x) few fits =
    let short = more_words 10 (codes "goal") (codes "cover" ∷ decimal x ∷ []) (omega arith)
    (more_words 10 (codes "cover") (decimal x ∷ []) (omega arith) (more_words 10 (decimal x) [] (ten x (omega (arith, fits))) (no_words 10))) in
    let is = line_short 10 3 (goal_words (Cover x)) short (omega arith) in
    omega (arith, is)

turn_short : (c k : ℕ) (goal : Option GoalText) (puts : List Put) → c ≤ MOST_CANDIDATES → TurnFits c k goal puts → (length (goal_text goal) ≤ 155) × All PutFits puts
turn_short c k None puts few fits = absurd fits
turn_short c k (Some goal) puts few fits = (goal_line c goal few fits.0, fits.2)

body_short : (c : ℕ) (claim : Claim) (goal : Option GoalText) (puts : List Put) → c ≤ MOST_CANDIDATES → BodyFits c claim goal puts → (length (goal_text goal) ≤ 155) × All PutFits puts
body_short c (Margin k) goal puts few fits = turn_short c k goal puts few fits
body_short c (Bounds low up stop) goal puts few fits = turn_short c up goal puts few fits
body_short c Fixed goal puts few fits =
    (subst (λ g. length (goal_text g) ≤ 155) (sym fits.0) (omega arith), subst (All PutFits) (sym fits.1) (λ k d lt. absurd (omega (arith, lt))))

-- ---- the text

pub text_short : (c n : ℕ) (cert : Cert) → IsPrintable cert → size cert.tree ≤ MOST_BUDGET → length cert.puts ≤ MOST_BALLOTS → c ≤ MOST_CANDIDATES → IsAlterationFrom c 1 n (pairs_of cert.puts)
    → length (cert_text cert) ≤ LONGEST_TEXT
text_short c n cert is nodes few most alters =
    let head = codes "movcert 1" ++ 10 ∷ [] in
    let rule = line_text (rule_words cert.rule) in
    let sizes = line_text (size_words (cert.c, cert.ballots)) in
    let outcome = line_text (outcome_words cert.reported) in
    let claim = line_text (claim_words cert.claim) in
    let goal = goal_text cert.goal in
    let puts = puts_text cert.puts in
    let tree = tree_text cert.tree in
    let body = body_short cert.c cert.claim cert.goal cert.puts is.sizes.1 is.body in
    let one = rule_line cert.rule is.rule in
    let two = size_line cert.c cert.ballots is.sizes.1 is.sizes.2 in
    let three = outcome_line cert.rule cert.c cert.reported is.sizes.1 is.reported in
    let four = claim_line cert.claim is.claim in
    let five = body.0 in
    let six = puts_short cert.puts (short_puts c 1 n cert.puts most body.1 alters) few in
    let seven = tree_short cert.tree is.lines nodes in
    let a = length-append head (rule ++ (sizes ++ (outcome ++ (claim ++ (goal ++ (puts ++ tree)))))) in
    let b = length-append rule (sizes ++ (outcome ++ (claim ++ (goal ++ (puts ++ tree))))) in
    let d = length-append sizes (outcome ++ (claim ++ (goal ++ (puts ++ tree)))) in
    let f = length-append outcome (claim ++ (goal ++ (puts ++ tree))) in
    let g = length-append claim (goal ++ (puts ++ tree)) in
    let h = length-append goal (puts ++ tree) in
    let i = length-append puts tree in
    let start : length head ≡ 10 = refl in
    omega (arith, a, b, d, f, g, h, i, start, one, two, three, four, five, six, seven)
