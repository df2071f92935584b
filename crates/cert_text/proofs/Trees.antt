-- A tree that is read is the tree that was written, and a tree that was written is read again.
use Rattle.std.proofs.Common.{◌≡◌, ℕ, zero, suc, ◌+◌, ◌<◌, ◌≤◌, false, cond, eqb, leb, List, [], ◌∷◌, ◌++◌, length, Result, Ok, Err, refl, sym, ap, ◌∙◌, subst, arith, append_assoc}
use Rattle.std.specs.Prelude.{All}
use Rattle.std.specs.List.{position}
use Rattle.std.proofs.lemmas.Bool.{leb-false, lt-leb}
use Rattle.std.proofs.lemmas.List.{length-append}
use Rattle.std.proofs.lemmas.List.Elements.{All-nil, All-cons, All-head, All-tail, All-append}
use Rattle.std.proofs.lemmas.List.Splits.{join_with_byte-slice_split}
use Rattle.row_program.specs.declared.Feature.TheVariants as feature
use Rattle.bound_tree.specs.Plain.{Plain, Kids, Split, Branch, Cut, None, More, kids_of}
use Rattle.bound_tree.specs.Nodes.{size, size_all, height, highest}
use Rattle.bound_tree.specs.Lines.{Line, SplitInto, BranchBy, CutWith, kid_count, lines_of, lines_of_all}
use Rattle.text_lines.specs.Words.{fields_of, line_of}
use Rattle.text_lines.proofs.Joining.{line_lacks, fields_again}
use Rattle.cert_text.specs.declared.fault.CertKind.TheVariants.{TreeEnds, TooDeep, TooManyNodes}
use Rattle.cert_text.specs.Faults.{fault}
use Rattle.cert_text.specs.declared.fault.CertFault.{CertFault}
use Rattle.cert_text.specs.Reading.{◌>>=◌, TextLeft, line_at, at_line, many_at}
use Rattle.cert_text.specs.TreeLines.{tree_line}
use Rattle.cert_text.specs.TreeReading.{tree_line_at, grown_at, node_at}
use Rattle.cert_text.specs.CertText.{tree_words, tree_text, LineFits}
use Rattle.cert_text.proofs.Growing.{Reads}
use Rattle.cert_text.proofs.TreeForms.{tree_line_takes, tree_line_again, words_plain}
use Rattle.cert_text.proofs.Cutting.{bind_ok, guard_ok, done, ok_is, at_line_ok, cut_takes, line_at_again}
use Rattle.cert_text.proofs.Shapes.{one_line, kids_text, text_Split, text_Branch, text_Cut, text_More, list_of, kids_of_list, count_of_list, all_left, all_right}
use Rattle.bound_tree.specs.declared.bound.TheConstants.{MOST_DEPTH, MOST_NODES}

words_again : (x : Line) → LineFits x → fields_of (line_of (tree_words x)) ≡ tree_words x
words_again (SplitInto m) h = fields_again _ _ (words_plain (SplitInto m) h)
words_again (BranchBy (feature.From k) v) h = fields_again _ _ (words_plain (BranchBy (feature.From k) v) h)
words_again (BranchBy (feature.Arc u y) v) h = fields_again _ _ (words_plain (BranchBy (feature.Arc u y) v) h)
words_again (CutWith ns) h = fields_again _ _ (words_plain (CutWith ns) h)

-- what a line of a tree took
pub record TookLine (first : ℕ) (p : TextLeft) (y : Line × TextLeft) : Type 0 where
  pub text : p.1 ≡ one_line y.0 ++ y.1.1
  pub number : y.1.0 ≡ p.0 + 1
  pub fits : LineFits y.0
  pub few : p.0 < first + MOST_NODES

-- the line of these fields
line_is : (l : List ℕ) (x : Line) → fields_of l ≡ tree_words x → l ≡ line_of (tree_words x)
line_is l x e = sym (join_with_byte-slice_split 32 l) ∙ ap line_of e

took_line : (first : ℕ) (p : TextLeft) (l : List ℕ) (q : TextLeft) (x : Line) → p.1 ≡ l ++ 10 ∷ q.1 → q.0 ≡ p.0 + 1 → fields_of l ≡ tree_words x → LineFits x → p.0 < first + MOST_NODES → TookLine first p (x, q)
took_line first p l q x cut next words fit few = record {
  text = cut ∙ ap (λ (t : List ℕ). t ++ 10 ∷ q.1) (line_is l x words) ∙ sym (append_assoc (line_of (tree_words x)) (10 ∷ []) q.1);
  number = next;
  fits = fit;
  few = few;
}

abbrev counted : ℕ → ℕ → Line × TextLeft → Result (Line × TextLeft) CertFault
counted first n found = cond (leb (first + MOST_NODES) n) (Err (fault TooManyNodes n)) (Ok found)

abbrev judged : ℕ → ℕ → List ℕ × TextLeft → Result (Line × TextLeft) CertFault
judged first n text = at_line n (tree_line (fields_of text.0)) >>= λ found. counted first n (found, text.1)

found_takes : (first : ℕ) (p : TextLeft) (l : List ℕ) (q : TextLeft) (x : Line) (y : Line × TextLeft) → line_at p ≡ Ok (l, q) → at_line p.0 (tree_line (fields_of l)) ≡ Ok x → counted first p.0 (x, q) ≡ Ok y → TookLine first p y
found_takes first p l q x y at read kept =
    let h = guard_ok (leb (first + MOST_NODES) p.0) (fault TooManyNodes p.0) (Ok (x, q)) y kept in
    let cut = cut_takes p (position (λ b. eqb b 10) p.1) (l, q) refl at in
    let is = tree_line_takes (fields_of l) x (at_line_ok p.0 (tree_line (fields_of l)) x read) in
    subst (λ (z : Line × TextLeft). TookLine first p z) (ok_is (x, q) y h.1) (took_line first p l q x cut.0 cut.1 is.spelled is.fits (leb-false _ _ h.0))

judged_takes : (first : ℕ) (p : TextLeft) (l : List ℕ) (q : TextLeft) (y : Line × TextLeft) → line_at p ≡ Ok (l, q) → judged first p.0 (l, q) ≡ Ok y → TookLine first p y
judged_takes first p l q y at e =
    let b = bind_ok (at_line p.0 (tree_line (fields_of l))) (λ found. counted first p.0 (found, q)) y e in
    found_takes first p l q b.0 y at b.1 b.2

pub tree_line_at_takes : (first : ℕ) (p : TextLeft) (y : Line × TextLeft) → tree_line_at first p ≡ Ok y → TookLine first p y
unfolding tree_line_at
tree_line_at_takes first p y e =
    let g = guard_ok (eqb (length p.1) 0) (fault TreeEnds p.0) (line_at p >>= judged first p.0) y e in
    let a = bind_ok (line_at p) (judged first p.0) y g.1 in
    judged_takes first p a.0.0 a.0.1 y a.1 a.2

not_empty : (a b : List ℕ) → eqb (length (a ++ 10 ∷ b)) 0 ≡ false
not_empty a b = let n : length (a ++ 10 ∷ b) ≡ length a + suc (length b) = length-append a (10 ∷ b) in rw n (grind arith)

pub tree_line_at_again : (first n : ℕ) (x : Line) (rest : List ℕ) → LineFits x → n < first + MOST_NODES → tree_line_at first (n, one_line x ++ rest) ≡ Ok (x, (n + 1, rest))
unfolding tree_line_at
tree_line_at_again first n x rest h few =
    let regrouped : one_line x ++ rest ≡ line_of (tree_words x) ++ 10 ∷ rest = append_assoc (line_of (tree_words x)) (10 ∷ []) rest in
    let l = line_at_again n (line_of (tree_words x)) rest (line_lacks (tree_words x) (words_plain x h)) in
    ap (λ (t : List ℕ). tree_line_at first (n, t)) regrouped
    ∙ ap (λ b. cond b (Err (fault TreeEnds n)) (line_at (n, line_of (tree_words x) ++ 10 ∷ rest) >>= λ text. at_line n (tree_line (fields_of text.0)) >>= λ found. cond (leb (first + MOST_NODES) n) (Err (fault TooManyNodes n)) (Ok (found, text.1)))) (not_empty (line_of (tree_words x)) rest)
    ∙ ap (λ r. r >>= λ text. at_line n (tree_line (fields_of text.0)) >>= λ found. cond (leb (first + MOST_NODES) n) (Err (fault TooManyNodes n)) (Ok (found, text.1))) l
    ∙ ap (λ fs. at_line n (tree_line fs) >>= λ found. cond (leb (first + MOST_NODES) n) (Err (fault TooManyNodes n)) (Ok (found, (n + 1, rest)))) (words_again x h)
    ∙ ap (λ r. at_line n r >>= λ found. cond (leb (first + MOST_NODES) n) (Err (fault TooManyNodes n)) (Ok (found, (n + 1, rest)))) (tree_line_again x h)
    ∙ ap (λ b. cond b (Err (fault TooManyNodes n)) (Ok (x, (n + 1, rest)))) (lt-leb _ _ few)

-- ---- what a tree took, with at most `left` nodes on each way down

pub record Took (left first : ℕ) (p : TextLeft) (y : Plain × TextLeft) : Type 0 where
  pub text : p.1 ≡ tree_text y.0 ++ y.1.1
  pub number : y.1.0 ≡ p.0 + size y.0
  pub fits : All LineFits (lines_of y.0)
  pub depth : height y.0 ≤ left
  pub few : y.1.0 ≤ first + MOST_NODES

pub record TookAll (left first m : ℕ) (p : TextLeft) (y : List Plain × TextLeft) : Type 0 where
  pub text : p.1 ≡ kids_text (kids_of y.0) ++ y.1.1
  pub number : y.1.0 ≡ p.0 + size_all (kids_of y.0)
  pub fits : All LineFits (lines_of_all (kids_of y.0))
  pub depth : highest (kids_of y.0) ≤ left
  pub few : p.0 ≤ first + MOST_NODES → y.1.0 ≤ first + MOST_NODES
  pub count : length y.0 ≡ m

abbrev Taking : Reads Plain → ℕ → ℕ → Type 0
Taking read left first = (p : TextLeft) (y : Plain × TextLeft) → read p ≡ Ok y → Took left first p y

then_text : (a x b y c : List ℕ) → a ≡ x ++ b → b ≡ y ++ c → a ≡ (x ++ y) ++ c
then_text a x b y c e f = e ∙ ap (λ (t : List ℕ). x ++ t) f ∙ sym (append_assoc x y c)

nodes_take : (read : Reads Plain) (left first : ℕ) → Taking read left first → (m : ℕ) (p : TextLeft) (y : List Plain × TextLeft) → many_at read m p ≡ Ok y → TookAll left first m p y
unfolding many_at
nodes_take read left first taking zero p y e =
    subst (λ (z : List Plain × TextLeft). TookAll left first zero p z) (ok_is ([], p) y e) (record { text = refl; number = omega arith; fits = All-nil LineFits; depth = omega arith; few = λ h. h; count = refl })
nodes_take read left first taking (suc m) p y e =
    let a = bind_ok (read p) (λ kid. many_at read m kid.1 >>= λ kids. Ok (kid.0 ∷ kids.0, kids.1)) y e in
    let b = bind_ok (many_at read m a.0.1) (λ kids. Ok (a.0.0 ∷ kids.0, kids.1)) y a.2 in
    let one = taking p a.0 a.1 in
    let all = nodes_take read left first taking m a.0.1 b.0 b.1 in
    let made : List Plain × TextLeft = (a.0.0 ∷ b.0.0, b.0.1) in
    subst (λ (z : List Plain × TextLeft). TookAll left first (suc m) p z) (ok_is made y b.2) (record {
      text = then_text p.1 (tree_text a.0.0) a.0.1.1 (kids_text (kids_of b.0.0)) b.0.1.1 one.text all.text ∙ ap (λ (t : List ℕ). t ++ b.0.1.1) (sym (text_More a.0.0 (kids_of b.0.0)));
      number = omega (arith, one.number, all.number);
      fits = All-append LineFits (lines_of a.0.0) (lines_of_all (kids_of b.0.0)) one.fits all.fits;
      depth = omega (arith, one.depth, all.depth);
      few = λ h. all.few one.few;
      count = ap suc all.count;
    })

grown_takes : (read : Reads Plain) (left first : ℕ) → Taking read left first → (p : TextLeft) (x : Line) (q : TextLeft) (y : Plain × TextLeft) → TookLine first p (x, q) → grown_at read (x, q) ≡ Ok y → Took (suc left) first p y
unfolding grown_at
grown_takes read left first taking p (SplitInto m) q y l e =
    let a = bind_ok (many_at read m q) (λ kids. Ok (Split (kids_of kids.0), kids.1)) y e in
    let all = nodes_take read left first taking m q a.0 a.1 in
    let kids = kids_of a.0.0 in
    let count : kid_count kids ≡ m = count_of_list a.0.0 ∙ all.count in
    let made : Plain × TextLeft = (Split kids, a.0.1) in
    subst (λ (z : Plain × TextLeft). Took (suc left) first p z) (ok_is made y a.2) (record {
      text = then_text p.1 (one_line (SplitInto m)) q.1 (kids_text kids) a.0.1.1 l.text all.text
          ∙ ap (λ (n : ℕ). (one_line (SplitInto n) ++ kids_text kids) ++ a.0.1.1) (sym count) ∙ ap (λ (t : List ℕ). t ++ a.0.1.1) (sym (text_Split kids));
      number = omega (arith, l.number, all.number);
      fits = All-cons LineFits (SplitInto (kid_count kids)) (lines_of_all kids) (subst (λ n. LineFits (SplitInto n)) (sym count) l.fits) all.fits;
      depth = omega (arith, all.depth);
      few = all.few (omega (arith, l.number, l.few));
    })
grown_takes read left first taking p (BranchBy f v) q y l e =
    let a = bind_ok (read q) (λ low. read low.1 >>= λ high. Ok (Branch f v low.0 high.0, high.1)) y e in
    let b = bind_ok (read a.0.1) (λ high. Ok (Branch f v a.0.0 high.0, high.1)) y a.2 in
    let low = taking q a.0 a.1 in
    let high = taking a.0.1 b.0 b.1 in
    let made : Plain × TextLeft = (Branch f v a.0.0 b.0.0, b.0.1) in
    let halves = then_text q.1 (tree_text a.0.0) a.0.1.1 (tree_text b.0.0) b.0.1.1 low.text high.text in
    subst (λ (z : Plain × TextLeft). Took (suc left) first p z) (ok_is made y b.2) (record {
      text = then_text p.1 (one_line (BranchBy f v)) q.1 (tree_text a.0.0 ++ tree_text b.0.0) b.0.1.1 l.text halves ∙ ap (λ (t : List ℕ). t ++ b.0.1.1) (sym (text_Branch f v a.0.0 b.0.0));
      number = omega (arith, l.number, low.number, high.number);
      fits = All-cons LineFits (BranchBy f v) (lines_of a.0.0 ++ lines_of b.0.0) l.fits (All-append LineFits (lines_of a.0.0) (lines_of b.0.0) low.fits high.fits);
      depth = omega (arith, low.depth, high.depth);
      few = high.few;
    })
grown_takes read left first taking p (CutWith ns) q y l e =
    let made : Plain × TextLeft = (Cut ns, q) in
    subst (λ (z : Plain × TextLeft). Took (suc left) first p z) (ok_is made y e) (record {
      text = l.text ∙ ap (λ (t : List ℕ). t ++ q.1) (sym (text_Cut ns));
      number = omega (arith, l.number);
      fits = All-cons LineFits (CutWith ns) [] l.fits (All-nil LineFits);
      depth = omega arith;
      few = omega (arith, l.number, l.few);
    })

pub node_takes : (left first : ℕ) (p : TextLeft) (y : Plain × TextLeft) → node_at left first p ≡ Ok y → Took left first p y
unfolding node_at
node_takes zero first p y e = let a = bind_ok (tree_line_at first p) (λ found. Err (fault TooDeep p.0)) y e in absurd (let f = a.2 in cc)
node_takes (suc left) first p y e =
    let a = bind_ok (tree_line_at first p) (grown_at (node_at left first)) y e in
    grown_takes (node_at left first) left first (node_takes left first) p a.0.0 a.0.1 y (tree_line_at_takes first p a.0 a.1) a.2

-- ---- what is written is read again

abbrev Again : Reads Plain → ℕ → ℕ → Type 0
Again read left first = (t : Plain) (n : ℕ) (rest : List ℕ) → height t ≤ left → All LineFits (lines_of t) → n + size t ≤ first + MOST_NODES → read (n, tree_text t ++ rest) ≡ Ok (t, (n + size t, rest))

nodes_again : (read : Reads Plain) (left first : ℕ) → Again read left first → (ts : Kids) (n : ℕ) (rest : List ℕ) → highest ts ≤ left → All LineFits (lines_of_all ts) → n + size_all ts ≤ first + MOST_NODES
    → many_at read (kid_count ts) (n, kids_text ts ++ rest) ≡ Ok (list_of ts, (n + size_all ts, rest))
unfolding many_at
nodes_again read left first again None n rest low fit few = ap (λ (k : ℕ). done (let none : List Plain = [] in none, (k, rest))) (omega arith)
nodes_again read left first again (More t ts) n rest low fit few =
    let regrouped : kids_text (More t ts) ++ rest ≡ tree_text t ++ (kids_text ts ++ rest) = ap (λ (x : List ℕ). x ++ rest) (text_More t ts) ∙ append_assoc (tree_text t) (kids_text ts) rest in
    let one = again t n (kids_text ts ++ rest) (omega arith) (all_left LineFits (lines_of t) (lines_of_all ts) fit) (omega arith) in
    let others = nodes_again read left first again ts (n + size t) rest (omega arith) (all_right LineFits (lines_of t) (lines_of_all ts) fit) (omega arith) in
    ap (λ (x : List ℕ). many_at read (suc (kid_count ts)) (n, x)) regrouped
    ∙ ap (λ r. r >>= λ kid. many_at read (kid_count ts) kid.1 >>= λ kids. Ok (kid.0 ∷ kids.0, kids.1)) one
    ∙ ap (λ r. r >>= λ kids. Ok (t ∷ kids.0, kids.1)) others
    ∙ ap (λ (k : ℕ). done (t ∷ list_of ts, (k, rest))) (omega arith)

grown_again : (read : Reads Plain) (left first : ℕ) → Again read left first → (t : Plain) (n : ℕ) (rest : List ℕ) → height t ≤ suc left → All LineFits (lines_of t) → n + size t ≤ first + MOST_NODES
    → (tree_line_at first (n, tree_text t ++ rest) >>= grown_at read) ≡ Ok (t, (n + size t, rest))
unfolding grown_at
grown_again read left first again (Split kids) n rest low fit few =
    let f = All-head LineFits (SplitInto (kid_count kids)) (lines_of_all kids) fit in
    let text : tree_text (Split kids) ++ rest ≡ one_line (SplitInto (kid_count kids)) ++ (kids_text kids ++ rest) = ap (λ (x : List ℕ). x ++ rest) (text_Split kids) ∙ append_assoc (one_line (SplitInto (kid_count kids))) (kids_text kids) rest in
    let l = tree_line_at_again first n (SplitInto (kid_count kids)) (kids_text kids ++ rest) f (omega arith) in
    let all = nodes_again read left first again kids (n + 1) rest (omega arith) (All-tail LineFits (SplitInto (kid_count kids)) (lines_of_all kids) fit) (omega arith) in
    ap (λ (x : List ℕ). tree_line_at first (n, x) >>= grown_at read) text
    ∙ ap (λ r. r >>= grown_at read) l
    ∙ ap (λ r. r >>= λ ks. Ok (Split (kids_of ks.0), ks.1)) all
    ∙ ap (λ (k : ℕ). done (Split (kids_of (list_of kids)), (k, rest))) (omega arith)
    ∙ ap (λ (ks : Kids). done (Split ks, (n + size (Split kids), rest))) (kids_of_list kids)
grown_again read left first again (Branch f v lower higher) n rest low fit few =
    let halves = All-tail LineFits (BranchBy f v) (lines_of lower ++ lines_of higher) fit in
    let text : tree_text (Branch f v lower higher) ++ rest ≡ one_line (BranchBy f v) ++ (tree_text lower ++ (tree_text higher ++ rest)) =
    ap (λ (x : List ℕ). x ++ rest) (text_Branch f v lower higher) ∙ append_assoc (one_line (BranchBy f v)) (tree_text lower ++ tree_text higher) rest
    ∙ ap (λ (x : List ℕ). one_line (BranchBy f v) ++ x) (append_assoc (tree_text lower) (tree_text higher) rest) in
    let l = tree_line_at_again first n (BranchBy f v) (tree_text lower ++ (tree_text higher ++ rest)) (All-head LineFits (BranchBy f v) (lines_of lower ++ lines_of higher) fit) (omega arith) in
    let one = again lower (n + 1) (tree_text higher ++ rest) (omega arith) (all_left LineFits (lines_of lower) (lines_of higher) halves) (omega arith) in
    let two = again higher (n + 1 + size lower) rest (omega arith) (all_right LineFits (lines_of lower) (lines_of higher) halves) (omega arith) in
    ap (λ (x : List ℕ). tree_line_at first (n, x) >>= grown_at read) text
    ∙ ap (λ r. r >>= grown_at read) l
    ∙ ap (λ r. r >>= λ lo. read lo.1 >>= λ hi. Ok (Branch f v lo.0 hi.0, hi.1)) one
    ∙ ap (λ r. r >>= λ hi. Ok (Branch f v lower hi.0, hi.1)) two
    ∙ ap (λ (k : ℕ). done (Branch f v lower higher, (k, rest))) (omega arith)
grown_again read left first again (Cut ns) n rest low fit few =
    let text : tree_text (Cut ns) ++ rest ≡ one_line (CutWith ns) ++ rest = ap (λ (x : List ℕ). x ++ rest) (text_Cut ns) in
    let l = tree_line_at_again first n (CutWith ns) rest (All-head LineFits (CutWith ns) [] fit) (omega arith) in
    ap (λ (x : List ℕ). tree_line_at first (n, x) >>= grown_at read) text ∙ ap (λ r. r >>= grown_at read) l

some_height : (t : Plain) → 0 < height t
some_height (Split kids) = omega arith
some_height (Branch f v l h) = omega arith
some_height (Cut ns) = omega arith

pub node_again : (left first : ℕ) (t : Plain) (n : ℕ) (rest : List ℕ) → height t ≤ left → All LineFits (lines_of t) → n + size t ≤ first + MOST_NODES → node_at left first (n, tree_text t ++ rest) ≡ Ok (t, (n + size t, rest))
unfolding node_at
node_again zero first t n rest low fit few = absurd (omega (arith, some_height t))
node_again (suc left) first t n rest low fit few = grown_again (node_at left first) left first (node_again left first) t n rest low fit few

-- ---- for the contract of the reader

pub few_nodes : (p q : TextLeft) (t : Plain) → node_at MOST_DEPTH p.0 p ≡ Ok (t, q) → size t ≤ MOST_NODES
few_nodes p q t e = let took = node_takes MOST_DEPTH p.0 p (t, q) e in omega (arith, took.number, took.few)

pub shallow : (first : ℕ) (p q : TextLeft) (t : Plain) → node_at MOST_DEPTH first p ≡ Ok (t, q) → height t ≤ MOST_DEPTH
shallow first p q t e = (node_takes MOST_DEPTH first p (t, q) e).depth
