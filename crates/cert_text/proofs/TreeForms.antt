-- A line of a tree that is read is the line that was written, and a line that was written is read again.
use Rattle.std.proofs.Common.{◌≡◌, ℕ, ◌≤◌, cond, ltb, List, [], ◌∷◌, length, map, Ok, Err, refl, ap, ◌∙◌, subst, arith, inl, inr}
use Rattle.std.specs.Prelude.{codes, decimal}
use Rattle.std.specs.Str.{bytes_eq}
use Rattle.std.proofs.lemmas.Bool.{ltb-false, le-ltb}
use Rattle.std.proofs.lemmas.List.{length-map}
use Rattle.text_lines.specs.declared.fault.LineFault.TheVariants.{BadLine}
use Rattle.text_lines.specs.Faults.{both}
use Rattle.text_lines.specs.Forms.{number_within, made, one_of, two_of, numbers_of}
use Rattle.text_lines.proofs.Inverse.{number_takes, number_again}
use Rattle.text_lines.proofs.Many.{both_ok, one_takes, one_again, two_takes, two_again, numbers_take, numbers_again, same_fields}
use Rattle.text_lines.proofs.Joining.{ArePlain, number_plain}
use Rattle.row_program.specs.declared.Feature.TheVariants.{From, Arc}
use Rattle.bound_tree.specs.Lines.{Line, SplitInto, BranchBy, CutWith}
use Rattle.cert_text.specs.TreeLines.{split_line, from_line, arc_line, branch_line, cut_line, tree_line}
use Rattle.cert_text.specs.CertText.{tree_words, LineFits}
use Rattle.cert_text.proofs.Choices.{guard_ok, made_ok, chosen, word_is, small_take, small_within, small_plain}
use Rattle.cert_text.specs.declared.limits.TheConstants.{GREATEST_KEY, GREATEST_MULTIPLIER, GREATEST_VALUE, LAST_ENTERED, LAST_LEFT, MOST_MULTIPLIERS}
use Rattle.row_program.specs.declared.limits.TheConstants.{MOST_KIDS}

-- what was read is written so, and within the limits
pub record IsLine (fields : List (List ℕ)) (x : Line) : Type 0 where
  pub spelled : fields ≡ tree_words x
  pub fits : LineFits x

split_takes : (w : List ℕ) (fields : List (List ℕ)) (x : Line) → w ≡ codes "split" → split_line fields ≡ Ok x → IsLine (w ∷ fields) x
split_takes w fields x is e =
    let m = made_ok SplitInto (one_of 0 MOST_KIDS fields) x e in
    let t = one_takes 0 MOST_KIDS fields m.0 (omega arith) m.1 in
    subst (λ y. IsLine (w ∷ fields) y) m.2 (record { spelled = same_fields w (codes "split") fields (decimal m.0 ∷ []) is t.0; fits = t.1.1 })

cut_takes : (w : List ℕ) (fields : List (List ℕ)) (x : Line) → w ≡ codes "cut" → cut_line fields ≡ Ok x → IsLine (w ∷ fields) x
cut_takes w fields x is e =
    let g = guard_ok (ltb MOST_MULTIPLIERS (length fields)) BadLine (made CutWith (numbers_of 0 GREATEST_MULTIPLIER fields)) x e in
    let m = made_ok CutWith (numbers_of 0 GREATEST_MULTIPLIER fields) x g.1 in
    let t = numbers_take 0 GREATEST_MULTIPLIER fields m.0 (omega arith) m.1 in
    let few : length m.0 ≤ MOST_MULTIPLIERS = omega (arith, ltb-false _ _ g.0, ap length t.spelled, length-map m.0 decimal) in
    subst (λ y. IsLine (w ∷ fields) y) m.2 (record { spelled = same_fields w (codes "cut") fields (map decimal m.0) is t.spelled; fits = (few, small_take GREATEST_MULTIPLIER m.0 t.within) })

from_takes : (w v : List ℕ) (fields : List (List ℕ)) (x : Line) → w ≡ codes "branch" → v ≡ codes "from" → from_line fields ≡ Ok x → IsLine (w ∷ v ∷ fields) x
from_takes w v fields x is is' e =
    let make : ℕ × ℕ → Line = λ y. BranchBy (From y.0) y.1 in
    let m = made_ok make (two_of (0, GREATEST_KEY) (0, GREATEST_VALUE) fields) x e in
    let t = two_takes 0 GREATEST_KEY 0 GREATEST_VALUE fields m.0 (omega arith) (omega arith) m.1 in
    let rest = same_fields v (codes "from") fields (decimal m.0.0 ∷ decimal m.0.1 ∷ []) is' t.0 in
    subst (λ y. IsLine (w ∷ v ∷ fields) y) m.2 (record { spelled = same_fields w (codes "branch") (v ∷ fields) (codes "from" ∷ decimal m.0.0 ∷ decimal m.0.1 ∷ []) is rest; fits = (t.1.1, t.2.1) })

arc_takes : (w v : List ℕ) (fields : List (List ℕ)) (x : Line) → w ≡ codes "branch" → v ≡ codes "arc" → arc_line fields ≡ Ok x → IsLine (w ∷ v ∷ fields) x
arc_takes w v [] x is is' e = absurd cc
arc_takes w v (u ∷ fields) x is is' e =
    let make : ℕ × (ℕ × ℕ) → Line = λ y. BranchBy (Arc y.0 y.1.0) y.1.1 in
    let m = made_ok make (both (number_within 0 LAST_LEFT u) (two_of (1, LAST_ENTERED) (0, GREATEST_VALUE) fields)) x e in
    let b = both_ok (number_within 0 LAST_LEFT u) (two_of (1, LAST_ENTERED) (0, GREATEST_VALUE) fields) m.0 m.1 in
    let s = number_takes 0 LAST_LEFT u m.0.0 (omega arith) b.0 in
    let t = two_takes 1 LAST_ENTERED 0 GREATEST_VALUE fields m.0.1 (omega arith) (omega arith) b.1 in
    let first = same_fields u (decimal m.0.0) fields (decimal m.0.1.0 ∷ decimal m.0.1.1 ∷ []) s.0 t.0 in
    let rest = same_fields v (codes "arc") (u ∷ fields) (decimal m.0.0 ∷ decimal m.0.1.0 ∷ decimal m.0.1.1 ∷ []) is' first in
    subst (λ y. IsLine (w ∷ v ∷ u ∷ fields) y) m.2 (record {
      spelled = same_fields w (codes "branch") (v ∷ u ∷ fields) (codes "arc" ∷ decimal m.0.0 ∷ decimal m.0.1.0 ∷ decimal m.0.1.1 ∷ []) is rest;
      fits = (s.2, t.1.0, t.1.1, t.2.1);
    })

branch_takes : (w : List ℕ) (fields : List (List ℕ)) (x : Line) → w ≡ codes "branch" → branch_line fields ≡ Ok x → IsLine (w ∷ fields) x
branch_takes w [] x is e = absurd cc
branch_takes w (v ∷ fields) x is e =
    elim (chosen (bytes_eq v (codes "from")) (from_line fields) (cond (bytes_eq v (codes "arc")) (arc_line fields) (Err BadLine)) (Ok x) e) [
      | inl a ↦ from_takes w v fields x is (word_is v (codes "from") a.0) a.1
      | inr a ↦ elim (chosen (bytes_eq v (codes "arc")) (arc_line fields) (Err BadLine) (Ok x) a.1) [
        | inl b ↦ arc_takes w v fields x is (word_is v (codes "arc") b.0) b.1
        | inr b ↦ absurd (let no = b.1 in cc)
      ]
    ]

pub tree_line_takes : (fields : List (List ℕ)) (x : Line) → tree_line fields ≡ Ok x → IsLine fields x
tree_line_takes [] x e = absurd cc
tree_line_takes (w ∷ fields) x e =
    elim (chosen (bytes_eq w (codes "split")) (split_line fields) (cond (bytes_eq w (codes "cut")) (cut_line fields) (cond (bytes_eq w (codes "branch")) (branch_line fields) (Err BadLine))) (Ok x) e) [
      | inl a ↦ split_takes w fields x (word_is w (codes "split") a.0) a.1
      | inr a ↦ elim (chosen (bytes_eq w (codes "cut")) (cut_line fields) (cond (bytes_eq w (codes "branch")) (branch_line fields) (Err BadLine)) (Ok x) a.1) [
        | inl b ↦ cut_takes w fields x (word_is w (codes "cut") b.0) b.1
        | inr b ↦ elim (chosen (bytes_eq w (codes "branch")) (branch_line fields) (Err BadLine) (Ok x) b.1) [
          | inl d ↦ branch_takes w fields x (word_is w (codes "branch") d.0) d.1
          | inr d ↦ absurd (let no = d.1 in cc)
        ]
      ]
    ]

-- ---- what is written is read again

pub tree_line_again : (x : Line) → LineFits x → tree_line (tree_words x) ≡ Ok x
tree_line_again (SplitInto m) h = ap (made SplitInto) (one_again 0 MOST_KIDS m (omega arith) (omega arith, h))
tree_line_again (BranchBy (From k) v) h =
    let make : ℕ × ℕ → Line = λ y. BranchBy (From y.0) y.1 in
    ap (made make) (two_again 0 GREATEST_KEY 0 GREATEST_VALUE k v (omega arith) (omega arith) (omega arith, h.0) (omega arith, h.1))
tree_line_again (BranchBy (Arc u y) v) h =
    let make : ℕ × (ℕ × ℕ) → Line = λ z. BranchBy (Arc z.0 z.1.0) z.1.1 in
    let first : number_within 0 LAST_LEFT (decimal u) ≡ Ok u = number_again 0 LAST_LEFT u (omega arith) (omega arith) h.0 in
    let others = two_again 1 LAST_ENTERED 0 GREATEST_VALUE y v (omega arith) (omega arith) (h.1, h.2) (omega arith, h.3) in
    ap (made make) (ap (λ n. both n (two_of (1, LAST_ENTERED) (0, GREATEST_VALUE) (decimal y ∷ decimal v ∷ []))) first ∙ ap (λ n. both (Ok u) n) others)
tree_line_again (CutWith ns) h =
    let few : length (map decimal ns) ≤ MOST_MULTIPLIERS = omega (arith, length-map ns decimal, h.0) in
    let r = numbers_again 0 GREATEST_MULTIPLIER ns (omega arith) (small_within GREATEST_MULTIPLIER ns h.1) in
    ap (λ b. cond b (Err BadLine) (made CutWith (numbers_of 0 GREATEST_MULTIPLIER (map decimal ns)))) (le-ltb _ _ few) ∙ ap (made CutWith) r

pub words_plain : (x : Line) → LineFits x → ArePlain (tree_words x)
words_plain (SplitInto m) h = ((refl, refl), (number_plain m (omega (arith, h)), tt))
words_plain (BranchBy (From k) v) h = ((refl, refl), ((refl, refl), (number_plain k (omega (arith, h.0)), (number_plain v (omega (arith, h.1)), tt))))
words_plain (BranchBy (Arc u y) v) h = ((refl, refl), ((refl, refl), (number_plain u (omega (arith, h.0)), (number_plain y (omega (arith, h.2)), (number_plain v (omega (arith, h.3)), tt)))))
words_plain (CutWith ns) h = ((refl, refl), small_plain GREATEST_MULTIPLIER ns (omega arith) h.1)
