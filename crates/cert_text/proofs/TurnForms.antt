-- The lines of the goal and of the replacements, each by its form.
use Rattle.std.proofs.Common.{◌≡◌, ℕ, cond, List, [], ◌∷◌, map, Result, Ok, Err, refl, ap, ◌∙◌, subst, arith, inl, inr}
use Rattle.std.specs.Prelude.{codes, decimal}
use Rattle.std.specs.Str.{bytes_eq}
use Rattle.alteration_model.specs.declared.puts.Put.{Put}
use Rattle.text_lines.specs.declared.fault.LineFault.{LineFault}
use Rattle.text_lines.specs.declared.fault.LineFault.TheVariants.{BadLine}
use Rattle.text_lines.specs.Faults.{both}
use Rattle.text_lines.specs.Forms.{number_within, made, one_of, two_of, numbers_of, count_of}
use Rattle.text_lines.proofs.Inverse.{number_takes, number_again}
use Rattle.text_lines.proofs.Many.{both_ok, one_takes, one_again, two_takes, two_again, numbers_take, numbers_again, same_fields}
use Rattle.text_lines.proofs.Joining.{ArePlain, number_plain}
use Rattle.cert_text.specs.declared.cert.GoalText.{GoalText}
use Rattle.cert_text.specs.declared.cert.GoalText.TheVariants.{Order, Pair, Cover}
use Rattle.cert_text.specs.HeadLines.{goal_of, goal_fields, goal_line, put_of, put_fields, put_line}
use Rattle.cert_text.specs.CertText.{put_words, goal_words, PutFits, GoalFits}
use Rattle.cert_text.proofs.Forms.{IsFieldForm}
use Rattle.cert_text.proofs.Choices.{made_ok, chosen, word_is, after_ok, small_take, small_within, small_plain}
use Rattle.cert_text.proofs.HeadForms.{count_takes, count_again}
use Rattle.ballot_form.specs.declared.limits.TheConstants.{MOST_BALLOTS}
use Rattle.cert_text.specs.declared.limits.TheConstants.{GREATEST_CANDIDATE}

put_behind : (fields fields' : List (List ℕ)) → fields ≡ fields' → codes "put" ∷ fields ≡ codes "put" ∷ fields'
put_behind fields fields' e = ap (λ (fs : List (List ℕ)). codes "put" ∷ fs) e

put_fields_take : (fields : List (List ℕ)) (x : Put) → put_fields fields ≡ Ok x → (codes "put" ∷ fields ≡ put_words x) × PutFits x
put_fields_take [] x e = absurd cc
put_fields_take (f ∷ fields) x e =
    let m = made_ok put_of (both (number_within 0 MOST_BALLOTS f) (numbers_of 0 GREATEST_CANDIDATE fields)) x e in
    let b = both_ok (number_within 0 MOST_BALLOTS f) (numbers_of 0 GREATEST_CANDIDATE fields) m.0 m.1 in
    let s = number_takes 0 MOST_BALLOTS f m.0.0 (omega arith) b.0 in
    let t = numbers_take 0 GREATEST_CANDIDATE fields m.0.1 (omega arith) b.1 in
    subst (λ y. (codes "put" ∷ f ∷ fields ≡ put_words y) × PutFits y) m.2
    (put_behind (f ∷ fields) (decimal m.0.0 ∷ map decimal m.0.1) (same_fields f (decimal m.0.0) fields (map decimal m.0.1) s.0 t.spelled), (s.2, small_take GREATEST_CANDIDATE m.0.1 t.within))

put_takes : (fields : List (List ℕ)) (x : Put) → put_line fields ≡ Ok x → (fields ≡ put_words x) × PutFits x
put_takes fields x e =
    let a = after_ok (codes "put") put_fields fields x e in
    let t = put_fields_take a.0 x a.2 in
    (a.1 ∙ t.0, t.1)

put_again : (x : Put) → PutFits x → put_line (put_words x) ≡ Ok x
put_again x h =
    let first : number_within 0 MOST_BALLOTS (decimal x.number) ≡ Ok x.number = number_again 0 MOST_BALLOTS x.number (omega arith) (omega arith) h.0 in
    let others = numbers_again 0 GREATEST_CANDIDATE x.ballot (omega arith) (small_within GREATEST_CANDIDATE x.ballot h.1) in
    ap (made put_of) (ap (λ n. both n (numbers_of 0 GREATEST_CANDIDATE (map decimal x.ballot))) first ∙ ap (λ n. both (Ok x.number) n) others)

pub put_form : IsFieldForm Put put_line put_words PutFits
put_form = record {
  takes = put_takes;
  again = put_again;
  plain = λ x h. ((refl, refl), (number_plain x.number (omega (arith, h.0)), small_plain GREATEST_CANDIDATE x.ballot (omega arith) h.1));
  some = λ x. (codes "put", decimal x.number ∷ map decimal x.ballot, refl);
}

abbrev IsGoal : ℕ → List (List ℕ) → GoalText → Type 0
IsGoal c fields x = (codes "goal" ∷ fields ≡ goal_words x) × GoalFits c x

goal_behind : (kind word : List ℕ) (fields fields' : List (List ℕ)) → kind ≡ word → fields ≡ fields' → codes "goal" ∷ kind ∷ fields ≡ codes "goal" ∷ word ∷ fields'
goal_behind kind word fields fields' e e' = ap (λ (fs : List (List ℕ)). codes "goal" ∷ fs) (same_fields kind word fields fields' e e')

order_takes : (c : ℕ) (k : List ℕ) (fields : List (List ℕ)) (x : GoalText) → k ≡ codes "order" → made Order (count_of c 0 GREATEST_CANDIDATE fields) ≡ Ok x → IsGoal c (k ∷ fields) x
order_takes c k fields x is e =
    let m = made_ok Order (count_of c 0 GREATEST_CANDIDATE fields) x e in
    let t = count_takes c GREATEST_CANDIDATE fields m.0 (omega arith) m.1 in
    subst (λ y. IsGoal c (k ∷ fields) y) m.2 (goal_behind k (codes "order") fields (map decimal m.0) is t.spelled, (t.count, t.small))

pair_takes : (c : ℕ) (k : List ℕ) (fields : List (List ℕ)) (x : GoalText) → k ≡ codes "pair" → made (λ (y : ℕ × ℕ). Pair y.0 y.1) (two_of (0, GREATEST_CANDIDATE) (0, GREATEST_CANDIDATE) fields) ≡ Ok x → IsGoal c (k ∷ fields) x
pair_takes c k fields x is e =
    let make : ℕ × ℕ → GoalText = λ y. Pair y.0 y.1 in
    let m = made_ok make (two_of (0, GREATEST_CANDIDATE) (0, GREATEST_CANDIDATE) fields) x e in
    let t = two_takes 0 GREATEST_CANDIDATE 0 GREATEST_CANDIDATE fields m.0 (omega arith) (omega arith) m.1 in
    subst (λ y. IsGoal c (k ∷ fields) y) m.2 (goal_behind k (codes "pair") fields (decimal m.0.0 ∷ decimal m.0.1 ∷ []) is t.0, (t.1.1, t.2.1))

cover_takes : (c : ℕ) (k : List ℕ) (fields : List (List ℕ)) (x : GoalText) → k ≡ codes "cover" → made Cover (one_of 0 GREATEST_CANDIDATE fields) ≡ Ok x → IsGoal c (k ∷ fields) x
cover_takes c k fields x is e =
    let m = made_ok Cover (one_of 0 GREATEST_CANDIDATE fields) x e in
    let t = one_takes 0 GREATEST_CANDIDATE fields m.0 (omega arith) m.1 in
    subst (λ y. IsGoal c (k ∷ fields) y) m.2 (goal_behind k (codes "cover") fields (decimal m.0 ∷ []) is t.0, t.1.1)

goal_of_takes : (c : ℕ) (k : List ℕ) (fields : List (List ℕ)) (x : GoalText) → goal_of c k fields ≡ Ok x → IsGoal c (k ∷ fields) x
goal_of_takes c k fields x e =
    let cover : Result GoalText LineFault = made Cover (one_of 0 GREATEST_CANDIDATE fields) in
    let pair : Result GoalText LineFault = made (λ (y : ℕ × ℕ). Pair y.0 y.1) (two_of (0, GREATEST_CANDIDATE) (0, GREATEST_CANDIDATE) fields) in
    let order : Result GoalText LineFault = made Order (count_of c 0 GREATEST_CANDIDATE fields) in
    elim (chosen (bytes_eq k (codes "order")) order (cond (bytes_eq k (codes "pair")) pair (cond (bytes_eq k (codes "cover")) cover (Err BadLine))) (Ok x) e) [
      | inl a ↦ order_takes c k fields x (word_is k (codes "order") a.0) a.1
      | inr a ↦ elim (chosen (bytes_eq k (codes "pair")) pair (cond (bytes_eq k (codes "cover")) cover (Err BadLine)) (Ok x) a.1) [
        | inl b ↦ pair_takes c k fields x (word_is k (codes "pair") b.0) b.1
        | inr b ↦ elim (chosen (bytes_eq k (codes "cover")) cover (Err BadLine) (Ok x) b.1) [
          | inl d ↦ cover_takes c k fields x (word_is k (codes "cover") d.0) d.1
          | inr d ↦ absurd (let no = d.1 in cc)
        ]
      ]
    ]

goal_fields_take : (c : ℕ) (fields : List (List ℕ)) (x : GoalText) → goal_fields c fields ≡ Ok x → IsGoal c fields x
goal_fields_take c [] x e = absurd cc
goal_fields_take c (k ∷ fields) x e = goal_of_takes c k fields x e

goal_takes : (c : ℕ) (fields : List (List ℕ)) (x : GoalText) → goal_line c fields ≡ Ok x → (fields ≡ goal_words x) × GoalFits c x
goal_takes c fields x e =
    let a = after_ok (codes "goal") (goal_fields c) fields x e in
    let t = goal_fields_take c a.0 x a.2 in
    (a.1 ∙ t.0, t.1)

goal_again : (c : ℕ) (x : GoalText) → GoalFits c x → goal_line c (goal_words x) ≡ Ok x
goal_again c (Order ns) h = ap (made Order) (count_again c GREATEST_CANDIDATE ns (omega arith) h.0 h.1)
goal_again c (Pair g l) h = let make : ℕ × ℕ → GoalText = λ y. Pair y.0 y.1 in ap (made make) (two_again 0 GREATEST_CANDIDATE 0 GREATEST_CANDIDATE g l (omega arith) (omega arith) (omega arith, h.0) (omega arith, h.1))
goal_again c (Cover x) h = ap (made Cover) (one_again 0 GREATEST_CANDIDATE x (omega arith) (omega arith, h))

goal_plain : (c : ℕ) (x : GoalText) → GoalFits c x → ArePlain (goal_words x)
goal_plain c (Order ns) h = ((refl, refl), ((refl, refl), small_plain GREATEST_CANDIDATE ns (omega arith) h.1))
goal_plain c (Pair g l) h = ((refl, refl), ((refl, refl), (number_plain g (omega (arith, h.0)), (number_plain l (omega (arith, h.1)), tt))))
goal_plain c (Cover x) h = ((refl, refl), ((refl, refl), (number_plain x (omega (arith, h)), tt)))

goal_some : (x : GoalText) → (w : List ℕ) × (ws : List (List ℕ)) × (goal_words x ≡ w ∷ ws)
goal_some (Order ns) = (codes "goal", codes "order" ∷ map decimal ns, refl)
goal_some (Pair g l) = (codes "goal", codes "pair" ∷ decimal g ∷ decimal l ∷ [], refl)
goal_some (Cover x) = (codes "goal", codes "cover" ∷ decimal x ∷ [], refl)

pub goal_form : (c : ℕ) → IsFieldForm GoalText (goal_line c) goal_words (GoalFits c)
goal_form c = record { takes = goal_takes c; again = goal_again c; plain = goal_plain c; some = goal_some }
