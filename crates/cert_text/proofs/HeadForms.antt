-- The lines at the head of a certificate, each by its form.
use Rattle.std.proofs.Common.{◌≡◌, ℕ, ◌≤◌, ◌<◌, ◌^◌, Bool, true, false, cond, not, eqb, List, [], ◌∷◌, length, map, Option, Some, None, Result, Ok, Err, refl, sym, ap, ◌∙◌, subst, arith, inl, inr}
use Rattle.std.specs.Prelude.{All, codes, decimal}
use Rattle.std.specs.Str.{bytes_eq}
use Rattle.std.proofs.lemmas.Bool.{eqb-true, eq-eqb}
use Rattle.std.proofs.lemmas.List.{length-map}
use Rattle.ballot_form.specs.Rules.{IsRule, name_of_text, text_of_name}
use Rattle.ballot_form.specs.declared.rule.RuleName.{RuleName}
use Rattle.ballot_form.specs.declared.rule.RuleName.TheVariants as named
use Rattle.ballot_form.specs.declared.rule.Rule.{Rule}
use Rattle.ballot_form.specs.declared.rule.Rule.TheVariants.{Plurality, Borda, Condorcet, Dhondt, Irv}
use Rattle.text_lines.specs.declared.fault.LineFault.{LineFault}
use Rattle.text_lines.specs.declared.fault.LineFault.TheVariants.{BadLine}
use Rattle.text_lines.specs.Faults.{both}
use Rattle.text_lines.specs.Forms.{number_within, made, alone, one_of, two_of, numbers_of, count_of}
use Rattle.text_lines.proofs.Inverse.{number_takes, number_again}
use Rattle.text_lines.proofs.Many.{both_ok, one_takes, one_again, two_takes, two_again, numbers_take, numbers_again, same_fields}
use Rattle.text_lines.proofs.Joining.{ArePlain, number_plain}
use Rattle.cert_text.specs.declared.cert.Stop.{Stop}
use Rattle.cert_text.specs.declared.cert.Stop.TheVariants.{Budget, Depth}
use Rattle.cert_text.specs.declared.cert.Claim.{Claim}
use Rattle.cert_text.specs.declared.cert.Claim.TheVariants.{Margin, Fixed, Bounds}
use Rattle.cert_text.specs.HeadLines.{first_line, named_rule, rule_fields, rule_line, size_line, stop_fields, bounds_fields, claim_line}
use Rattle.cert_text.specs.CertText.{rule_words, size_words, stop_words, claim_words, SizeFits, StopFits, ClaimFits}
use Rattle.cert_text.proofs.Forms.{IsForm, IsFieldForm}
use Rattle.cert_text.proofs.Choices.{guard_ok, made_ok, chosen, word_is, after_ok, alone_ok, is_ok, small_take, small_within}
use Rattle.ballot_form.specs.declared.limits.TheConstants.{MOST_BALLOTS, MOST_CANDIDATES, MOST_SEATS}
use Rattle.cert_text.specs.declared.limits.TheConstants.{MOST_BUDGET}

-- ---- the first line

first_takes : (l : List ℕ) (x : Unit {0}) → first_line l ≡ Ok x → (l ≡ codes "movcert 1") × Unit {0}
first_takes l x e = elim (chosen (bytes_eq l (codes "movcert 1")) (Ok tt) (Err BadLine) (Ok x) e) [
  | inl a ↦ (word_is l (codes "movcert 1") a.0, tt)
  | inr a ↦ absurd (let no = a.1 in cc)
]

pub first_form : IsForm (Unit {0}) first_line (λ x. codes "movcert 1") (λ x. Unit {0})
first_form = record {
  takes = first_takes;
  again = λ x h. refl;
  unbroken = λ x h. refl;
}

-- ---- exactly so many numbers

not_false : (b : Bool) → not b ≡ false → b ≡ true
not_false true e = refl
not_false false e = absurd cc

pub record AreCounted (many high : ℕ) (fields : List (List ℕ)) (ns : List ℕ) : Type 0 where
  pub spelled : fields ≡ map decimal ns
  pub count : length ns ≡ many
  pub small : All (λ n. n ≤ high) ns

pub count_takes : (many high : ℕ) (fields : List (List ℕ)) (ns : List ℕ) → high < 2 ^ 64 → count_of many 0 high fields ≡ Ok ns → AreCounted many high fields ns
count_takes many high fields ns fits e =
    let g = guard_ok (not (eqb (length fields) many)) BadLine (numbers_of 0 high fields) ns e in
    let t = numbers_take 0 high fields ns fits g.1 in
    let count : length fields ≡ many = eqb-true _ _ (not_false (eqb (length fields) many) g.0) in
    record { spelled = t.spelled; count = sym (length-map ns decimal) ∙ sym (ap length t.spelled) ∙ count; small = small_take high ns t.within }

pub count_again : (many high : ℕ) (ns : List ℕ) → high < 2 ^ 64 → length ns ≡ many → All (λ n. n ≤ high) ns → count_of many 0 high (map decimal ns) ≡ Ok ns
count_again many high ns fits count h =
    let same : eqb (length (map decimal ns)) many ≡ true = eq-eqb _ _ (length-map ns decimal ∙ count) in
    ap (λ b. cond (not b) (Err BadLine) (numbers_of 0 high (map decimal ns))) same ∙ numbers_again 0 high ns fits (small_within high ns h)

-- ---- rules

abbrev IsRuleLine : List (List ℕ) → Rule → Type 0
IsRuleLine fields x = (fields ≡ rule_words x) × IsRule x

plain_rule : (w v : List ℕ) (fields : List (List ℕ)) (r x : Rule) → IsRule r → w ∷ v ∷ [] ≡ rule_words r → alone (Ok r) fields ≡ Ok x → IsRuleLine (w ∷ v ∷ fields) x
plain_rule w v fields r x is words e =
    let a = alone_ok (Ok r) fields x e in
    subst (λ y. IsRuleLine (w ∷ v ∷ fields) y) (is_ok r x a.1) (ap (λ (fs : List (List ℕ)). w ∷ v ∷ fs) a.0 ∙ words, is)

two_words : (w v w' v' : List ℕ) → w ≡ w' → v ≡ v' → w ∷ v ∷ [] ≡ w' ∷ v' ∷ []
two_words w v w' v' e e' = same_fields w w' (v ∷ []) (v' ∷ []) e (same_fields v v' [] [] e' refl)

dhondt_takes : (w v : List ℕ) (fields : List (List ℕ)) (x : Rule) → w ≡ codes "rule" → v ≡ codes "dhondt" → made Dhondt (one_of 1 MOST_SEATS fields) ≡ Ok x → IsRuleLine (w ∷ v ∷ fields) x
dhondt_takes w v fields x is is' e =
    let m = made_ok Dhondt (one_of 1 MOST_SEATS fields) x e in
    let t = one_takes 1 MOST_SEATS fields m.0 (omega arith) m.1 in
    subst (λ y. IsRuleLine (w ∷ v ∷ fields) y) m.2 (same_fields w (codes "rule") (v ∷ fields) (codes "dhondt" ∷ decimal m.0 ∷ []) is (same_fields v (codes "dhondt") fields (decimal m.0 ∷ []) is' t.0), (t.1.0, t.1.1))

-- a text that names a rule is its name
name_is : (v : List ℕ) (n : RuleName) → name_of_text v ≡ Some n → v ≡ text_of_name n
name_is v n e = by_word (codes "plurality") named.Plurality refl _ (λ e.
    by_word (codes "borda") named.Borda refl _ (λ e.
    by_word (codes "condorcet") named.Condorcet refl _ (λ e.
    by_word (codes "dhondt") named.Dhondt refl _ (λ e.
    by_word (codes "irv") named.Irv refl None (λ e. absurd cc) e) e) e) e) e
  where
    by_word : (word : List ℕ) (name : RuleName) → word ≡ text_of_name name → (rest : Option RuleName) → (rest ≡ Some n → v ≡ text_of_name n) → cond (bytes_eq v word) (Some name) rest ≡ Some n → v ≡ text_of_name n
    by_word word name is rest otherwise e = elim (chosen (bytes_eq v word) (Some name) rest (Some n) e) [
      | inl a ↦ word_is v word a.0 ∙ is ∙ ap text_of_name (let same = a.1 in cc)
      | inr a ↦ otherwise a.1
    ]

named_takes : (w v : List ℕ) (o : Option RuleName) (fields : List (List ℕ)) (x : Rule) → w ≡ codes "rule" → name_of_text v ≡ o → named_rule o fields ≡ Ok x → IsRuleLine (w ∷ v ∷ fields) x
named_takes w v None fields x is at e = absurd cc
named_takes w v (Some named.Plurality) fields x is at e = plain_rule w v fields Plurality x tt (two_words w v (codes "rule") (codes "plurality") is (name_is v named.Plurality at)) e
named_takes w v (Some named.Borda) fields x is at e = plain_rule w v fields Borda x tt (two_words w v (codes "rule") (codes "borda") is (name_is v named.Borda at)) e
named_takes w v (Some named.Condorcet) fields x is at e = plain_rule w v fields Condorcet x tt (two_words w v (codes "rule") (codes "condorcet") is (name_is v named.Condorcet at)) e
named_takes w v (Some named.Dhondt) fields x is at e = dhondt_takes w v fields x is (name_is v named.Dhondt at) e
named_takes w v (Some named.Irv) fields x is at e = plain_rule w v fields Irv x tt (two_words w v (codes "rule") (codes "irv") is (name_is v named.Irv at)) e

rule_fields_take : (w : List ℕ) (fields : List (List ℕ)) (x : Rule) → w ≡ codes "rule" → rule_fields fields ≡ Ok x → IsRuleLine (w ∷ fields) x
rule_fields_take w [] x is e = absurd cc
rule_fields_take w (v ∷ fields) x is e = named_takes w v (name_of_text v) fields x is refl e

rule_takes : (fields : List (List ℕ)) (x : Rule) → rule_line fields ≡ Ok x → IsRuleLine fields x
rule_takes fields x e =
    let a = after_ok (codes "rule") rule_fields fields x e in
    subst (λ fs. IsRuleLine fs x) (sym a.1) (rule_fields_take (codes "rule") a.0 x refl a.2)

rule_again : (x : Rule) → IsRule x → rule_line (rule_words x) ≡ Ok x
rule_again Plurality h = refl
rule_again Borda h = refl
rule_again Condorcet h = refl
rule_again Irv h = refl
rule_again (Dhondt s) h = ap (made Dhondt) (one_again 1 MOST_SEATS s (omega arith) (h.0, h.1))

rule_plain : (x : Rule) → IsRule x → ArePlain (rule_words x)
rule_plain Plurality h = ((refl, refl), ((refl, refl), tt))
rule_plain Borda h = ((refl, refl), ((refl, refl), tt))
rule_plain Condorcet h = ((refl, refl), ((refl, refl), tt))
rule_plain Irv h = ((refl, refl), ((refl, refl), tt))
rule_plain (Dhondt s) h = ((refl, refl), ((refl, refl), (number_plain s (omega (arith, h.1)), tt)))

rule_some : (x : Rule) → (w : List ℕ) × (ws : List (List ℕ)) × (rule_words x ≡ w ∷ ws)
rule_some Plurality = (codes "rule", codes "plurality" ∷ [], refl)
rule_some Borda = (codes "rule", codes "borda" ∷ [], refl)
rule_some Condorcet = (codes "rule", codes "condorcet" ∷ [], refl)
rule_some Irv = (codes "rule", codes "irv" ∷ [], refl)
rule_some (Dhondt s) = (codes "rule", codes "dhondt" ∷ decimal s ∷ [], refl)

pub rule_form : IsFieldForm Rule rule_line rule_words IsRule
rule_form = record { takes = rule_takes; again = rule_again; plain = rule_plain; some = rule_some }

-- ---- sizes

size_takes : (fields : List (List ℕ)) (x : ℕ × ℕ) → size_line fields ≡ Ok x → (fields ≡ size_words x) × SizeFits x
size_takes fields x e =
    let a = after_ok (codes "size") (two_of (1, MOST_CANDIDATES) (0, MOST_BALLOTS)) fields x e in
    let t = two_takes 1 MOST_CANDIDATES 0 MOST_BALLOTS a.0 x (omega arith) (omega arith) a.2 in
    (a.1 ∙ ap (λ (fs : List (List ℕ)). codes "size" ∷ fs) t.0, (t.1.0, t.1.1, t.2.1))

pub size_form : IsFieldForm (ℕ × ℕ) size_line size_words SizeFits
size_form = record {
  takes = size_takes;
  again = λ x h. two_again 1 MOST_CANDIDATES 0 MOST_BALLOTS x.0 x.1 (omega arith) (omega arith) (h.0, h.1) (omega arith, h.2);
  plain = λ x h. ((refl, refl), (number_plain x.0 (omega (arith, h.1)), (number_plain x.1 (omega (arith, h.2)), tt)));
  some = λ x. (codes "size", decimal x.0 ∷ decimal x.1 ∷ [], refl);
}

-- ---- claims

stop_takes : (fields : List (List ℕ)) (x : Stop) → stop_fields fields ≡ Ok x → (fields ≡ stop_words x) × StopFits x
stop_takes [] x e = absurd cc
stop_takes (w ∷ fields) x e = elim (chosen (bytes_eq w (codes "budget")) (made Budget (one_of 1 MOST_BUDGET fields)) (cond (bytes_eq w (codes "depth")) (alone (Ok Depth) fields) (Err BadLine)) (Ok x) e) [
  | inl a ↦
      let m = made_ok Budget (one_of 1 MOST_BUDGET fields) x a.1 in
      let t = one_takes 1 MOST_BUDGET fields m.0 (omega arith) m.1 in
      subst (λ y. (w ∷ fields ≡ stop_words y) × StopFits y) m.2 (same_fields w (codes "budget") fields (decimal m.0 ∷ []) (word_is w (codes "budget") a.0) t.0, (t.1.0, t.1.1))
  | inr a ↦ elim (chosen (bytes_eq w (codes "depth")) (alone (Ok Depth) fields) (Err BadLine) (Ok x) a.1) [
    | inl b ↦
        let t = alone_ok (Ok Depth) fields x b.1 in
        subst (λ y. (w ∷ fields ≡ stop_words y) × StopFits y) (is_ok Depth x t.1) (same_fields w (codes "depth") fields [] (word_is w (codes "depth") b.0) t.0, tt)
    | inr b ↦ absurd (let no = b.1 in cc)
  ]
]

stop_again : (x : Stop) → StopFits x → stop_fields (stop_words x) ≡ Ok x
stop_again (Budget n) h = ap (made Budget) (one_again 1 MOST_BUDGET n (omega arith) (h.0, h.1))
stop_again Depth h = refl

stop_plain : (x : Stop) → StopFits x → ArePlain (stop_words x)
stop_plain (Budget n) h = ((refl, refl), (number_plain n (omega (arith, h.1)), tt))
stop_plain Depth h = ((refl, refl), tt)

abbrev IsClaimLine : List (List ℕ) → Claim → Type 0
IsClaimLine fields x = (fields ≡ claim_words x) × ClaimFits x

abbrev bounds : ℕ × (ℕ × Stop) → Claim
bounds x = Bounds x.0 x.1.0 x.1.1

bounds_take : (w : List ℕ) (fields : List (List ℕ)) (x : Claim) → w ≡ codes "bounds" → bounds_fields fields ≡ Ok x → IsClaimLine (w ∷ fields) x
bounds_take w [] x is e = absurd cc
bounds_take w (f ∷ []) x is e = absurd cc
bounds_take w (f ∷ g ∷ fields) x is e =
    let m = made_ok bounds (both (number_within 0 MOST_BALLOTS f) (both (number_within 0 MOST_BALLOTS g) (stop_fields fields))) x e in
    let b = both_ok (number_within 0 MOST_BALLOTS f) (both (number_within 0 MOST_BALLOTS g) (stop_fields fields)) m.0 m.1 in
    let d = both_ok (number_within 0 MOST_BALLOTS g) (stop_fields fields) m.0.1 b.1 in
    let low = number_takes 0 MOST_BALLOTS f m.0.0 (omega arith) b.0 in
    let up = number_takes 0 MOST_BALLOTS g m.0.1.0 (omega arith) d.0 in
    let stop = stop_takes fields m.0.1.1 d.1 in
    subst (λ y. IsClaimLine (w ∷ f ∷ g ∷ fields) y) m.2 (
      same_fields w (codes "bounds") (f ∷ g ∷ fields) (decimal m.0.0 ∷ decimal m.0.1.0 ∷ stop_words m.0.1.1) is
          (same_fields f (decimal m.0.0) (g ∷ fields) (decimal m.0.1.0 ∷ stop_words m.0.1.1) low.0 (same_fields g (decimal m.0.1.0) fields (stop_words m.0.1.1) up.0 stop.0)),
      (low.2, up.2, stop.1),
    )

claim_takes : (fields : List (List ℕ)) (x : Claim) → claim_line fields ≡ Ok x → IsClaimLine fields x
claim_takes [] x e = absurd cc
claim_takes (w ∷ fields) x e =
    let last : Result Claim LineFault = cond (bytes_eq w (codes "bounds")) (bounds_fields fields) (Err BadLine) in
    let fixed : Result Claim LineFault = cond (bytes_eq w (codes "fixed")) (alone (Ok Fixed) fields) last in
    elim (chosen (bytes_eq w (codes "margin")) (made Margin (one_of 0 MOST_BALLOTS fields)) fixed (Ok x) e) [
      | inl a ↦
          let m = made_ok Margin (one_of 0 MOST_BALLOTS fields) x a.1 in
          let t = one_takes 0 MOST_BALLOTS fields m.0 (omega arith) m.1 in
          subst (λ y. IsClaimLine (w ∷ fields) y) m.2 (same_fields w (codes "margin") fields (decimal m.0 ∷ []) (word_is w (codes "margin") a.0) t.0, t.1.1)
      | inr a ↦ elim (chosen (bytes_eq w (codes "fixed")) (alone (Ok Fixed) fields) last (Ok x) a.1) [
        | inl b ↦
            let t = alone_ok (Ok Fixed) fields x b.1 in
            subst (λ y. IsClaimLine (w ∷ fields) y) (is_ok Fixed x t.1) (same_fields w (codes "fixed") fields [] (word_is w (codes "fixed") b.0) t.0, tt)
        | inr b ↦ elim (chosen (bytes_eq w (codes "bounds")) (bounds_fields fields) (Err BadLine) (Ok x) b.1) [
          | inl d ↦ bounds_take w fields x (word_is w (codes "bounds") d.0) d.1
          | inr d ↦ absurd (let no = d.1 in cc)
        ]
      ]
    ]

claim_again : (x : Claim) → ClaimFits x → claim_line (claim_words x) ≡ Ok x
claim_again (Margin k) h = ap (made Margin) (one_again 0 MOST_BALLOTS k (omega arith) (omega arith, h))
claim_again Fixed h = refl
claim_again (Bounds low up stop) h =
    let first : number_within 0 MOST_BALLOTS (decimal low) ≡ Ok low = number_again 0 MOST_BALLOTS low (omega arith) (omega arith) h.0 in
    let second : number_within 0 MOST_BALLOTS (decimal up) ≡ Ok up = number_again 0 MOST_BALLOTS up (omega arith) (omega arith) h.1 in
    let third = stop_again stop h.2 in
    ap (λ n. made bounds (both n (both (number_within 0 MOST_BALLOTS (decimal up)) (stop_fields (stop_words stop))))) first
    ∙ ap (λ n. made bounds (both (Ok low) (both n (stop_fields (stop_words stop))))) second
    ∙ ap (λ n. made bounds (both (Ok low) (both (Ok up) n))) third

claim_plain : (x : Claim) → ClaimFits x → ArePlain (claim_words x)
claim_plain (Margin k) h = ((refl, refl), (number_plain k (omega (arith, h)), tt))
claim_plain Fixed h = ((refl, refl), tt)
claim_plain (Bounds low up stop) h = ((refl, refl), (number_plain low (omega (arith, h.0)), (number_plain up (omega (arith, h.1)), stop_plain stop h.2)))

claim_some : (x : Claim) → (w : List ℕ) × (ws : List (List ℕ)) × (claim_words x ≡ w ∷ ws)
claim_some (Margin k) = (codes "margin", decimal k ∷ [], refl)
claim_some Fixed = (codes "fixed", [], refl)
claim_some (Bounds low up stop) = (codes "bounds", decimal low ∷ decimal up ∷ stop_words stop, refl)

pub claim_form : IsFieldForm Claim claim_line claim_words ClaimFits
claim_form = record { takes = claim_takes; again = claim_again; plain = claim_plain; some = claim_some }
