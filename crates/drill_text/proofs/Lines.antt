-- The lines of a drill, piece by piece.
use Rattle.std.proofs.Common.{ℕ, List, [], ◌∷◌, ◌++◌, ◌≡◌, ◌∙◌, refl, sym, ap, append_assoc}
use Rattle.std.specs.Prelude.{codes, decimal}
use Rattle.std.proofs.lemmas.Grind.{flat_map-append}
use Rattle.std.proofs.lemmas.List.{append-nil}
use Rattle.std.proofs.lemmas.List.Concat.{flat_map-cons}
use Rattle.ballot_form.specs.Rules.{name_of_rule, text_of_name}
use Rattle.ballot_form.specs.declared.rule.Rule.{Rule}
use Rattle.cert_text.specs.CertText.{claim_words, seats_words}
use Rattle.cert_text.specs.declared.cert.Claim.{Claim}
use Rattle.text_lines.specs.Words.{line_of, line_text}
use Rattle.text_lines.proofs.Writing.{line_by_spaces}
use Rattle.drill_text.specs.Drills.{drill_words, spaced}

-- the words after the claim
last_words : (nodes : ℕ) → spaced (codes "nodes" ∷ decimal nodes ∷ []) ≡ codes " nodes" ++ (32 ∷ decimal nodes)
last_words nodes =
    flat_map-cons (λ word. 32 ∷ word) (codes "nodes") (decimal nodes ∷ [])
    ∙ ap (λ (t : List ℕ). codes " nodes" ++ t) (flat_map-cons (λ word. 32 ∷ word) (decimal nodes) [] ∙ append-nil (32 ∷ decimal nodes))

five : (t n s c e z : List ℕ) → ((t ++ (n ++ s)) ++ c) ++ (e ++ z) ≡ t ++ ((n ++ (s ++ (c ++ e))) ++ z)
five t n s c e z =
    append_assoc (t ++ (n ++ s)) c (e ++ z) ∙ append_assoc t (n ++ s) (c ++ (e ++ z))
    ∙ ap (λ (x : List ℕ). t ++ x)
    (append_assoc n s (c ++ (e ++ z))
    ∙ sym (append_assoc n (s ++ (c ++ e)) z ∙ ap (λ (x : List ℕ). n ++ x) (append_assoc s (c ++ e) z ∙ ap (λ (x : List ℕ). s ++ x) (append_assoc c e z))))

whole_line : (rule : Rule) (claim : Claim) (nodes : ℕ)
    → line_of (drill_words rule claim nodes) ≡ text_of_name (name_of_rule rule) ++ (spaced (seats_words rule) ++ (spaced (claim_words claim) ++ (codes " nodes" ++ (32 ∷ decimal nodes))))
whole_line rule claim nodes =
    let tail = codes "nodes" ∷ decimal nodes ∷ [] in
    line_by_spaces (text_of_name (name_of_rule rule)) (seats_words rule ++ (claim_words claim ++ tail))
    ∙ ap (λ (t : List ℕ). text_of_name (name_of_rule rule) ++ t)
    (flat_map-append (λ word. 32 ∷ word) (seats_words rule) (claim_words claim ++ tail)
    ∙ ap (λ (t : List ℕ). spaced (seats_words rule) ++ t)
    (flat_map-append (λ word. 32 ∷ word) (claim_words claim) tail ∙ ap (λ (t : List ℕ). spaced (claim_words claim) ++ t) (last_words nodes)))

-- the pieces of a rule's line
pub pieces : (text : List ℕ) (rule : Rule) (claim : Claim) (nodes : ℕ)
    → ((text ++ (text_of_name (name_of_rule rule) ++ spaced (seats_words rule))) ++ spaced (claim_words claim)) ++ line_text (codes " nodes" ∷ decimal nodes ∷ [])
    ≡ text ++ line_text (drill_words rule claim nodes)
pieces text rule claim nodes =
    five text (text_of_name (name_of_rule rule)) (spaced (seats_words rule)) (spaced (claim_words claim)) (codes " nodes" ++ (32 ∷ decimal nodes)) (10 ∷ [])
    ∙ ap (λ (t : List ℕ). text ++ (t ++ 10 ∷ [])) (sym (whole_line rule claim nodes))
