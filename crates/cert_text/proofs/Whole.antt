-- One text for each certificate, and one certificate for each text.
use Rattle.std.proofs.Common.{◌≡◌, ℕ, ◌+◌, Bool, true, false, cond, eqb, List, [], ◌∷◌, ◌++◌, length, Option, Some, None, Result, Ok, Err, refl, sym, ap, ◌∙◌, subst, arith}
use Rattle.std.specs.Prelude.{codes, ◌↔◌}
use Rattle.std.proofs.lemmas.Bool.{eqb-true}
use Rattle.std.proofs.lemmas.List.{append-nil, nil_from_length}
use Rattle.std.proofs.lemmas.List.Elements.{All-from_recursion, recursion_from_All}
use Rattle.ballot_form.specs.Rules.{IsRule}
use Rattle.ballot_form.specs.declared.rule.Rule.{Rule}
use Rattle.ballot_form.specs.declared.outcome.Outcome.{Outcome}
use Rattle.alteration_model.specs.declared.puts.Put.{Put}
use Rattle.bound_tree.specs.Nodes.{size}
use Rattle.text_lines.specs.Words.{fields_of, line_of}
use Rattle.cert_text.specs.declared.fault.CertFault.{CertFault}
use Rattle.cert_text.specs.declared.fault.CertKind.TheVariants.{Tail}
use Rattle.cert_text.specs.declared.cert.Cert.{Cert}
use Rattle.cert_text.specs.declared.cert.Claim.{Claim}
use Rattle.cert_text.specs.declared.cert.Claim.TheVariants.{Margin, Fixed, Bounds}
use Rattle.cert_text.specs.declared.cert.GoalText.{GoalText}
use Rattle.cert_text.specs.Faults.{fault}
use Rattle.cert_text.specs.Reading.{◌>>=◌, TextLeft, form_at}
use Rattle.cert_text.specs.HeadLines.{first_line, rule_line, size_line, reported_line, claim_line, goal_line, put_line}
use Rattle.cert_text.specs.TreeReading.{node_at}
use Rattle.cert_text.specs.CertReading.{turn_at, body_at, cert_at, first_fault}
use Rattle.text_lines.specs.Words.{line_text}
use Rattle.cert_text.specs.CertText.{rule_words, size_words, outcome_words, claim_words, put_words, goal_words, goal_text, puts_text, tree_text, cert_text, SizeFits, OutcomeFits, ClaimFits, PutFits, GoalFits, TurnFits, BodyFits, IsPrintable, CertText}
use Rattle.cert_text.proofs.Cutting.{bind_ok, ok_is}
use Rattle.cert_text.proofs.Forms.{IsForm, line_form, form_takes, form_again, many_take, many_again}
use Rattle.cert_text.proofs.HeadForms.{first_form, rule_form, size_form, claim_form}
use Rattle.cert_text.proofs.OutcomeForms.{outcome_form}
use Rattle.cert_text.proofs.TurnForms.{put_form, goal_form}
use Rattle.cert_text.proofs.Trees.{node_takes, node_again}
use Rattle.cert_text.proofs.Steps.{rule_at, size_at, reported_at, claim_at, goal_at, puts_at, Body, cert_of, after_tree, after_body, after_claim, after_reported, after_size, after_rule, after_first, by_lines}
use Rattle.bound_tree.specs.declared.bound.TheConstants.{MOST_DEPTH}

-- ---- each line as a line of a text

rule_lines : IsForm Rule (λ l. rule_line (fields_of l)) (λ x. line_of (rule_words x)) IsRule
rule_lines = line_form Rule rule_line rule_words IsRule rule_form

size_lines : IsForm (ℕ × ℕ) (λ l. size_line (fields_of l)) (λ x. line_of (size_words x)) SizeFits
size_lines = line_form (ℕ × ℕ) size_line size_words SizeFits size_form

reported_lines : (rule : Rule) (c : ℕ) → IsForm Outcome (λ l. reported_line rule c (fields_of l)) (λ x. line_of (outcome_words x)) (OutcomeFits rule c)
reported_lines rule c = line_form Outcome (reported_line rule c) outcome_words (OutcomeFits rule c) (outcome_form rule c)

claim_lines : IsForm Claim (λ l. claim_line (fields_of l)) (λ x. line_of (claim_words x)) ClaimFits
claim_lines = line_form Claim claim_line claim_words ClaimFits claim_form

goal_lines : (c : ℕ) → IsForm GoalText (λ l. goal_line c (fields_of l)) (λ x. line_of (goal_words x)) (GoalFits c)
goal_lines c = line_form GoalText (goal_line c) goal_words (GoalFits c) (goal_form c)

put_lines : IsForm Put (λ l. put_line (fields_of l)) (λ x. line_of (put_words x)) PutFits
put_lines = line_form Put put_line put_words PutFits put_form

-- ---- what is read is the text of the certificate

record TookTurn (c k : ℕ) (p : TextLeft) (y : Body × TextLeft) : Type 0 where
  spelled : p.1 ≡ goal_text y.0.0 ++ (puts_text y.0.1 ++ y.1.1)
  fits : TurnFits c k y.0.0 y.0.1

record TookBody (c : ℕ) (claim : Claim) (p : TextLeft) (y : Body × TextLeft) : Type 0 where
  spelled : p.1 ≡ goal_text y.0.0 ++ (puts_text y.0.1 ++ y.1.1)
  fits : BodyFits c claim y.0.0 y.0.1

turn_takes : (c k : ℕ) (p : TextLeft) (y : Body × TextLeft) → turn_at c k p ≡ Ok y → TookTurn c k p y
unfolding turn_at
turn_takes c k p y e =
    let a = bind_ok (goal_at c p) (λ goal. puts_at k goal.1 >>= λ puts. Ok ((Some goal.0, puts.0), puts.1)) y e in
    let b = bind_ok (puts_at k a.0.1) (λ puts. Ok ((Some a.0.0, puts.0), puts.1)) y a.2 in
    let goal = form_takes GoalText (λ l. goal_line c (fields_of l)) (λ x. line_of (goal_words x)) (GoalFits c) (goal_lines c) p a.0 a.1 in
    let puts = many_take Put (λ l. put_line (fields_of l)) (λ x. line_of (put_words x)) PutFits put_lines k a.0.1 b.0 b.1 in
    let made : Body × TextLeft = ((Some a.0.0, b.0.0), b.0.1) in
    subst (λ (z : Body × TextLeft). TookTurn c k p z) (ok_is made y b.2) (record {
      spelled = goal.spelled ∙ ap (λ (t : List ℕ). line_text (goal_words a.0.0) ++ t) puts.spelled;
      fits = (goal.fits, puts.count, All-from_recursion PutFits b.0.0 puts.fits);
    })

body_takes : (c : ℕ) (claim : Claim) (p : TextLeft) (y : Body × TextLeft) → body_at c claim p ≡ Ok y → TookBody c claim p y
unfolding body_at
body_takes c Fixed p y e = subst (λ (z : Body × TextLeft). TookBody c Fixed p z) (ok_is ((None, []), p) y e) (record { spelled = refl; fits = (refl, refl) })
body_takes c (Margin k) p y e = let turn = turn_takes c k p y e in record { spelled = turn.spelled; fits = turn.fits }
body_takes c (Bounds low up stop) p y e = let turn = turn_takes c up p y e in record { spelled = turn.spelled; fits = turn.fits }

ended_ok : {A : Type 0} (b : Bool) (d : CertFault) (x y : A) → cond b (Ok x) (Err d) ≡ Ok y → (b ≡ true) × (x ≡ y)
ended_ok true d x y e = (refl, ok_is x y e)
ended_ok false d x y e = absurd cc

-- the text from each line on
abbrev from_body : Cert → List ℕ
from_body x = goal_text x.goal ++ (puts_text x.puts ++ tree_text x.tree)

abbrev from_claim : Cert → List ℕ
from_claim x = line_text (claim_words x.claim) ++ from_body x

abbrev from_reported : Cert → List ℕ
from_reported x = line_text (outcome_words x.reported) ++ from_claim x

abbrev from_size : Cert → List ℕ
from_size x = line_text (size_words (x.c, x.ballots)) ++ from_reported x

abbrev from_rule : Cert → List ℕ
from_rule x = line_text (rule_words x.rule) ++ from_size x

pub cert_takes : (text : List ℕ) (x : Cert) → cert_at text ≡ Ok x → CertText text x
cert_takes text x e =
    let a = bind_ok (form_at first_line (1, text)) after_first x (sym (by_lines text) ∙ e) in
    let r = bind_ok (rule_at a.0.1) after_rule x a.2 in
    let b = bind_ok (size_at r.0.1) (after_size r.0.0) x r.2 in
    let o = bind_ok (reported_at r.0.0 b.0.0.0 b.0.1) (after_reported r.0.0 b.0.0) x b.2 in
    let d = bind_ok (claim_at o.0.1) (after_claim r.0.0 b.0.0 o.0.0) x o.2 in
    let f = bind_ok (body_at b.0.0.0 d.0.0 d.0.1) (after_body r.0.0 b.0.0 o.0.0 d.0.0) x d.2 in
    let g = bind_ok (node_at MOST_DEPTH f.0.1.0 f.0.1) (after_tree r.0.0 b.0.0 o.0.0 d.0.0 f.0.0) x f.2 in
    let made : Cert = cert_of r.0.0 b.0.0 o.0.0 d.0.0 f.0.0 g.0.0 in
    let h = ended_ok (eqb (length g.0.1.1) 0) (fault Tail g.0.1.0) made x g.2 in
    let top = form_takes (Unit {0}) first_line (λ y. codes "movcert 1") (λ y. Unit {0}) first_form (1, text) a.0 a.1 in
    let rule = form_takes Rule (λ l. rule_line (fields_of l)) (λ y. line_of (rule_words y)) IsRule rule_lines a.0.1 r.0 r.1 in
    let sizes = form_takes (ℕ × ℕ) (λ l. size_line (fields_of l)) (λ y. line_of (size_words y)) SizeFits size_lines r.0.1 b.0 b.1 in
    let reported = form_takes Outcome (λ l. reported_line r.0.0 b.0.0.0 (fields_of l)) (λ y. line_of (outcome_words y)) (OutcomeFits r.0.0 b.0.0.0) (reported_lines r.0.0 b.0.0.0) b.0.1 o.0 o.1 in
    let claim = form_takes Claim (λ l. claim_line (fields_of l)) (λ y. line_of (claim_words y)) ClaimFits claim_lines o.0.1 d.0 d.1 in
    let body = body_takes b.0.0.0 d.0.0 d.0.1 f.0 f.1 in
    let tree = node_takes MOST_DEPTH f.0.1.0 f.0.1 g.0 g.1 in
    let nothing : g.0.1.1 ≡ [] = nil_from_length g.0.1.1 (eqb-true _ _ h.0) in
    let rest : f.0.1.1 ≡ tree_text g.0.0 = tree.text ∙ ap (λ (t : List ℕ). tree_text g.0.0 ++ t) nothing ∙ append-nil (tree_text g.0.0) in
    let at_body : d.0.1.1 ≡ from_body made = body.spelled ∙ ap (λ (t : List ℕ). goal_text f.0.0.0 ++ (puts_text f.0.0.1 ++ t)) rest in
    let at_claim : o.0.1.1 ≡ from_claim made = claim.spelled ∙ ap (λ (t : List ℕ). line_text (claim_words d.0.0) ++ t) at_body in
    let at_reported : b.0.1.1 ≡ from_reported made = reported.spelled ∙ ap (λ (t : List ℕ). line_text (outcome_words o.0.0) ++ t) at_claim in
    let at_size : r.0.1.1 ≡ from_size made = sizes.spelled ∙ ap (λ (t : List ℕ). line_text (size_words b.0.0) ++ t) at_reported in
    let at_rule : a.0.1.1 ≡ from_rule made = rule.spelled ∙ ap (λ (t : List ℕ). line_text (rule_words r.0.0) ++ t) at_size in
    let whole : text ≡ cert_text made = top.spelled ∙ ap (λ (t : List ℕ). (codes "movcert 1" ++ 10 ∷ []) ++ t) at_rule in
    subst (λ (z : Cert). CertText text z) h.1 (record {
      printable = record {
        rule = rule.fits;
        sizes = sizes.fits;
        reported = reported.fits;
        claim = claim.fits;
        body = body.fits;
        lines = tree.fits;
        depth = tree.depth;
        nodes = omega (arith, tree.number, tree.few);
      };
      spelled = whole;
    })

-- ---- the text of a certificate is read as it

record TurnAgain (c k n : ℕ) (goal : Option GoalText) (puts : List Put) (rest : List ℕ) : Type 0 where
  number : ℕ
  read : turn_at c k (n, goal_text goal ++ (puts_text puts ++ rest)) ≡ Ok ((goal, puts), (number, rest))

turn_again : (c k : ℕ) (goal : Option GoalText) (puts : List Put) (n : ℕ) (rest : List ℕ) → TurnFits c k goal puts → TurnAgain c k n goal puts rest
unfolding turn_at
turn_again c k None puts n rest h = absurd h
turn_again c k (Some goal) puts n rest h =
    let first = form_again GoalText (λ l. goal_line c (fields_of l)) (λ x. line_of (goal_words x)) (GoalFits c) (goal_lines c) n goal (puts_text puts ++ rest) h.0 in
    let second = many_again Put (λ l. put_line (fields_of l)) (λ x. line_of (put_words x)) PutFits put_lines puts (n + 1) rest (recursion_from_All PutFits puts h.2) in
    let second' : puts_at k (n + 1, puts_text puts ++ rest) ≡ Ok (puts, (n + 1 + length puts, rest)) = ap (λ j. puts_at j (n + 1, puts_text puts ++ rest)) (sym h.1) ∙ second in
    record {
      number = n + 1 + length puts;
      read = ap (λ r. r >>= λ g. puts_at k g.1 >>= λ ps. Ok ((Some g.0, ps.0), ps.1)) first ∙ ap (λ r. r >>= λ ps. Ok ((Some goal, ps.0), ps.1)) second';
    }

body_again : (c : ℕ) (claim : Claim) (goal : Option GoalText) (puts : List Put) (n : ℕ) (rest : List ℕ) → BodyFits c claim goal puts → (m : ℕ) × (body_at c claim (n, goal_text goal ++ (puts_text puts ++ rest)) ≡ Ok ((goal, puts), (m, rest)))
unfolding body_at
body_again c Fixed goal puts n rest h = (n, subst (λ g. body_at c Fixed (n, goal_text g ++ (puts_text puts ++ rest)) ≡ Ok ((g, puts), (n, rest))) (sym h.0) (subst (λ ps. body_at c Fixed (n, puts_text ps ++ rest) ≡ Ok ((None, ps), (n, rest))) (sym h.1) refl))
body_again c (Margin k) goal puts n rest h = let again = turn_again c k goal puts n rest h in (again.number, again.read)
body_again c (Bounds low up stop) goal puts n rest h = let again = turn_again c up goal puts n rest h in (again.number, again.read)

pub cert_again : (x : Cert) → IsPrintable x → cert_at (cert_text x) ≡ Ok x
cert_again x h =
    let sizes : ℕ × ℕ = (x.c, x.ballots) in
    let last = tree_text x.tree in
    let top = form_again (Unit {0}) first_line (λ y. codes "movcert 1") (λ y. Unit {0}) first_form 1 tt (from_rule x) tt in
    let rule = form_again Rule (λ l. rule_line (fields_of l)) (λ y. line_of (rule_words y)) IsRule rule_lines 2 x.rule (from_size x) h.rule in
    let size_read = form_again (ℕ × ℕ) (λ l. size_line (fields_of l)) (λ y. line_of (size_words y)) SizeFits size_lines 3 sizes (from_reported x) h.sizes in
    let reported = form_again Outcome (λ l. reported_line x.rule x.c (fields_of l)) (λ y. line_of (outcome_words y)) (OutcomeFits x.rule x.c) (reported_lines x.rule x.c) 4 x.reported (from_claim x) h.reported in
    let claim = form_again Claim (λ l. claim_line (fields_of l)) (λ y. line_of (claim_words y)) ClaimFits claim_lines 5 x.claim (from_body x) h.claim in
    let body = body_again x.c x.claim x.goal x.puts 6 last h.body in
    let tree : node_at MOST_DEPTH body.0 (body.0, last) ≡ Ok (x.tree, (body.0 + size x.tree, [])) = ap (λ (t : List ℕ). node_at MOST_DEPTH body.0 (body.0, t)) (sym (append-nil last)) ∙ node_again MOST_DEPTH body.0 x.tree body.0 [] h.depth h.lines (omega (arith, h.nodes)) in
    by_lines (cert_text x)
    ∙ ap (λ r. r >>= after_first) top
    ∙ ap (λ r. r >>= after_rule) rule
    ∙ ap (λ r. r >>= after_size x.rule) size_read
    ∙ ap (λ r. r >>= after_reported x.rule sizes) reported
    ∙ ap (λ r. r >>= after_claim x.rule sizes x.reported) claim
    ∙ ap (λ r. r >>= after_body x.rule sizes x.reported x.claim) body.1
    ∙ ap (λ r. r >>= after_tree x.rule sizes x.reported x.claim (x.goal, x.puts)) tree

-- ---- laws

-- two certificates with one text are one
pub one_cert : (text : List ℕ) (x y : Cert) → CertText text x → CertText text y → x ≡ y
one_cert text x y a b = ok_is x y (sym (ap cert_at a.spelled ∙ cert_again x a.printable) ∙ ap cert_at b.spelled ∙ cert_again y b.printable)

pub one_text : (s t : List ℕ) (x : Cert) → CertText s x → CertText t x → s ≡ t
one_text s t x a b = a.spelled ∙ sym b.spelled

pub is_read : (text : List ℕ) (x : Cert) → CertText text x → cert_at text ≡ Ok x
is_read text x is = ap cert_at is.spelled ∙ cert_again x is.printable

pub read_exactly : (text : List ℕ) (x : Cert) → (cert_at text ≡ Ok x) ↔ CertText text x
read_exactly text x = (cert_takes text x, is_read text x)

some_cert : (text : List ℕ) (r : Result Cert CertFault) → cert_at text ≡ r → first_fault text ≡ None → (x : Cert) × CertText text x
some_cert text (Ok y) e none = (y, cert_takes text y e)
some_cert text (Err f) e none = absurd (let found : Some f ≡ None = sym (ap (λ r. elim r [ Ok cert ↦ None | Err found ↦ Some found ]) e) ∙ none in cc)

no_fault : (text : List ℕ) (x : Cert) → CertText text x → first_fault text ≡ None
no_fault text x is = ap (λ r. elim r [ Ok cert ↦ None | Err found ↦ Some found ]) (is_read text x is)

pub fault_exactly : (text : List ℕ) → (first_fault text ≡ None) ↔ ((x : Cert) × CertText text x)
fault_exactly text = (some_cert text (cert_at text) refl, λ is. no_fault text is.0 is.1)
