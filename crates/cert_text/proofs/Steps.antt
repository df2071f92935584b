-- Reading a certificate line by line, and part by part: its top, the outcome, the claim, the body, and the tree with which it ends.
use Rattle.std.proofs.Common.{◌≡◌, ℕ, Bool, true, false, cond, eqb, List, length, Option, Result, Ok, Err, refl, ap, ◌∙◌, inl, inr}
use Rattle.ballot_form.specs.declared.rule.Rule.{Rule}
use Rattle.ballot_form.specs.declared.outcome.Outcome.{Outcome}
use Rattle.alteration_model.specs.declared.puts.Put.{Put}
use Rattle.bound_tree.specs.Plain.{Plain}
use Rattle.bound_tree.specs.declared.bound.TheConstants.{MOST_DEPTH}
use Rattle.text_lines.specs.Words.{fields_of}
use Rattle.cert_text.specs.declared.cert.Cert.{Cert}
use Rattle.cert_text.specs.declared.cert.Claim.{Claim}
use Rattle.cert_text.specs.declared.cert.GoalText.{GoalText}
use Rattle.cert_text.specs.declared.fault.CertFault.{CertFault}
use Rattle.cert_text.specs.declared.fault.CertKind.TheVariants.{Tail}
use Rattle.cert_text.specs.Faults.{fault}
use Rattle.cert_text.specs.HeadLines.{first_line, rule_line, size_line, reported_line, claim_line, goal_line, put_line}
use Rattle.cert_text.specs.Reading.{◌>>=◌, IsTold, TextLeft, form_at, many_at}
use Rattle.cert_text.specs.CertReading.{top_at, body_at, last_at, cert_at}
use Rattle.cert_text.specs.TreeReading.{node_at}

-- ---- each line as a line of a text

abbrev pub rule_at : TextLeft → Result (Rule × TextLeft) CertFault
rule_at p = form_at (λ l. rule_line (fields_of l)) p

abbrev pub size_at : TextLeft → Result ((ℕ × ℕ) × TextLeft) CertFault
size_at p = form_at (λ l. size_line (fields_of l)) p

abbrev pub reported_at : Rule → ℕ → TextLeft → Result (Outcome × TextLeft) CertFault
reported_at rule c p = form_at (λ l. reported_line rule c (fields_of l)) p

abbrev pub claim_at : TextLeft → Result (Claim × TextLeft) CertFault
claim_at p = form_at (λ l. claim_line (fields_of l)) p

abbrev pub goal_at : ℕ → TextLeft → Result (GoalText × TextLeft) CertFault
goal_at c p = form_at (λ l. goal_line c (fields_of l)) p

abbrev pub puts_at : ℕ → TextLeft → Result (List Put × TextLeft) CertFault
puts_at k p = many_at (form_at (λ l. put_line (fields_of l))) k p

-- ---- what is read from each line on

abbrev pub Body : Type 0
Body = Option GoalText × List Put

abbrev pub cert_of : Rule → (ℕ × ℕ) → Outcome → Claim → Body → Plain → Cert
cert_of rule sizes reported claim body tree = record { rule = rule; c = sizes.0; ballots = sizes.1; reported = reported; claim = claim; goal = body.0; puts = body.1; tree = tree }

-- what is read from each line on
abbrev pub after_tree : Rule → ℕ × ℕ → Outcome → Claim → Body → Plain × TextLeft → Result Cert CertFault
after_tree rule sizes reported claim body tree = cond (eqb (length tree.1.1) 0) (Ok (cert_of rule sizes reported claim body tree.0)) (Err (fault Tail tree.1.0))

abbrev pub after_body : Rule → ℕ × ℕ → Outcome → Claim → Body × TextLeft → Result Cert CertFault
after_body rule sizes reported claim body = node_at MOST_DEPTH body.1.0 body.1 >>= after_tree rule sizes reported claim body.0

abbrev pub after_claim : Rule → ℕ × ℕ → Outcome → Claim × TextLeft → Result Cert CertFault
after_claim rule sizes reported claim = body_at sizes.0 claim.0 claim.1 >>= after_body rule sizes reported claim.0

abbrev pub after_reported : Rule → ℕ × ℕ → Outcome × TextLeft → Result Cert CertFault
after_reported rule sizes reported = claim_at reported.1 >>= after_claim rule sizes reported.0

abbrev pub after_size : Rule → (ℕ × ℕ) × TextLeft → Result Cert CertFault
after_size rule sizes = reported_at rule sizes.0.0 sizes.1 >>= after_reported rule sizes.0

abbrev pub after_rule : Rule × TextLeft → Result Cert CertFault
after_rule rule = size_at rule.1 >>= after_size rule.0

abbrev pub after_first : Unit {0} × TextLeft → Result Cert CertFault
after_first top = rule_at top.1 >>= after_rule

pub by_lines : (text : List ℕ) → cert_at text ≡ (form_at first_line (1, text) >>= after_first)
unfolding cert_at
by_lines text = refl

-- ---- what each part gives

-- steps one after another, however they are grouped
one_step : {C D E : Type 0} (r : Result C CertFault) (h : C → D) (g : D → Result E CertFault) → (r >>= λ z. g (h z)) ≡ ((r >>= λ z. Ok (h z)) >>= g)
one_step (Ok z) h g = refl
one_step (Err e) h g = refl

two_steps : {B C D E : Type 0} (r : Result B CertFault) (d : B → Result C CertFault) (h : B → C → D) (g : D → Result E CertFault)
    → (r >>= λ y. d y >>= λ z. g (h y z)) ≡ ((r >>= λ y. d y >>= λ z. Ok (h y z)) >>= g)
two_steps (Ok y) d h g = one_step (d y) (h y) g
two_steps (Err e) d h g = refl

three_steps : {A B C D E : Type 0} (r : Result A CertFault) (b : A → Result B CertFault) (d : B → Result C CertFault) (h : B → C → D) (g : D → Result E CertFault)
    → (r >>= λ x. b x >>= λ y. d y >>= λ z. g (h y z)) ≡ ((r >>= λ x. b x >>= λ y. d y >>= λ z. Ok (h y z)) >>= g)
three_steps (Ok x) b d h g = two_steps (b x) d h g
three_steps (Err e) b d h g = refl

-- a fault of the first step is one of all
told : {A B : Type 0} (f : CertFault) (r : Result A CertFault) (g : A → Result B CertFault) (all : Result B CertFault) → all ≡ (r >>= g) → IsTold f r → IsTold f all
told f r g all is (inl wanting) = inl wanting
told f r g all is (inr said) = inr (said.0, is ∙ ap (λ z. z >>= g) said.1)

then : {A B : Type 0} (r : Result A CertFault) (x : A) (g : A → Result B CertFault) (all : Result B CertFault) → all ≡ (r >>= g) → r ≡ Ok x → all ≡ g x
then r x g all is found = is ∙ ap (λ z. z >>= g) found

abbrev pub Top : Type 0
Top = (Rule × (ℕ × ℕ)) × TextLeft

abbrev after_top : Top → Result Cert CertFault
after_top top = after_size top.0.0 (top.0.1, top.1)

by_top : (text : List ℕ) → cert_at text ≡ (top_at (1, text) >>= after_top)
unfolding top_at
by_top text = by_lines text ∙ three_steps (form_at first_line (1, text)) (λ top. rule_at top.1) (λ rule. size_at rule.1) (λ rule size. ((rule.0, size.0), size.1)) after_top

-- what was read before the outcome, before the claim, before the body, and before the tree
abbrev pub ReadTop : List ℕ → Top → Type 0
ReadTop text top = top_at (1, text) ≡ Ok top

abbrev pub ReadReported : Top → Outcome × TextLeft → Type 0
ReadReported top reported = reported_at top.0.0 top.0.1.0 top.1 ≡ Ok reported

abbrev pub ReadClaim : TextLeft → Claim × TextLeft → Type 0
ReadClaim p claim = claim_at p ≡ Ok claim

abbrev pub ReadBody : Top → Claim × TextLeft → Body × TextLeft → Type 0
ReadBody top claim body = body_at top.0.1.0 claim.0 claim.1 ≡ Ok body

pub top_fault : (text : List ℕ) (f : CertFault) → IsTold f (top_at (1, text)) → IsTold f (cert_at text)
top_fault text f h = told f (top_at (1, text)) after_top (cert_at text) (by_top text) h

by_reported : (text : List ℕ) (top : Top) → ReadTop text top → cert_at text ≡ (reported_at top.0.0 top.0.1.0 top.1 >>= after_reported top.0.0 top.0.1)
by_reported text top t = then (top_at (1, text)) top after_top (cert_at text) (by_top text) t

pub reported_fault : (text : List ℕ) (top : Top) (f : CertFault) → ReadTop text top → IsTold f (reported_at top.0.0 top.0.1.0 top.1) → IsTold f (cert_at text)
reported_fault text top f t h = told f (reported_at top.0.0 top.0.1.0 top.1) (after_reported top.0.0 top.0.1) (cert_at text) (by_reported text top t) h

by_claim : (text : List ℕ) (top : Top) (reported : Outcome × TextLeft) → ReadTop text top → ReadReported top reported → cert_at text ≡ (claim_at reported.1 >>= after_claim top.0.0 top.0.1 reported.0)
by_claim text top reported t r = then (reported_at top.0.0 top.0.1.0 top.1) reported (after_reported top.0.0 top.0.1) (cert_at text) (by_reported text top t) r

pub claim_fault : (text : List ℕ) (top : Top) (reported : Outcome × TextLeft) (f : CertFault) → ReadTop text top → ReadReported top reported → IsTold f (claim_at reported.1) → IsTold f (cert_at text)
claim_fault text top reported f t r h = told f (claim_at reported.1) (after_claim top.0.0 top.0.1 reported.0) (cert_at text) (by_claim text top reported t r) h

by_body : (text : List ℕ) (top : Top) (reported : Outcome × TextLeft) (claim : Claim × TextLeft) → ReadTop text top → ReadReported top reported → ReadClaim reported.1 claim
    → cert_at text ≡ (body_at top.0.1.0 claim.0 claim.1 >>= after_body top.0.0 top.0.1 reported.0 claim.0)
by_body text top reported claim t r d = then (claim_at reported.1) claim (after_claim top.0.0 top.0.1 reported.0) (cert_at text) (by_claim text top reported t r) d

pub body_fault : (text : List ℕ) (top : Top) (reported : Outcome × TextLeft) (claim : Claim × TextLeft) (f : CertFault) → ReadTop text top → ReadReported top reported → ReadClaim reported.1 claim
    → IsTold f (body_at top.0.1.0 claim.0 claim.1) → IsTold f (cert_at text)
body_fault text top reported claim f t r d h = told f (body_at top.0.1.0 claim.0 claim.1) (after_body top.0.0 top.0.1 reported.0 claim.0) (cert_at text) (by_body text top reported claim t r d) h

ended : {A B : Type 0} (b : Bool) (x : A) (e : CertFault) (f : A → B) → cond b (Ok (f x)) (Err e) ≡ (cond b (Ok x) (Err e) >>= λ y. Ok (f y))
ended true x e f = refl
ended false x e f = refl

last_step : {B : Type 0} (r : Result (Plain × TextLeft) CertFault) (f : Plain → B)
    → (r >>= λ tree. cond (eqb (length tree.1.1) 0) (Ok (f tree.0)) (Err (fault Tail tree.1.0)))
    ≡ ((r >>= λ tree. cond (eqb (length tree.1.1) 0) (Ok tree.0) (Err (fault Tail tree.1.0))) >>= λ y. Ok (f y))
last_step (Ok tree) f = ended (eqb (length tree.1.1) 0) tree.0 (fault Tail tree.1.0) f
last_step (Err e) f = refl

by_last : (text : List ℕ) (top : Top) (reported : Outcome × TextLeft) (claim : Claim × TextLeft) (body : Body × TextLeft) → ReadTop text top → ReadReported top reported → ReadClaim reported.1 claim → ReadBody top claim body
    → cert_at text ≡ (last_at body.1 >>= λ tree. Ok (cert_of top.0.0 top.0.1 reported.0 claim.0 body.0 tree))
unfolding last_at
by_last text top reported claim body t r d b =
    then (body_at top.0.1.0 claim.0 claim.1) body (after_body top.0.0 top.0.1 reported.0 claim.0) (cert_at text) (by_body text top reported claim t r d) b
    ∙ last_step (node_at MOST_DEPTH body.1.0 body.1) (cert_of top.0.0 top.0.1 reported.0 claim.0 body.0)

pub last_fault : (text : List ℕ) (top : Top) (reported : Outcome × TextLeft) (claim : Claim × TextLeft) (body : Body × TextLeft) (f : CertFault) → ReadTop text top → ReadReported top reported → ReadClaim reported.1 claim → ReadBody top claim body
    → IsTold f (last_at body.1) → IsTold f (cert_at text)
last_fault text top reported claim body f t r d b h = told f (last_at body.1) (λ tree. Ok (cert_of top.0.0 top.0.1 reported.0 claim.0 body.0 tree)) (cert_at text) (by_last text top reported claim body t r d b) h

pub all_read : (text : List ℕ) (top : Top) (reported : Outcome × TextLeft) (claim : Claim × TextLeft) (body : Body × TextLeft) (tree : Plain) → ReadTop text top → ReadReported top reported → ReadClaim reported.1 claim → ReadBody top claim body
    → last_at body.1 ≡ Ok tree → cert_at text ≡ Ok (cert_of top.0.0 top.0.1 reported.0 claim.0 body.0 tree)
all_read text top reported claim body tree t r d b l =
    then (last_at body.1) tree (λ x. Ok (cert_of top.0.0 top.0.1 reported.0 claim.0 body.0 x)) (cert_at text) (by_last text top reported claim body t r d b) l
