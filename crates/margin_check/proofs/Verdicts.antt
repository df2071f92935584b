-- There is one verdict on a certificate.
use Rattle.std.proofs.Common.{ℕ, zero, suc, List, [], ◌∷◌, ◌++◌, Some, None, All, ◌≡◌, ◌<◌, ◌∙◌, ◌↔◌, get_or, length, refl, ap, sym, subst, inl, inr, arith, ◌-◌, ◌+◌, ◌≤◌}
use Rattle.std.proofs.lemmas.Bool.{cases_lt}
use Rattle.std.proofs.lemmas.List.Elements.{All-head, All-tail}
use Rattle.ballot_form.specs.Alterations.{IsAlteration}
use Rattle.ballot_form.specs.Ballots.{Poll}
use Rattle.alteration_model.specs.Faults.{IsFirstFault, pairs_of}
use Rattle.alteration_model.specs.declared.faults.AlterFault.{AlterFault}
use Rattle.alteration_model.specs.declared.puts.Put.{Put}
use Rattle.alteration_model.proofs.Judged.{faultless}
use Rattle.alteration_model.proofs.Unique.{one_first_fault}
use Rattle.cert_text.specs.declared.cert.Cert.{Cert}
use Rattle.margin_check.specs.Proving.{IsShaped, Passes}
use Rattle.margin_check.specs.Validity.{IsValidCert, cert_visits, election_by, level_of}
use Rattle.margin_check.specs.Verdicts.{Fails, IsFirstWithout, IsRefusal, Judges, Part, PartsHold, earlier, place_of, reason_number, reasons}
use Rattle.margin_check.specs.Visits.{Visit}
use Rattle.margin_check.specs.declared.verdict.Reason.{Reason}
use Rattle.margin_check.specs.declared.verdict.Reason.TheVariants.{HeadDiffers, ReportedDiffers, BadAlteration, ClaimFails, ShapeDiffers, CutFails, NumbersDisagree}
use Rattle.margin_check.specs.declared.verdict.Verdict.{Verdict}
use Rattle.margin_check.specs.declared.verdict.Verdict.TheVariants.{Valid, No}

-- ---- the reasons in their order

reason_back : (reason : Reason) → get_or reasons (reason_number reason - 1) HeadDiffers ≡ reason
reason_back HeadDiffers = refl
reason_back ReportedDiffers = refl
reason_back BadAlteration = refl
reason_back ClaimFails = refl
reason_back ShapeDiffers = refl
reason_back CutFails = refl
reason_back NumbersDisagree = refl

one_number : (reason other : Reason) → reason_number reason ≡ reason_number other → other ≡ reason
one_number reason other same = sym (reason_back other) ∙ ap (λ n. get_or reasons (n - 1) HeadDiffers) (sym same) ∙ reason_back reason

earlier_many : (reason : Reason) → length (earlier reason) + 1 ≡ reason_number reason
earlier_many HeadDiffers = refl
earlier_many ReportedDiffers = refl
earlier_many BadAlteration = refl
earlier_many ClaimFails = refl
earlier_many ShapeDiffers = refl
earlier_many CutFails = refl
earlier_many NumbersDisagree = refl

later : (reason : Reason) → (rest : List Reason) × (earlier reason ++ rest ≡ reasons)
later HeadDiffers = (reasons, refl)
later ReportedDiffers = (ReportedDiffers ∷ BadAlteration ∷ ClaimFails ∷ ShapeDiffers ∷ CutFails ∷ NumbersDisagree ∷ [], refl)
later BadAlteration = (BadAlteration ∷ ClaimFails ∷ ShapeDiffers ∷ CutFails ∷ NumbersDisagree ∷ [], refl)
later ClaimFails = (ClaimFails ∷ ShapeDiffers ∷ CutFails ∷ NumbersDisagree ∷ [], refl)
later ShapeDiffers = (ShapeDiffers ∷ CutFails ∷ NumbersDisagree ∷ [], refl)
later CutFails = (CutFails ∷ NumbersDisagree ∷ [], refl)
later NumbersDisagree = (NumbersDisagree ∷ [], refl)

part_among : (p : Poll) (cert : Cert) (before rest : List Reason) (i : ℕ) → i < length before → PartsHold before p cert → Part (get_or (before ++ rest) i HeadDiffers) p cert
part_among p cert [] rest i lt holds = absurd (omega (arith, lt))
part_among p cert (reason ∷ before) rest zero lt holds = holds.0
part_among p cert (reason ∷ before) rest (suc i) lt holds = part_among p cert before rest i (omega (arith, lt)) holds.1

some_number : (reason : Reason) → 1 ≤ reason_number reason
some_number reason = omega (arith, earlier_many reason)

part_before : (p : Poll) (cert : Cert) (reason other : Reason) → reason_number reason < reason_number other → PartsHold (earlier other) p cert → Part reason p cert
part_before p cert reason other lt holds =
    let behind = later other in
    subst (λ r. Part r p cert) (ap (λ rs. get_or rs (reason_number reason - 1) HeadDiffers) behind.1 ∙ reason_back reason)
    (part_among p cert (earlier other) behind.0 (reason_number reason - 1) (omega (arith, lt, earlier_many other, some_number reason)) holds)

part_of : (reason : Reason) (p : Poll) (cert : Cert) → IsValidCert p cert → Part reason p cert
part_of HeadDiffers p cert valid = valid.head
part_of ReportedDiffers p cert valid = valid.reported
part_of BadAlteration p cert valid = valid.alteration
part_of ClaimFails p cert valid = valid.claim
part_of ShapeDiffers p cert valid = valid.shape
part_of CutFails p cert valid = valid.cuts
part_of NumbersDisagree p cert valid = valid.numbers

-- ---- a part that fails doesn't hold, and fails in one line

no_fault : (p : Poll) (puts : List Put) (fault : AlterFault) → IsAlteration p (pairs_of puts) → IsFirstFault p puts (Some fault) → ⊥
no_fault p puts fault ok is =
    let e : None ≡ Some fault = one_first_fault p puts None (Some fault) ((faultless p puts).1 ok) is in
    cc

not_all : {X : Type 0} (P : X → Type 0) (xs : List X) (place : ℕ) → IsFirstWithout P xs place → All P xs → ⊥
not_all P [] place is all = is
not_all P (x ∷ xs) zero is all = is (All-head P x xs all)
not_all P (x ∷ xs) (suc place) is all = not_all P xs place is.1 (All-tail P x xs all)

one_place : {X : Type 0} (P : X → Type 0) (xs : List X) (place other : ℕ) → IsFirstWithout P xs place → IsFirstWithout P xs other → place ≡ other
one_place P [] place other is also = absurd is
one_place P (x ∷ xs) zero zero is also = refl
one_place P (x ∷ xs) zero (suc other) is also = absurd (is also.0)
one_place P (x ∷ xs) (suc place) zero is also = absurd (also is.0)
one_place P (x ∷ xs) (suc place) (suc other) is also = ap suc (one_place P xs place other is.1 also.1)

-- a node has its shape, or passes where the certificate's cuts are tested
abbrev pub Shaped : Poll → Cert → Visit → Type 0
Shaped p cert visit = IsShaped (election_by p cert) visit.node visit.tree

abbrev pub Passing : Poll → Cert → Visit → Type 0
Passing p cert visit = Passes (election_by p cert) (level_of (length p.ballots) cert.claim) visit.node visit.tree

failing : (reason : Reason) (p : Poll) (cert : Cert) (line : ℕ) → Fails reason p cert line → Part reason p cert → ⊥
failing HeadDiffers p cert line fails part = fails.0 part
failing ReportedDiffers p cert line fails part = fails.0 part
failing BadAlteration p cert line fails part = no_fault p cert.puts fails.0 part fails.1
failing ClaimFails p cert line fails part = fails.0 part
failing ShapeDiffers p cert line fails part = not_all (Shaped p cert) (cert_visits p cert) fails.0 fails.1 part
failing CutFails p cert line fails part = not_all (Passing p cert) (cert_visits p cert) fails.0 fails.1 part
failing NumbersDisagree p cert line fails part = fails.0 part

one_line : (reason : Reason) (p : Poll) (cert : Cert) (line other : ℕ) → Fails reason p cert line → Fails reason p cert other → line ≡ other
one_line HeadDiffers p cert line other a b = omega (arith, a.1, b.1)
one_line ReportedDiffers p cert line other a b = omega (arith, a.1, b.1)
one_line BadAlteration p cert line other a b =
    let e : Some a.0 ≡ Some b.0 = one_first_fault p cert.puts (Some a.0) (Some b.0) a.1 b.1 in
    let f : a.0 ≡ b.0 = cc in
    omega (arith, a.2, b.2, ap place_of f)
one_line ClaimFails p cert line other a b = omega (arith, a.1, b.1)
one_line ShapeDiffers p cert line other a b = omega (arith, a.2, b.2, one_place (Shaped p cert) (cert_visits p cert) a.0 b.0 a.1 b.1)
one_line CutFails p cert line other a b = omega (arith, a.2, b.2, one_place (Passing p cert) (cert_visits p cert) a.0 b.0 a.1 b.1)
one_line NumbersDisagree p cert line other a b = omega (arith, a.1, b.1)

-- ---- one verdict

no_earlier : (p : Poll) (cert : Cert) (reason other : Reason) (line at : ℕ) → IsRefusal p cert reason line → IsRefusal p cert other at → reason_number reason < reason_number other → ⊥
no_earlier p cert reason other line at first second lt = failing reason p cert line first.fails (part_before p cert reason other lt second.before)

same_refusal : (p : Poll) (cert : Cert) (reason other : Reason) (line at : ℕ) → IsRefusal p cert reason line → IsRefusal p cert other at → reason_number reason ≡ reason_number other
    → No reason line ≡ No other at
same_refusal p cert reason other line at first second same =
    let e : other ≡ reason = one_number reason other same in
    let fails : Fails reason p cert at = subst (λ r. Fails r p cert at) e second.fails in
    let f = one_line reason p cert line at first.fails fails in
    cc

one_refusal : (p : Poll) (cert : Cert) (reason other : Reason) (line at : ℕ) → IsRefusal p cert reason line → IsRefusal p cert other at → No reason line ≡ No other at
one_refusal p cert reason other line at first second = elim (cases_lt (reason_number reason) (reason_number other)) [
  | inl below ↦ absurd (no_earlier p cert reason other line at first second below)
  | inr above ↦ elim (cases_lt (reason_number other) (reason_number reason)) [
    | inl below ↦ absurd (no_earlier p cert other reason at line second first below)
    | inr over ↦ same_refusal p cert reason other line at first second (omega arith)
  ]
]

pub one_verdict : (p : Poll) (cert : Cert) (verdict other : Verdict) → Judges p cert verdict → Judges p cert other → verdict ≡ other
one_verdict p cert Valid Valid first second = refl
one_verdict p cert Valid (No reason line) first second = absurd (failing reason p cert line second.fails (part_of reason p cert first))
one_verdict p cert (No reason line) Valid first second = absurd (failing reason p cert line first.fails (part_of reason p cert second))
one_verdict p cert (No reason line) (No other at) first second = one_refusal p cert reason other line at first second

pub judges_exactly : (p : Poll) (cert : Cert) (verdict other : Verdict) → Judges p cert verdict → (verdict ≡ other) ↔ Judges p cert other
judges_exactly p cert verdict other is = (λ e. subst (λ v. Judges p cert v) e is, λ also. one_verdict p cert verdict other is also)
