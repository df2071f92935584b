-- What a run of `check` promises.
use Rattle.std.proofs.Common.{ℕ, List, ◌≡◌, ◌≤◌, ◌<◌, ◌⊎◌, ◌∙◌, length, refl, sym, ap, subst, inl, inr, arith}
use Rattle.std.specs.Prelude.{Err}
use Rattle.mov_edge.specs.Outside.{Lacks, Rose, Tells}
use Rattle.ballot_csv.specs.BallotFile.{NamedPoll}
use Rattle.cert_text.specs.CertReading.{cert_at}
use Rattle.cert_text.specs.declared.cert.Cert.{Cert}
use Rattle.cert_text.specs.declared.fault.CertFault.{CertFault}
use Rattle.margin_check.specs.Validity.{IsValidCert}
use Rattle.margin_check.specs.Verdicts.{IsRefusal}
use Rattle.margin_check.specs.declared.verdict.Reason.{Reason}
use Rattle.margin_check.specs.declared.verdict.Verdict.{Verdict}
use Rattle.margin_check.specs.declared.verdict.Verdict.TheVariants.{Valid, No}
use Rattle.cert_text.specs.declared.limits.TheConstants.{LONGEST_TEXT}
use Rattle.mov_run.specs.Jobs.{Answers, IsChecked, IsVerdict}
use Rattle.mov_run.specs.Inputs.{HasNoCert, IsCertFile}
use Rattle.mov_run.specs.Promised.{ChecksOver, SaysRefused, SaysValid, WritesVerdict}
use Rattle.mov_run.specs.Run.{IsToldCert, EndsWith, IsRefused, IsUntroubled, Outside, Ran, EndsEarly, source_of}
use Rattle.mov_run.specs.RunFaults.{line_of}
use Rattle.mov_run.specs.Status.{status_of, status_after}
use Rattle.mov_run.specs.Verdicts.{refused_text, valid_text, verdict_text}
use Rattle.mov_words.specs.declared.jobs.Job.TheVariants.{Check}
use Rattle.mov_run.specs.declared.runs.Output.{Output}
use Rattle.mov_run.specs.declared.runs.Status.{Status}
use Rattle.mov_run.specs.declared.runs.Status.TheVariants.{Done, Refused, Certificate, Read, Memory}
use Rattle.mov_run.specs.declared.run_faults.RunFault.{RunFault}
use Rattle.mov_run.specs.declared.run_faults.RunFault.TheVariants as run_fault
use Rattle.mov_run.proofs.BallotRefusals.{ends_with}
use Rattle.mov_run.proofs.Delivered.{Goes, delivered_err, delivered_ok, memory_of, whole_by}
use Rattle.mov_run.proofs.Told.{both_answer, err_is, no_cert_stop, not_both, ok_or_err, same_cert}

-- the output of a verdict
abbrev output_of : Cert → Verdict → Output
output_of cert v = record { ends = status_after v; text = verdict_text cert v }

-- a run of a check over a told and accepted ballot file
abbrev AtCheck : Outside → Outside → Status → List ℕ → NamedPoll → Type 0
AtCheck old new s name k =
    (s ≡ Memory)
    ⊎ ((t : RunFault) × (s ≡ status_of t) × EndsEarly old new t × HasNoCert (source_of old new) name t)
    ⊎ ((cert : Cert) × IsCertFile (source_of old new) name cert × ((v : Verdict) × IsVerdict k cert v × Goes old new s (output_of cert v)))

at_check : (old new : Outside) (words : List (List ℕ)) (s : Status) (name : List ℕ) (k : NamedPoll) → Ran old new words s → ChecksOver old new words name k → AtCheck old new s name k
at_check old new words s name k ran over = elim ran.allowed [
  | inr m ↦ inl (memory_of old new s ran.answer m.0.0 ran.delivered)
  | inl by ↦
      let answers : Answers (source_of old new) (Check over.file name) ran.answer = rw over.job at by in
      elim (both_answer old new over.file name k IsChecked ran.answer over.contest over.reads answers) [
        | inl stopped ↦
            let d = delivered_err old new s ran.answer stopped.0 stopped.1 ran.delivered in
            inr (inl (stopped.0, d.0, d.1, stopped.2))
        | inr good ↦
            let v = good.2 in
            inr (inr (good.0, good.1, (v.0, v.1, delivered_ok old new s ran.answer (output_of good.0 v.0) v.2 ran.delivered)))
      ]
]

-- ---- a certificate is judged

-- a certificate that is told has a verdict, and its text went out
verdict_on : (old new : Outside) (s : Status) (name : List ℕ) (k : NamedPoll) (cert : Cert) → AtCheck old new s name k → IsToldCert old name cert → IsUntroubled old new s
    → (v : Verdict) × IsVerdict k cert v × Goes old new s (output_of cert v)
verdict_on old new s name k cert (inl memory) told untroubled = absurd (untroubled.memory memory)
verdict_on old new s name k cert (inr (inl stopped)) told untroubled = absurd (no_cert_stop old new name cert stopped.0 told untroubled.reads stopped.3)
verdict_on old new s name k cert (inr (inr good)) told untroubled =
    let same = same_cert old new name cert good.0 told good.1 in
    let v = good.2 in
    (v.0, subst (λ c. IsVerdict k c v.0) same v.1, subst (λ c. Goes old new s (output_of c v.0)) same v.2)

says_valid : (old new : Outside) (s : Status) (k : NamedPoll) (cert : Cert) → IsVerdict k cert Valid → Goes old new s (output_of cert Valid) → IsUntroubled old new s → SaysValid old new s k cert
says_valid old new s k cert by goes untroubled = record {
  valid = by.valid.0 refl;
  claim = by.claim refl;
  done = whole_by old new s Done (valid_text cert) goes untroubled;
}

said : (old new : Outside) (s : Status) (k : NamedPoll) (cert : Cert) (v : Verdict) → IsVerdict k cert v → Goes old new s (output_of cert v) → IsUntroubled old new s
    → SaysValid old new s k cert ⊎ SaysRefused old new s k cert
said old new s k cert Valid by goes untroubled = inl (says_valid old new s k cert by goes untroubled)
said old new s k cert (No reason line) by goes untroubled = inr (record {
  reason = reason;
  line = line;
  refusal = (by.refused reason line).0 refl;
  refused = whole_by old new s Refused (refused_text reason line) goes untroubled;
})

judged : (old new : Outside) (s : Status) (name : List ℕ) (k : NamedPoll) (cert : Cert) → AtCheck old new s name k → IsToldCert old name cert → IsUntroubled old new s
    → SaysValid old new s k cert ⊎ SaysRefused old new s k cert
judged old new s name k cert at told untroubled =
    let found = verdict_on old new s name k cert at told untroubled in
    said old new s k cert found.0 found.1 found.2 untroubled

is_valid : (old new : Outside) (s : Status) (name : List ℕ) (k : NamedPoll) (cert : Cert) → AtCheck old new s name k → IsToldCert old name cert → IsUntroubled old new s
    → IsValidCert k.poll cert → SaysValid old new s k cert
is_valid old new s name k cert at told untroubled valid =
    let found = verdict_on old new s name k cert at told untroubled in
    let is : found.0 ≡ Valid = found.1.valid.1 valid in
    says_valid old new s k cert (subst (λ v. IsVerdict k cert v) is found.1) (subst (λ v. Goes old new s (output_of cert v)) is found.2) untroubled

is_refused : (old new : Outside) (s : Status) (name : List ℕ) (k : NamedPoll) (cert : Cert) (reason : Reason) (line : ℕ) → AtCheck old new s name k → IsToldCert old name cert
    → IsUntroubled old new s → IsRefusal k.poll cert reason line → IsRefused old new s (refused_text reason line)
is_refused old new s name k cert reason line at told untroubled refusal =
    let found = verdict_on old new s name k cert at told untroubled in
    let is : found.0 ≡ No reason line = (found.1.refused reason line).1 refusal in
    whole_by old new s Refused (refused_text reason line) (subst (λ v. Goes old new s (output_of cert v)) is found.2) untroubled

-- ---- a text that is no certificate

faulty_cert : (old new : Outside) (s : Status) (name bytes : List ℕ) (k : NamedPoll) (fault : CertFault) → AtCheck old new s name k → (Rose old.files.faults new.files.faults → ⊥) → Tells old.files.told name bytes
    → length bytes ≤ LONGEST_TEXT → cert_at bytes ≡ Err fault → EndsWith old new s Certificate (line_of (run_fault.Certificate fault))
faulty_cert old new s name bytes k fault (inl memory) quiet tells short read = inr memory
faulty_cert old new s name bytes k fault (inr (inr good)) quiet tells short read =
    let same : good.1.bytes ≡ bytes = good.1.read.file.told bytes tells in
    absurd (ok_or_err (cert_at bytes) good.0 fault (ap cert_at (sym same) ∙ good.1.said) read)
faulty_cert old new s name bytes k fault (inr (inl stopped)) quiet tells short read = by stopped.0 stopped.1 stopped.2 stopped.3
  where
    by : (t : RunFault) → s ≡ status_of t → EndsEarly old new t → HasNoCert (source_of old new) name t → EndsWith old new s Certificate (line_of (run_fault.Certificate fault))
    by t is left (inl unread) = absurd (elim unread.1.why [ inl rose ↦ quiet rose | inr lacks ↦ not_both old.files.told name bytes tells lacks ])
    by t is left (inr (inl long)) = absurd (let lt = long.1.told bytes tells in omega arith)
    by t is left (inr (inr faulty)) =
        let same : faulty.2.bytes ≡ bytes = faulty.2.read.file.told bytes tells in
        let one : faulty.0 ≡ fault = err_is (cert_at bytes) faulty.0 fault (ap cert_at (sym same) ∙ faulty.2.said) read in
        ends_with old new s t (run_fault.Certificate fault) Certificate is left (faulty.1 ∙ ap run_fault.Certificate one) refl

long_cert : (old new : Outside) (s : Status) (name bytes : List ℕ) (k : NamedPoll) → AtCheck old new s name k → (Rose old.files.faults new.files.faults → ⊥) → Tells old.files.told name bytes
    → LONGEST_TEXT < length bytes → EndsWith old new s Certificate (line_of run_fault.LongCertificate)
long_cert old new s name bytes k (inl memory) quiet tells more = inr memory
long_cert old new s name bytes k (inr (inr good)) quiet tells more =
    absurd (let same : good.1.bytes ≡ bytes = good.1.read.file.told bytes tells in let le : length bytes ≤ LONGEST_TEXT = rw (← same) good.1.short in omega arith)
long_cert old new s name bytes k (inr (inl stopped)) quiet tells more = by stopped.0 stopped.1 stopped.2 stopped.3
  where
    by : (t : RunFault) → s ≡ status_of t → EndsEarly old new t → HasNoCert (source_of old new) name t → EndsWith old new s Certificate (line_of run_fault.LongCertificate)
    by t is left (inl unread) = absurd (elim unread.1.why [ inl rose ↦ quiet rose | inr lacks ↦ not_both old.files.told name bytes tells lacks ])
    by t is left (inr (inl long)) = ends_with old new s t run_fault.LongCertificate Certificate is left long.0 refl
    by t is left (inr (inr faulty)) = absurd (let same : faulty.2.bytes ≡ bytes = faulty.2.read.file.told bytes tells in let le : length bytes ≤ LONGEST_TEXT = rw (← same) faulty.2.short in omega arith)

absent_cert : (old new : Outside) (s : Status) (name : List ℕ) (k : NamedPoll) → AtCheck old new s name k → Lacks old.files.told name → EndsWith old new s Read (line_of (run_fault.Read name))
absent_cert old new s name k (inl memory) lacks = inr memory
absent_cert old new s name k (inr (inr good)) lacks = absurd (good.1.read.file.there lacks)
absent_cert old new s name k (inr (inl stopped)) lacks = by stopped.0 stopped.1 stopped.2 stopped.3
  where
    by : (t : RunFault) → s ≡ status_of t → EndsEarly old new t → HasNoCert (source_of old new) name t → EndsWith old new s Read (line_of (run_fault.Read name))
    by t is left (inl unread) = ends_with old new s t (run_fault.Read name) Read is left unread.0 refl
    by t is left (inr (inl long)) = absurd (long.1.there lacks)
    by t is left (inr (inr faulty)) = absurd (faulty.2.read.file.there lacks)

-- ---- a text that is one

verdict_end : (old new : Outside) (s : Status) (cert : Cert) (v : Verdict) → Goes old new s (output_of cert v) → (s ≡ Certificate → ⊥) × (s ≡ Read → ⊥)
verdict_end old new s cert Valid (inl w) = (λ e. absurd (let is = w.0 in cc), λ e. absurd (let is = w.0 in cc))
verdict_end old new s cert (No reason line) (inl w) = (λ e. absurd (let is = w.0 in cc), λ e. absurd (let is = w.0 in cc))
verdict_end old new s cert v (inr c) = (λ e. absurd (let is = c.0 in cc), λ e. absurd (let is = c.0 in cc))

accepted_cert : (old new : Outside) (s : Status) (name : List ℕ) (k : NamedPoll) (cert : Cert) → AtCheck old new s name k → (Rose old.files.faults new.files.faults → ⊥) → IsToldCert old name cert
    → (s ≡ Certificate → ⊥) × (s ≡ Read → ⊥)
accepted_cert old new s name k cert (inl memory) quiet told = (λ e. absurd (cc), λ e. absurd (cc))
accepted_cert old new s name k cert (inr (inl stopped)) quiet told = absurd (no_cert_stop old new name cert stopped.0 told quiet stopped.3)
accepted_cert old new s name k cert (inr (inr good)) quiet told = verdict_end old new s good.0 good.2.0 good.2.2

pub writes_verdict : (old new : Outside) (words : List (List ℕ)) (s : Status) → Ran old new words s → WritesVerdict old new words s
writes_verdict old new words s ran = record {
  judged = λ name k cert over told untroubled. judged old new s name k cert (at_check old new words s name k ran over) told untroubled;
  valid = λ name k cert over told untroubled valid. is_valid old new s name k cert (at_check old new words s name k ran over) told untroubled valid;
  refused = λ name k cert over told untroubled reason line refusal.
      is_refused old new s name k cert reason line (at_check old new words s name k ran over) told untroubled refusal;
  faulty = λ name bytes k fault over tells short read. faulty_cert old new s name bytes k fault (at_check old new words s name k ran over) over.reads tells short read;
  long = λ name bytes k over tells more. long_cert old new s name bytes k (at_check old new words s name k ran over) over.reads tells more;
  absent = λ name k over lacks. absent_cert old new s name k (at_check old new words s name k ran over) lacks;
  accepted = λ name k cert over told. accepted_cert old new s name k cert (at_check old new words s name k ran over) over.reads told;
}
