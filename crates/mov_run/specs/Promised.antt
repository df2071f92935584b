-- What a run promises: what it leaves, and what follows from that for each command.
use Rattle.std.specs.Prelude.{Bool, ◌≡◌, ◌⊎◌, ◌<◌, ◌≤◌, ℕ, List, length, Ok, Err}
use Rattle.mov_edge.specs.Outside.{Tells, Lacks, Rose}
use Rattle.ballot_csv.specs.BallotFile.{IsFaulty, NamedPoll}
use Rattle.ballot_csv.specs.PlainForm.{plain_form}
use Rattle.ballot_csv.specs.declared.fault.BallotFault.{BallotFault}
use Rattle.ballot_form.specs.declared.rule.Rule.{Rule}
use Rattle.cert_text.specs.CertReading.{cert_at}
use Rattle.cert_text.specs.CertText.{CertText}
use Rattle.margin_solve.specs.Certificates.{IsCertOf}
use Rattle.margin_check.specs.Meanings.{ClaimIsTrue}
use Rattle.margin_check.specs.Validity.{IsValidCert}
use Rattle.margin_check.specs.Verdicts.{IsRefusal}
use Rattle.ballot_csv.specs.declared.limits.TheConstants.{LONGEST_FILE}
use Rattle.cert_text.specs.declared.limits.TheConstants.{LONGEST_TEXT}
use Rattle.mov_run.specs.Tally.{IsTally}
use Rattle.mov_words.specs.Words.{meaning, BallotFile}
use Rattle.cert_text.specs.declared.cert.Cert.{Cert}
use Rattle.cert_text.specs.declared.fault.CertFault.{CertFault}
use Rattle.margin_check.specs.declared.verdict.Reason.{Reason}
use Rattle.mov_run.specs.Run.{EndsWith, IsDone, IsRefused, IsToldContest, IsUntroubled, EndsWhole, Outside, Ran, IsToldCert}
use Rattle.mov_run.specs.RunFaults.{line_of}
use Rattle.drill_text.specs.Drills.{IsDrill}
use Rattle.mov_run.specs.Status.{drill_status, status_for}
use Rattle.mov_run.specs.Verdicts.{refused_text, valid_text}
use Rattle.mov_run.specs.declared.runs.Status.{Status}
use Rattle.mov_run.specs.Causes.{Causes}
use Rattle.mov_words.specs.declared.jobs.Job.TheVariants.{Tally, Margin, Check, Show, Drill}
use Rattle.mov_run.specs.declared.runs.Status.TheVariants.{Ballots, Certificate, Read}
use Rattle.mov_run.specs.declared.run_faults.RunFault.TheVariants as run_fault

-- ---- a check

-- a check of a certificate file over a told and accepted ballot file, in which no read failed
pub record ChecksOver (old new : Outside) (words : List (List ℕ)) (name : List ℕ) (k : NamedPoll) : Type 0 where
  pub file : List ℕ
  pub job : meaning words ≡ Ok (Check file name)
  pub contest : IsToldContest old file k
  pub reads : Rose old.files.faults new.files.faults → ⊥

-- a valid certificate, whose claim is true, is said to be valid
pub record SaysValid (old new : Outside) (s : Status) (k : NamedPoll) (cert : Cert) : Type 0 where
  pub valid : IsValidCert k.poll cert
  pub claim : ClaimIsTrue k.poll cert
  pub done : IsDone old new s (valid_text cert)

-- the first part of validity that fails is named, with its line
pub record SaysRefused (old new : Outside) (s : Status) (k : NamedPoll) (cert : Cert) : Type 0 where
  pub reason : Reason
  pub line : ℕ
  pub refusal : IsRefusal k.poll cert reason line
  pub refused : IsRefused old new s (refused_text reason line)

-- what `check` of a told certificate file writes
pub record WritesVerdict (old new : Outside) (words : List (List ℕ)) (s : Status) : Type 0 where
  -- a certificate is said to be valid, or refused
  pub judged : (name : List ℕ) (k : NamedPoll) (cert : Cert) → ChecksOver old new words name k →
      IsToldCert old name cert → IsUntroubled old new s →
      SaysValid old new s k cert ⊎ SaysRefused old new s k cert
  -- a valid one is said to be valid
  pub valid : (name : List ℕ) (k : NamedPoll) (cert : Cert) → ChecksOver old new words name k →
      IsToldCert old name cert → IsUntroubled old new s →
      IsValidCert k.poll cert → SaysValid old new s k cert
  -- one that isn't is refused for the first reason, with its line
  pub refused : (name : List ℕ) (k : NamedPoll) (cert : Cert) → ChecksOver old new words name k →
      IsToldCert old name cert → IsUntroubled old new s →
      (reason : Reason) (line : ℕ) → IsRefusal k.poll cert reason line → IsRefused old new s (refused_text reason line)
  -- a text that is no certificate is told its first fault
  pub faulty : (name bytes : List ℕ) (k : NamedPoll) (fault : CertFault) → ChecksOver old new words name k →
      Tells old.files.told name bytes → length bytes ≤ LONGEST_TEXT →
      cert_at bytes ≡ Err fault → EndsWith old new s Certificate (line_of (run_fault.Certificate fault))
  pub long : (name bytes : List ℕ) (k : NamedPoll) → ChecksOver old new words name k →
      Tells old.files.told name bytes → LONGEST_TEXT < length bytes →
      EndsWith old new s Certificate (line_of run_fault.LongCertificate)
  pub absent : (name : List ℕ) (k : NamedPoll) → ChecksOver old new words name k → Lacks old.files.told name →
      EndsWith old new s Read (line_of (run_fault.Read name))
  -- and where it is one, the run ends neither with its fault nor with a file unread
  pub accepted : (name : List ℕ) (k : NamedPoll) (cert : Cert) → ChecksOver old new words name k →
      IsToldCert old name cert → (s ≡ Certificate → ⊥) × (s ≡ Read → ⊥)

-- ---- the other commands

-- the headline: `margin` of a told and accepted file under a rule, with a budget, writes the certificate of its
-- contest, and the status says whether that claims bounds
abbrev pub WritesMargin : Outside → Outside → List (List ℕ) → Status → Type 0
WritesMargin old new words s =
    (rule : Rule) (file : List ℕ) (budget : ℕ) (k : NamedPoll) → meaning words ≡ Ok (Margin rule file budget) →
    IsToldContest old file k → IsUntroubled old new s →
    (cert : Cert) × (text : List ℕ) × IsCertOf rule budget k.poll cert × CertText text cert
    × EndsWhole old new s (status_for cert.claim) text

-- `tally` of a told and accepted file under a rule writes the text of the tally of its contest
abbrev pub WritesTally : Outside → Outside → List (List ℕ) → Status → Type 0
WritesTally old new words s =
    (rule : Rule) (file : List ℕ) (k : NamedPoll) → meaning words ≡ Ok (Tally rule file) → IsToldContest old file k →
    IsUntroubled old new s →
    (text : List ℕ) × IsTally rule k text × IsDone old new s text

-- `show` of a told and accepted file writes it in the plain form
abbrev pub WritesPlain : Outside → Outside → List (List ℕ) → Status → Type 0
WritesPlain old new words s =
    (file : List ℕ) (k : NamedPoll) → meaning words ≡ Ok (Show file) → IsToldContest old file k →
    IsUntroubled old new s →
    IsDone old new s (plain_form k)

-- `drill` writes the summary of its seed, and the status says whether some claim in it is bounds
abbrev pub WritesDrill : Outside → Outside → List (List ℕ) → Status → Type 0
WritesDrill old new words s =
    (seed : ℕ) → meaning words ≡ Ok (Drill seed) → IsUntroubled old new s →
    (text : List ℕ) × (stopped : Bool) × IsDrill seed text stopped
    × EndsWhole old new s (drill_status stopped) text

-- the job has a certificate file, and it is known to be absent
abbrev pub LacksCert : Outside → List (List ℕ) → Type 0
LacksCert old words = (file : List ℕ) × (name : List ℕ) × (meaning words ≡ Ok (Check file name))
    × Lacks old.files.told name

-- a job whose ballot file is told and not accepted ends with what is wrong with the file
pub record RefusesBallots (old new : Outside) (words : List (List ℕ)) (s : Status) : Type 0 where
  pub faulty : (file bytes : List ℕ) (fault : BallotFault) → BallotFile (meaning words) file →
      Tells old.files.told file bytes → (Rose old.files.faults new.files.faults → ⊥) →
      IsFaulty bytes fault → EndsWith old new s Ballots (line_of (run_fault.Ballots fault))
  pub long : (file bytes : List ℕ) → BallotFile (meaning words) file → Tells old.files.told file bytes →
      (Rose old.files.faults new.files.faults → ⊥) →
      LONGEST_FILE < length bytes → EndsWith old new s Ballots (line_of run_fault.Long)
  pub absent : (file : List ℕ) → BallotFile (meaning words) file → Lacks old.files.told file →
      (Rose old.files.faults new.files.faults → ⊥) →
      EndsWith old new s Read (line_of (run_fault.Read file))
  pub accepted : (file : List ℕ) (k : NamedPoll) → BallotFile (meaning words) file → IsToldContest old file k →
      (Rose old.files.faults new.files.faults → ⊥) →
      (s ≡ Ballots → ⊥) × (s ≡ Read → LacksCert old words)

pub record Promised (old new : Outside) (words : List (List ℕ)) (s : Status) : Type 0 where
  pub ran : Ran old new words s
  pub tally : WritesTally old new words s
  pub margin : WritesMargin old new words s
  pub check : WritesVerdict old new words s
  pub show : WritesPlain old new words s
  pub drill : WritesDrill old new words s
  pub refuses : RefusesBallots old new words s
  pub causes : Causes old new words s
