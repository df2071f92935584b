-- Which answers a job allows.
use Rattle.std.specs.Prelude.{Bool, ◌≡◌, ◌⊎◌, ◌↔◌, ℕ, List, Result, Ok, Err}
use Rattle.ballot_csv.specs.BallotFile.{NamedPoll}
use Rattle.ballot_csv.specs.PlainForm.{plain_form}
use Rattle.ballot_form.specs.declared.rule.Rule.{Rule}
use Rattle.cert_text.specs.CertText.{CertText}
use Rattle.margin_solve.specs.Certificates.{IsCertOf}
use Rattle.margin_check.specs.Meanings.{ClaimIsTrue}
use Rattle.margin_check.specs.Validity.{IsValidCert}
use Rattle.margin_check.specs.Verdicts.{IsRefusal}
use Rattle.mov_run.specs.Tally.{IsTally}
use Rattle.drill_text.specs.Drills.{IsDrill}
use Rattle.mov_run.specs.Status.{drill_status, status_after, status_for}
use Rattle.mov_run.specs.Verdicts.{verdict_text}
use Rattle.mov_words.specs.Words.{IsNoCommand, file_count, meaning}
use Rattle.cert_text.specs.declared.cert.Cert.{Cert}
use Rattle.margin_check.specs.declared.verdict.Verdict.{Verdict}
use Rattle.margin_check.specs.declared.verdict.Reason.{Reason}
use Rattle.mov_words.specs.declared.jobs.Job.{Job}
use Rattle.mov_words.specs.declared.fault.WordFault.{WordFault}
use Rattle.mov_run.specs.declared.runs.Output.{Output}
use Rattle.mov_run.specs.declared.run_faults.RunFault.{RunFault}
use Rattle.mov_run.specs.Inputs.{Began, IsCertFile, IsContestFile, BeganAtMost, Source, IsReadContest, HasNoContest, HasNoCert}
use Rattle.margin_check.specs.declared.verdict.Verdict.TheVariants.{No, Valid}
use Rattle.mov_words.specs.declared.jobs.Job.TheVariants.{Tally, Margin, Check, Show, Drill}
use Rattle.mov_run.specs.declared.runs.Status.TheVariants.{Done}
use Rattle.mov_run.specs.declared.run_faults.RunFault.TheVariants.{Memory, Words}

-- an answer: a text and the status that it ends with, or why there is none
abbrev pub Answer : Type 0
Answer = Result Output RunFault

-- the verdict on a certificate: that it is valid, and then its claim is true, or the first part of validity that fails,
-- with its line
pub record IsVerdict (k : NamedPoll) (cert : Cert) (verdict : Verdict) : Type 0 where
  pub valid : (verdict ≡ Valid) ↔ IsValidCert k.poll cert
  pub refused : (reason : Reason) (line : ℕ) → (verdict ≡ No reason line) ↔ IsRefusal k.poll cert reason line
  pub claim : verdict ≡ Valid → ClaimIsTrue k.poll cert

-- ---- over the files of a job

-- no contest comes of the ballot file, which is the one file that was begun; or what follows from a contest
abbrev pub OverContest : Source → List ℕ → (NamedPoll → Answer → Type 0) → Answer → Type 0
OverContest s name next a =
    ((why : RunFault) × (a ≡ Err why) × HasNoContest s name why × Began s 1)
    ⊎ ((k : NamedPoll) × next k a)

-- over a ballot file alone: no contest comes of it, or it was read to its end, no other file was begun, and the answer
-- follows
abbrev pub OverBallots : Source → List ℕ → (NamedPoll → Answer → Type 0) → Answer → Type 0
OverBallots s name next a = OverContest s name (λ k a. IsReadContest s name k × Began s 1 × next k a) a

-- no certificate comes of its file, or the answer follows from the certificate
abbrev pub OverCert : Source → List ℕ → (Cert → Answer → Type 0) → Answer → Type 0
OverCert s name next a =
    ((why : RunFault) × (a ≡ Err why) × HasNoCert s name why)
    ⊎ ((cert : Cert) × IsCertFile s name cert × next cert a)

-- over a ballot file and then a certificate file, each of which was begun once
abbrev pub OverBoth : Source → List ℕ → List ℕ → (NamedPoll → Cert → Answer → Type 0) → Answer → Type 0
OverBoth s name other next a =
    OverContest s name (λ k a. IsContestFile s name k × Began s 2 × OverCert s other (λ cert a. next k cert a) a) a

-- ---- the answer of each command

-- the answer of a tally: its text
abbrev pub IsTallied : Rule → NamedPoll → Answer → Type 0
IsTallied rule k a = (text : List ℕ) × IsTally rule k text × (a ≡ Ok (record { ends = Done; text = text }))

-- the answer of a margin: the text of its certificate
abbrev pub IsCertified : Rule → ℕ → NamedPoll → Answer → Type 0
IsCertified rule budget k a =
    (cert : Cert) × (text : List ℕ) × IsCertOf rule budget k.poll cert × CertText text cert
    × (a ≡ Ok (record { ends = status_for cert.claim; text = text }))

-- the answer of a check: the text of the verdict
abbrev pub IsChecked : NamedPoll → Cert → Answer → Type 0
IsChecked k cert a =
    (verdict : Verdict) × IsVerdict k cert verdict
    × (a ≡ Ok (record { ends = status_after verdict; text = verdict_text cert verdict }))

-- the answer of `show`: the plain form
abbrev pub IsShown : NamedPoll → Answer → Type 0
IsShown k a = a ≡ Ok (record { ends = Done; text = plain_form k })

-- the answer of a drill: its summary
abbrev pub IsDrilled : ℕ → Answer → Type 0
IsDrilled seed a =
    (text : List ℕ) × (stopped : Bool) × IsDrill seed text stopped
    × (a ≡ Ok (record { ends = drill_status stopped; text = text }))

-- ---- all answers

-- the answers of a job, want of memory aside
abbrev pub Answers : Source → Job → Answer → Type 0
Answers s (Tally rule file) a = OverBallots s file (IsTallied rule) a
Answers s (Margin rule file budget) a = OverBallots s file (IsCertified rule budget) a
Answers s (Check file other) a = OverBoth s file other IsChecked a
Answers s (Show file) a = OverBallots s file IsShown a
Answers s (Drill seed) a = IsDrilled seed a × Began s 0

-- there was no memory, and at most so many files were begun
abbrev pub IsOutOfMemory : Source → ℕ → Answer → Type 0
IsOutOfMemory s files a = (a ≡ Err Memory) × BeganAtMost s files

-- the answers of a job, or want of memory
abbrev pub AnswersOrMemory : Source → Job → Answer → Type 0
AnswersOrMemory s job a = Answers s job a ⊎ IsOutOfMemory s (file_count (Ok job)) a

-- the answers to words: where they are at fault, no file is begun
abbrev pub AnswersWords : Source → Result Job WordFault → Answer → Type 0
AnswersWords s (Ok job) a = Answers s job a
AnswersWords s (Err fault) a = (a ≡ Err (Words fault)) × Began s 0

-- the answers that a run may give: want of memory is free once the first word is a command
abbrev pub Allowed : Source → List (List ℕ) → Answer → Type 0
Allowed s words a =
    AnswersWords s (meaning words) a
    ⊎ (IsOutOfMemory s (file_count (meaning words)) a × (IsNoCommand (meaning words) → ⊥))
