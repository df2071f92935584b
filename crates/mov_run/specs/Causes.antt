-- Each status and its cause.
use Rattle.std.specs.Prelude.{true, ◌≡◌, ◌⊎◌, ℕ, List, Ok, Err, codes}
use Rattle.mov_edge.specs.Outside.{Rose, Took}
use Rattle.ballot_csv.specs.BallotFile.{NamedPoll}
use Rattle.ballot_csv.specs.declared.fault.BallotFault.{BallotFault}
use Rattle.ballot_form.specs.declared.rule.Rule.{Rule}
use Rattle.cert_text.specs.CertText.{CertText}
use Rattle.margin_check.specs.Meanings.{ClaimIsTrue}
use Rattle.margin_check.specs.Validity.{IsValidCert}
use Rattle.margin_check.specs.Verdicts.{IsRefusal}
use Rattle.ballot_csv.specs.declared.limits.TheConstants.{LONGEST_FILE}
use Rattle.cert_text.specs.declared.limits.TheConstants.{LONGEST_TEXT}
use Rattle.mov_words.specs.Words.{IsNoCommand, file_count, meaning, BallotFile}
use Rattle.cert_text.specs.declared.cert.Cert.{Cert}
use Rattle.cert_text.specs.declared.cert.Claim.TheVariants as claim
use Rattle.cert_text.specs.declared.cert.Stop.{Stop}
use Rattle.cert_text.specs.declared.fault.CertFault.{CertFault}
use Rattle.margin_check.specs.declared.verdict.Reason.{Reason}
use Rattle.drill_text.specs.Drills.{IsDrill}
use Rattle.margin_solve.specs.Certificates.{IsCertOf}
use Rattle.mov_words.specs.declared.fault.WordFault.{WordFault}
use Rattle.mov_run.specs.declared.runs.Output.{Output}
use Rattle.mov_run.specs.Inputs.{Began, IsCertFile, IsContestFile, IsFaultyCert, IsLong, IsReadContest, IsUnread, BeganAtMost, IsFaultyFile}
use Rattle.mov_run.specs.Run.{EndsWith, Outside, SaysLine, source_of}
use Rattle.mov_run.specs.RunFaults.{line_of}
use Rattle.mov_run.specs.Verdicts.{refused_text, valid_text}
use Rattle.mov_run.specs.declared.runs.Status.{Status}
use Rattle.mov_edge.specs.Loads.{TookFirst}
use Rattle.mov_run.specs.Jobs.{Allowed}
use Rattle.mov_run.specs.Status.{IsEarlyEnd, IsWritten}
use Rattle.mov_words.specs.declared.jobs.Job.TheVariants.{Check, Margin, Drill}
use Rattle.mov_run.specs.declared.runs.Status.TheVariants.{Done, Bounds, Refused, Words, Ballots, Certificate, Read, Write, Memory}
use Rattle.mov_run.specs.declared.run_faults.RunFault.TheVariants as run_fault

-- a check went on from an accepted ballot file to the certificate file, and began each once
pub record WentOn (old new : Outside) (words : List (List ℕ)) (name : List ℕ) (k : NamedPoll) : Type 0 where
  pub file : List ℕ
  pub job : meaning words ≡ Ok (Check file name)
  pub contest : IsContestFile (source_of old new) file k
  pub begun : Began (source_of old new) 2

-- why a run ends with the fault of a certificate: a check took more than the limit of its file, or its bytes have this
-- first fault
abbrev pub CertCause : Outside → Outside → List (List ℕ) → Type 0
CertCause old new words = (name : List ℕ) × (k : NamedPoll) × WentOn old new words name k
    × ((IsLong (source_of old new) name LONGEST_TEXT × SaysLine old new (line_of run_fault.LongCertificate))
    ⊎ ((fault : CertFault) × IsFaultyCert (source_of old new) name fault
    × SaysLine old new (line_of (run_fault.Certificate fault))))

-- why a run ends with a file that can't be read: that file is named, and the reading stopped at no other. It is the
-- ballot file, and no other was begun, or the certificate file of a check whose ballot file is accepted
abbrev pub ReadCause : Outside → Outside → List (List ℕ) → Type 0
ReadCause old new words = (name : List ℕ) × IsUnread (source_of old new) name
    × SaysLine old new (line_of (run_fault.Read name))
    × ((BallotFile (meaning words) name × Began (source_of old new) 1)
    ⊎ ((k : NamedPoll) × WentOn old new words name k))

-- why a check ends well: it wrote whole that the certificate is valid, and it is, and its claim is true
abbrev pub ValidCause : Outside → Outside → List (List ℕ) → List ℕ → Type 0
ValidCause old new words name = (k : NamedPoll) × (cert : Cert)
    × WentOn old new words name k × IsCertFile (source_of old new) name cert
    × IsValidCert k.poll cert × ClaimIsTrue k.poll cert
    × Took old.out.taken new.out.taken (valid_text cert)

-- why a run ends with a refusal: a check wrote it whole, and the certificate isn't valid for this reason
abbrev pub RefusalCause : Outside → Outside → List (List ℕ) → Type 0
RefusalCause old new words = (name : List ℕ) × (k : NamedPoll) × (cert : Cert) × (reason : Reason) × (line : ℕ)
    × WentOn old new words name k × IsCertFile (source_of old new) name cert × IsRefusal k.poll cert reason line
    × Took old.out.taken new.out.taken (refused_text reason line)

-- why a run ends with bounds: a margin read an accepted ballot file and wrote a certificate of its contest whole, and
-- that claims these bounds
pub record BoundsCause (old new : Outside) (words : List (List ℕ)) : Type 0 where
  pub rule : Rule
  pub file : List ℕ
  pub budget : ℕ
  pub k : NamedPoll
  pub cert : Cert
  pub low : ℕ
  pub up : ℕ
  pub stop : Stop
  pub text : List ℕ
  pub job : meaning words ≡ Ok (Margin rule file budget)
  pub contest : IsReadContest (source_of old new) file k
  pub begun : Began (source_of old new) 1
  pub found : IsCertOf rule budget k.poll cert
  pub claimed : cert.claim ≡ claim.Bounds low up stop
  pub spelled : CertText text cert
  pub whole : Took old.out.taken new.out.taken text

-- or a drill wrote its summary whole, and some claim in it is bounds
pub record DrillCause (old new : Outside) (words : List (List ℕ)) : Type 0 where
  pub seed : ℕ
  pub text : List ℕ
  pub job : meaning words ≡ Ok (Drill seed)
  pub begun : Began (source_of old new) 0
  pub drill : IsDrill seed text true
  pub whole : Took old.out.taken new.out.taken text

-- each status and its cause
pub record Causes (old new : Outside) (words : List (List ℕ)) (s : Status) : Type 0 where
  pub words_only : s ≡ Words → (fault : WordFault) × (meaning words ≡ Err fault)
      × SaysLine old new (line_of (run_fault.Words fault))
  pub words_come : (fault : WordFault) → meaning words ≡ Err fault →
      EndsWith old new s Words (line_of (run_fault.Words fault))
  pub no_command : IsNoCommand (meaning words) → s ≡ Words
  -- the ballot file is then the one file that was begun
  pub ballots : s ≡ Ballots → (file : List ℕ) × BallotFile (meaning words) file × Began (source_of old new) 1
      × ((IsLong (source_of old new) file LONGEST_FILE × SaysLine old new (line_of run_fault.Long))
      ⊎ ((fault : BallotFault) × IsFaultyFile (source_of old new) file fault
      × SaysLine old new (line_of (run_fault.Ballots fault))))
  pub certificate : s ≡ Certificate → CertCause old new words
  pub read : s ≡ Read → ReadCause old new words
  pub write : s ≡ Write → Rose old.out.faults new.out.faults
      × ((output : Output) × Allowed (source_of old new) words (Ok output)
      × TookFirst old.out.taken new.out.taken output.text)
      × SaysLine old new (codes "mov: write failed\n")
  pub memory : s ≡ Memory → SaysLine old new (line_of run_fault.Memory)
  -- no more files were begun than the words name
  pub begun : BeganAtMost (source_of old new) (file_count (meaning words))
  pub silent : IsEarlyEnd s → new.out ≡ old.out
  pub quiet : IsWritten s → (new.err ≡ old.err) × (new.files.faults ≡ old.files.faults)
      × (new.out.faults ≡ old.out.faults)
  pub done : s ≡ Done → (text : List ℕ)
      × Allowed (source_of old new) words (Ok (record { ends = Done; text = text }))
      × Took old.out.taken new.out.taken text
  pub valid : s ≡ Done → (file name : List ℕ) → meaning words ≡ Ok (Check file name) → ValidCause old new words name
  pub refused : s ≡ Refused → RefusalCause old new words
  pub bounds : s ≡ Bounds → BoundsCause old new words ⊎ DrillCause old new words
