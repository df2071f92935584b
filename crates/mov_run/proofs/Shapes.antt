-- How an answer looks.
use Rattle.std.specs.Prelude.{Bool}
use Rattle.drill_text.specs.Drills.{IsDrill}
use Rattle.mov_words.specs.declared.jobs.Job.TheVariants.{Drill}
use Rattle.mov_run.specs.Status.{drill_status}
use Rattle.std.proofs.Common.{ℕ, List, ◌≡◌, ◌≤◌, ◌⊎◌, ◌∙◌, refl, sym, inl, inr, arith}
use Rattle.std.specs.Prelude.{Result, Ok, Err}
use Rattle.ballot_csv.specs.BallotFile.{NamedPoll}
use Rattle.ballot_csv.specs.PlainForm.{plain_form}
use Rattle.ballot_form.specs.declared.rule.Rule.{Rule}
use Rattle.cert_text.specs.CertText.{CertText}
use Rattle.cert_text.specs.declared.cert.Cert.{Cert}
use Rattle.cert_text.specs.declared.cert.Claim.{Claim}
use Rattle.cert_text.specs.declared.cert.Claim.TheVariants as claim
use Rattle.cert_text.specs.declared.cert.Stop.{Stop}
use Rattle.margin_check.specs.Verdicts.{IsRefusal}
use Rattle.margin_check.specs.declared.verdict.Reason.{Reason}
use Rattle.margin_check.specs.declared.verdict.Verdict.{Verdict}
use Rattle.margin_check.specs.declared.verdict.Verdict.TheVariants.{Valid, No}
use Rattle.margin_solve.specs.Certificates.{IsCertOf}
use Rattle.mov_run.specs.Jobs.{Answer, Answers, AnswersWords, IsCertified, IsChecked, IsOutOfMemory, IsShown, IsTallied, IsVerdict, OverBallots, OverCert, OverContest}
use Rattle.mov_run.specs.Inputs.{Began, BeganAtMost, HasNoCert, HasNoContest, IsCertFile, IsContestFile, IsReadContest, Source}
use Rattle.mov_run.specs.Verdicts.{refused_text, valid_text, verdict_text}
use Rattle.mov_run.specs.Status.{status_after, status_for}
use Rattle.mov_words.specs.Words.{BallotFile, IsNoCommand, file_count}
use Rattle.mov_words.specs.declared.jobs.Job.{Job}
use Rattle.mov_words.specs.declared.jobs.Job.TheVariants.{Tally, Margin, Check, Show}
use Rattle.mov_words.specs.declared.fault.WordFault.{WordFault}
use Rattle.mov_run.specs.declared.runs.Status.TheVariants.{Done, Bounds, Refused}
use Rattle.mov_run.specs.declared.run_faults.RunFault.{RunFault}
use Rattle.mov_run.specs.declared.run_faults.RunFault.TheVariants as run_fault
use Rattle.mov_run.proofs.Told.{contest_of}

-- ---- the answer of a job

-- no contest comes of the ballot file
pub record AtBallots (src : Source) (m : Result Job WordFault) (a : Answer) : Type 0 where
  pub file : List ℕ
  pub named : BallotFile m file
  pub t : RunFault
  pub is : a ≡ Err t
  pub why : HasNoContest src file t
  pub begun : Began src 1

-- no certificate comes of its file
pub record AtCert (src : Source) (m : Result Job WordFault) (a : Answer) : Type 0 where
  pub file : List ℕ
  pub name : List ℕ
  pub k : NamedPoll
  pub job : m ≡ Ok (Check file name)
  pub contest : IsContestFile src file k
  pub begun : Began src 2
  pub t : RunFault
  pub is : a ≡ Err t
  pub why : HasNoCert src name t

-- a text is made, and all is well
pub record AtText (src : Source) (m : Result Job WordFault) (a : Answer) : Type 0 where
  pub file : List ℕ
  pub named : BallotFile m file
  pub k : NamedPoll
  pub contest : IsContestFile src file k
  pub begun : BeganAtMost src (file_count m)
  pub text : List ℕ
  pub is : a ≡ Ok (record { ends = Done; text = text })

-- a certificate is refused
pub record AtRefusal (src : Source) (m : Result Job WordFault) (a : Answer) : Type 0 where
  pub file : List ℕ
  pub name : List ℕ
  pub k : NamedPoll
  pub cert : Cert
  pub reason : Reason
  pub line : ℕ
  pub job : m ≡ Ok (Check file name)
  pub contest : IsContestFile src file k
  pub begun : Began src 2
  pub read : IsCertFile src name cert
  pub refusal : IsRefusal k.poll cert reason line
  pub is : a ≡ Ok (record { ends = Refused; text = refused_text reason line })

-- a certificate is made that claims bounds
pub record AtBounds (src : Source) (m : Result Job WordFault) (a : Answer) : Type 0 where
  pub rule : Rule
  pub file : List ℕ
  pub budget : ℕ
  pub k : NamedPoll
  pub cert : Cert
  pub low : ℕ
  pub up : ℕ
  pub stop : Stop
  pub text : List ℕ
  pub job : m ≡ Ok (Margin rule file budget)
  pub contest : IsReadContest src file k
  pub begun : Began src 1
  pub found : IsCertOf rule budget k.poll cert
  pub claimed : cert.claim ≡ claim.Bounds low up stop
  pub spelled : CertText text cert
  pub is : a ≡ Ok (record { ends = Bounds; text = text })

-- the summary of a drill is made
pub record AtDrill (src : Source) (m : Result Job WordFault) (a : Answer) : Type 0 where
  pub seed : ℕ
  pub text : List ℕ
  pub stopped : Bool
  pub job : m ≡ Ok (Drill seed)
  pub begun : Began src 0
  pub drill : IsDrill seed text stopped
  pub is : a ≡ Ok (record { ends = drill_status stopped; text = text })

abbrev pub JobShape : Source → Result Job WordFault → Answer → Type 0
JobShape src m a = AtBallots src m a ⊎ AtCert src m a ⊎ AtText src m a ⊎ AtRefusal src m a ⊎ AtBounds src m a ⊎ AtDrill src m a

contest_shape : (src : Source) (m : Result Job WordFault) (file : List ℕ) (next : NamedPoll → Answer → Type 0) (a : Answer) → BallotFile m file
    → ((k : NamedPoll) → next k a → JobShape src m a) → OverContest src file next a → JobShape src m a
contest_shape src m file next a named then (inl stopped) = inl (record { file = file; named = named; t = stopped.0; is = stopped.1; why = stopped.2; begun = stopped.3 })
contest_shape src m file next a named then (inr good) = then good.0 good.1

text_shape : (src : Source) (m : Result Job WordFault) (file : List ℕ) (k : NamedPoll) (a : Answer) (text : List ℕ) → BallotFile m file → IsContestFile src file k → BeganAtMost src (file_count m)
    → a ≡ Ok (record { ends = Done; text = text }) → JobShape src m a
text_shape src m file k a text named contest begun is = inr (inr (inl (record { file = file; named = named; k = k; contest = contest; begun = begun; text = text; is = is })))

-- a job with one file makes a text
ballots_shape : (src : Source) (m : Result Job WordFault) (file : List ℕ) (next : NamedPoll → Answer → Type 0) (a : Answer) → BallotFile m file → 1 ≤ file_count m
    → ((k : NamedPoll) → next k a → (text : List ℕ) × (a ≡ Ok (record { ends = Done; text = text }))) → OverBallots src file next a → JobShape src m a
ballots_shape src m file next a named some made over =
    contest_shape src m file (λ k a. IsReadContest src file k × Began src 1 × next k a) a named (λ k by. text_shape src m file k a (made k by.2).0 named (contest_of src file k by.0) (record { count = 1; within = some; begun = by.1 }) (made k by.2).1) over

verdict_shape : (src : Source) (file name : List ℕ) (k : NamedPoll) (cert : Cert) (a : Answer) (v : Verdict) → IsContestFile src file k → Began src 2 → IsCertFile src name cert → IsVerdict k cert v
    → a ≡ Ok (record { ends = status_after v; text = verdict_text cert v }) → JobShape src (Ok (Check file name)) a
verdict_shape src file name k cert a Valid contest begun read by is =
    text_shape src (Ok (Check file name)) file k a (valid_text cert) refl contest (record { count = 2; within = omega arith; begun = begun }) is
verdict_shape src file name k cert a (No reason line) contest begun read by is = inr (inr (inr (inl (record {
  file = file;
  name = name;
  k = k;
  cert = cert;
  reason = reason;
  line = line;
  job = refl;
  contest = contest;
  begun = begun;
  read = read;
  refusal = (by.refused reason line).0 refl;
  is = is;
}))))

cert_shape : (src : Source) (file name : List ℕ) (k : NamedPoll) (a : Answer) → IsContestFile src file k → Began src 2 → OverCert src name (λ cert a. IsChecked k cert a) a
    → JobShape src (Ok (Check file name)) a
cert_shape src file name k a contest begun (inl stopped) = inr (inl (record {
  file = file;
  name = name;
  k = k;
  job = refl;
  contest = contest;
  begun = begun;
  t = stopped.0;
  is = stopped.1;
  why = stopped.2;
}))
cert_shape src file name k a contest begun (inr good) = verdict_shape src file name k good.0 a good.2.0 contest begun good.1 good.2.1 good.2.2

claim_shape : (src : Source) (rule : Rule) (file : List ℕ) (budget : ℕ) (k : NamedPoll) (a : Answer) (cert : Cert) (text : List ℕ) (c : Claim) → IsReadContest src file k → Began src 1
    → IsCertOf rule budget k.poll cert → CertText text cert → cert.claim ≡ c → a ≡ Ok (record { ends = status_for c; text = text }) → JobShape src (Ok (Margin rule file budget)) a
claim_shape src rule file budget k a cert text (claim.Margin n) contest begun found spelled claimed is =
    text_shape src (Ok (Margin rule file budget)) file k a text refl (contest_of src file k contest) (record { count = 1; within = omega arith; begun = begun }) is
claim_shape src rule file budget k a cert text claim.Fixed contest begun found spelled claimed is =
    text_shape src (Ok (Margin rule file budget)) file k a text refl (contest_of src file k contest) (record { count = 1; within = omega arith; begun = begun }) is
claim_shape src rule file budget k a cert text (claim.Bounds low up stop) contest begun found spelled claimed is = inr (inr (inr (inr (inl (record {
  rule = rule;
  file = file;
  budget = budget;
  k = k;
  cert = cert;
  low = low;
  up = up;
  stop = stop;
  text = text;
  job = refl;
  contest = contest;
  begun = begun;
  found = found;
  claimed = claimed;
  spelled = spelled;
  is = is;
})))))

margin_shape : (src : Source) (rule : Rule) (file : List ℕ) (budget : ℕ) (k : NamedPoll) (a : Answer) → IsReadContest src file k → Began src 1 → IsCertified rule budget k a
    → JobShape src (Ok (Margin rule file budget)) a
margin_shape src rule file budget k a contest begun made = claim_shape src rule file budget k a made.0 made.1 made.0.claim contest begun made.2 made.3 refl made.4

job_shape : (src : Source) (job : Job) (a : Answer) → Answers src job a → JobShape src (Ok job) a
job_shape src (Tally rule file) a by = ballots_shape src (Ok (Tally rule file)) file (IsTallied rule) a refl (omega arith) (λ k made. (made.0, made.2)) by
job_shape src (Margin rule file budget) a by =
    contest_shape src (Ok (Margin rule file budget)) file (λ k a. IsReadContest src file k × Began src 1 × IsCertified rule budget k a) a refl
    (λ k made. margin_shape src rule file budget k a made.0 made.1 made.2) by
job_shape src (Check file name) a by =
    contest_shape src (Ok (Check file name)) file (λ k a. IsContestFile src file k × Began src 2 × OverCert src name (λ cert a. IsChecked k cert a) a) a refl
    (λ k over. cert_shape src file name k a over.0 over.1 over.2) by
job_shape src (Show file) a by = ballots_shape src (Ok (Show file)) file IsShown a refl (omega arith) (λ k made. (plain_form k, made)) by
job_shape src (Drill seed) a by = inr (inr (inr (inr (inr (record {
  seed = seed;
  text = by.0.0;
  stopped = by.0.1;
  job = refl;
  begun = by.1;
  drill = by.0.2;
  is = by.0.3;
})))))

-- ---- the answer to words

abbrev pub Shape : Source → Result Job WordFault → Answer → Type 0
Shape src m a =
    ((f : WordFault) × (m ≡ Err f) × (a ≡ Err (run_fault.Words f)) × Began src 0)
    ⊎ (IsOutOfMemory src (file_count m) a × (IsNoCommand m → ⊥))
    ⊎ ((job : Job) × (m ≡ Ok job) × JobShape src m a)

pub shape : (src : Source) (m : Result Job WordFault) (a : Answer) → AnswersWords src m a ⊎ (IsOutOfMemory src (file_count m) a × (IsNoCommand m → ⊥)) → Shape src m a
shape src (Ok job) a (inl by) = inr (inr (job, refl, job_shape src job a by))
shape src (Err f) a (inl by) = inl (f, refl, by.0, by.1)
shape src m a (inr none) = inr (inl none)

-- ---- the words of a job

some_file : (m : Result Job WordFault) (file : List ℕ) → BallotFile m file → 1 ≤ file_count m
some_file (Ok (Tally rule name)) file named = omega arith
some_file (Ok (Margin rule name budget)) file named = omega arith
some_file (Ok (Check name cert)) file named = omega arith
some_file (Ok (Show name)) file named = omega arith
some_file (Ok (Drill seed)) file named = absurd named
some_file (Err f) file named = absurd named

both_files : (m : Result Job WordFault) (file name : List ℕ) → m ≡ Ok (Check file name) → 2 ≤ file_count m
both_files m file name is = rw is (omega arith)

pub file_of_margin : (m : Result Job WordFault) (rule : Rule) (file : List ℕ) (budget : ℕ) → m ≡ Ok (Margin rule file budget) → BallotFile m file
file_of_margin m rule file budget is = rw is refl

-- a job begins no more files than it has
pub begun_at : (src : Source) (m : Result Job WordFault) (a : Answer) → JobShape src m a → BeganAtMost src (file_count m)
begun_at src m a (inl at) = record { count = 1; within = some_file m at.file at.named; begun = at.begun }
begun_at src m a (inr (inl at)) = record { count = 2; within = both_files m at.file at.name at.job; begun = at.begun }
begun_at src m a (inr (inr (inl at))) = at.begun
begun_at src m a (inr (inr (inr (inl at)))) = record { count = 2; within = both_files m at.file at.name at.job; begun = at.begun }
begun_at src m a (inr (inr (inr (inr (inl at))))) = record { count = 1; within = some_file m at.file (file_of_margin m at.rule at.file at.budget at.job); begun = at.begun }
begun_at src m a (inr (inr (inr (inr (inr at))))) = record { count = 0; within = omega arith; begun = at.begun }

-- a drill begins none
pub no_file_of_drill : (m : Result Job WordFault) (seed : ℕ) (file : List ℕ) → m ≡ Ok (Drill seed) → BallotFile m file → ⊥
no_file_of_drill m seed file is named = rw is at named

pub one_ballot_file : (m : Result Job WordFault) (file other : List ℕ) → BallotFile m file → BallotFile m other → file ≡ other
one_ballot_file (Ok (Tally rule name)) file other a b = a ∙ sym b
one_ballot_file (Ok (Margin rule name budget)) file other a b = a ∙ sym b
one_ballot_file (Ok (Check name cert)) file other a b = a ∙ sym b
one_ballot_file (Ok (Show name)) file other a b = a ∙ sym b
one_ballot_file (Ok (Drill seed)) file other a b = absurd a
one_ballot_file (Err f) file other a b = absurd a

pub file_of_check : (m : Result Job WordFault) (file name : List ℕ) → m ≡ Ok (Check file name) → BallotFile m file
file_of_check m file name is = rw is refl

pub no_ballot_file : (m : Result Job WordFault) (f : WordFault) (file : List ℕ) → m ≡ Err f → BallotFile m file → ⊥
no_ballot_file m f file is named = rw is at named

pub not_err : (m : Result Job WordFault) (job : Job) (f : WordFault) → m ≡ Ok job → m ≡ Err f → ⊥
not_err m job f is e = cc

pub not_none : (m : Result Job WordFault) (job : Job) → m ≡ Ok job → IsNoCommand m → ⊥
not_none m job is (inl e) = cc
not_none m job is (inr e) = cc

pub one_fault : (m : Result Job WordFault) (f g : WordFault) → m ≡ Err f → m ≡ Err g → f ≡ g
one_fault m f g a b = cc
